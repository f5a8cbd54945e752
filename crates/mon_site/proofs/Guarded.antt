-- Writes of a disk in memory that are each synced, if its calls fail from some number on: what it settles to.
use Rattle.std.proofs.Common.{inl, inr, ◌≡◌, ℕ, zero, suc, pred, ◌+◌, ◌<◌, true, false, nat_le, List, [], ◌∷◌, ◌++◌, length, take, drop, reverse, Option, Some, None, refl, sym, ap, ◌∙◌, subst, arith}
use Rattle.std.proofs.lemmas.Bool.Decides.{nat_tests}
use Rattle.std.proofs.lemmas.List.{append-nil, append_assoc}
use Rattle.std.proofs.Math.Seq.{take-append_seam, drop-append_seam}
use Rattle.std.proofs.lemmas.List.{reverse-append}
use Rattle.mon_types.specs.declared.names.Stop.{Stop}
use Rattle.mon_types.specs.declared.names.Stop.TheVariants.{Failed, OutOfMemory}
use Rattle.mon_disk.specs.declared.disk.DiskCall.{DiskCall}
use Rattle.mon_disk.specs.declared.disk.DiskCall.TheVariants.{Write, Sync}
use Rattle.mon_disk.specs.Images.{overwritten}
use Rattle.mon_disk.specs.Calls.{Observed, Makes}
use Rattle.mon_disk.specs.Memory.{InjectedFault, Lived, first_write, begun, seen_after, part, placed, imaged, settled}
use Rattle.mon_disk.specs.MemoryDisk.{observed_of}
use Rattle.mon_disk.proofs.Lives.{length_more}
use Rattle.mon_disk.proofs.InjectedFaults.{injected_after}

-- writes, each with a sync after it
abbrev pub guarded : List (ℕ × List ℕ) → List DiskCall
guarded [] = []
guarded ((at, bytes) ∷ writes) = Write at bytes ∷ Sync ∷ guarded writes

-- What a file is after this many of these calls, if the next one fails: the earlier writes are there, and an image of the one
-- that fails or isn't synced.
abbrev pub cut_short : (image done : ℕ) → List (ℕ × List ℕ) → List ℕ → List ℕ
cut_short image done [] file = file
cut_short image zero ((at, bytes) ∷ writes) file = placed at (part image bytes) file
cut_short image (suc zero) ((at, bytes) ∷ writes) file = placed at (part image bytes) file
cut_short image (suc (suc done)) ((at, bytes) ∷ writes) file = cut_short image done writes (overwritten at bytes file)

same_observed : (s t : Observed) → Some t ≡ Some s → t ≡ s
same_observed s t e = cc

newest : (calls : List DiskCall) (call : DiskCall) → reverse (calls ++ call ∷ []) ≡ call ∷ reverse calls
newest calls call = reverse-append calls (call ∷ [])

module _ (first : List ℕ) (u : InjectedFault) where
  abbrev life : List DiskCall → Lived
  life calls = injected_after first u calls

  abbrev seen_by : List DiskCall → List ℕ
  seen_by calls = seen_after first (reverse calls)

  -- these calls leave nothing unsynced
  abbrev pub IsClean : List DiskCall → Type 0
  IsClean calls = imaged u.image first (reverse calls) ≡ seen_by calls

  -- the first call that fails follows these
  cut : (calls : List DiskCall) (call : DiskCall) → u.from ≡ suc (length calls) → begun (life (calls ++ call ∷ [])) ≡ first_write (call ∷ []) ++ reverse calls
  cut calls call e =
      let behind : drop (pred u.from) (calls ++ call ∷ []) ≡ call ∷ [] = ap (λ n. drop (pred n) (calls ++ call ∷ [])) e ∙ drop-append_seam calls (call ∷ []) in
      let before : take (pred u.from) (calls ++ call ∷ []) ≡ calls = ap (λ n. take (pred n) (calls ++ call ∷ [])) e ∙ take-append_seam calls (call ∷ []) in
      ap (λ (cs : List DiskCall). first_write cs ++ reverse (take (pred u.from) (calls ++ call ∷ []))) behind
      ∙ ap (λ (cs : List DiskCall). first_write (call ∷ []) ++ reverse cs) before

  at_write : (calls : List DiskCall) (at : ℕ) (bytes : List ℕ) → u.from ≡ suc (length calls) → IsClean calls
      → settled (life (calls ++ Write at bytes ∷ [])) ≡ placed at (part u.image bytes) (seen_by calls)
  at_write calls at bytes e clean =
      ap (λ (cs : List DiskCall). imaged u.image first cs) (cut calls (Write at bytes) e) ∙ ap (λ (file : List ℕ). placed at (part u.image bytes) file) clean

  at_sync : (calls : List DiskCall) (at : ℕ) (bytes : List ℕ) → u.from ≡ suc (length (calls ++ Write at bytes ∷ [])) → IsClean calls
      → settled (life ((calls ++ Write at bytes ∷ []) ++ Sync ∷ [])) ≡ placed at (part u.image bytes) (seen_by calls)
  at_sync calls at bytes e clean =
      ap (λ (cs : List DiskCall). imaged u.image first cs) (cut (calls ++ Write at bytes ∷ []) Sync e ∙ newest calls (Write at bytes))
      ∙ ap (λ (file : List ℕ). placed at (part u.image bytes) file) clean

  -- one of the calls fails: this many were done before it
  pub record Fails (calls : List DiskCall) (writes : List (ℕ × List ℕ)) (t : Observed) : Type 0 where
    pub done : ℕ
    pub within : done < length (guarded writes)
    pub number : u.from ≡ suc (length calls + done)
    pub made : length t.made ≡ u.from
    pub settles : t.settles t.made ≡ cut_short u.image done writes (seen_by calls)

  -- none of them fails
  pub record Goes (calls : List DiskCall) (writes : List (ℕ × List ℕ)) (t : Observed) : Type 0 where
    pub before : length calls + length (guarded writes) < u.from
    pub clean : IsClean (calls ++ guarded writes)
    pub observed : t ≡ observed_of (life (calls ++ guarded writes))

  abbrev pub Walked : List DiskCall → List (ℕ × List ℕ) → Observed → Option Stop → Type 0
  Walked calls writes t None = Goes calls writes t
  Walked calls writes t (Some Failed) = Fails calls writes t
  Walked calls writes t (Some OutOfMemory) = Unit {0}

  reached : (n : ℕ) → nat_le u.from (suc n) ≡ true → n < u.from → u.from ≡ suc n
  reached n test before = grind (arith, nat_tests)

  beyond : (n : ℕ) → nat_le u.from (suc n) ≡ false → suc n < u.from
  beyond n test = grind (arith, nat_tests)

  -- the file after a write that is synced
  pair_seen : (calls : List DiskCall) (at : ℕ) (bytes : List ℕ) → seen_by ((calls ++ Write at bytes ∷ []) ++ Sync ∷ []) ≡ overwritten at bytes (seen_by calls)
  pair_seen calls at bytes =
      ap (λ (cs : List DiskCall). seen_after first cs) (newest (calls ++ Write at bytes ∷ []) Sync ∙ ap (λ (cs : List DiskCall). Sync ∷ cs) (newest calls (Write at bytes)))

  pair_clean : (calls : List DiskCall) (at : ℕ) (bytes : List ℕ) → IsClean ((calls ++ Write at bytes ∷ []) ++ Sync ∷ [])
  pair_clean calls at bytes =
      let is : reverse ((calls ++ Write at bytes ∷ []) ++ Sync ∷ []) ≡ Sync ∷ Write at bytes ∷ reverse calls = newest (calls ++ Write at bytes ∷ []) Sync ∙ ap (λ (cs : List DiskCall). Sync ∷ cs) (newest calls (Write at bytes)) in
      subst (λ (cs : List DiskCall). imaged u.image first cs ≡ seen_after first cs) (sym is) refl

  pair_length : (calls : List DiskCall) (at : ℕ) (bytes : List ℕ) → length ((calls ++ Write at bytes ∷ []) ++ Sync ∷ []) ≡ suc (suc (length calls))
  pair_length calls at bytes = length_more (calls ++ Write at bytes ∷ []) Sync ∙ ap suc (length_more calls (Write at bytes))

  onwards : (calls : List DiskCall) (at : ℕ) (bytes : List ℕ) (writes : List (ℕ × List ℕ)) (t : Observed) (stop : Option Stop)
      → Walked ((calls ++ Write at bytes ∷ []) ++ Sync ∷ []) writes t stop → Walked calls ((at, bytes) ∷ writes) t stop
  onwards calls at bytes writes t None w =
      let longer = pair_length calls at bytes in
      let same : ((calls ++ Write at bytes ∷ []) ++ Sync ∷ []) ++ guarded writes ≡ calls ++ (Write at bytes ∷ Sync ∷ guarded writes) =
      append_assoc (calls ++ Write at bytes ∷ []) (Sync ∷ []) (guarded writes) ∙ append_assoc calls (Write at bytes ∷ []) (Sync ∷ guarded writes) in
      record {
        before = omega (arith, longer, w.before);
        clean = subst IsClean same w.clean;
        observed = w.observed ∙ ap (λ (cs : List DiskCall). observed_of (life cs)) same;
      }
  onwards calls at bytes writes t (Some Failed) w =
      let longer = pair_length calls at bytes in
      record {
        done = suc (suc w.done);
        within = omega (arith, w.within);
        number = omega (arith, longer, w.number);
        made = w.made;
        settles = w.settles ∙ ap (λ (file : List ℕ). cut_short u.image w.done writes file) (pair_seen calls at bytes);
      }
  onwards calls at bytes writes t (Some OutOfMemory) w = tt

  pub walk : (writes : List (ℕ × List ℕ)) (calls : List DiskCall) (t : Observed) (stop : Option Stop) → length calls < u.from → IsClean calls
      → Makes (guarded writes) stop (Some (observed_of (life calls))) (Some t) → Walked calls writes t stop
  walk [] calls t None before clean m =
      let nothing : calls ++ [] ≡ calls = append-nil calls in
      record {
        before = omega (arith, before);
        clean = subst IsClean (sym nothing) clean;
        observed = same_observed (observed_of (life calls)) t m.0 ∙ ap (λ (cs : List DiskCall). observed_of (life cs)) (sym nothing);
      }
  walk [] calls t (Some Failed) before clean m = absurd (m.1 refl)
  walk [] calls t (Some OutOfMemory) before clean m = tt
  walk ((at, bytes) ∷ writes) calls t stop before clean (inl m) = subst (Walked calls ((at, bytes) ∷ writes) t) (sym m.0) tt
  walk ((at, bytes) ∷ writes) calls t stop before clean (inr (inl m)) =
      let number : u.from ≡ suc (length calls) = reached (length calls) m.2 before in
      let is : t ≡ observed_of (life (calls ++ Write at bytes ∷ [])) = same_observed (observed_of (life (calls ++ Write at bytes ∷ []))) t m.1 in
      subst (Walked calls ((at, bytes) ∷ writes) t) (sym m.0) (record {
        done = 0;
        within = omega arith;
        number = omega (arith, number);
        made = ap (λ (s : Observed). length s.made) is ∙ length_more calls (Write at bytes) ∙ sym number;
        settles = ap (λ (s : Observed). s.settles s.made) is ∙ at_write calls at bytes number clean;
      })
  walk ((at, bytes) ∷ writes) calls t stop before clean (inr (inr (sound, inl m))) = subst (Walked calls ((at, bytes) ∷ writes) t) (sym m.0) tt
  walk ((at, bytes) ∷ writes) calls t stop before clean (inr (inr (sound, inr (inl m)))) =
      let longer = length_more calls (Write at bytes) in
      let further : suc (length calls) < u.from = beyond (length calls) sound in
      let number : u.from ≡ suc (length (calls ++ Write at bytes ∷ [])) = reached (length (calls ++ Write at bytes ∷ [])) m.2 (omega (arith, longer, further)) in
      let is : t ≡ observed_of (life ((calls ++ Write at bytes ∷ []) ++ Sync ∷ [])) = same_observed (observed_of (life ((calls ++ Write at bytes ∷ []) ++ Sync ∷ []))) t m.1 in
      subst (Walked calls ((at, bytes) ∷ writes) t) (sym m.0) (record {
        done = 1;
        within = omega arith;
        number = omega (arith, longer, number);
        made = ap (λ (s : Observed). length s.made) is ∙ length_more (calls ++ Write at bytes ∷ []) Sync ∙ sym number;
        settles = ap (λ (s : Observed). s.settles s.made) is ∙ at_sync calls at bytes number clean;
      })
  walk ((at, bytes) ∷ writes) calls t stop before clean (inr (inr (sound, inr (inr (more, m))))) =
      let longer = length_more calls (Write at bytes) in
      let further : suc (length (calls ++ Write at bytes ∷ [])) < u.from = beyond (length (calls ++ Write at bytes ∷ [])) more in
      let there = pair_length calls at bytes in
      onwards calls at bytes writes t stop
      (walk writes ((calls ++ Write at bytes ∷ []) ++ Sync ∷ []) t stop (omega (arith, longer, there, further)) (pair_clean calls at bytes) m)

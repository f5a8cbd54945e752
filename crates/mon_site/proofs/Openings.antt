-- Opening two disks, one of which fails: which of its calls fails, and what is left.
use Rattle.std.proofs.Common.{inl, inr, ◌≡◌, ℕ, suc, ◌+◌, ◌-◌, ◌<◌, ◌≤◌, true, false, nat_le, List, [], ◌∷◌, ◌++◌, length, reverse, Option, Some, None, Result, Ok, Err, refl, sym, ap, ◌∙◌, subst, arith, length-append, append_assoc}
use Rattle.std.proofs.lemmas.Bool.Decides.{nat_tests}
use Rattle.std.proofs.lemmas.List.{reverse-append}
use Rattle.mon_types.specs.declared.names.Side.{Side}
use Rattle.mon_types.specs.declared.names.Side.TheVariants.{A, B}
use Rattle.mon_types.specs.declared.names.Stop.{Stop}
use Rattle.mon_types.specs.declared.names.Stop.TheVariants as disk
use Rattle.mon_disk.specs.declared.disk.DiskCall.{DiskCall}
use Rattle.mon_disk.specs.declared.disk.DiskCall.TheVariants.{Sync}
use Rattle.mon_disk.specs.Images.{Only}
use Rattle.mon_disk.specs.Calls.{Observed, Makes, is_past, fails_next}
use Rattle.mon_disk.specs.Memory.{InjectedFault, seen_after, imaged, seen_of, settled}
use Rattle.mon_disk.specs.MemoryDisk.{MemoryState, observed_of}
use Rattle.mon_disk.proofs.Lives.{length_more}
use Rattle.mon_disk.proofs.InjectedFaults.{injected_after, all_done, all_begun}
use Rattle.mon_store.specs.declared.stop.OpenStop.{OpenStop}
use Rattle.mon_store.specs.declared.stop.OpenStop.TheVariants as opening
use Rattle.mon_store.specs.Opening.{stop_in}
use Rattle.mon_store.specs.OpeningCalls.{MakesBoth}
use Rattle.mon_site.specs.Disks.{content}
use Rattle.mon_site.specs.InjectedFault.{IsInjected}
use Rattle.mon_site.proofs.Guarded.{guarded, cut_short, IsClean, Walked, walk}
use Rattle.mon_disk.specs.Laws.{settles}
use Rattle.mon_site.proofs.Keeping.{u, like_life, seen_is, count_is}

abbrev pub one_more : DiskCall → Observed → Observed
one_more call t = record { made = t.made ++ call ∷ []; fails_from = t.fails_from; settles = t.settles }

-- a disk that fails in no call
never : (t : Observed) → t.fails_from ≡ None → fails_next t ≡ false
never t calm = ap (λ (from : Option ℕ). is_past from (suc (length t.made))) calm

pub unfailing : (stop : Option Stop) (calls : List DiskCall) (t new : Observed) → t.fails_from ≡ None → Makes calls stop (Some t) (Some new) → (stop ≡ Some disk.Failed → ⊥) × (new.fails_from ≡ None)
unfailing stop [] t new calm m = let same : Some new ≡ Some t = m.0 in (m.1, let is : new ≡ t = cc in ap (λ (s : Observed). s.fails_from) is ∙ calm)
unfailing stop (call ∷ calls) t new calm (inl m) = let same : Some new ≡ Some t = m.1 in (λ h. let other : stop ≡ Some disk.OutOfMemory = m.0 in cc, let is : new ≡ t = cc in ap (λ (s : Observed). s.fails_from) is ∙ calm)
unfailing stop (call ∷ calls) t new calm (inr (inl m)) = let fails : fails_next t ≡ true = m.2 in let not : fails_next t ≡ false = never t calm in absurd cc
unfailing stop (call ∷ calls) t new calm (inr (inr m)) = unfailing stop calls (one_more call t) new calm m.1

-- ---- the calls of each disk

abbrev pub on : Side → List (Side × DiskCall) → List DiskCall
on side [] = []
on A ((A, call) ∷ calls) = call ∷ on A calls
on A ((B, call) ∷ calls) = on A calls
on B ((A, call) ∷ calls) = on B calls
on B ((B, call) ∷ calls) = call ∷ on B calls

not_failed : {T : Type 0} (result : Result T OpenStop) → (result ≡ Err opening.DiskFault → ⊥) → stop_in result ≡ Some disk.Failed → ⊥
not_failed (Ok x) never_so h = cc
not_failed (Err opening.DiskFault) never_so h = never_so refl
not_failed (Err opening.OutOfMemory) never_so h = cc
not_failed (Err (opening.NotAStore side at)) never_so h = cc
not_failed (Err (opening.Stranger kept asked)) never_so h = cc

no_memory_a : {stop : Option Stop} (calls : List DiskCall) (s new : Observed) → stop ≡ Some disk.OutOfMemory → Some new ≡ Some s → Makes calls stop (Some s) (Some new)
no_memory_a [] s new out same = (same, λ h. let other : Some disk.OutOfMemory ≡ Some disk.Failed = sym out ∙ h in cc)
no_memory_a (call ∷ calls) s new out same = inl (out, same)

module _ {T : Type 0} (result : Result T OpenStop) where
  -- disk A's, if disk B fails in none
  pub on_a : (calls : List (Side × DiskCall)) (s t new_s new_t : Observed) → t.fails_from ≡ None → MakesBoth calls (Some s) (Some t) (Some new_s) (Some new_t) result → Makes (on A calls) (stop_in result) (Some s) (Some new_s) × (new_t.fails_from ≡ None)
  on_a [] s t new_s new_t calm m = ((m.0, not_failed result m.2), let same : Some new_t ≡ Some t = m.1 in let is : new_t ≡ t = cc in ap (λ (x : Observed). x.fails_from) is ∙ calm)
  on_a ((A, call) ∷ calls) s t new_s new_t calm (inl m) = (inl (ap (λ (r : Result T OpenStop). stop_in r) m.0, m.1), let same : Some new_t ≡ Some t = m.2 in let is : new_t ≡ t = cc in ap (λ (x : Observed). x.fails_from) is ∙ calm)
  on_a ((A, call) ∷ calls) s t new_s new_t calm (inr (inl m)) = (inr (inl (ap (λ (r : Result T OpenStop). stop_in r) m.0, m.1, m.3)), let same : Some new_t ≡ Some t = m.2 in let is : new_t ≡ t = cc in ap (λ (x : Observed). x.fails_from) is ∙ calm)
  on_a ((A, call) ∷ calls) s t new_s new_t calm (inr (inr m)) = let r = on_a calls (one_more call s) t new_s new_t calm m.1 in (inr (inr (m.0, r.0)), r.1)
  on_a ((B, call) ∷ calls) s t new_s new_t calm (inl m) = (no_memory_a (on A calls) s new_s (ap (λ (r : Result T OpenStop). stop_in r) m.0) m.1, let same : Some new_t ≡ Some t = m.2 in let is : new_t ≡ t = cc in ap (λ (x : Observed). x.fails_from) is ∙ calm)
  on_a ((B, call) ∷ calls) s t new_s new_t calm (inr (inl m)) = let fails : fails_next t ≡ true = m.3 in let not : fails_next t ≡ false = never t calm in absurd cc
  on_a ((B, call) ∷ calls) s t new_s new_t calm (inr (inr m)) = on_a calls s (one_more call t) new_s new_t calm m.1

  -- disk B's, if disk A fails in none
  pub on_b : (calls : List (Side × DiskCall)) (s t new_s new_t : Observed) → s.fails_from ≡ None → MakesBoth calls (Some s) (Some t) (Some new_s) (Some new_t) result → Makes (on B calls) (stop_in result) (Some t) (Some new_t) × (new_s.fails_from ≡ None)
  on_b [] s t new_s new_t calm m = ((m.1, not_failed result m.2), let same : Some new_s ≡ Some s = m.0 in let is : new_s ≡ s = cc in ap (λ (x : Observed). x.fails_from) is ∙ calm)
  on_b ((B, call) ∷ calls) s t new_s new_t calm (inl m) = (inl (ap (λ (r : Result T OpenStop). stop_in r) m.0, m.2), let same : Some new_s ≡ Some s = m.1 in let is : new_s ≡ s = cc in ap (λ (x : Observed). x.fails_from) is ∙ calm)
  on_b ((B, call) ∷ calls) s t new_s new_t calm (inr (inl m)) = (inr (inl (ap (λ (r : Result T OpenStop). stop_in r) m.0, m.2, m.3)), let same : Some new_s ≡ Some s = m.1 in let is : new_s ≡ s = cc in ap (λ (x : Observed). x.fails_from) is ∙ calm)
  on_b ((B, call) ∷ calls) s t new_s new_t calm (inr (inr m)) = let r = on_b calls s (one_more call t) new_s new_t calm m.1 in (inr (inr (m.0, r.0)), r.1)
  on_b ((A, call) ∷ calls) s t new_s new_t calm (inl m) = (no_memory_a (on B calls) t new_t (ap (λ (r : Result T OpenStop). stop_in r) m.0) m.2, let same : Some new_s ≡ Some s = m.1 in let is : new_s ≡ s = cc in ap (λ (x : Observed). x.fails_from) is ∙ calm)
  on_b ((A, call) ∷ calls) s t new_s new_t calm (inr (inl m)) = let fails : fails_next s ≡ true = m.3 in let not : fails_next s ≡ false = never s calm in absurd cc
  on_b ((A, call) ∷ calls) s t new_s new_t calm (inr (inr m)) = on_b calls (one_more call s) t new_s new_t calm m.1

-- ---- a sync, and then guarded writes

module _ (call image : ℕ) (d : MemoryState) (up : IsInjected call image d) (only : Only (content d)) where
  abbrev v : InjectedFault
  v = u call image d up only

  abbrev calls : List DiskCall
  calls = up.like.calls

  newest : reverse (calls ++ Sync ∷ []) ≡ Sync ∷ reverse calls
  newest = reverse-append calls (Sync ∷ [])

  still_clean : IsClean up.like.first v (calls ++ Sync ∷ [])
  still_clean = subst (λ (cs : List DiskCall). imaged image up.like.first cs ≡ seen_after up.like.first cs) (sym newest) refl

  -- what is left if one of them fails
  pub data Broken (writes : List (ℕ × List ℕ)) (t : Observed) : Type 0 where
    AtSync : (number : call ≡ 1) → (made : length t.made ≡ length d.life.calls + 1) → Broken writes t
    Behind : (done : ℕ) → (number : call ≡ 2 + done) → (within : done < length (guarded writes)) → (made : length t.made ≡ length d.life.calls + call)
        → (leaves : t.settles t.made ≡ cut_short image done writes (seen_of d.life)) → Broken writes t

  -- and if none does
  pub record Opened (writes : List (ℕ × List ℕ)) (t : Observed) : Type 0 where
    pub beyond : 1 + length (guarded writes) < call
    pub clean : IsClean up.like.first v (calls ++ Sync ∷ guarded writes)
    pub observed : t ≡ observed_of (injected_after up.like.first v (calls ++ Sync ∷ guarded writes))

  abbrev pub Walks : List (ℕ × List ℕ) → Observed → Option Stop → Type 0
  Walks writes t None = Opened writes t
  Walks writes t (Some disk.Failed) = Broken writes t
  Walks writes t (Some disk.OutOfMemory) = Unit {0}

  first_fails : (n : ℕ) → nat_le (n + call) (suc n) ≡ true → call ≡ 1
  first_fails n test = let first : 1 ≤ call = up.first in grind (arith, nat_tests)

  first_goes : (n : ℕ) → nat_le (n + call) (suc n) ≡ false → suc n < n + call
  first_goes n test = grind (arith, nat_tests)

  behind : (writes : List (ℕ × List ℕ)) (t : Observed) (stop : Option Stop) → Walked up.like.first v (calls ++ Sync ∷ []) writes t stop → Walks writes t stop
  behind writes t None w =
      let longer = length_more calls Sync in
      let same : (calls ++ Sync ∷ []) ++ guarded writes ≡ calls ++ Sync ∷ guarded writes = append_assoc calls (Sync ∷ []) (guarded writes) in
      record {
        beyond = omega (arith, longer, w.before);
        clean = subst (λ (cs : List DiskCall). IsClean up.like.first v cs) same w.clean;
        observed = w.observed ∙ ap (λ (cs : List DiskCall). observed_of (injected_after up.like.first v cs)) same;
      }
  behind writes t (Some disk.Failed) w =
      let longer = length_more calls Sync in
      let base : seen_after up.like.first (reverse (calls ++ Sync ∷ [])) ≡ seen_of d.life = ap (λ (cs : List DiskCall). seen_after up.like.first cs) newest ∙ seen_is call image d up only in
      Behind w.done (omega (arith, longer, w.number)) w.within (omega (arith, w.made, count_is call image d up only))
      (w.settles ∙ ap (λ (file : List ℕ). cut_short image w.done writes file) base)
  behind writes t (Some disk.OutOfMemory) w = tt

  walks_like : (writes : List (ℕ × List ℕ)) (t : Observed) (stop : Option Stop) → Makes (Sync ∷ guarded writes) stop (Some (observed_of (like_life call image d up only))) (Some t) → Walks writes t stop
  walks_like writes t stop (inl m) = subst (Walks writes t) (sym m.0) tt
  walks_like writes t stop (inr (inl m)) =
      let is : Some t ≡ Some (one_more Sync (observed_of (like_life call image d up only))) = m.1 in
      let same : t ≡ one_more Sync (observed_of (like_life call image d up only)) = cc in
      let long : length t.made ≡ length (calls ++ Sync ∷ []) = ap (λ (x : Observed). length x.made) same in
      subst (Walks writes t) (sym m.0)
      (AtSync (first_fails (length calls) m.2) (omega (arith, long, length_more calls Sync, count_is call image d up only)))
  walks_like writes t stop (inr (inr (sound, m))) =
      let longer = length_more calls Sync in
      let further = first_goes (length calls) sound in
      behind writes t stop (walk up.like.first v writes (calls ++ Sync ∷ []) t stop (omega (arith, longer, further)) still_clean m)

  pub walks : (writes : List (ℕ × List ℕ)) (t : Observed) (stop : Option Stop) → Makes (Sync ∷ guarded writes) stop (Some (observed_of d.life)) (Some t) → Walks writes t stop
  walks writes t stop m = walks_like writes t stop (subst (λ (s : Observed). Makes (Sync ∷ guarded writes) stop (Some s) (Some t)) up.observed m)

  -- the injected fault after some calls: it is nearer by their number
  pub injected_left : (writes : List (ℕ × List ℕ)) (n : MemoryState) → Only (content n) → Opened writes (observed_of n.life) → IsInjected (call - (1 + length (guarded writes))) image n
  injected_left writes n calm o =
      let more : List DiskCall = calls ++ Sync ∷ guarded writes in
      let left = call - (1 + length (guarded writes)) in
      let long : length more ≡ length calls + (1 + length (guarded writes)) = omega (arith, length-append calls (Sync ∷ guarded writes)) in
      let from_is : length calls + call ≡ length more + left = omega (arith, long, o.beyond) in
      let life_is : injected_after up.like.first v more ≡ injected_after up.like.first (record { from = length more + left; image = image }) more = ap (λ k. injected_after up.like.first (record { from = k; image = image }) more) from_is in
      let early : length more < v.from = omega (arith, long, o.beyond) in
      let seen_now : Some (seen_of n.life) ≡ Some (settled n.life) = calm (settled n.life) (settles n) in
      let as_seen : settled n.life ≡ seen_of n.life = cc in
      record {
        like = record { first = up.like.first; calls = more; upset = None };
        observed = o.observed ∙ ap observed_of life_is;
        seen =
            sym (ap seen_of life_is)
            ∙ ap (λ (cs : List DiskCall). seen_after up.like.first cs) (all_done up.like.first v more early)
            ∙ sym o.clean
            ∙ sym (ap (λ (cs : List DiskCall). imaged image up.like.first cs) (all_begun up.like.first v more early))
            ∙ sym (ap (λ (t : Observed). t.settles t.made) o.observed)
            ∙ as_seen;
        first = omega (arith, o.beyond);
        most = up.most;
      }

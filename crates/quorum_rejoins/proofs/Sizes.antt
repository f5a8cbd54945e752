-- How large a store is that takes a copy.
use Rattle.calm_sizes.proofs.AnyRuns.{OnSomeLog}
use Rattle.calm_sizes.proofs.Listed.{In, counted, here, size_within, there, weight}
use Rattle.calm_sizes.proofs.Weights.{fold_small, found_listed, keys_of, never_full, own_weight, size_parts}
use Rattle.calm_sizes.specs.Sizes.{AllShort, longest}
use Rattle.law_names.proofs.Runs.{AllValues, entry_size, most_size, size_of}
use Rattle.law_names.proofs.Table.{AllByRecursion, KeyPlace, Place as ChunkPlace, Readings, State, Store, SyncStage, empty, entries, fold, get, insert, is_local, number, place_cmp, readings_of, retain_keys, shared}
use Rattle.log_copies.proofs.Own.{own_local}
use Rattle.log_copies.proofs.Standing.{Agrees}
use Rattle.log_copies.proofs.UnderWay.{InStage, Marked}
use Rattle.log_copies.specs.Copies.{IsFolded, IsFuzzyCopy, IsRecord, is_own, is_past, shared_with_records}
use Rattle.log_model.proofs.Places.{get_kept, is_shared, same_place, shared_is}
use Rattle.log_model.proofs.SharedEntries.{Pair, entries_found}
use Rattle.mon_msg.specs.declared.synchronization.SyncStage.TheVariants as sync
use Rattle.mon_tx.proofs.Places.{places_total}
use Rattle.mon_tx.specs.Map.{Place}
use Rattle.mon_tx.specs.declared.key.Area.TheVariants as area
use Rattle.mon_tx.specs.declared.key.Key.TheVariants as key
use Rattle.mon_wire.specs.declared.phase.Phase.TheVariants as phase
use Rattle.quorum_agreement.proofs.Step.{copy_marked}
use Rattle.std.proofs.Common.{Bool, List, None, Option, Some, [], ap, arith, cond, false, inl, inr, length, not, refl, subst, suc, sum_by, sym, true, ℕ, ◌+◌, ◌^◌, ◌∙◌, ◌∷◌, ◌≡◌, ◌≤◌, ◌⊎◌}
use Rattle.std.proofs.lemmas.Bool.{false≢true}
use Rattle.std.proofs.lemmas.List.Sums.{sum_by-cons}
use Rattle.std.specs.Cmp.{eq_by_cmp_equiv}
use Rattle.std.specs.FinMap.{get-empty, get-entries, get-insert}
use Rattle.std.specs.Ordering.{eq_by_cmp}

-- ---- what one store has of another

-- the first store has nothing that the other one lacks
abbrev pub IsPart : Store → Store → Type 0
IsPart m whole = (q : Place) (x : List ℕ) → get m q ≡ Some x → get whole q ≡ Some x

light : (m : Store) (e : Pair) → ((x : List ℕ) → get m e.0 ≡ Some x → x ≡ e.1) → weight m e.0 ≤ entry_size e
light m e h = by (get m e.0) h
  where
    by : (o : Option (List ℕ)) → ((x : List ℕ) → o ≡ Some x → x ≡ e.1) → counted e.0 o ≤ entry_size e
    by None h = omega arith
    by (Some x) h = let l = ap length (h x refl) in omega arith

some_is : (x y : List ℕ) → ◌≡◌ {A = Option (List ℕ)} (Some x) (Some y) → x ≡ y
some_is x y e = cc

lighter : (m : Store) (es : List Pair) → AllByRecursion (λ (e : Pair). (x : List ℕ) → get m e.0 ≡ Some x → x ≡ e.1) es → sum_by (weight m) (keys_of es) ≤ sum_by entry_size es
lighter m [] h = omega arith
lighter m (e ∷ es) h =
    let rest = lighter m es h.1 in
    let one = light m e h.0 in
    omega (arith, rest, one, sum_by-cons (weight m) e.0 (keys_of es), sum_by-cons entry_size e es)

part_is : (m whole : Store) → IsPart m whole → (es : List Pair) → AllByRecursion (λ (e : Pair). get whole e.0 ≡ Some e.1) es → AllByRecursion (λ (e : Pair). (x : List ℕ) → get m e.0 ≡ Some x → x ≡ e.1) es
part_is m whole P [] h = tt
part_is m whole P (e ∷ es) h = (λ x k. some_is x e.1 (sym (P e.0 x k) ∙ h.0), part_is m whole P es h.1)

pub part_small : (m whole : Store) → IsPart m whole → size_of m ≤ size_of whole
unfolding size_of
part_small m whole P =
    let a = size_within m (keys_of (entries whole)) (λ q x e. found_listed (entries whole) q x (sym (get-entries whole q) ∙ P q x e)) in
    let b = lighter m (entries whole) (part_is m whole P (entries whole) (entries_found whole)) in
    omega (arith, a, b)

-- ---- one more value

module _ (m : Store) (at : Place) (v : List ℕ) where
  -- the store without that key
  abbrev without : Store
  without = retain_keys m (λ q. not (eq_by_cmp place_cmp q at))

  without_at : (q : Place) → get without q ≡ cond (not (eq_by_cmp place_cmp q at)) (get m q) None
  without_at q = get_kept m (λ q. not (eq_by_cmp place_cmp q at)) q

  put_at : (q : Place) → get (insert m at v) q ≡ cond (eq_by_cmp place_cmp q at) (Some v) (get m q)
  put_at q = get-insert places_total m at v q

  is_part : IsPart without m
  is_part q x e = by (eq_by_cmp place_cmp q at) (sym (without_at q) ∙ e)
    where
      by : (b : Bool) → cond (not b) (get m q) None ≡ Some x → get m q ≡ Some x
      by true e = absurd cc
      by false e = e

  kept_same : (q : Place) (y x : List ℕ) → get without q ≡ Some y → get (insert m at v) q ≡ Some x → x ≡ y
  kept_same q y x e f = by (eq_by_cmp place_cmp q at) (sym (without_at q) ∙ e) (sym (put_at q) ∙ f)
    where
      by : (b : Bool) → cond (not b) (get m q) None ≡ Some y → cond b (Some v) (get m q) ≡ Some x → x ≡ y
      by true e f = absurd cc
      by false e f = some_is x y (sym f ∙ e)

  each_same : (es : List Pair) → AllByRecursion (λ (e : Pair). get without e.0 ≡ Some e.1) es → AllByRecursion (λ (e : Pair). (x : List ℕ) → get (insert m at v) e.0 ≡ Some x → x ≡ e.1) es
  each_same [] h = tt
  each_same (e ∷ es) h = (λ x k. kept_same e.0 e.1 x h.0 k, each_same es h.1)

  listed : (q : Place) (x : List ℕ) → get (insert m at v) q ≡ Some x → In q (at ∷ keys_of (entries without))
  listed q x e = by (eq_by_cmp place_cmp q at) refl (sym (put_at q) ∙ e)
    where
      by : (b : Bool) → eq_by_cmp place_cmp q at ≡ b → cond b (Some v) (get m q) ≡ Some x → In q (at ∷ keys_of (entries without))
      by true t e = subst (λ (p : Place). In p (at ∷ keys_of (entries without))) (sym (same_place q at t)) here
      by false t e = there (found_listed (entries without) q x (sym (get-entries without q) ∙ without_at q ∙ ap (λ b. cond (not b) (get m q) None) t ∙ e))

  here_is : weight (insert m at v) at ≤ entry_size (at, v)
  here_is = by (eq_by_cmp place_cmp at at) refl
    where
      by : (b : Bool) → eq_by_cmp place_cmp at at ≡ b → weight (insert m at v) at ≤ entry_size (at, v)
      by true t = let e = ap (counted at) (put_at at ∙ ap (λ b. cond b (Some v) (get m at)) t) in omega (arith, e)
      by false t = let e = ap (counted at) (put_at at ∙ ap (λ b. cond b (Some v) (get m at)) t) in absurd (itself t)
        where
          itself : eq_by_cmp place_cmp at at ≡ false → ⊥
          itself t = false≢true (sym t ∙ (eq_by_cmp_equiv places_total).refl at)

  pub put_small : size_of (insert m at v) ≤ size_of m + entry_size (at, v)
  unfolding size_of
  put_small =
      let a = size_within (insert m at v) (at ∷ keys_of (entries without)) listed in
      let b = lighter (insert m at v) (entries without) (each_same (entries without) (entries_found without)) in
      let c = part_small without m is_part in
      let d = here_is in
      omega (arith, a, b, c, d, sum_by-cons (weight (insert m at v)) at (keys_of (entries without)))

-- ---- a copy

-- each key that isn't a monitor's own is as in the fold of the log's first t versions, or missing
abbrev HoldsOf : List (List ℕ) → ℕ → Store → Type 0
HoldsOf log t m = (at : Place) → is_own at ≡ false → (get m at ≡ None) ⊎ (get m at ≡ get (fold log t) at)

holds_small : (log : List (List ℕ)) → length log ≤ 2 ^ 62 → AllValues log → (t : ℕ) → t ≤ length log → (m : Store) → HoldsOf log t m → AllShort longest m → size_of m ≤ most_size
holds_small log fits all t le m H short =
    let a = size_parts m in
    let b = own_weight 4194304 m (λ q x own e. short q x e) in
    let c = part_small (shared m) (fold log t) part in
    let f = fold_small log fits all t le in
    omega (arith, a, b, c, f)
  where
    shared_get : (q : Place) → get (shared m) q ≡ cond (not (is_local (number m area.Paxos key.LastCommitted) q)) (get m q) None
    shared_get q = ap (λ (s : Store). get s q) (shared_is m (number m area.Paxos key.LastCommitted) refl) ∙ get_kept m (is_shared (number m area.Paxos key.LastCommitted)) q

    part : IsPart (shared m) (fold log t)
    part q x e = by (is_local (number m area.Paxos key.LastCommitted) q) refl (sym (shared_get q) ∙ e)
      where
        not_own : is_local (number m area.Paxos key.LastCommitted) q ≡ false → (b : Bool) → is_own q ≡ b → b ≡ false
        not_own t true o = absurd (false≢true (sym t ∙ own_local (number m area.Paxos key.LastCommitted) q o))
        not_own t false o = refl

        by : (b : Bool) → is_local (number m area.Paxos key.LastCommitted) q ≡ b → cond (not b) (get m q) None ≡ Some x → get (fold log t) q ≡ Some x
        by true t e = absurd cc
        by false t e = elim (H q (not_own t (is_own q) refl)) [ inl none ↦ (let g : None ≡ Some x = sym none ∙ e in absurd cc) | inr same ↦ sym same ∙ e ]

-- a copy of one version
fuzzy_holds : (log : List (List ℕ)) (t : ℕ) (x : KeyPlace) (m : Store) → IsFuzzyCopy log t t x m → HoldsOf log t m
fuzzy_holds log t x m copy at out = by (is_past x at) refl
  where
    folded : IsFolded log t t at (get m at) → get m at ≡ get (fold log t) at
    folded F = let low = F.from in let high = F.to in F.is ∙ ap (λ (v : ℕ). get (fold log v) at) (let e : F.version ≡ t = omega arith in e)

    no_record : IsRecord log t t at (get m at) → ⊥
    no_record R = let low = R.from in let high = R.to in absurd (omega arith)

    by : (b : Bool) → is_past x at ≡ b → (get m at ≡ None) ⊎ (get m at ≡ get (fold log t) at)
    by true p = elim (copy.not_yet at out p) [ inl none ↦ inl none | inr R ↦ absurd (no_record R) ]
    by false p = elim (copy.made at out p) [ inl F ↦ inr (folded F) | inr R ↦ absurd (no_record R) ]

empty_holds : (log : List (List ℕ)) (m : Store) → shared_with_records m ≡ empty → HoldsOf log 0 m
empty_holds log m none at out = inl (
    sym (get_kept m (λ q. not (is_own q)) at ∙ ap (λ b. cond (not b) (get m at) None) out) ∙ ap (λ (s : Store). get s at) none ∙ get-empty place_cmp at
    )

-- the copy is of one version: none was replayed and none is left
abbrev pub IsStill : (stage : SyncStage) → (start version : ℕ) → Type 0
IsStill sync.Cookie start version = Unit {0}
IsStill sync.Chunks start version = start ≡ version
IsStill (sync.Replay next end) start version = next ≡ suc end

still_holds : (log : List (List ℕ)) (before : Readings) (floor : ℕ) (m : Store) (stage : SyncStage) (start : ℕ) (p : ChunkPlace) → IsStill stage start p.version → InStage log before floor m stage start p → (t : ℕ) × (t ≤ length log) × HoldsOf log t m
still_holds log before floor m sync.Cookie start p k S = (0, omega arith, empty_holds log m S)
still_holds log before floor m sync.Chunks start p k S = (p.version, S.within, fuzzy_holds log p.version p.key m (subst (λ (v : ℕ). IsFuzzyCopy log v p.version p.key m) k S.copy))
still_holds log before floor m (sync.Replay next end) start p k S =
    let is = S.is in
    (end, S.within, fuzzy_holds log end _ m (subst (λ (v : ℕ). IsFuzzyCopy log v end _ m) (let e : S.done ≡ end = omega arith in e) S.copy))

-- the store of a monitor that takes a copy of one version isn't too large
pub copy_small : (m : Store) (s : State) → s.phase ≡ phase.Synchronizing → IsStill s.requester.stage s.requester.start s.requester.place.version → AllShort longest m → OnSomeLog m s → size_of m ≤ most_size
copy_small m s is still short L = by L.agrees
  where
    by : Agrees L.log m s → size_of m ≤ most_size
    by (inl V) = let H = V.versions in never_full L.log L.short L.values V.last H.within m H.folded (λ q x own e. short q x e)
    by (inr T) = of_copy T.before T.floor T.marked
      where
        of_copy : (before : Readings) (floor : ℕ) → Marked L.log before floor m s → size_of m ≤ most_size
        of_copy before floor (inl U) =
            let z = still_holds L.log before floor m s.requester.stage s.requester.start s.requester.place still U.stage in
            holds_small L.log L.short L.values z.0 z.1 m z.2 short
        of_copy before floor (inr W) = elim W.in_phase [ inl p ↦ (let g = sym is ∙ p in absurd cc) | inr p ↦ (let g = sym is ∙ p in absurd cc) ]

-- and so it is once the copy is over
pub over_small : (m : Store) (s : State) → (readings_of m).marked ≡ false → AllShort longest m → OnSomeLog m s → size_of m ≤ most_size
over_small m s unmarked short L = by L.agrees
  where
    by : Agrees L.log m s → size_of m ≤ most_size
    by (inl V) = let H = V.versions in never_full L.log L.short L.values V.last H.within m H.folded (λ q x own e. short q x e)
    by (inr T) = absurd (false≢true (sym unmarked ∙ copy_marked L.log m s T))

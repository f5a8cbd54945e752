-- A map weighs at most the sum over any list of keys that has all its keys.
use Rattle.law_names.proofs.Runs.{entry_size, size_of}
use Rattle.law_names.proofs.Table.{AllByRecursion, Store, entries, get, is_sorted, place_cmp}
use Rattle.log_model.proofs.SharedEntries.{Pair, below_each, entries_found}
use Rattle.map_kv.proofs.Pairs.{first, second}
use Rattle.mon_tx.proofs.Places.{places_total}
use Rattle.mon_tx.specs.Map.{Place}
use Rattle.std.proofs.Common.{Less, List, None, Option, Some, T, [], ap, arith, inl, inr, length, refl, subst, suc, sum_by, true, zero, ℕ, ◌*◌, ◌++◌, ◌+◌, ◌<◌, ◌∙◌, ◌∷◌, ◌≡◌, ◌≤◌, ◌⊎◌}
use Rattle.std.proofs.lemmas.Bool.{cases_lt}
use Rattle.std.proofs.lemmas.List.Sums.{sum_by-cons}
use Rattle.std.specs.Cmp.{eq_by_cmp_equiv}
use Rattle.std.specs.FinMap.Entries.{below_all}
use Rattle.std.specs.FinMap.{entries_sorted}
use Rattle.std.specs.Ordering.{is_eq}

pub data In (q : Place) : List Place → Type 0 where
  here : {ks : List Place} → In q (q ∷ ks)
  there : {k : Place} {ks : List Place} → In q ks → In q (k ∷ ks)

pub in_left : {q : Place} (ks ls : List Place) → In q ks → In q (ks ++ ls)
in_left {q = q} [] ls i = elim i [ ]
in_left (k ∷ ks) ls here = here
in_left (k ∷ ks) ls (there i) = there (in_left ks ls i)

pub in_right : {q : Place} (ks ls : List Place) → In q ls → In q (ks ++ ls)
in_right [] ls i = i
in_right (k ∷ ks) ls i = there (in_right ks ls i)

-- the list without that key
without : {q : Place} {ks : List Place} → In q ks → List Place
without (here {ks = ks}) = ks
without (there {k = k} i) = k ∷ without i

-- every other key is still there
still : {q r : Place} {ks : List Place} (i : In q ks) → In r ks → (q ≡ r → ⊥) → In r (without i)
unfolding without
still here here ne = absurd (ne refl)
still here (there j) ne = j
still (there i) here ne = here
still (there i) (there j) ne = there (still i j ne)

module _ (c : Place → ℕ) where
  less_one : {q : Place} {ks : List Place} (i : In q ks) → sum_by c ks ≡ c q + sum_by c (without i)
  unfolding without
  less_one {q = q} (here {ks = ks}) = sum_by-cons c q ks
  less_one {q = q} (there {k = k} {ks = ks} i) =
      omega (arith, less_one i, sum_by-cons c k ks, sum_by-cons c k (without i))

  -- an entry under a listed key that weighs at most what is listed for it
  record Fits (f : Pair → ℕ) (ks : List Place) (e : Pair) : Type 0 where
    listed : In e.0 ks
    light : f e ≤ c e.0

  behind : (f : Pair → ℕ) (e : Pair) (ks : List Place) (i : In e.0 ks) (es : List Pair)
      → AllByRecursion (λ (x : Pair). place_cmp e.0 x.0 ≡ Less) es → AllByRecursion (Fits f ks) es
      → AllByRecursion (Fits f (without i)) es
  behind f e ks i [] b h = tt
  behind f e ks i (x ∷ es) b h =
      (record { listed = still i h.0.listed apart; light = h.0.light }, behind f e ks i es b.1 h.1)
    where
      apart : e.0 ≡ x.0 → ⊥
      apart same =
          let a : place_cmp e.0 e.0 ≡ Less = ap (place_cmp e.0) same ∙ b.0 in
          let r : is_eq (place_cmp e.0 e.0) ≡ true = (eq_by_cmp_equiv places_total).refl e.0 in
          let g = rw a at r in
          absurd cc

  weighs : (f : Pair → ℕ) (es : List Pair) (ks : List Place) → T (is_sorted place_cmp es)
      → AllByRecursion (Fits f ks) es → sum_by f es ≤ sum_by c ks
  weighs f [] ks s h = omega arith
  weighs f (e ∷ es) ks s h =
      let i = h.0.listed in
      let rest : sum_by f es ≤ sum_by c (without i) = weighs f es (without i)
      (second (below_all place_cmp e.0 es) (is_sorted place_cmp es) s) (behind f e ks i es
      (below_each e.0 es (first (below_all place_cmp e.0 es) (is_sorted place_cmp es) s)) h.1) in
      let light = h.0.light in
      omega (arith, rest, light, less_one i, sum_by-cons f e es)

-- what is listed for a key: what its entry counts with
abbrev pub counted : Place → Option (List ℕ) → ℕ
counted q None = 0
counted q (Some x) = entry_size (q, x)

abbrev pub weight : Store → Place → ℕ
weight m q = counted q (get m q)

pub size_within : (m : Store) (ks : List Place) → ((q : Place) (x : List ℕ) → get m q ≡ Some x → In q ks)
    → size_of m ≤ sum_by (weight m) ks
unfolding size_of
size_within m ks h = weighs (weight m) entry_size (entries m) ks (entries_sorted m) (each (entries m) (entries_found m))
  where
    each : (es : List Pair) → AllByRecursion (λ (e : Pair). get m e.0 ≡ Some e.1) es
        → AllByRecursion (Fits (weight m) entry_size ks) es
    each [] k = tt
    each (e ∷ es) k =
        (record { listed = h e.0 e.1 k.0; light = let g = ap (counted e.0) k.0 in omega arith }, each es k.1)

ones : {A : Type 0} (xs : List A) → sum_by (λ (x : A). 1) xs ≡ length xs
ones [] = refl
ones {A} (x ∷ xs) = omega (arith, ones xs, sum_by-cons (λ (x : A). 1) x xs)

-- a map has at most as many entries as a list of keys that has all its keys
pub few_within : (m : Store) (ks : List Place) → ((q : Place) (x : List ℕ) → get m q ≡ Some x → In q ks)
    → length (entries m) ≤ length ks
few_within m ks h =
    let w = weighs (λ (q : Place). 1) (λ (e : Pair). 1) (entries m) ks (entries_sorted m)
    (each (entries m) (entries_found m)) in
    omega (arith, w, ones (entries m), ones ks)
  where
    each : (es : List Pair) → AllByRecursion (λ (e : Pair). get m e.0 ≡ Some e.1) es
        → AllByRecursion (Fits (λ (q : Place). 1) (λ (e : Pair). 1) ks) es
    each [] k = tt
    each (e ∷ es) k = (record { listed = h e.0 e.1 k.0; light = omega arith }, each es k.1)

-- ---- keys by numbers

-- `count` numbers from `from` on
abbrev pub run : (ℕ → Place) → (from count : ℕ) → List Place
run f from zero = []
run f from (suc count) = f from ∷ run f (suc from) count

pub in_run : (f : ℕ → Place) (count from v : ℕ) → from ≤ v → v < from + count → In (f v) (run f from count)
in_run f zero from v h g = absurd (omega arith)
in_run f (suc count) from v h g = by (cases_lt from v) (λ lt. in_run f count (suc from) v (omega arith) (omega arith))
  where
    by : (from < v) ⊎ (v ≤ from) → (from < v → In (f v) (run f (suc from) count))
        → In (f v) (f from ∷ run f (suc from) count)
    by (inl lt) rest = there (rest lt)
    by (inr le) rest =
        let e : from ≡ v = omega arith in subst (λ (w : ℕ). In (f w) (f from ∷ run f (suc from) count)) e here

pub run_within : (c : Place → ℕ) (f : ℕ → Place) (most count from : ℕ)
    → ((v : ℕ) → from ≤ v → v < from + count → c (f v) ≤ most) → sum_by c (run f from count) ≤ count * most
run_within c f most zero from h = omega arith
run_within c f most (suc count) from h =
    let a = h from (omega arith) (omega arith) in
    let b = run_within c f most count (suc from) (λ v p q. h v (omega arith) (omega arith)) in
    let e : suc count * most ≡ most + count * most = omega arith in
    omega (arith, a, b, e, sum_by-cons c (f from) (run f (suc from) count))

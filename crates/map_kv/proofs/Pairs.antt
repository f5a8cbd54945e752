-- Lists of entries in ascending order of key, as texts in a tree and as bytes.
use Rattle.std.proofs.Common.{◌≡◌, ℕ, ◌+◌, List, [], ◌∷◌, ◌++◌, Bool, true, false, cond, Some, None, Less, Equal, Greater, String, Global, string_bytes, string_cmp, nat_cmp, is_eq, T, refl, ap, ◌∙◌, arith}
use Rattle.std.specs.Cmp.Lexicographic.{slice_cmp, nat_list_cmp_total}
use Rattle.std.specs.List.{AllByRecursion}
use Rattle.std.specs.List.Sorted.{IsStrictlySortedBy}
use Rattle.std.specs.Map.{lookup, keys_of, remove_entry}
use Rattle.std.specs.BTreeMap.{is_at, insert_entry}
use Rattle.std.specs.Ordering.{match_ordering, ordering_reverse}
use Rattle.std.specs.FinMap.{find, put, is_sorted, slice_cmp-IsAntisymmetric, nat_cmp-IsAntisymmetric}
use Rattle.std.specs.FinMap.Entries.{below_all, by_order}
pub use Rattle.mon_bytes.proofs.Ordered.{both, first, second, less}
use Rattle.mon_bytes.proofs.Ordered as ordered
use Rattle.map_kv.specs.Kept.{pairs, size_of, entry_size, held, IsPair}

abbrev pub Node : Type 0
Node = String Global × List ℕ

is_below : (x : String Global) (es : List Node) → AllByRecursion (λ y. string_cmp x y ≡ Less) (keys_of es) → T (below_all (slice_cmp nat_cmp) (string_bytes x) (pairs es))
is_below x [] h = tt
is_below x (e ∷ es) h = rw h.0 (is_below x es h.1)

pub is_sorted-pairs : (es : List Node) → IsStrictlySortedBy string_cmp (keys_of es) → T (is_sorted (slice_cmp nat_cmp) (pairs es))
unfolding IsStrictlySortedBy
is_sorted-pairs [] h = tt
is_sorted-pairs (e ∷ es) h = both _ _ (is_below e.0 es h.0) (is_sorted-pairs es h.1)

pub find-pairs : (q : List ℕ) (es : List Node) → lookup (is_at (λ k. slice_cmp nat_cmp q (string_bytes k))) es ≡ find (slice_cmp nat_cmp) q (pairs es)
find-pairs q [] = refl
find-pairs q (e ∷ es) = ap (cond (is_eq (slice_cmp nat_cmp q (string_bytes e.0))) (Some e.1)) (find-pairs q es)

-- ---- what an insertion and a removal leave

abbrev pub Entry : Type 0
Entry = List ℕ × List ℕ

find_below : (k x : List ℕ) (es : List Entry) → slice_cmp nat_cmp k x ≡ Less → T (below_all (slice_cmp nat_cmp) x es) → find (slice_cmp nat_cmp) k es ≡ None
find_below k x [] p h = refl
find_below k x (e ∷ es) p h =
    let below : slice_cmp nat_cmp k e.0 ≡ Less = nat_list_cmp_total.trans k x e.0 p (less _ (first _ _ h)) in
    rw below (find_below k x es p (second _ _ h))

pub size_of-put : (k v : List ℕ) (es : List Entry) → T (is_sorted (slice_cmp nat_cmp) es)
    → size_of (put (slice_cmp nat_cmp) k v es) + held k (find (slice_cmp nat_cmp) k es) ≡ size_of es + entry_size (k, v)
size_of-put k v [] h = omega arith
size_of-put k v (e ∷ es) h =
    elim (slice_cmp nat_cmp k e.0) as (λ r. slice_cmp nat_cmp k e.0 ≡ r
    → size_of (by_order r ((k, v) ∷ e ∷ es) ((e.0, v) ∷ es) (e ∷ put (slice_cmp nat_cmp) k v es)) + held k (cond (is_eq r) (Some e.1) (find (slice_cmp nat_cmp) k es)) ≡ size_of (e ∷ es) + entry_size (k, v)) [
      | Less ↦ λ p. rw (find_below k e.0 es p (first _ _ h)) (omega arith)
      | Equal ↦ λ p. let same = slice_cmp-IsAntisymmetric nat_cmp-IsAntisymmetric k e.0 p in rw same (omega arith)
      | Greater ↦ λ p. omega (arith, size_of-put k v es (second _ _ h))
    ] refl

pub size_of-remove_entry : (k w : List ℕ) (es : List Node) → lookup (is_at (λ s. slice_cmp nat_cmp k (string_bytes s))) es ≡ Some w
    → size_of (pairs (remove_entry (is_at (λ s. slice_cmp nat_cmp k (string_bytes s))) es)) + entry_size (k, w) ≡ size_of (pairs es)
size_of-remove_entry k w [] h = absurd cc
size_of-remove_entry k w (e ∷ es) h =
    elim (slice_cmp nat_cmp k (string_bytes e.0)) as (λ r. slice_cmp nat_cmp k (string_bytes e.0) ≡ r → cond (is_eq r) (Some e.1) (lookup (is_at (λ s. slice_cmp nat_cmp k (string_bytes s))) es) ≡ Some w
    → size_of (pairs (cond (is_eq r) es (e ∷ remove_entry (is_at (λ s. slice_cmp nat_cmp k (string_bytes s))) es))) + entry_size (k, w) ≡ size_of (pairs (e ∷ es))) [
      | Less ↦ λ p found. omega (arith, size_of-remove_entry k w es found)
      | Equal ↦ λ p found.
          let same = slice_cmp-IsAntisymmetric nat_cmp-IsAntisymmetric k (string_bytes e.0) p in
          let value : e.1 ≡ w = cc in
          rw (same, value) (omega arith)
      | Greater ↦ λ p found. omega (arith, size_of-remove_entry k w es found)
    ] refl h

pub each-insert_entry : (k : String Global) (v : List ℕ) (es : List Node) → IsPair (string_bytes k, v) → AllByRecursion IsPair (pairs es) → AllByRecursion IsPair (pairs (insert_entry string_cmp es k v))
each-insert_entry k v [] new h = (new, tt)
each-insert_entry k v (e ∷ es) new h =
    elim (string_cmp k e.0) as (λ r. AllByRecursion IsPair (pairs (match_ordering r ((k, v) ∷ e ∷ es) ((e.0, v) ∷ es) (e ∷ insert_entry string_cmp es k v)))) [
      | Less ↦ (new, h)
      | Equal ↦ ((h.0.0, new.1), h.1)
      | Greater ↦ (h.0, each-insert_entry k v es new h.1)
    ]

pub each-remove_entry : (test : String Global → Bool) (es : List Node) → AllByRecursion IsPair (pairs es) → AllByRecursion IsPair (pairs (remove_entry test es))
each-remove_entry test [] h = tt
each-remove_entry test (e ∷ es) h = elim (test e.0) as (λ b. AllByRecursion IsPair (pairs (cond b es (e ∷ remove_entry test es)))) [ true ↦ h.1 | false ↦ (h.0, each-remove_entry test es h.1) ]

-- a key above all others goes to the end
pub put_above : (front : List Entry) (k v : List ℕ) → AllByRecursion (λ e. slice_cmp nat_cmp e.0 k ≡ Less) front → put (slice_cmp nat_cmp) k v front ≡ front ++ (k, v) ∷ []
put_above [] k v h = refl
put_above (x ∷ front) k v h =
    let above : slice_cmp nat_cmp k x.0 ≡ Greater = nat_list_cmp_total.antisymm k x.0 ∙ ap ordering_reverse h.0 in
    rw above (ap (λ (es : List Entry). x ∷ es) (put_above front k v h.1))

pub below_less : (x y : List ℕ) (es : List Entry) → slice_cmp nat_cmp x y ≡ Less → T (below_all (slice_cmp nat_cmp) y es) → T (below_all (slice_cmp nat_cmp) x es)
below_less = ordered.below_less nat_list_cmp_total

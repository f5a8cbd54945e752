-- Trees that are made of entries in ascending order of key.
use Rattle.std.proofs.Common.{◌≡◌, ℕ, ◌+◌, ◌≤◌, ◌^◌, List, [], ◌∷◌, ◌++◌, cond, Option, Some, None, Less, Equal, Greater, String, Global, BTreeMap, string_bytes, string_cmp, nat_cmp, is_eq, T, refl, sym, ap, subst, ◌∙◌, arith}
use Rattle.std.proofs.lemmas.List.{map-append}
use Rattle.std.proofs.lemmas.Map.Keys.{IsDistinct-from_sorted}
use Rattle.std.proofs.lemmas.Map.Made.{update_all_none}
use Rattle.std.specs.BTreeMap as tree
use Rattle.std.specs.Cmp.{eq_by_cmp_equiv}
use Rattle.std.specs.Cmp.Lexicographic.{slice_cmp, nat_list_cmp_total}
use Rattle.std.specs.FinMap.{entries, insert, find, is_sorted, entries-insert, entries_sorted, same_entries_map, IsAntisymmetric, slice_cmp-IsAntisymmetric, nat_cmp-IsAntisymmetric}
use Rattle.std.specs.FinMap.Entries.{below_all, same_entries}
use Rattle.std.specs.List.{AllByRecursion}
use Rattle.std.specs.List.Sorted.{IsStrictlySortedBy}
use Rattle.std.specs.Map.{lookup, keys_of}
use Rattle.std.specs.Ordering.{eq_by_cmp}
use Rattle.std.specs.String.{string_cmp_total}
use Rattle.map_kv.specs.Kept.{pairs, kept_map, size_of, entry_size, IsPair, IsKept}
use Rattle.map_kv.proofs.Kept.{entries-kept_map}
use Rattle.map_kv.proofs.Pairs.{Node, Entry, is_sorted-pairs, find-pairs, put_above, first, second, less}

exact : IsAntisymmetric (slice_cmp nat_cmp)
exact = slice_cmp-IsAntisymmetric nat_cmp-IsAntisymmetric

-- a key that is found is that of a text
key_of : (q v : List ℕ) (es : List Node) → find (slice_cmp nat_cmp) q (pairs es) ≡ Some v → (k : String Global) × (string_bytes k ≡ q)
key_of q v [] h = absurd cc
key_of q v (e ∷ es) h =
    elim (slice_cmp nat_cmp q (string_bytes e.0)) as (λ r. slice_cmp nat_cmp q (string_bytes e.0) ≡ r → cond (is_eq r) (Some e.1) (find (slice_cmp nat_cmp) q (pairs es)) ≡ Some v → (k : String Global) × (string_bytes k ≡ q)) [
      | Less ↦ λ p found. key_of q v es found
      | Equal ↦ λ p found. (e.0, sym (exact q (string_bytes e.0) p))
      | Greater ↦ λ p found. key_of q v es found
    ] refl h

-- lists in order in which the same is found are equal
same_pairs : (es fs : List Node) → T (is_sorted (slice_cmp nat_cmp) (pairs es)) → T (is_sorted (slice_cmp nat_cmp) (pairs fs)) → ((k : String Global) → lookup (tree.is_at (string_cmp k)) es ≡ lookup (tree.is_at (string_cmp k)) fs)
    → pairs es ≡ pairs fs
same_pairs es fs left right same = same_entries (slice_cmp nat_cmp) nat_list_cmp_total exact (pairs es) (pairs fs) left right (λ q. agree q (find (slice_cmp nat_cmp) q (pairs es)) (find (slice_cmp nat_cmp) q (pairs fs)) refl refl)
  where
    at : (k : String Global) (q : List ℕ) → string_bytes k ≡ q → find (slice_cmp nat_cmp) q (pairs es) ≡ find (slice_cmp nat_cmp) q (pairs fs)
    at k q is = subst (λ p. find (slice_cmp nat_cmp) p (pairs es) ≡ find (slice_cmp nat_cmp) p (pairs fs)) is (sym (find-pairs (string_bytes k) es) ∙ same k ∙ find-pairs (string_bytes k) fs)

    agree : (q : List ℕ) (a b : Option (List ℕ)) → find (slice_cmp nat_cmp) q (pairs es) ≡ a → find (slice_cmp nat_cmp) q (pairs fs) ≡ b → find (slice_cmp nat_cmp) q (pairs es) ≡ find (slice_cmp nat_cmp) q (pairs fs)
    agree q None None x y = x ∙ sym y
    agree q (Some v) b x y = let k = key_of q v es x in at k.0 q k.1
    agree q None (Some w) x y = let k = key_of q w fs y in at k.0 q k.1

all_above : (x : String Global) (es : List Node) → T (below_all (slice_cmp nat_cmp) (string_bytes x) (pairs es)) → AllByRecursion (λ y. string_cmp x y ≡ Less) (keys_of es)
all_above x [] h = tt
all_above x (e ∷ es) h = (less _ (first _ _ h), all_above x es (second _ _ h))

ascends : (es : List Node) → T (is_sorted (slice_cmp nat_cmp) (pairs es)) → IsStrictlySortedBy string_cmp (keys_of es)
unfolding IsStrictlySortedBy
ascends [] h = tt
ascends (e ∷ es) h = (all_above e.0 es (first _ _ h), ascends es (second _ _ h))

-- a tree that is made of entries in order has these entries
pub pairs-made : (es : List Node) (n : BTreeMap (String Global) (List ℕ)) → T (is_sorted (slice_cmp nat_cmp) (pairs es)) → tree.IsFromIterResult string_cmp es n → pairs n.entries ≡ pairs es
pairs-made es n sorted h =
    same_pairs n.entries es (is_sorted-pairs n.entries h.1) sorted (λ k. h.0 k ∙ update_all_none (eq_by_cmp_equiv string_cmp_total) (eq_by_cmp string_cmp) (λ x y. refl) es k (IsDistinct-from_sorted string_cmp (keys_of es) (ascends es sorted)))

pub same_kept : (es fs : List Node) (size : ℕ) → pairs es ≡ pairs fs → IsKept fs size → IsKept es size
same_kept es fs size same h =
    record { sorted = subst (λ ps. T (is_sorted (slice_cmp nat_cmp) ps)) (sym same) h.sorted; each = subst (AllByRecursion IsPair) (sym same) h.each; sum = h.sum ∙ ap (λ ps. 4 + size_of ps) (sym same); most = h.most }

pub same_map_kept : (es fs : List Node) → pairs es ≡ pairs fs → kept_map es ≡ kept_map fs
unfolding kept_map
same_map_kept es fs same = rw same refl

-- ---- an entry whose key is above all others

abbrev pub IsBelow : List ℕ → List Entry → Type 0
IsBelow k es = AllByRecursion (λ e. slice_cmp nat_cmp e.0 k ≡ Less) es

pairs-last : (es : List Node) (k : String Global) (v : List ℕ) → pairs (es ++ (k, v) ∷ []) ≡ pairs es ++ (string_bytes k, v) ∷ []
pairs-last es k v = map-append _ es ((k, v) ∷ [])

entries-last : (es : List Node) (k : String Global) (v : List ℕ) → T (is_sorted (slice_cmp nat_cmp) (pairs es)) → IsBelow (string_bytes k) (entries (kept_map es)) → entries (insert (kept_map es) (string_bytes k) v) ≡ pairs (es ++ (k, v) ∷ [])
entries-last es k v sorted below =
    entries-insert nat_list_cmp_total (kept_map es) (string_bytes k) v ∙ put_above (entries (kept_map es)) (string_bytes k) v below ∙ ap (λ (ps : List Entry). ps ++ (string_bytes k, v) ∷ []) (entries-kept_map es sorted) ∙ sym (pairs-last es k v)

sorted-last : (es : List Node) (k : String Global) (v : List ℕ) → T (is_sorted (slice_cmp nat_cmp) (pairs es)) → IsBelow (string_bytes k) (entries (kept_map es)) → T (is_sorted (slice_cmp nat_cmp) (pairs (es ++ (k, v) ∷ [])))
sorted-last es k v sorted below = subst (λ ps. T (is_sorted (slice_cmp nat_cmp) ps)) (entries-last es k v sorted below) (entries_sorted (insert (kept_map es) (string_bytes k) v))

pub inserted_last : (es : List Node) (k : String Global) (v : List ℕ) → T (is_sorted (slice_cmp nat_cmp) (pairs es)) → IsBelow (string_bytes k) (entries (kept_map es)) → kept_map (es ++ (k, v) ∷ []) ≡ insert (kept_map es) (string_bytes k) v
inserted_last es k v sorted below = same_entries_map _ _ (entries-kept_map (es ++ (k, v) ∷ []) (sorted-last es k v sorted below) ∙ sym (entries-last es k v sorted below))

each-last : (e : Entry) (es : List Entry) → IsPair e → AllByRecursion IsPair es → AllByRecursion IsPair (es ++ e ∷ [])
each-last e [] new h = (new, tt)
each-last e (x ∷ es) new h = (h.0, each-last e es new h.1)

size_of-last : (e : Entry) (es : List Entry) → size_of (es ++ e ∷ []) ≡ size_of es + entry_size e
size_of-last e [] = omega arith
size_of-last e (x ∷ es) = omega (arith, size_of-last e es)

pub kept_last : (es : List Node) (k : String Global) (v : List ℕ) (size now : ℕ) → IsKept es size → IsPair (string_bytes k, v) → IsBelow (string_bytes k) (entries (kept_map es)) → now ≡ size + entry_size (string_bytes k, v) → now ≤ 2 ^ 62
    → IsKept (es ++ (k, v) ∷ []) now
kept_last es k v size now h new below grows few =
    let same = pairs-last es k v in
    record {
      sorted = sorted-last es k v h.sorted below;
      each = subst (AllByRecursion IsPair) (sym same) (each-last (string_bytes k, v) (pairs es) new h.each);
      sum = let sums = size_of-last (string_bytes k, v) (pairs es) in let all = ap size_of same in omega (arith, sums, all, grows, h.sum);
      most = few;
    }

-- The map that a tree of texts represents.
use Rattle.std.proofs.Common.{◌≡◌, ℕ, ◌+◌, ◌<◌, ◌≤◌, ◌^◌, List, [], ◌∷◌, ◌++◌, length, map, slice_get, option_map, cond, leb, ◌&&◌, Option, Some, None, Less, Equal, Greater, String, Global, BTreeMap, string_bytes, string_cmp, nat_cmp, is_eq, bytes_eq, T, IsTrue, refl, sym, ap, subst, ◌∙◌, arith}
use Rattle.std.specs.Cmp.Lexicographic.{slice_cmp, nat_list_cmp_total}
use Rattle.std.specs.Cmp.{eq_by_cmp_equiv}
use Rattle.std.specs.List.{AllByRecursion, list_all}
use Rattle.std.specs.Str.{IsUtf8}
use Rattle.mon_bytes.specs.Texts.{graphic, is_name}
use Rattle.mon_bytes.proofs.Ascii.{IsUtf8-graphic, both}
use Rattle.std.specs.Map.{lookup, keys_of}
use Rattle.std.specs.Ordering.{eq_by_cmp}
use Rattle.std.specs.BTreeMap as tree
use Rattle.std.specs.FinMap.{get, keys, entries, insert, remove, empty, empty_of_len, find, is_sorted, IsAntisymmetric, slice_cmp-IsAntisymmetric, nat_cmp-IsAntisymmetric, entries-from_sorted, entries_sorted, entries-insert, get-entries, get-from_sorted, get-insert, get-remove, len-entries, same_map}
use Rattle.std.proofs.lemmas.Map.Text.{btree_map_updates_text, is_eq-slice_cmp}
use Rattle.std.proofs.lemmas.List.{append-nil}
use Rattle.std.proofs.lemmas.Option.{slice_get-map}
use Rattle.map_kv.specs.Map.{Kv}
use Rattle.map_kv.specs.Text.{map_text, EntryFits, IsShort, MapFits, MapIsShort}
use Rattle.map_kv.specs.Kept.{pairs, kept_map, size_of, entry_size, held, IsPair, IsKept}
use Rattle.map_kv.proofs.Lengths.{length-map_text}
use Rattle.map_kv.proofs.Pairs.{Node, is_sorted-pairs, find-pairs, size_of-put}

pub entries-kept_map : (es : List Node) → T (is_sorted (slice_cmp nat_cmp) (pairs es)) → entries (kept_map es) ≡ pairs es
unfolding kept_map
entries-kept_map es h = entries-from_sorted (slice_cmp nat_cmp) (pairs es) h

pub get-kept_map : (es : List Node) (q : List ℕ) → T (is_sorted (slice_cmp nat_cmp) (pairs es)) → get (kept_map es) q ≡ lookup (tree.is_at (λ k. slice_cmp nat_cmp q (string_bytes k))) es
unfolding kept_map
get-kept_map es q h = get-from_sorted (slice_cmp nat_cmp) (pairs es) q h ∙ sym (find-pairs q es)

exact : IsAntisymmetric (slice_cmp nat_cmp)
exact = slice_cmp-IsAntisymmetric nat_cmp-IsAntisymmetric

abbrev Tree : Type 0
Tree = BTreeMap (String Global) (List ℕ)

at_key : (k q : List ℕ) → bytes_eq k q ≡ eq_by_cmp (slice_cmp nat_cmp) q k
at_key k q = sym (is_eq-slice_cmp k q) ∙ (eq_by_cmp_equiv nat_list_cmp_total).symm k q

updated : (k : List ℕ) (old new : Tree) (w : Option (List ℕ)) → T (is_sorted (slice_cmp nat_cmp) (pairs old.entries)) → tree.IsOrdered string_cmp new → tree.UpdatesBy string_cmp (λ s. slice_cmp nat_cmp k (string_bytes s)) old new w
    → (q : List ℕ) → get (kept_map new.entries) q ≡ cond (eq_by_cmp (slice_cmp nat_cmp) q k) w (get (kept_map old.entries) q)
updated k old new w before after h q =
    get-kept_map new.entries q (is_sorted-pairs new.entries after) ∙ btree_map_updates_text k old new w h q ∙ ap (λ b. cond b w (tree.get_by_text old q)) (at_key k q)
    ∙ ap (cond (eq_by_cmp (slice_cmp nat_cmp) q k) w) (sym (get-kept_map old.entries q before))

pub inserted : (k v : List ℕ) (old new : Tree) → T (is_sorted (slice_cmp nat_cmp) (pairs old.entries)) → tree.IsOrdered string_cmp new → tree.UpdatesBy string_cmp (λ s. slice_cmp nat_cmp k (string_bytes s)) old new (Some v)
    → kept_map new.entries ≡ insert (kept_map old.entries) k v
inserted k v old new before after h = same_map nat_list_cmp_total exact _ _ (λ q. updated k old new (Some v) before after h q ∙ sym (get-insert nat_list_cmp_total (kept_map old.entries) k v q))

pub removed : (k : List ℕ) (old new : Tree) → T (is_sorted (slice_cmp nat_cmp) (pairs old.entries)) → tree.IsOrdered string_cmp new → tree.UpdatesBy string_cmp (λ s. slice_cmp nat_cmp k (string_bytes s)) old new None
    → kept_map new.entries ≡ remove (kept_map old.entries) k
removed k old new before after h = same_map nat_list_cmp_total exact _ _ (λ q. updated k old new None before after h q ∙ sym (get-remove nat_list_cmp_total (kept_map old.entries) k q))

pub none_kept : (es : List Node) → es ≡ [] → kept_map es ≡ empty
none_kept es none = rw none (empty_of_len (kept_map []) (len-entries (kept_map []) ∙ ap length (entries-kept_map [] tt)))

-- the texts of a tree, in order, are the entries of the map
pub same_entries : (es : List Node) (size : ℕ) (m : Kv) → IsKept es size → kept_map es ≡ m → pairs es ≡ entries m
same_entries es size m h is = sym (entries-kept_map es h.sorted) ∙ ap entries is

pub kept_size : (es : List Node) (m : Kv) → T (is_sorted (slice_cmp nat_cmp) (pairs es)) → kept_map es ≡ m → length (map_text m) ≡ 4 + size_of (pairs es)
kept_size es m h is = length-map_text m ∙ ap (λ (ps : List (List ℕ × List ℕ)). 4 + size_of ps) (ap entries (sym is) ∙ entries-kept_map es h)

pub length-inserted : (m : Kv) (k v : List ℕ) → length (map_text (insert m k v)) + held k (get m k) ≡ length (map_text m) + entry_size (k, v)
length-inserted m k v =
    let grows = size_of-put k v (entries m) (entries_sorted m) in
    let after = ap size_of (entries-insert nat_list_cmp_total m k v) in
    let before = ap (held k) (get-entries m k) in
    omega (arith, grows, after, before, length-map_text m, length-map_text (insert m k v))

pub size_is : (es : List Node) (size : ℕ) (m : Kv) → IsKept es size → kept_map es ≡ m → size ≡ length (map_text m)
size_is es size m h is = h.sum ∙ sym (kept_size es m h.sorted is)

IsUtf8-name : (q : List ℕ) → IsTrue (is_name q) → IsUtf8 q
IsUtf8-name q h = IsUtf8-graphic q (both (leb 1 (length q) && leb (length q) 255) (list_all graphic q) h).1

not_found : (q : List ℕ) (es : List Node) → AllByRecursion IsPair (pairs es) → ¬ (IsUtf8 q) → find (slice_cmp nat_cmp) q (pairs es) ≡ None
not_found q [] each odd = refl
not_found q (e ∷ es) each odd =
    elim (slice_cmp nat_cmp q (string_bytes e.0)) as (λ r. slice_cmp nat_cmp q (string_bytes e.0) ≡ r → cond (is_eq r) (Some e.1) (find (slice_cmp nat_cmp) q (pairs es)) ≡ None) [
      | Less ↦ λ p. not_found q es each.1 odd
      | Equal ↦ λ p. absurd (odd (subst IsUtf8 (sym (exact q (string_bytes e.0) p)) (IsUtf8-name (string_bytes e.0) each.0.0)))
      | Greater ↦ λ p. not_found q es each.1 odd
    ] refl

-- bytes that aren't UTF-8 are no key
pub no_text : (q : List ℕ) (es : List Node) (size : ℕ) (m : Kv) → IsKept es size → kept_map es ≡ m → ¬ (IsUtf8 q) → get m q ≡ None
no_text q es size m h is odd = get-entries m q ∙ ap (find (slice_cmp nat_cmp) q) (sym (same_entries es size m h is)) ∙ not_found q es h.each odd

-- what the tree finds is what the map has
pub found : (q : List ℕ) (es : List Node) (size : ℕ) (m : Kv) → IsKept es size → kept_map es ≡ m → lookup (tree.is_at (λ k. slice_cmp nat_cmp q (string_bytes k))) es ≡ get m q
found q es size m h is = sym (get-kept_map es q h.sorted) ∙ ap (λ n. get n q) is

keys-pairs : (es : List Node) → map (λ e. e.0) (pairs es) ≡ map string_bytes (keys_of es)
keys-pairs [] = refl
keys-pairs (e ∷ es) = ap (λ (ks : List (List ℕ)). string_bytes e.0 ∷ ks) (keys-pairs es)

pub key_at : (es : List Node) (size : ℕ) (m : Kv) (i : ℕ) (k : Option (String Global)) → IsKept es size → kept_map es ≡ m → k ≡ slice_get (keys_of es) i → option_map string_bytes k ≡ slice_get (keys m) i
key_at es size m i k h is at =
    ap (option_map string_bytes) at ∙ sym (slice_get-map string_bytes (keys_of es) i) ∙ ap (λ (ks : List (List ℕ)). slice_get ks i) (sym (keys-pairs es) ∙ ap (map (λ e. e.0)) (same_entries es size m h is))

-- entries that were copied one after the other
pub all_copied : (done rest all : List Node) → rest ≡ [] → pairs done ++ pairs rest ≡ pairs all → pairs done ≡ pairs all
all_copied done rest all none same = sym (append-nil (pairs done)) ∙ ap (λ (es : List Node). pairs done ++ pairs es) (sym none) ∙ same

shorter : (n : ℕ) (es : List (List ℕ × List ℕ)) → size_of es < n → AllByRecursion (λ e. length e.1 < n) es
shorter n [] h = tt
shorter n (e ∷ es) h = (omega arith, shorter n es (omega arith))

counted : (es : List (List ℕ × List ℕ)) → length es ≤ size_of es
counted [] = omega arith
counted (e ∷ es) = omega (arith, counted es)

-- a map whose text has fewer than 2 ^ 32 bytes
pub is_short : (m : Kv) → length (map_text m) < 2 ^ 32 → MapIsShort m
is_short m h =
    let small : size_of (entries m) < 2 ^ 32 = omega (arith, h, length-map_text m) in
    record { each = shorter (2 ^ 32) (entries m) small; count = omega (arith, len-entries m, counted (entries m), small) }

each_fits : (es : List (List ℕ × List ℕ)) → AllByRecursion IsPair es → AllByRecursion IsShort es → AllByRecursion EntryFits es
each_fits [] pair short = tt
each_fits (e ∷ es) pair short = ((pair.0.0, pair.0.1, short.0), each_fits es pair.1 short.1)

pub fits : (es : List Node) (size : ℕ) (m : Kv) → IsKept es size → kept_map es ≡ m → MapIsShort m → MapFits m
fits es size m h is short = record { each = each_fits (entries m) (subst (AllByRecursion IsPair) (same_entries es size m h is) h.each) short.each; count = short.count }

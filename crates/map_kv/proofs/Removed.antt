-- How long the map's text is without a key.
use Rattle.std.proofs.Common.{◌≡◌, ℕ, ◌+◌, Bool, true, false, cond, List, length, nat_cmp, Option, Some, None, refl, ap, ◌∙◌, arith}
use Rattle.std.specs.Cmp.{eq_by_cmp_equiv, Equal-is}
use Rattle.std.specs.Cmp.Lexicographic.{slice_cmp, nat_list_cmp_total}
use Rattle.std.specs.FinMap.{get, insert, remove, get-insert, get-remove, same_map, IsAntisymmetric, slice_cmp-IsAntisymmetric, nat_cmp-IsAntisymmetric}
use Rattle.std.specs.Ordering.{eq_by_cmp}
use Rattle.map_kv.specs.Kept.{held}
use Rattle.map_kv.specs.Map.{Kv}
use Rattle.map_kv.specs.Text.{map_text}
use Rattle.map_kv.proofs.Kept.{length-inserted}

exact : IsAntisymmetric (slice_cmp nat_cmp)
exact = slice_cmp-IsAntisymmetric nat_cmp-IsAntisymmetric

abbrev ties : List ℕ → List ℕ → Bool
ties = eq_by_cmp (slice_cmp nat_cmp)

ties_itself : (k : List ℕ) → ties k k ≡ true
ties_itself k = (eq_by_cmp_equiv nat_list_cmp_total).refl k

gone : (m : Kv) (k : List ℕ) → get (remove m k) k ≡ None
gone m k = get-remove nat_list_cmp_total m k k ∙ ap (λ b. cond b None (get m k)) (ties_itself k)

-- a key that isn't there can be taken away
none_gone : (m : Kv) (k : List ℕ) → get m k ≡ None → remove m k ≡ m
none_gone m k none = same_map nat_list_cmp_total exact (remove m k) m (λ q. get-remove nat_list_cmp_total m k q ∙ at q (ties q k) refl)
  where
    at : (q : List ℕ) (b : Bool) → ties q k ≡ b → cond b None (get m q) ≡ get m q
    at q true e = let same = exact q k ((Equal-is (slice_cmp nat_cmp q k)).0 e) in rw (same, none) refl
    at q false e = refl

-- a key that was taken away can be put back
put_back : (m : Kv) (k v : List ℕ) → get m k ≡ Some v → insert (remove m k) k v ≡ m
put_back m k v some =
    same_map nat_list_cmp_total exact (insert (remove m k) k v) m
    (λ q. get-insert nat_list_cmp_total (remove m k) k v q ∙ ap (cond (ties q k) (Some v)) (get-remove nat_list_cmp_total m k q) ∙ at q (ties q k) refl)
  where
    at : (q : List ℕ) (b : Bool) → ties q k ≡ b → cond b (Some v) (cond b None (get m q)) ≡ get m q
    at q true e = let same = exact q k ((Equal-is (slice_cmp nat_cmp q k)).0 e) in rw (same, some) refl
    at q false e = refl

pub length_removed : (m : Kv) (k : List ℕ) → length (map_text (remove m k)) + held k (get m k) ≡ length (map_text m)
length_removed m k = by (get m k) refl
  where
    by : (o : Option (List ℕ)) → get m k ≡ o → length (map_text (remove m k)) + held k o ≡ length (map_text m)
    by None e = omega (arith, ap (λ (n : Kv). length (map_text n)) (none_gone m k e))
    by (Some v) e =
        omega (arith, length-inserted (remove m k) k v, ap (λ (n : Kv). length (map_text n)) (put_back m k v e), ap (held k) (gone m k))

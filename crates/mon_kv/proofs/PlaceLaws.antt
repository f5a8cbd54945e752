-- The entries of the map of a tree of trees: their order and their size.
use Rattle.std.proofs.Common.{◌≡◌, ℕ, ◌+◌, true, ◌&&◌, T, List, [], ◌∷◌, ◌++◌, length, refl, sym, ap, subst, ◌∙◌, arith}
use Rattle.std.specs.declared.cmp.Ordering.TheVariants.{Less}
use Rattle.std.specs.List.{list_all, sum_by}
use Rattle.std.specs.Ordering.{is_lt, ordering_then}
use Rattle.std.specs.Cmp.{tied_itself}
use Rattle.std.specs.FinMap as finite
use Rattle.std.specs.FinMap.Entries.{is_sorted, below_all}
use Rattle.std.proofs.lemmas.Bool.{and_parts}
use Rattle.std.proofs.lemmas.List.Sums.{sum_by-cons, sum_by-append}
use Rattle.mon_bytes.specs.Texts.{is_prefix}
use Rattle.mon_tx.specs.Map.{Place, place_cmp}
use Rattle.mon_tx.proofs.Places.{places_total, exact_places}
use Rattle.mon_kv.specs.Tree.{bytes_cmp, entries}
use Rattle.mon_kv.specs.Areas.{Records, placed, places, store, is_area, area_size, areas_size, IsWhole}
use Rattle.mon_kv.specs.Readers.{entry_size, size_of}
use Rattle.mon_kv.specs.declared.tree.Tree.{Tree}
use Rattle.mon_kv.proofs.Forks.{total, is_less}

-- a place is below those of the same prefix with greater keys
below_placed : (p k : List ℕ) (es : List (List ℕ × List ℕ)) (ys : List (Place × List ℕ)) → below_all bytes_cmp k es ≡ true → below_all place_cmp (p, k) ys ≡ true → below_all place_cmp (p, k) (placed p es ++ ys) ≡ true
below_placed p k [] ys h y = y
below_placed p k (e ∷ es) ys h y =
    let parts = and_parts (is_lt (bytes_cmp k e.0)) (below_all bytes_cmp k es) h in
    ap (λ o. is_lt (ordering_then o (bytes_cmp k e.0)) && below_all place_cmp (p, k) (placed p es ++ ys)) (tied_itself total p) ∙ rw (parts.0, below_placed p k es ys parts.1 y) refl

-- and below those of greater prefixes
below_area : (p k x : List ℕ) (es : List (List ℕ × List ℕ)) (ys : List (Place × List ℕ)) → bytes_cmp p x ≡ Less → below_all place_cmp (p, k) ys ≡ true → below_all place_cmp (p, k) (placed x es ++ ys) ≡ true
below_area p k x [] ys h y = y
below_area p k x (e ∷ es) ys h y = ap (λ o. is_lt (ordering_then o (bytes_cmp k e.0)) && below_all place_cmp (p, k) (placed x es ++ ys)) h ∙ below_area p k x es ys h y

pub below_places : (p k : List ℕ) (areas : List (List ℕ × Records)) → below_all bytes_cmp p areas ≡ true → below_all place_cmp (p, k) (places areas) ≡ true
below_places p k [] h = refl
below_places p k (a ∷ areas) h =
    let parts = and_parts (is_lt (bytes_cmp p a.0)) (below_all bytes_cmp p areas) h in
    below_area p k a.0 (entries a.1) (places areas) (is_less _ parts.0) (below_places p k areas parts.1)

sorted_placed : (p : List ℕ) (es : List (List ℕ × List ℕ)) (ys : List (Place × List ℕ)) → is_sorted bytes_cmp es ≡ true → is_sorted place_cmp ys ≡ true → ((k : List ℕ) → below_all place_cmp (p, k) ys ≡ true) → is_sorted place_cmp (placed p es ++ ys) ≡ true
sorted_placed p [] ys h s y = s
sorted_placed p (e ∷ es) ys h s y =
    let parts = and_parts (below_all bytes_cmp e.0 es) (is_sorted bytes_cmp es) h in
    rw (below_placed p e.0 es ys parts.0 (y e.0), sorted_placed p es ys parts.1 s y) refl

sorted_places : (areas : List (List ℕ × Records)) → is_sorted bytes_cmp areas ≡ true → list_all is_area areas ≡ true → is_sorted place_cmp (places areas) ≡ true
sorted_places [] h w = refl
sorted_places (a ∷ areas) h w =
    let parts = and_parts (below_all bytes_cmp a.0 areas) (is_sorted bytes_cmp areas) h in
    let forms = and_parts (is_area a) (list_all is_area areas) w in
    let own = and_parts (is_prefix a.0 && is_sorted bytes_cmp (entries a.1)) _ forms.0 in
    sorted_placed a.0 (entries a.1) (places areas) (and_parts (is_prefix a.0) (is_sorted bytes_cmp (entries a.1)) own.0).1 (sorted_places areas parts.1 forms.1) (λ k. below_places a.0 k areas parts.0)

-- the map's entries in order are those of the trees
pub entries-store : (trees : Tree Records) → IsWhole trees → finite.entries (store trees) ≡ places (entries trees)
unfolding store
entries-store trees w =
    let es = places (entries trees) in
    let sorted : T (is_sorted place_cmp es) = subst T (sym (sorted_places (entries trees) w.in_order w.areas)) tt in
    ap finite.entries (finite.same_map places_total exact_places (finite.from_entries es) (finite.from_sorted es) (λ q. finite.get-from_entries places_total es q ∙ sym (finite.get-from_sorted place_cmp es q sorted)))
    ∙ finite.entries-from_sorted place_cmp es sorted

-- ---- their size
size_placed : (p : List ℕ) (es : List (List ℕ × List ℕ)) → sum_by entry_size (placed p es) ≡ area_size p es
size_placed p [] = refl
size_placed p (e ∷ es) =
    omega (arith, size_placed p es, sum_by-cons entry_size ((p, e.0), e.1) (placed p es), sum_by-cons (λ (x : List ℕ × List ℕ). length p + length x.0 + length x.1 + 16) e es)

size_places : (areas : List (List ℕ × Records)) → sum_by entry_size (places areas) ≡ areas_size areas
size_places [] = refl
size_places (a ∷ areas) =
    omega (arith, size_places areas, size_placed a.0 (entries a.1), sum_by-append entry_size (placed a.0 (entries a.1)) (places areas), sum_by-cons (λ (area : List ℕ × Records). area_size area.0 (entries area.1)) a areas)

pub size_of-store : (trees : Tree Records) → IsWhole trees → size_of (store trees) ≡ areas_size (entries trees)
unfolding size_of
size_of-store trees w = ap (sum_by entry_size) (entries-store trees w) ∙ size_places (entries trees)

-- What the map of a tree of trees holds, and what a change under one prefix makes of it.
use Rattle.std.proofs.Common.{◌≡◌, ℕ, Bool, true, false, cond, not, ◌&&◌, List, [], ◌∷◌, ◌++◌, Option, Some, None, refl, sym, ap, ◌∙◌}
use Rattle.std.specs.declared.cmp.Ordering.{Ordering}
use Rattle.std.specs.declared.cmp.Ordering.TheVariants.{Less, Equal, Greater}
use Rattle.std.specs.Ordering.{eq_by_cmp, is_eq}
use Rattle.std.specs.Str.{bytes_eq}
use Rattle.std.specs.Cmp.{tied_then}
use Rattle.std.specs.Cmp.Lexicographic.{texts_ties}
use Rattle.std.specs.FinMap.{get, insert, remove, retain_keys, empty, get-insert, get-remove, get-retain_keys, get-from_entries, same_map, slice_cmp-IsAntisymmetric, nat_cmp-IsAntisymmetric}
use Rattle.std.specs.FinMap.Entries.{find, put, where_key, is_sorted, below_all, find-put, find_tied, find-where_key}
use Rattle.std.proofs.lemmas.Bool.{and_parts}
use Rattle.mon_tx.specs.Map.{Place, place_cmp, is_within}
use Rattle.mon_tx.proofs.Places.{places_total, exact_places}
use Rattle.mon_kv.specs.Tree.{bytes_cmp, entries, IsInOrder}
use Rattle.mon_kv.specs.Areas.{Records, placed, places, store, under, IsWhole, Changes}
use Rattle.mon_kv.specs.declared.tree.Tree.{Tree}
use Rattle.mon_kv.proofs.Forks.{total, without, find_below}
use Rattle.mon_kv.proofs.AreaLaws.{find-without, area_sorted}

abbrev tie : List ℕ → List ℕ → Bool
tie = eq_by_cmp bytes_cmp

place_ties : (q p : Place) → eq_by_cmp place_cmp q p ≡ (tie q.0 p.0 && tie q.1 p.1)
place_ties q p = sym (tied_then (bytes_cmp q.0 p.0) (bytes_cmp q.1 p.1))

abbrev or_else : {A : Type 0} → Option A → Option A → Option A
or_else None d = d
or_else (Some x) d = Some x

find-append : (q : Place) (xs ys : List (Place × List ℕ)) → find place_cmp q (xs ++ ys) ≡ or_else (find place_cmp q xs) (find place_cmp q ys)
find-append q [] ys = refl
find-append q (x ∷ xs) ys = by (eq_by_cmp place_cmp q x.0) (find-append q xs ys)
  where
    by : (b : Bool) → find place_cmp q (xs ++ ys) ≡ or_else (find place_cmp q xs) (find place_cmp q ys) → cond b (Some x.1) (find place_cmp q (xs ++ ys)) ≡ or_else (cond b (Some x.1) (find place_cmp q xs)) (find place_cmp q ys)
    by true h = refl
    by false h = h

find-placed : (q : Place) (prefix : List ℕ) (es : List (List ℕ × List ℕ)) → find place_cmp q (placed prefix es) ≡ cond (tie q.0 prefix) (find bytes_cmp q.1 es) None
find-placed q prefix [] = by (tie q.0 prefix)
  where
    none : Option (List ℕ)
    none = None

    by : (b : Bool) → none ≡ cond b none none
    by true = refl
    by false = refl
find-placed q prefix (e ∷ es) = ap (λ b. cond b (Some e.1) (find place_cmp q (placed prefix es))) (place_ties q (prefix, e.0)) ∙ by (tie q.0 prefix) (find-placed q prefix es)
  where
    by : (b : Bool) → find place_cmp q (placed prefix es) ≡ cond b (find bytes_cmp q.1 es) None → cond (b && tie q.1 e.0) (Some e.1) (find place_cmp q (placed prefix es)) ≡ cond b (cond (tie q.1 e.0) (Some e.1) (find bytes_cmp q.1 es)) None
    by true h = ap (cond (tie q.1 e.0) (Some e.1)) h
    by false h = h

-- a key of the map is looked up by its prefix and then by the rest
find-places : (q : Place) (areas : List (List ℕ × Records)) → is_sorted bytes_cmp areas ≡ true → find place_cmp q (places areas) ≡ find bytes_cmp q.1 (under (find bytes_cmp q.0 areas))
find-places q [] h = refl
find-places q (a ∷ areas) h =
    find-append q (placed a.0 (entries a.1)) (places areas) ∙ ap (λ o. or_else o (find place_cmp q (places areas))) (find-placed q a.0 (entries a.1))
    ∙ by (bytes_cmp q.0 a.0) refl (find-places q areas parts.1)
  where
    parts : (below_all bytes_cmp a.0 areas ≡ true) × (is_sorted bytes_cmp areas ≡ true)
    parts = and_parts (below_all bytes_cmp a.0 areas) (is_sorted bytes_cmp areas) h

    all : (o : Option (List ℕ)) → or_else o None ≡ o
    all None = refl
    all (Some x) = refl

    by : (o : Ordering) → bytes_cmp q.0 a.0 ≡ o → find place_cmp q (places areas) ≡ find bytes_cmp q.1 (under (find bytes_cmp q.0 areas)) → or_else (cond (is_eq o) (find bytes_cmp q.1 (entries a.1)) None) (find place_cmp q (places areas)) ≡ find bytes_cmp q.1 (under (cond (is_eq o) (Some a.1) (find bytes_cmp q.0 areas)))
    by Less e r = r
    by Equal e r = ap (or_else (find bytes_cmp q.1 (entries a.1))) (r ∙ ap (λ o. find bytes_cmp q.1 (under o)) (find_below q.0 a.0 areas e parts.0)) ∙ all (find bytes_cmp q.1 (entries a.1))
    by Greater e r = r

pub get-store : (trees : Tree Records) (q : Place) → IsInOrder trees → get (store trees) q ≡ find bytes_cmp q.1 (under (find bytes_cmp q.0 (entries trees)))
unfolding store
get-store trees q h = get-from_entries places_total (places (entries trees)) q ∙ find-places q (entries trees) h

pub store-none : store Rattle.mon_kv.specs.declared.tree.Tree.Leaf ≡ empty
unfolding store
store-none = refl

-- a look-up by prefix and then by key
pub get_some : (trees : Tree Records) (prefix key : List ℕ) (records : Records) (v : Option (List ℕ)) → IsWhole trees → Some records ≡ find bytes_cmp prefix (entries trees) → (IsInOrder records → v ≡ find bytes_cmp key (entries records)) → v ≡ get (store trees) (prefix, key)
get_some trees prefix key records v w e f =
    f (ap (λ o. is_sorted bytes_cmp (under o)) e ∙ area_sorted prefix (entries trees) w.areas) ∙ ap (λ o. find bytes_cmp key (under o)) e ∙ sym (get-store trees (prefix, key) w.in_order)

pub get_none : (trees : Tree Records) (prefix key : List ℕ) → IsWhole trees → None ≡ find bytes_cmp prefix (entries trees) → None ≡ get (store trees) (prefix, key)
get_none trees prefix key w e = ap (λ o. find bytes_cmp key (under o)) e ∙ sym (get-store trees (prefix, key) w.in_order)

-- ---- a change under one prefix, as the map sees it
module _ (old new : Tree Records) (prefix : List ℕ) (es : List (List ℕ × List ℕ)) (w : IsWhole old) (c : Changes old new prefix es) where
  get-changed : (q : Place) → get (store new) q ≡ cond (tie q.0 prefix) (find bytes_cmp q.1 es) (get (store old) q)
  get-changed q =
      get-store new q c.whole.in_order ∙ ap (find bytes_cmp q.1) (c.at q.0) ∙ by (tie q.0 prefix) ∙ ap (cond (tie q.0 prefix) (find bytes_cmp q.1 es)) (sym (get-store old q w.in_order))
    where
      by : (b : Bool) → find bytes_cmp q.1 (cond b es (under (find bytes_cmp q.0 (entries old)))) ≡ cond b (find bytes_cmp q.1 es) (find bytes_cmp q.1 (under (find bytes_cmp q.0 (entries old))))
      by true = refl
      by false = refl

  -- at the prefix that changes, the old map is what was there
  at_prefix : (q : Place) → bytes_cmp q.0 prefix ≡ Equal → get (store old) q ≡ find bytes_cmp q.1 (under (find bytes_cmp prefix (entries old)))
  at_prefix q e = get-store old q w.in_order ∙ ap (λ o. find bytes_cmp q.1 (under o)) (sym (find_tied bytes_cmp total q.0 prefix e (entries old)))

-- ---- what each change makes of the map
module _ (old new : Tree Records) (prefix : List ℕ) (w : IsWhole old) where
  abbrev before : List (List ℕ × List ℕ)
  before = under (find bytes_cmp prefix (entries old))

  pub store-put : (k v : List ℕ) → Changes old new prefix (put bytes_cmp k v before) → store new ≡ insert (store old) (prefix, k) v
  store-put k v c = same_map places_total exact_places _ _ (λ q.
      get-changed old new prefix _ w c q ∙ by q (bytes_cmp q.0 prefix) refl ∙ ap (λ b. cond b (Some v) (get (store old) q)) (sym (place_ties q (prefix, k)))
      ∙ sym (get-insert places_total (store old) (prefix, k) v q))
    where
      by : (q : Place) (o : Ordering) → bytes_cmp q.0 prefix ≡ o → cond (is_eq o) (find bytes_cmp q.1 (put bytes_cmp k v before)) (get (store old) q) ≡ cond (is_eq o && tie q.1 k) (Some v) (get (store old) q)
      by q Less e = refl
      by q Equal e = find-put bytes_cmp total q.1 k v before ∙ ap (cond (tie q.1 k) (Some v)) (sym (at_prefix old new prefix _ w c q e))
      by q Greater e = refl

  pub store-remove : (k : List ℕ) → Changes old new prefix (without k before) → store new ≡ remove (store old) (prefix, k)
  store-remove k c = same_map places_total exact_places _ _ (λ q.
      get-changed old new prefix _ w c q ∙ by q (bytes_cmp q.0 prefix) refl ∙ ap (λ b. cond b None (get (store old) q)) (sym (place_ties q (prefix, k)))
      ∙ sym (get-remove places_total (store old) (prefix, k) q))
    where
      by : (q : Place) (o : Ordering) → bytes_cmp q.0 prefix ≡ o → cond (is_eq o) (find bytes_cmp q.1 (without k before)) (get (store old) q) ≡ cond (is_eq o && tie q.1 k) None (get (store old) q)
      by q Less e = refl
      by q Equal e = find-without q.1 k before ∙ ap (cond (tie q.1 k) None) (sym (at_prefix old new prefix _ w c q e))
      by q Greater e = refl

  -- a test of the places under the prefix
  store-where : (p : List ℕ → Bool) (es : List (List ℕ × List ℕ)) → Changes old new prefix es → ((q : List ℕ) → find bytes_cmp q es ≡ cond (p q) None (find bytes_cmp q before)) → store new ≡ retain_keys (store old) (λ place. not (bytes_eq place.0 prefix && p place.1))
  store-where p es c found = same_map places_total exact_places _ _ (λ q.
      get-changed old new prefix es w c q ∙ by q (bytes_cmp q.0 prefix) refl ∙ ap (λ b. cond (not (b && p q.1)) (get (store old) q) None) (sym (texts_ties q.0 prefix))
      ∙ sym (get-retain_keys (store old) (λ place. not (bytes_eq place.0 prefix && p place.1)) q (λ x e. ap (λ (place : Place). not (bytes_eq place.0 prefix && p place.1)) (sym (exact_places q x e)))))
    where
      turned : (b : Bool) (o : Option (List ℕ)) → cond b None o ≡ cond (not b) o None
      turned true o = refl
      turned false o = refl

      by : (q : Place) (o : Ordering) → bytes_cmp q.0 prefix ≡ o → cond (is_eq o) (find bytes_cmp q.1 es) (get (store old) q) ≡ cond (not (is_eq o && p q.1)) (get (store old) q) None
      by q Less e = refl
      by q Equal e = found q.1 ∙ ap (cond (p q.1) None) (sym (at_prefix old new prefix es w c q e)) ∙ turned (p q.1) (get (store old) q)
      by q Greater e = refl

  pub store-without_prefix : Changes old new prefix [] → store new ≡ retain_keys (store old) (λ place. not (bytes_eq place.0 prefix))
  store-without_prefix c = store-where (λ _. true) [] c (λ q. refl) ∙ ap (retain_keys (store old)) (λ i place. not (all (bytes_eq place.0 prefix) i))
    where
      all : (b : Bool) → (b && true) ≡ b
      all true = refl
      all false = refl

  pub store-without_versions : (from to : ℕ) → Changes old new prefix (where_key bytes_cmp (λ x. not (is_within from to x)) before) → store new ≡ retain_keys (store old) (λ place. not (bytes_eq place.0 prefix && is_within from to place.1))
  store-without_versions from to c = store-where (is_within from to) _ c (λ q.
      find-where_key bytes_cmp (λ x. not (is_within from to x)) q (λ x e. ap (λ k. not (is_within from to k)) (sym (exact q x e))) before ∙ turned (is_within from to q) (find bytes_cmp q before))
    where
      exact : (x y : List ℕ) → bytes_cmp x y ≡ Equal → x ≡ y
      exact = slice_cmp-IsAntisymmetric nat_cmp-IsAntisymmetric

      turned : (b : Bool) (o : Option (List ℕ)) → cond (not b) o None ≡ cond b None o
      turned true o = refl
      turned false o = refl

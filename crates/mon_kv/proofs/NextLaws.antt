-- The entries above a place, at a fork of the tree of prefixes.
use Rattle.std.proofs.Common.{◌≡◌, ℕ, Bool, true, false, cond, not, List, [], ◌∷◌, ◌++◌, Option, Some, None, refl, sym, ap, subst, ◌∙◌, append_assoc}
use Rattle.std.specs.declared.cmp.Ordering.{Ordering}
use Rattle.std.specs.declared.cmp.Ordering.TheVariants.{Less, Equal, Greater}
use Rattle.std.specs.List.{filter, list_all}
use Rattle.std.specs.Option.{option_map, IfSome}
use Rattle.std.specs.Ordering.{is_lt, ordering_then}
use Rattle.std.specs.FinMap.Entries.{is_sorted}
use Rattle.std.proofs.lemmas.Bool.{and_parts}
use Rattle.std.proofs.lemmas.List.Elements.{filter-append}
use Rattle.std.proofs.lemmas.List.Folds.{list_all-append}
use Rattle.mon_bytes.specs.Texts.{is_prefix}
use Rattle.mon_tx.specs.Map.{Place}
use Rattle.mon_kv.specs.Tree.{bytes_cmp, entries, is_empty, first, above}
use Rattle.mon_kv.specs.Areas.{Records, at_prefix, placed, places, is_area, IsWhole}
use Rattle.mon_kv.specs.Readers.{after, found_of}
use Rattle.mon_kv.specs.declared.next.Found.{Found}
use Rattle.mon_kv.specs.declared.tree.Tree.{Tree}
use Rattle.mon_kv.proofs.Forks.{AllUnder, IsApart, apart_of, under_tied, under_trans, or_first, first-append}

places-append : (xs ys : List (List ℕ × Records)) → places (xs ++ ys) ≡ places xs ++ places ys
places-append [] ys = refl
places-append (x ∷ xs) ys = ap (λ es. placed x.0 (entries x.1) ++ es) (places-append xs ys) ∙ sym (append_assoc (placed x.0 (entries x.1)) (places xs) (places ys))

abbrev step : (p k x : List ℕ) (e : List ℕ × List ℕ) (es : List (List ℕ × List ℕ)) → Ordering → List (Place × List ℕ)
step p k x e es o = cond (is_lt (ordering_then o (bytes_cmp k e.0))) (((x, e.0), e.1) ∷ after (p, k) (placed x es)) (after (p, k) (placed x es))

after_less : (p k x : List ℕ) (es : List (List ℕ × List ℕ)) → bytes_cmp p x ≡ Less → after (p, k) (placed x es) ≡ placed x es
after_less p k x [] h = refl
after_less p k x (e ∷ es) h = ap (step p k x e es) h ∙ ap (λ ys. ((x, e.0), e.1) ∷ ys) (after_less p k x es h)

after_greater : (p k x : List ℕ) (es : List (List ℕ × List ℕ)) → bytes_cmp p x ≡ Greater → after (p, k) (placed x es) ≡ []
after_greater p k x [] h = refl
after_greater p k x (e ∷ es) h = ap (step p k x e es) h ∙ after_greater p k x es h

after_equal : (p k x : List ℕ) (es : List (List ℕ × List ℕ)) → bytes_cmp p x ≡ Equal → after (p, k) (placed x es) ≡ placed x (above k es)
after_equal p k x [] h = refl
after_equal p k x (e ∷ es) h = ap (step p k x e es) h ∙ by (is_lt (bytes_cmp k e.0)) (after_equal p k x es h)
  where
    by : (b : Bool) → after (p, k) (placed x es) ≡ placed x (above k es) → cond b (((x, e.0), e.1) ∷ after (p, k) (placed x es)) (after (p, k) (placed x es)) ≡ placed x (cond b (e ∷ above k es) (above k es))
    by true r = ap (λ ys. ((x, e.0), e.1) ∷ ys) r
    by false r = r

after_under : (p k : List ℕ) (areas : List (List ℕ × Records)) → AllUnder p areas → after (p, k) (places areas) ≡ []
after_under p k [] h = refl
after_under p k (a ∷ areas) h = filter-append _ (placed a.0 (entries a.1)) (places areas) ∙ ap (λ ys. ys ++ after (p, k) (places areas)) (after_greater p k a.0 (entries a.1) h.0) ∙ after_under p k areas h.1

first_placed : (x : List ℕ) (es : List (List ℕ × List ℕ)) → first (placed x es) ≡ at_prefix x (first es)
first_placed x [] = refl
first_placed x (e ∷ es) = refl

first_some : (x : List ℕ) (es : List (List ℕ × List ℕ)) (o : Option (Place × List ℕ)) → is_empty es ≡ false → or_first (at_prefix x (first es)) o ≡ at_prefix x (first es)
first_some x [] o h = absurd cc
first_some x (e ∷ es) o h = refl

module _ (p k : List ℕ) (d left right : Tree Records) (m : List ℕ × Records) (is : entries d ≡ entries left ++ m ∷ entries right) (w : IsWhole d) where
  sides : IsApart (entries left) m (entries right)
  sides = apart_of _ _ _ (subst (λ es. is_sorted bytes_cmp es ≡ true) is w.in_order)

  forms : (list_all is_area (entries left) ≡ true) × (list_all is_area (m ∷ entries right) ≡ true)
  forms = and_parts (list_all is_area (entries left)) (list_all is_area (m ∷ entries right)) (sym (list_all-append is_area (entries left) (m ∷ entries right)) ∙ sym (ap (list_all is_area) is) ∙ w.areas)

  own : (is_area m ≡ true) × (list_all is_area (entries right) ≡ true)
  own = and_parts (is_area m) (list_all is_area (entries right)) forms.1

  pub left_whole : IsWhole left
  left_whole = record { in_order = sides.left; areas = forms.0 }

  pub right_whole : IsWhole right
  right_whole = record { in_order = sides.right; areas = own.1 }

  whole : first (after (p, k) (places (entries d))) ≡ or_first (first (after (p, k) (places (entries left)))) (or_first (first (after (p, k) (placed m.0 (entries m.1)))) (first (after (p, k) (places (entries right)))))
  whole = ap (λ es. first (after (p, k) es)) (ap places is ∙ places-append (entries left) (m ∷ entries right)) ∙ ap first (filter-append _ (places (entries left)) (placed m.0 (entries m.1) ++ places (entries right)))
      ∙ first-append _ _ ∙ ap (or_first (first (after (p, k) (places (entries left))))) (ap first (filter-append _ (placed m.0 (entries m.1)) (places (entries right))) ∙ first-append _ _)

  not_empty : is_empty (entries m.1) ≡ false
  not_empty = by (is_empty (entries m.1)) (and_parts _ (not (is_empty (entries m.1))) own.0).1
    where
      by : (b : Bool) → not b ≡ true → b ≡ false
      by true h = cc
      by false h = refl

  pub next_less : (found : Option (Place × List ℕ)) → bytes_cmp p m.0 ≡ Less → found ≡ first (after (p, k) (places (entries left))) → or_first found (at_prefix m.0 (first (entries m.1))) ≡ first (after (p, k) (places (entries d)))
  next_less found g h =
      ap (λ o. or_first o (at_prefix m.0 (first (entries m.1)))) h
      ∙ ap (or_first (first (after (p, k) (places (entries left))))) (sym (first_some m.0 (entries m.1) (first (after (p, k) (places (entries right)))) not_empty) ∙ ap (λ o. or_first o (first (after (p, k) (places (entries right))))) (sym (first_placed m.0 (entries m.1)) ∙ ap first (sym (after_less p k m.0 (entries m.1) g))))
      ∙ sym whole

  pub next_equal : (found : Option (List ℕ × List ℕ)) → bytes_cmp p m.0 ≡ Equal → found ≡ first (above k (entries m.1)) → or_first (at_prefix m.0 found) (first (after (p, k) (places (entries right)))) ≡ first (after (p, k) (places (entries d)))
  next_equal found g h =
      ap (λ o. or_first (at_prefix m.0 o) (first (after (p, k) (places (entries right))))) h
      ∙ ap (λ o. or_first o (first (after (p, k) (places (entries right))))) (sym (first_placed m.0 (above k (entries m.1))) ∙ ap first (sym (after_equal p k m.0 (entries m.1) g)))
      ∙ ap (λ es. or_first (first es) (or_first (first (after (p, k) (placed m.0 (entries m.1)))) (first (after (p, k) (places (entries right)))))) (sym (after_under p k (entries left) (under_tied p m.0 (entries left) g sides.under)))
      ∙ sym whole

  pub next_greater : bytes_cmp p m.0 ≡ Greater → first (after (p, k) (places (entries right))) ≡ first (after (p, k) (places (entries d)))
  next_greater g =
      ap (λ es. or_first (first es) (first (after (p, k) (places (entries right))))) (sym (after_greater p k m.0 (entries m.1) g))
      ∙ ap (λ es. or_first (first es) (or_first (first (after (p, k) (placed m.0 (entries m.1)))) (first (after (p, k) (places (entries right)))))) (sym (after_under p k (entries left) (under_trans p m.0 (entries left) g sides.under)))
      ∙ sym whole

  pub area_in_order : is_sorted bytes_cmp (entries m.1) ≡ true
  area_in_order = (and_parts _ (is_sorted bytes_cmp (entries m.1)) (and_parts _ (not (is_empty (entries m.1))) own.0).0).1

-- ---- the prefix of an entry that was found has its form
form_placed : (x : List ℕ) (es : List (List ℕ × List ℕ)) (ys : List (Place × List ℕ)) → is_prefix x ≡ true → list_all (λ (e : Place × List ℕ). is_prefix e.0.0) ys ≡ true → list_all (λ (e : Place × List ℕ). is_prefix e.0.0) (placed x es ++ ys) ≡ true
form_placed x [] ys p h = h
form_placed x (e ∷ es) ys p h = rw (p, form_placed x es ys p h) refl

form_places : (areas : List (List ℕ × Records)) → list_all is_area areas ≡ true → list_all (λ (e : Place × List ℕ). is_prefix e.0.0) (places areas) ≡ true
form_places [] h = refl
form_places (a ∷ areas) h =
    let parts = and_parts (is_area a) (list_all is_area areas) h in
    let own = and_parts (is_prefix a.0) (is_sorted bytes_cmp (entries a.1)) (and_parts _ (not (is_empty (entries a.1))) parts.0).0 in
    form_placed a.0 (entries a.1) (places areas) own.0 (form_places areas parts.1)

first_form : (q : Place × List ℕ → Bool) (es : List (Place × List ℕ)) → list_all (λ (e : Place × List ℕ). is_prefix e.0.0) es ≡ true → IfSome (first (filter q es)) (λ e. is_prefix e.0.0 ≡ true)
first_form q [] h = tt
first_form q (e ∷ es) h = by (q e) (first_form q es parts.1)
  where
    parts : (is_prefix e.0.0 ≡ true) × (list_all (λ (e : Place × List ℕ). is_prefix e.0.0) es ≡ true)
    parts = and_parts (is_prefix e.0.0) (list_all (λ (e : Place × List ℕ). is_prefix e.0.0) es) h

    by : (b : Bool) → IfSome (first (filter q es)) (λ e. is_prefix e.0.0 ≡ true) → IfSome (first (cond b (e ∷ filter q es) (filter q es))) (λ e. is_prefix e.0.0 ≡ true)
    by true r = parts.0
    by false r = r

pub found_form : (trees : Tree Records) (p k : List ℕ) → IsWhole trees → (found : Option Found) → option_map found_of found ≡ first (after (p, k) (places (entries trees))) → IfSome found (λ e. is_prefix e.prefix.now ≡ true)
found_form trees p k w None h = tt
found_form trees p k w (Some e) h = subst (λ o. IfSome o (λ e. is_prefix e.0.0 ≡ true)) (sym h) (first_form _ (places (entries trees)) (form_places (entries trees) w.areas))

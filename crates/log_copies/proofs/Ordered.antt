-- What is found in a prefix of a list of entries in order, and what the entries make of an empty map.
use Rattle.law_names.proofs.Table.{AllByRecursion, Decision, Entry, KeyPlace, Put, after_entries, apply, copy_changes, decided, decision, empty, encoded, find, get, is_after, is_sorted, later, or_before, place_cmp}
use Rattle.log_copies.proofs.Chunks.{between}
use Rattle.log_copies.proofs.Taken.{copies_put}
use Rattle.log_copies.specs.Copies.{is_past}
use Rattle.log_model.proofs.Lists.{all_front, all_map}
use Rattle.log_model.proofs.SharedEntries.{Pair, below_each}
use Rattle.map_kv.proofs.Pairs.{first, second}
use Rattle.mon_bytes.specs.declared.entry.KeyPlace.TheVariants as key_place
use Rattle.mon_tx.proofs.After.{get-apply}
use Rattle.mon_tx.proofs.Places.{exact_places, places_total}
use Rattle.mon_tx.specs.Map.{Place}
use Rattle.std.proofs.Common.{Bool, Equal, Greater, Less, List, None, Option, Some, T, [], ap, cond, false, map, not, refl, subst, sym, true, ℕ, ◌&&◌, ◌++◌, ◌∙◌, ◌∷◌, ◌≡◌}
use Rattle.std.specs.FinMap.{get-empty}
use Rattle.std.specs.Ordering.{eq_by_cmp, is_eq, is_lt, ordering_reverse}
use Rattle.std.specs.declared.cmp.Ordering.{Ordering}

abbrev pub entry_of : Pair → Entry
entry_of e = record { prefix = e.0.0; key = e.0.1; value = e.1 }

-- ---- places

pub past_entry : (x : KeyPlace) (e : Pair) → is_after x (entry_of e) ≡ is_past x e.0
past_entry key_place.Start e = refl
past_entry (key_place.After prefix k) e = refl
past_entry key_place.Done e = refl

is_less : (r : Ordering) → is_lt r ≡ true → r ≡ Less
is_less Less e = refl
is_less Equal e = absurd cc
is_less Greater e = absurd cc

pub past_up : (x : KeyPlace) (p q : Place) → is_past x p ≡ true → place_cmp p q ≡ Less → is_past x q ≡ true
past_up key_place.Start p q h lt = refl
past_up (key_place.After prefix k) p q h lt = ap is_lt (places_total.trans (prefix, k) p q (is_less (place_cmp (prefix, k) p) h) lt)
past_up key_place.Done p q h lt = absurd cc

not_itself : (p : Place) → is_lt (place_cmp p p) ≡ true → ⊥
not_itself p e = let a = is_less (place_cmp p p) e in let b = places_total.antisymm p p ∙ ap ordering_reverse a in let g : Less ≡ Greater = sym a ∙ b in cc

-- ---- entries after a place

abbrev pub AllPast : KeyPlace → List Pair → Type 0
AllPast x es = AllByRecursion (λ (e : Pair). is_past x e.0 ≡ true) es

pub all_at : {A : Type 0} (P : A → Type 0) (xs : List A) (y : A) (ys : List A) → AllByRecursion P (xs ++ y ∷ ys) → P y
all_at P [] y ys h = h.0
all_at P (x ∷ xs) y ys h = all_at P xs y ys h.1

-- those after the first of a list in order come after it
past_first : (f : Pair) (es : List Pair) → T (is_sorted place_cmp (f ∷ es)) → AllPast (key_place.After f.0.0 f.0.1) es
past_first f es h = all_map (λ (e : Pair). place_cmp f.0 e.0 ≡ Less) (λ (e : Pair). is_past (key_place.After f.0.0 f.0.1) e.0 ≡ true) (λ e lt. ap is_lt lt) es (below_each f.0 es (first _ _ h))

module _ (rest : List Pair) where
  -- the place after a prefix is not before the place where it begins
  pub onward : (fs : List Pair) (x : KeyPlace) → T (is_sorted place_cmp (fs ++ rest)) → AllPast x (fs ++ rest) → (at : Place) → is_past (after_entries (map entry_of fs) x) at ≡ true → is_past x at ≡ true
  onward [] x sorted past at h = h
  onward (f ∷ fs) x sorted past at h =
      let later = onward fs (key_place.After f.0.0 f.0.1) (second _ _ sorted) (past_first f (fs ++ rest) sorted) at h in
      past_up x f.0 at past.0 (is_less (place_cmp f.0 at) later)

  -- and the rest comes after it
  pub rest_past : (fs : List Pair) (x : KeyPlace) → T (is_sorted place_cmp (fs ++ rest)) → AllPast x (fs ++ rest) → AllPast (after_entries (map entry_of fs) x) rest
  rest_past [] x sorted past = past
  rest_past (f ∷ fs) x sorted past = rest_past fs (key_place.After f.0.0 f.0.1) (second _ _ sorted) (past_first f (fs ++ rest) sorted)

  none_below : (q : Place) (es : List Pair) → AllByRecursion (λ (e : Pair). place_cmp q e.0 ≡ Less) es → find place_cmp q es ≡ None
  none_below q [] h = refl
  none_below q (e ∷ es) h = ap (λ (r : Ordering). cond (is_eq r) (Some e.1) (find place_cmp q es)) h.0 ∙ none_below q es h.1

  nothing_between : (b : Bool) (c : Option (List ℕ)) → None ≡ cond (b && not b) c None
  nothing_between true c = refl
  nothing_between false c = refl

  none_in : (b : Bool) → None ≡ cond {A = Option (List ℕ)} b None None
  none_in true = refl
  none_in false = refl

  -- what is found in a prefix is what is found in the whole list, between the two places
  pub find_front : (fs : List Pair) (x : KeyPlace) → T (is_sorted place_cmp (fs ++ rest)) → AllPast x (fs ++ rest) → (at : Place)
      → find place_cmp at fs ≡ cond (between x (after_entries (map entry_of fs) x) at) (find place_cmp at (fs ++ rest)) None
  find_front [] x sorted past at = nothing_between (is_past x at) (find place_cmp at rest)
  find_front (f ∷ fs) x sorted past at = by (place_cmp at f.0) refl (find_front fs (key_place.After f.0.0 f.0.1) (second _ _ sorted) (past_first f (fs ++ rest) sorted) at)
    where
      y : KeyPlace
      y = after_entries (map entry_of fs) (key_place.After f.0.0 f.0.1)

      below : place_cmp at f.0 ≡ Less → (es : List Pair) → AllByRecursion (λ (e : Pair). place_cmp f.0 e.0 ≡ Less) es → find place_cmp at es ≡ None
      below lt es h = none_below at es (all_map (λ (e : Pair). place_cmp f.0 e.0 ≡ Less) (λ (e : Pair). place_cmp at e.0 ≡ Less) (λ e g. places_total.trans at f.0 e.0 lt g) es h)

      all_below : AllByRecursion (λ (e : Pair). place_cmp f.0 e.0 ≡ Less) (fs ++ rest)
      all_below = below_each f.0 (fs ++ rest) (first _ _ sorted)

      not_past : at ≡ f.0 → (b : Bool) → is_past y at ≡ b → b ≡ false
      not_past is true h = absurd (not_itself f.0 (subst (λ (q : Place). is_lt (place_cmp f.0 q) ≡ true) is (onward fs (key_place.After f.0.0 f.0.1) (second _ _ sorted) (past_first f (fs ++ rest) sorted) at h)))
      not_past is false h = refl

      by : (r : Ordering) → place_cmp at f.0 ≡ r → find place_cmp at fs ≡ cond (is_past (key_place.After f.0.0 f.0.1) at && not (is_past y at)) (find place_cmp at (fs ++ rest)) None
          → cond (is_eq (place_cmp at f.0)) (Some f.1) (find place_cmp at fs) ≡ cond (is_past x at && not (is_past y at)) (cond (is_eq (place_cmp at f.0)) (Some f.1) (find place_cmp at (fs ++ rest))) None
      by Less t ih =
          let whole = below t (fs ++ rest) all_below in
          let front = below t fs (all_front _ fs rest all_below) in
          rw (t, whole, front) (none_in (is_past x at && not (is_past y at)))
      by Equal t ih =
          let is : at ≡ f.0 = exact_places at f.0 t in
          let here : is_past x at ≡ true = ap (is_past x) is ∙ past.0 in
          let out : is_past y at ≡ false = not_past is (is_past y at) refl in
          rw (t, here, out) refl
      by Greater t ih =
          let lt : place_cmp f.0 at ≡ Less = places_total.antisymm f.0 at ∙ ap ordering_reverse t in
          let after : is_past (key_place.After f.0.0 f.0.1) at ≡ true = ap is_lt lt in
          let here : is_past x at ≡ true = past_up x f.0 at past.0 lt in
          let found = ih ∙ ap (λ b. cond (b && not (is_past y at)) (find place_cmp at (fs ++ rest)) None) after in
          rw (t, here) found

-- ---- what entries in order make of an empty map

pub made_of : (ps : List Pair) → T (is_sorted place_cmp ps) → (at : Place) → get (apply (encoded (copy_changes (map entry_of ps))) empty) at ≡ find place_cmp at ps
made_of ps sorted at = get-apply (encoded (copy_changes (map entry_of ps))) empty at ∙ ap (or_before (decision (encoded (copy_changes (map entry_of ps))) at)) (get-empty place_cmp at) ∙ decides ps sorted
  where
    decides_none : (qs : List Pair) → or_before (decision (encoded (copy_changes (map entry_of qs))) at) None ≡ None → decision (encoded (copy_changes (map entry_of qs))) at ≡ None
    decides_none qs = by (decision (encoded (copy_changes (map entry_of qs))) at) (copies_put (map entry_of qs) at)
      where
        by : (d : Decision) → (d ≡ Some None → ⊥) → or_before d None ≡ None → d ≡ None
        by None n h = refl
        by (Some None) n h = absurd (n refl)
        by (Some (Some x)) n h = absurd cc

    decides : (qs : List Pair) → T (is_sorted place_cmp qs) → or_before (decision (encoded (copy_changes (map entry_of qs))) at) None ≡ find place_cmp at qs
    decides [] h = refl
    decides (q ∷ qs) h = by (eq_by_cmp place_cmp at q.0) refl (decision (encoded (copy_changes (map entry_of qs))) at) refl (decides qs (second _ _ h))
      where
        absent : at ≡ q.0 → find place_cmp at qs ≡ None
        absent is = none_below [] at qs (subst (λ (p : Place). AllByRecursion (λ (e : Pair). place_cmp p e.0 ≡ Less) qs) (sym is) (below_each q.0 qs (first _ _ h)))

        exact : eq_by_cmp place_cmp at q.0 ≡ true → at ≡ q.0
        exact t = exact_places at q.0 (equal (place_cmp at q.0) t)
          where
            equal : (r : Ordering) → is_eq r ≡ true → r ≡ Equal
            equal Less e = absurd cc
            equal Equal e = refl
            equal Greater e = absurd cc

        by : (b : Bool) → eq_by_cmp place_cmp at q.0 ≡ b → (d : Decision) → decision (encoded (copy_changes (map entry_of qs))) at ≡ d → or_before d None ≡ find place_cmp at qs
            → or_before (later (decision (encoded (copy_changes (map entry_of qs))) at) (decided (Put q.0.0 q.0.1 q.1) at)) None ≡ find place_cmp at (q ∷ qs)
        by true t d u ih =
            let none = decides_none qs (ap (λ (c : Decision). or_before c None) u ∙ ih ∙ absent (exact t)) in
            rw (none, t) refl
        by false t None u ih = rw (u, t) ih
        by false t (Some c) u ih = rw (u, t) ih

-- A list in order of keys, read at one of its entries: what is before and after it.
use Rattle.std.proofs.Common.{◌≡◌, ℕ, Bool, true, false, cond, not, List, [], ◌∷◌, ◌++◌, Option, Some, None, refl, sym, ap, subst, ◌∙◌}
use Rattle.std.specs.declared.cmp.Ordering.{Ordering}
use Rattle.std.specs.declared.cmp.Ordering.TheVariants.{Less, Equal, Greater}
use Rattle.std.specs.List.{AllByRecursion}
use Rattle.std.specs.Ordering.{eq_by_cmp, is_eq, is_lt, ordering_reverse}
use Rattle.std.specs.Cmp.{IsTotalOrder}
use Rattle.std.specs.Cmp.Lexicographic.{nat_list_cmp_total}
use Rattle.std.specs.FinMap.Entries.{find, put, where_key, is_sorted, below_all, by_order}
use Rattle.std.proofs.lemmas.Bool.{and_parts}
use Rattle.std.proofs.lemmas.List.Elements.{filter-append}
use Rattle.mon_kv.specs.Tree.{bytes_cmp, first, above}

pub total : IsTotalOrder bytes_cmp
total = nat_list_cmp_total

pub is_less : (r : Ordering) → is_lt r ≡ true → r ≡ Less
is_less Less e = refl
is_less Equal e = absurd cc
is_less Greater e = absurd cc

turned : (x y : List ℕ) (r : Ordering) → bytes_cmp x y ≡ r → bytes_cmp y x ≡ ordering_reverse r
turned x y r e = total.antisymm y x ∙ ap ordering_reverse e

module _ {V : Type 0} where
  -- each key of the list is below x
  abbrev pub AllUnder : List ℕ → List (List ℕ × V) → Type 0
  AllUnder x es = AllByRecursion (λ e. bytes_cmp x e.0 ≡ Greater) es

  -- each key of the list is above x
  abbrev pub AllOver : List ℕ → List (List ℕ × V) → Type 0
  AllOver x es = AllByRecursion (λ e. bytes_cmp x e.0 ≡ Less) es

  pub over_of : (x : List ℕ) (es : List (List ℕ × V)) → below_all bytes_cmp x es ≡ true → AllOver x es
  over_of x [] h = tt
  over_of x (e ∷ es) h = let p = and_parts (is_lt (bytes_cmp x e.0)) (below_all bytes_cmp x es) h in (is_less _ p.0, over_of x es p.1)

  pub record IsApart (l : List (List ℕ × V)) (m : List ℕ × V) (r : List (List ℕ × V)) : Type 0 where
    pub left : is_sorted bytes_cmp l ≡ true
    pub right : is_sorted bytes_cmp r ≡ true
    pub under : AllUnder m.0 l
    pub over : AllOver m.0 r

  below_front : (x : List ℕ) (l : List (List ℕ × V)) (m : List ℕ × V) (r : List (List ℕ × V)) → below_all bytes_cmp x (l ++ m ∷ r) ≡ true → (below_all bytes_cmp x l ≡ true) × (bytes_cmp x m.0 ≡ Less)
  below_front x [] m r h = (refl, is_less _ (and_parts (is_lt (bytes_cmp x m.0)) (below_all bytes_cmp x r) h).0)
  below_front x (e ∷ l) m r h =
      let p = and_parts (is_lt (bytes_cmp x e.0)) (below_all bytes_cmp x (l ++ m ∷ r)) h in
      let q = below_front x l m r p.1 in
      (rw (p.0, q.0) refl, q.1)

  pub apart_of : (l : List (List ℕ × V)) (m : List ℕ × V) (r : List (List ℕ × V)) → is_sorted bytes_cmp (l ++ m ∷ r) ≡ true → IsApart l m r
  apart_of [] m r h =
      let p = and_parts (below_all bytes_cmp m.0 r) (is_sorted bytes_cmp r) h in
      record { left = refl; right = p.1; under = tt; over = over_of m.0 r p.0 }
  apart_of (e ∷ l) m r h =
      let p = and_parts (below_all bytes_cmp e.0 (l ++ m ∷ r)) (is_sorted bytes_cmp (l ++ m ∷ r)) h in
      let q = below_front e.0 l m r p.0 in
      let s = apart_of l m r p.1 in
      record { left = rw (q.0, s.left) refl; right = s.right; under = (turned e.0 m.0 Less q.1, s.under); over = s.over }

  -- what is above m is above all that m is above
  pub under_trans : (k x : List ℕ) (es : List (List ℕ × V)) → bytes_cmp k x ≡ Greater → AllUnder x es → AllUnder k es
  under_trans k x [] g h = tt
  under_trans k x (e ∷ es) g h = (turned e.0 k Less (total.trans e.0 x k (turned x e.0 Greater h.0) (turned k x Greater g)), under_trans k x es g h.1)

  pub under_tied : (k x : List ℕ) (es : List (List ℕ × V)) → bytes_cmp k x ≡ Equal → AllUnder x es → AllUnder k es
  under_tied k x [] g h = tt
  under_tied k x (e ∷ es) g h = (total.congr k x e.0 g ∙ h.0, under_tied k x es g h.1)

  pub over_trans : (k x : List ℕ) (es : List (List ℕ × V)) → bytes_cmp k x ≡ Less → AllOver x es → AllOver k es
  over_trans k x [] g h = tt
  over_trans k x (e ∷ es) g h = (total.trans k x e.0 g h.0, over_trans k x es g h.1)

  pub over_tied : (k x : List ℕ) (es : List (List ℕ × V)) → bytes_cmp k x ≡ Equal → AllOver x es → AllOver k es
  over_tied k x [] g h = tt
  over_tied k x (e ∷ es) g h = (total.congr k x e.0 g ∙ h.0, over_tied k x es g h.1)

  -- ---- past what is below
  find_past : (k : List ℕ) (l es : List (List ℕ × V)) → AllUnder k l → find bytes_cmp k (l ++ es) ≡ find bytes_cmp k es
  find_past k [] es h = refl
  find_past k (e ∷ l) es h = ap (λ r. cond (is_eq r) (Some e.1) (find bytes_cmp k (l ++ es))) h.0 ∙ find_past k l es h.1

  put_past : (k : List ℕ) (v : V) (l es : List (List ℕ × V)) → AllUnder k l → put bytes_cmp k v (l ++ es) ≡ l ++ put bytes_cmp k v es
  put_past k v [] es h = refl
  put_past k v (e ∷ l) es h =
      ap (λ r. by_order r ((k, v) ∷ e ∷ (l ++ es)) ((e.0, v) ∷ (l ++ es)) (e ∷ put bytes_cmp k v (l ++ es))) h.0 ∙ ap (λ x. e ∷ x) (put_past k v l es h.1)

  -- ---- none of what is above
  pub find_over : (k : List ℕ) (es : List (List ℕ × V)) → AllOver k es → find bytes_cmp k es ≡ None
  find_over k [] h = refl
  find_over k (e ∷ es) h = ap (λ r. cond (is_eq r) (Some e.1) (find bytes_cmp k es)) h.0 ∙ find_over k es h.1

  -- ---- at a fork
  pub find_left : (k : List ℕ) (l : List (List ℕ × V)) (m : List ℕ × V) (r : List (List ℕ × V)) → bytes_cmp k m.0 ≡ Less → AllOver m.0 r → find bytes_cmp k (l ++ m ∷ r) ≡ find bytes_cmp k l
  find_left k [] m r g h = find_over k (m ∷ r) (g, over_trans k m.0 r g h)
  find_left k (e ∷ l) m r g h = ap (cond (eq_by_cmp bytes_cmp k e.0) (Some e.1)) (find_left k l m r g h)

  pub find_here : (k : List ℕ) (l : List (List ℕ × V)) (m : List ℕ × V) (r : List (List ℕ × V)) → bytes_cmp k m.0 ≡ Equal → AllUnder m.0 l → find bytes_cmp k (l ++ m ∷ r) ≡ Some m.1
  find_here k l m r g h = find_past k l (m ∷ r) (under_tied k m.0 l g h) ∙ ap (λ o. cond (is_eq o) (Some m.1) (find bytes_cmp k r)) g

  pub find_right : (k : List ℕ) (l : List (List ℕ × V)) (m : List ℕ × V) (r : List (List ℕ × V)) → bytes_cmp k m.0 ≡ Greater → AllUnder m.0 l → find bytes_cmp k (l ++ m ∷ r) ≡ find bytes_cmp k r
  find_right k l m r g h = find_past k l (m ∷ r) (under_trans k m.0 l g h) ∙ ap (λ o. cond (is_eq o) (Some m.1) (find bytes_cmp k r)) g

  pub put_left : (k : List ℕ) (v : V) (l : List (List ℕ × V)) (m : List ℕ × V) (r : List (List ℕ × V)) → bytes_cmp k m.0 ≡ Less → put bytes_cmp k v (l ++ m ∷ r) ≡ put bytes_cmp k v l ++ m ∷ r
  put_left k v [] m r g = ap (λ o. by_order o ((k, v) ∷ m ∷ r) ((m.0, v) ∷ r) (m ∷ put bytes_cmp k v r)) g
  put_left k v (e ∷ l) m r g = by (bytes_cmp k e.0) (put_left k v l m r g)
    where
      by : (o : Ordering) → put bytes_cmp k v (l ++ m ∷ r) ≡ put bytes_cmp k v l ++ m ∷ r → by_order o ((k, v) ∷ e ∷ (l ++ m ∷ r)) ((e.0, v) ∷ (l ++ m ∷ r)) (e ∷ put bytes_cmp k v (l ++ m ∷ r)) ≡ by_order o ((k, v) ∷ e ∷ l) ((e.0, v) ∷ l) (e ∷ put bytes_cmp k v l) ++ m ∷ r
      by Less h = refl
      by Equal h = refl
      by Greater h = ap (λ x. e ∷ x) h

  pub put_here : (k : List ℕ) (v : V) (l : List (List ℕ × V)) (m : List ℕ × V) (r : List (List ℕ × V)) → bytes_cmp k m.0 ≡ Equal → AllUnder m.0 l → put bytes_cmp k v (l ++ m ∷ r) ≡ l ++ (m.0, v) ∷ r
  put_here k v l m r g h = put_past k v l (m ∷ r) (under_tied k m.0 l g h) ∙ ap (λ o. l ++ by_order o ((k, v) ∷ m ∷ r) ((m.0, v) ∷ r) (m ∷ put bytes_cmp k v r)) g

  pub put_right : (k : List ℕ) (v : V) (l : List (List ℕ × V)) (m : List ℕ × V) (r : List (List ℕ × V)) → bytes_cmp k m.0 ≡ Greater → AllUnder m.0 l → put bytes_cmp k v (l ++ m ∷ r) ≡ l ++ m ∷ put bytes_cmp k v r
  put_right k v l m r g h = put_past k v l (m ∷ r) (under_trans k m.0 l g h) ∙ ap (λ o. l ++ by_order o ((k, v) ∷ m ∷ r) ((m.0, v) ∷ r) (m ∷ put bytes_cmp k v r)) g

  -- what ties with a key is not among those above it
  pub find_below : (k x : List ℕ) (es : List (List ℕ × V)) → bytes_cmp k x ≡ Equal → below_all bytes_cmp x es ≡ true → find bytes_cmp k es ≡ None
  find_below k x es g h = find_over k es (over_tied k x es g (over_of x es h))

-- what is left without a key
abbrev pub without : {V : Type 0} → List ℕ → List (List ℕ × V) → List (List ℕ × V)
without k es = where_key bytes_cmp (λ x. not (eq_by_cmp bytes_cmp k x)) es

module _ {V : Type 0} where
  pub without_over : (k : List ℕ) (es : List (List ℕ × V)) → AllOver k es → without k es ≡ es
  without_over k [] h = refl
  without_over k (e ∷ es) h = ap (λ r. cond (not (is_eq r)) (e ∷ without k es) (without k es)) h.0 ∙ ap (λ x. e ∷ x) (without_over k es h.1)

  without_under : (k : List ℕ) (es : List (List ℕ × V)) → AllUnder k es → without k es ≡ es
  without_under k [] h = refl
  without_under k (e ∷ es) h = ap (λ r. cond (not (is_eq r)) (e ∷ without k es) (without k es)) h.0 ∙ ap (λ x. e ∷ x) (without_under k es h.1)

  without_left : (k : List ℕ) (l : List (List ℕ × V)) (m : List ℕ × V) (r : List (List ℕ × V)) → bytes_cmp k m.0 ≡ Less → AllOver m.0 r → without k (l ++ m ∷ r) ≡ without k l ++ m ∷ r
  without_left k l m r g h = filter-append _ l (m ∷ r) ∙ ap (λ x. without k l ++ x) (without_over k (m ∷ r) (g, over_trans k m.0 r g h))

  without_right : (k : List ℕ) (l : List (List ℕ × V)) (m : List ℕ × V) (r : List (List ℕ × V)) → bytes_cmp k m.0 ≡ Greater → AllUnder m.0 l → without k (l ++ m ∷ r) ≡ l ++ m ∷ without k r
  without_right k l m r g h =
      filter-append _ l (m ∷ r) ∙ ap (λ x. x ++ without k (m ∷ r)) (without_under k l (under_trans k m.0 l g h)) ∙ ap (λ o. l ++ cond (not (is_eq o)) (m ∷ without k r) (without k r)) g

  without_here : (k : List ℕ) (l : List (List ℕ × V)) (m : List ℕ × V) (r : List (List ℕ × V)) → bytes_cmp k m.0 ≡ Equal → AllUnder m.0 l → AllOver m.0 r → without k (l ++ m ∷ r) ≡ l ++ r
  without_here k l m r g under over =
      filter-append _ l (m ∷ r) ∙ ap (λ x. x ++ without k (m ∷ r)) (without_under k l (under_tied k m.0 l g under)) ∙ ap (λ o. l ++ cond (not (is_eq o)) (m ∷ without k r) (without k r)) g
      ∙ ap (λ x. l ++ x) (without_over k r (over_tied k m.0 r g over))

-- ---- what a call on one side says of the whole
module _ {V : Type 0} (k : List ℕ) (d l : List (List ℕ × V)) (m : List ℕ × V) (r : List (List ℕ × V)) where
  pub get_less : {found : Option V} → d ≡ l ++ m ∷ r → bytes_cmp k m.0 ≡ Less → (is_sorted bytes_cmp l ≡ true → found ≡ find bytes_cmp k l) → is_sorted bytes_cmp d ≡ true → found ≡ find bytes_cmp k d
  get_less is g h s =
      let f = apart_of l m r (subst (λ es. is_sorted bytes_cmp es ≡ true) is s) in
      h f.left ∙ sym (find_left k l m r g f.over) ∙ ap (find bytes_cmp k) (sym is)

  pub get_equal : d ≡ l ++ m ∷ r → bytes_cmp k m.0 ≡ Equal → is_sorted bytes_cmp d ≡ true → Some m.1 ≡ find bytes_cmp k d
  get_equal is g s =
      let f = apart_of l m r (subst (λ es. is_sorted bytes_cmp es ≡ true) is s) in
      sym (find_here k l m r g f.under) ∙ ap (find bytes_cmp k) (sym is)

  pub get_greater : {found : Option V} → d ≡ l ++ m ∷ r → bytes_cmp k m.0 ≡ Greater → (is_sorted bytes_cmp r ≡ true → found ≡ find bytes_cmp k r) → is_sorted bytes_cmp d ≡ true → found ≡ find bytes_cmp k d
  get_greater is g h s =
      let f = apart_of l m r (subst (λ es. is_sorted bytes_cmp es ≡ true) is s) in
      h f.right ∙ sym (find_right k l m r g f.under) ∙ ap (find bytes_cmp k) (sym is)

  pub put_less : (v : V) (l' : List (List ℕ × V)) → d ≡ l ++ m ∷ r → bytes_cmp k m.0 ≡ Less → (is_sorted bytes_cmp l ≡ true → l' ≡ put bytes_cmp k v l) → is_sorted bytes_cmp d ≡ true → l' ++ m ∷ r ≡ put bytes_cmp k v d
  put_less v l' is g h s =
      let f = apart_of l m r (subst (λ es. is_sorted bytes_cmp es ≡ true) is s) in
      ap (λ x. x ++ m ∷ r) (h f.left) ∙ sym (put_left k v l m r g) ∙ ap (put bytes_cmp k v) (sym is)

  pub put_equal : (v : V) → d ≡ l ++ m ∷ r → bytes_cmp k m.0 ≡ Equal → is_sorted bytes_cmp d ≡ true → l ++ (m.0, v) ∷ r ≡ put bytes_cmp k v d
  put_equal v is g s =
      let f = apart_of l m r (subst (λ es. is_sorted bytes_cmp es ≡ true) is s) in
      sym (put_here k v l m r g f.under) ∙ ap (put bytes_cmp k v) (sym is)

  pub put_greater : (v : V) (r' : List (List ℕ × V)) → d ≡ l ++ m ∷ r → bytes_cmp k m.0 ≡ Greater → (is_sorted bytes_cmp r ≡ true → r' ≡ put bytes_cmp k v r) → is_sorted bytes_cmp d ≡ true → l ++ m ∷ r' ≡ put bytes_cmp k v d
  put_greater v r' is g h s =
      let f = apart_of l m r (subst (λ es. is_sorted bytes_cmp es ≡ true) is s) in
      ap (λ x. l ++ m ∷ x) (h f.right) ∙ sym (put_right k v l m r g f.under) ∙ ap (put bytes_cmp k v) (sym is)

  pub set_less : (b : Bool) (v : V) (l' : List (List ℕ × V)) → d ≡ l ++ m ∷ r → bytes_cmp k m.0 ≡ Less → (is_sorted bytes_cmp l ≡ true → l' ≡ cond b (put bytes_cmp k v l) l) → is_sorted bytes_cmp d ≡ true → l' ++ m ∷ r ≡ cond b (put bytes_cmp k v d) d
  set_less true v l' is g h s = put_less v l' is g h s
  set_less false v l' is g h s = ap (λ x. x ++ m ∷ r) (h (apart_of l m r (subst (λ es. is_sorted bytes_cmp es ≡ true) is s)).left) ∙ sym is

  pub set_greater : (b : Bool) (v : V) (r' : List (List ℕ × V)) → d ≡ l ++ m ∷ r → bytes_cmp k m.0 ≡ Greater → (is_sorted bytes_cmp r ≡ true → r' ≡ cond b (put bytes_cmp k v r) r) → is_sorted bytes_cmp d ≡ true → l ++ m ∷ r' ≡ cond b (put bytes_cmp k v d) d
  set_greater true v r' is g h s = put_greater v r' is g h s
  set_greater false v r' is g h s = ap (λ x. l ++ m ∷ x) (h (apart_of l m r (subst (λ es. is_sorted bytes_cmp es ≡ true) is s)).right) ∙ sym is

  -- what is read of a key, on one side and in the whole
  pub read_less : {A : Type 0} (f : Option V → A) (x : A) → d ≡ l ++ m ∷ r → bytes_cmp k m.0 ≡ Less → (is_sorted bytes_cmp l ≡ true → x ≡ f (find bytes_cmp k l)) → is_sorted bytes_cmp d ≡ true → x ≡ f (find bytes_cmp k d)
  read_less f x is g h s = let a = apart_of l m r (subst (λ es. is_sorted bytes_cmp es ≡ true) is s) in h a.left ∙ ap f (get_less {found = find bytes_cmp k l} is g (λ _. refl) s)

  pub read_greater : {A : Type 0} (f : Option V → A) (x : A) → d ≡ l ++ m ∷ r → bytes_cmp k m.0 ≡ Greater → (is_sorted bytes_cmp r ≡ true → x ≡ f (find bytes_cmp k r)) → is_sorted bytes_cmp d ≡ true → x ≡ f (find bytes_cmp k d)
  read_greater f x is g h s = let a = apart_of l m r (subst (λ es. is_sorted bytes_cmp es ≡ true) is s) in h a.right ∙ ap f (get_greater {found = find bytes_cmp k r} is g (λ _. refl) s)

  pub remove_less : (l' : List (List ℕ × V)) → d ≡ l ++ m ∷ r → bytes_cmp k m.0 ≡ Less → (is_sorted bytes_cmp l ≡ true → l' ≡ without k l) → is_sorted bytes_cmp d ≡ true → l' ++ m ∷ r ≡ without k d
  remove_less l' is g h s =
      let f = apart_of l m r (subst (λ es. is_sorted bytes_cmp es ≡ true) is s) in
      ap (λ x. x ++ m ∷ r) (h f.left) ∙ sym (without_left k l m r g f.over) ∙ ap (without k) (sym is)

  pub remove_equal : (new : List (List ℕ × V)) → d ≡ l ++ m ∷ r → bytes_cmp k m.0 ≡ Equal → new ≡ l ++ r → is_sorted bytes_cmp d ≡ true → new ≡ without k d
  remove_equal new is g h s =
      let f = apart_of l m r (subst (λ es. is_sorted bytes_cmp es ≡ true) is s) in
      h ∙ sym (without_here k l m r g f.under f.over) ∙ ap (without k) (sym is)

  pub remove_greater : (r' : List (List ℕ × V)) → d ≡ l ++ m ∷ r → bytes_cmp k m.0 ≡ Greater → (is_sorted bytes_cmp r ≡ true → r' ≡ without k r) → is_sorted bytes_cmp d ≡ true → l ++ m ∷ r' ≡ without k d
  remove_greater r' is g h s =
      let f = apart_of l m r (subst (λ es. is_sorted bytes_cmp es ≡ true) is s) in
      ap (λ x. l ++ m ∷ x) (h f.right) ∙ sym (without_right k l m r g f.under) ∙ ap (without k) (sym is)

-- ---- the first entry above a key
abbrev pub or_first : {A : Type 0} → Option A → Option A → Option A
or_first None d = d
or_first (Some x) d = Some x

pub first-append : {A : Type 0} (xs ys : List A) → first (xs ++ ys) ≡ or_first (first xs) (first ys)
first-append [] ys = refl
first-append (x ∷ xs) ys = refl

module _ {V : Type 0} where
  above_under : (k : List ℕ) (es : List (List ℕ × V)) → AllUnder k es → above k es ≡ []
  above_under k [] h = refl
  above_under k (e ∷ es) h = ap (λ o. cond (is_lt o) (e ∷ above k es) (above k es)) h.0 ∙ above_under k es h.1

  above_left : (k : List ℕ) (l : List (List ℕ × V)) (m : List ℕ × V) (r : List (List ℕ × V)) → bytes_cmp k m.0 ≡ Less → first (above k (l ++ m ∷ r)) ≡ or_first (first (above k l)) (Some m)
  above_left k l m r g =
      ap first (filter-append _ l (m ∷ r)) ∙ first-append (above k l) (above k (m ∷ r)) ∙ ap (λ o. or_first (first (above k l)) (first (cond (is_lt o) (m ∷ above k r) (above k r)))) g

  above_right : (k : List ℕ) (l : List (List ℕ × V)) (m : List ℕ × V) (r : List (List ℕ × V)) → AllUnder k l → is_lt (bytes_cmp k m.0) ≡ false → first (above k (l ++ m ∷ r)) ≡ first (above k r)
  above_right k l m r u g =
      ap first (filter-append _ l (m ∷ r)) ∙ ap (λ x. first (x ++ above k (m ∷ r))) (above_under k l u) ∙ ap (λ b. first (cond b (m ∷ above k r) (above k r))) g

module _ {V : Type 0} (k : List ℕ) (d l : List (List ℕ × V)) (m : List ℕ × V) (r : List (List ℕ × V)) (is : d ≡ l ++ m ∷ r) where
  pub first_less : (found : Option (List ℕ × V)) → bytes_cmp k m.0 ≡ Less → (is_sorted bytes_cmp l ≡ true → found ≡ first (above k l)) → is_sorted bytes_cmp d ≡ true → or_first found (Some m) ≡ first (above k d)
  first_less found g h s =
      let f = apart_of l m r (subst (λ es. is_sorted bytes_cmp es ≡ true) is s) in
      ap (λ o. or_first o (Some m)) (h f.left) ∙ sym (above_left k l m r g) ∙ ap (λ es. first (above k es)) (sym is)

  pub first_not_less : (found : Option (List ℕ × V)) → (bytes_cmp k m.0 ≡ Less → ⊥) → (is_sorted bytes_cmp r ≡ true → found ≡ first (above k r)) → is_sorted bytes_cmp d ≡ true → found ≡ first (above k d)
  first_not_less found g h s = by (bytes_cmp k m.0) refl
    where
      f : IsApart l m r
      f = apart_of l m r (subst (λ es. is_sorted bytes_cmp es ≡ true) is s)

      close : AllUnder k l → is_lt (bytes_cmp k m.0) ≡ false → found ≡ first (above k d)
      close u e = h f.right ∙ sym (above_right k l m r u e) ∙ ap (λ es. first (above k es)) (sym is)

      by : (o : Ordering) → bytes_cmp k m.0 ≡ o → found ≡ first (above k d)
      by Less e = absurd (g e)
      by Equal e = close (under_tied k m.0 l e f.under) (ap is_lt e)
      by Greater e = close (under_trans k m.0 l e f.under) (ap is_lt e)

-- ---- a test of the keys, on both sides and in the whole
module _ {V : Type 0} (p : List ℕ → Bool) (d l : List (List ℕ × V)) (m : List ℕ × V) (r : List (List ℕ × V)) where
  pub keeps_root : d ≡ l ++ m ∷ r → p m.0 ≡ true → where_key bytes_cmp p l ++ m ∷ where_key bytes_cmp p r ≡ where_key bytes_cmp p d
  keeps_root is h = sym (ap (where_key bytes_cmp p) is ∙ filter-append _ l (m ∷ r) ∙ ap (λ b. where_key bytes_cmp p l ++ cond b (m ∷ where_key bytes_cmp p r) (where_key bytes_cmp p r)) h)

  pub drops_root : d ≡ l ++ m ∷ r → p m.0 ≡ false → where_key bytes_cmp p l ++ where_key bytes_cmp p r ≡ where_key bytes_cmp p d
  drops_root is h = sym (ap (where_key bytes_cmp p) is ∙ filter-append _ l (m ∷ r) ∙ ap (λ b. where_key bytes_cmp p l ++ cond b (m ∷ where_key bytes_cmp p r) (where_key bytes_cmp p r)) h)

-- What a change under one prefix leaves.
use Rattle.std.proofs.Common.{◌≡◌, ℕ, ◌+◌, ◌-◌, ◌<◌, ◌^◌, min, add-zero, arith, Bool, true, false, cond, not, ◌&&◌, T, List, [], ◌∷◌, ◌++◌, Option, Some, None, Result, Ok, Err, OnErr, IsSome, refl, sym, ap, subst, ◌∙◌, length}
use Rattle.std.specs.declared.cmp.Ordering.{Ordering}
use Rattle.std.specs.declared.cmp.Ordering.TheVariants.{Less, Equal, Greater}
use Rattle.std.specs.List.{list_all}
use Rattle.std.specs.Option.{unwrap_or}
use Rattle.std.specs.Ordering.{eq_by_cmp, is_eq}
use Rattle.std.specs.Cmp.{eq_by_cmp_equiv, alike_right, tied_itself}
use Rattle.std.specs.FinMap.Entries.{find, put, where_key, is_sorted, by_order, find-put, find_tied, find-where_key, is_sorted-put, is_sorted-where_key}
use Rattle.std.proofs.lemmas.Bool.{and_parts}
use Rattle.mon_bytes.specs.Texts.{is_name, is_prefix}
use Rattle.mon_tx.proofs.Words.{word_parts, is_word_by}
use Rattle.mon_kv.specs.Tree.{bytes_cmp, entries, is_empty, IsInOrder}
use Rattle.mon_kv.specs.Areas.{Records, under, is_area, with_area, record_size, freed_size, area_size, areas_size, weight_of, IsWhole, IsTaken, Changes}
use Rattle.mon_kv.specs.declared.tree.Tree.{Tree, Leaf}
use Rattle.mon_kv.proofs.Sums.{counted, sum_by-put, sum_by-without}
use Rattle.mon_kv.proofs.Forks.{total, without}

abbrev Areas : Type 0
Areas = List (List ℕ × Records)

pub to_T : (b : Bool) → b ≡ true → T b
to_T b h = subst T (sym h) tt

pub from_T : (b : Bool) → T b → b ≡ true
from_T true h = refl
from_T false h = absurd h

-- a prefix has the form of a name
pub prefix_name : (prefix : List ℕ) → is_prefix prefix ≡ true → is_name prefix ≡ true
prefix_name prefix h = let p = word_parts 32 prefix h in is_word_by 255 prefix p.low (omega (arith, p.high)) p.good

-- ---- two changes at one key
module _ {V : Type 0} where
  pub put-put : (k : List ℕ) (v w : V) (es : List (List ℕ × V)) → put bytes_cmp k v (put bytes_cmp k w es) ≡ put bytes_cmp k v es
  put-put k v w [] = ap (λ o. by_order o ((k, v) ∷ (k, w) ∷ []) ((k, v) ∷ []) ((k, w) ∷ (k, v) ∷ [])) (tied_itself total k)
  put-put k v w (e ∷ es) =
      elim (bytes_cmp k e.0) as (λ o. bytes_cmp k e.0 ≡ o → put bytes_cmp k v (by_order o ((k, w) ∷ e ∷ es) ((e.0, w) ∷ es) (e ∷ put bytes_cmp k w es)) ≡ by_order o ((k, v) ∷ e ∷ es) ((e.0, v) ∷ es) (e ∷ put bytes_cmp k v es)) [
        | Less ↦ λ h. ap (λ o. by_order o ((k, v) ∷ (k, w) ∷ e ∷ es) ((k, v) ∷ e ∷ es) ((k, w) ∷ put bytes_cmp k v (e ∷ es))) (tied_itself total k)
        | Equal ↦ λ h. ap (λ o. by_order o ((k, v) ∷ (e.0, w) ∷ es) ((e.0, v) ∷ es) ((e.0, w) ∷ put bytes_cmp k v es)) h
        | Greater ↦ λ h. ap (λ o. by_order o ((k, v) ∷ e ∷ put bytes_cmp k w es) ((e.0, v) ∷ put bytes_cmp k w es) (e ∷ put bytes_cmp k v (put bytes_cmp k w es))) h ∙ ap (λ x. e ∷ x) (put-put k v w es)
      ] refl

  pub without-put : (k : List ℕ) (w : V) (es : List (List ℕ × V)) → without k (put bytes_cmp k w es) ≡ without k es
  without-put k w [] = ap (λ o. cond (not (is_eq o)) ((k, w) ∷ []) []) (tied_itself total k)
  without-put k w (e ∷ es) =
      elim (bytes_cmp k e.0) as (λ o. bytes_cmp k e.0 ≡ o → without k (by_order o ((k, w) ∷ e ∷ es) ((e.0, w) ∷ es) (e ∷ put bytes_cmp k w es)) ≡ cond (not (is_eq o)) (e ∷ without k es) (without k es)) [
        | Less ↦ λ h. ap (λ o. cond (not (is_eq o)) ((k, w) ∷ without k (e ∷ es)) (without k (e ∷ es))) (tied_itself total k) ∙ ap (λ o. cond (not (is_eq o)) (e ∷ without k es) (without k es)) h
        | Equal ↦ λ h. ap (λ o. cond (not (is_eq o)) ((e.0, w) ∷ without k es) (without k es)) h
        | Greater ↦ λ h. ap (λ o. cond (not (is_eq o)) (e ∷ without k (put bytes_cmp k w es)) (without k (put bytes_cmp k w es))) h ∙ ap (λ x. e ∷ x) (without-put k w es)
      ] refl

  -- what is left without a key holds it no more, and the others
  pub find-without : (q k : List ℕ) (es : List (List ℕ × V)) → find bytes_cmp q (without k es) ≡ cond (eq_by_cmp bytes_cmp q k) None (find bytes_cmp q es)
  find-without q k es =
      find-where_key bytes_cmp (λ x. not (eq_by_cmp bytes_cmp k x)) q (λ x t. ap (λ o. not (is_eq o)) (sym (alike_right total q x k t))) es
      ∙ turned (eq_by_cmp bytes_cmp k q) _ ∙ ap (λ b. cond b None (find bytes_cmp q es)) ((eq_by_cmp_equiv total).symm k q)
    where
      turned : (b : Bool) (o : Option V) → cond (not b) o None ≡ cond b None o
      turned true o = refl
      turned false o = refl

-- ---- each area keeps its form
area_of : (a : List ℕ × Records) → is_prefix a.0 ≡ true → is_sorted bytes_cmp (entries a.1) ≡ true → is_empty (entries a.1) ≡ false → is_area a ≡ true
area_of a p s e = rw (p, s, e) refl

all_put : (k : List ℕ) (v : Records) (areas : Areas) → list_all is_area areas ≡ true → is_prefix k ≡ true → is_sorted bytes_cmp (entries v) ≡ true → is_empty (entries v) ≡ false → list_all is_area (put bytes_cmp k v areas) ≡ true
all_put k v [] h p s e = rw (area_of (k, v) p s e) refl
all_put k v (a ∷ areas) h p s e = by (bytes_cmp k a.0) (all_put k v areas parts.1 p s e)
  where
    parts : (is_area a ≡ true) × (list_all is_area areas ≡ true)
    parts = and_parts (is_area a) (list_all is_area areas) h

    own : is_prefix a.0 ≡ true
    own = (and_parts (is_prefix a.0) (is_sorted bytes_cmp (entries a.1)) (and_parts (is_prefix a.0 && is_sorted bytes_cmp (entries a.1)) (not (is_empty (entries a.1))) parts.0).0).0

    by : (o : Ordering) → list_all is_area (put bytes_cmp k v areas) ≡ true → list_all is_area (by_order o ((k, v) ∷ a ∷ areas) ((a.0, v) ∷ areas) (a ∷ put bytes_cmp k v areas)) ≡ true
    by Less r = rw (area_of (k, v) p s e, h) refl
    by Equal r = rw (area_of (a.0, v) own s e, parts.1) refl
    by Greater r = rw (parts.0, r) refl

all_where : (p : List ℕ → Bool) (areas : Areas) → list_all is_area areas ≡ true → list_all is_area (where_key bytes_cmp p areas) ≡ true
all_where p [] h = refl
all_where p (a ∷ areas) h = by (p a.0) (all_where p areas parts.1)
  where
    parts : (is_area a ≡ true) × (list_all is_area areas ≡ true)
    parts = and_parts (is_area a) (list_all is_area areas) h

    by : (b : Bool) → list_all is_area (where_key bytes_cmp p areas) ≡ true → list_all is_area (cond b (a ∷ where_key bytes_cmp p areas) (where_key bytes_cmp p areas)) ≡ true
    by true r = rw (parts.0, r) refl
    by false r = r

-- ---- changes under a prefix
branches : (b : Bool) (x y : Option Records) → under (cond b x y) ≡ cond b (under x) (under y)
branches true x y = refl
branches false x y = refl

-- the size of a prefix's entries
counted_under : (prefix : List ℕ) (o : Option Records) → counted (λ area. area_size area.0 (entries area.1)) prefix o ≡ area_size prefix (under o)
counted_under prefix None = refl
counted_under prefix (Some records) = refl

pub changes_put : (old new : Tree Records) (prefix : List ℕ) (area : Records) → IsWhole old → entries new ≡ put bytes_cmp prefix area (entries old) → is_prefix prefix ≡ true → is_sorted bytes_cmp (entries area) ≡ true → is_empty (entries area) ≡ false → Changes old new prefix (entries area)
changes_put old new prefix area w is p s e = record {
  whole = record {
    in_order = ap (is_sorted bytes_cmp) is ∙ from_T _ (is_sorted-put bytes_cmp total prefix area (entries old) (to_T _ w.in_order));
    areas = ap (list_all is_area) is ∙ all_put prefix area (entries old) w.areas p s e;
  };
  at = λ q. ap (λ es. under (find bytes_cmp q es)) is ∙ ap under (find-put bytes_cmp total q prefix area (entries old)) ∙ branches (eq_by_cmp bytes_cmp q prefix) (Some area) (find bytes_cmp q (entries old));
  size = ap (λ es. areas_size es + area_size prefix (under (find bytes_cmp prefix (entries old)))) is ∙ ap (λ n. areas_size (put bytes_cmp prefix area (entries old)) + n) (sym (counted_under prefix (find bytes_cmp prefix (entries old))))
      ∙ sum_by-put (λ area. area_size area.0 (entries area.1)) prefix area (entries old) w.in_order;
}

pub changes_without : (old new : Tree Records) (prefix : List ℕ) → IsWhole old → entries new ≡ without prefix (entries old) → Changes old new prefix []
changes_without old new prefix w is = record {
  whole = record {
    in_order = ap (is_sorted bytes_cmp) is ∙ from_T _ (is_sorted-where_key bytes_cmp (λ x. not (eq_by_cmp bytes_cmp prefix x)) (entries old) (to_T _ w.in_order));
    areas = ap (list_all is_area) is ∙ all_where (λ x. not (eq_by_cmp bytes_cmp prefix x)) (entries old) w.areas;
  };
  at = λ q. ap (λ es. under (find bytes_cmp q es)) is ∙ ap under (find-without q prefix (entries old)) ∙ branches (eq_by_cmp bytes_cmp q prefix) None (find bytes_cmp q (entries old));
  size = ap (λ es. areas_size es + area_size prefix (under (find bytes_cmp prefix (entries old)))) is ∙ ap (λ n. areas_size (without prefix (entries old)) + n) (sym (counted_under prefix (find bytes_cmp prefix (entries old))))
      ∙ sum_by-without (λ area. area_size area.0 (entries area.1)) prefix (entries old) w.in_order ∙ sym (add-zero (areas_size (entries old)));
}

-- if the prefix stays as it was
pub changes_none : (old new : Tree Records) (prefix : List ℕ) → IsWhole old → entries new ≡ entries old → Changes old new prefix (under (find bytes_cmp prefix (entries old)))
changes_none old new prefix w is = record {
  whole = record { in_order = ap (is_sorted bytes_cmp) is ∙ w.in_order; areas = ap (list_all is_area) is ∙ w.areas };
  at = λ q. ap (λ es. under (find bytes_cmp q es)) is ∙ by q (bytes_cmp q prefix) refl;
  size = ap (λ es. areas_size es + area_size prefix (under (find bytes_cmp prefix (entries old)))) is;
}
  where
    by : (q : List ℕ) (o : Ordering) → bytes_cmp q prefix ≡ o → under (find bytes_cmp q (entries old)) ≡ cond (is_eq o) (under (find bytes_cmp prefix (entries old))) (under (find bytes_cmp q (entries old)))
    by q Less h = refl
    by q Equal h = ap under (sym (find_tied bytes_cmp total q prefix h (entries old)))
    by q Greater h = refl

-- ---- a tree that is taken out and set again
pub area_sorted : (prefix : List ℕ) (areas : Areas) → list_all is_area areas ≡ true → is_sorted bytes_cmp (under (find bytes_cmp prefix areas)) ≡ true
area_sorted prefix [] h = refl
area_sorted prefix (a ∷ areas) h = by (eq_by_cmp bytes_cmp prefix a.0) (area_sorted prefix areas parts.1)
  where
    parts : (is_area a ≡ true) × (list_all is_area areas ≡ true)
    parts = and_parts (is_area a) (list_all is_area areas) h

    own : is_sorted bytes_cmp (entries a.1) ≡ true
    own = (and_parts (is_prefix a.0) (is_sorted bytes_cmp (entries a.1)) (and_parts (is_prefix a.0 && is_sorted bytes_cmp (entries a.1)) (not (is_empty (entries a.1))) parts.0).0).1

    by : (b : Bool) → is_sorted bytes_cmp (under (find bytes_cmp prefix areas)) ≡ true → is_sorted bytes_cmp (under (cond b (Some a.1) (find bytes_cmp prefix areas))) ≡ true
    by true r = own
    by false r = r

pub is_taken : (old new : Tree Records) (prefix : List ℕ) (records : Records) → is_prefix prefix ≡ true → IsWhole old → entries new ≡ put bytes_cmp prefix Leaf (entries old) → records ≡ unwrap_or (find bytes_cmp prefix (entries old)) Leaf → IsTaken old new prefix records
is_taken old new prefix records p w is r = record {
  form = p;
  stands_in = is;
  in_order = ap (is_sorted bytes_cmp) is ∙ from_T _ (is_sorted-put bytes_cmp total prefix Leaf (entries old) (to_T _ w.in_order));
  there = subst IsSome (sym (ap (find bytes_cmp prefix) is ∙ find-put bytes_cmp total prefix prefix Leaf (entries old) ∙ ap (λ o. cond (is_eq o) (Some Leaf) (find bytes_cmp prefix (entries old))) (tied_itself total prefix))) refl;
  held = held;
  sorted = ap (is_sorted bytes_cmp) held ∙ area_sorted prefix (entries old) w.areas;
  size = ap (λ es. areas_size es + area_size prefix (entries records)) is ∙ ap (λ es. areas_size (put bytes_cmp prefix Leaf (entries old)) + area_size prefix es) held
      ∙ ap (λ n. areas_size (put bytes_cmp prefix Leaf (entries old)) + n) (sym (counted_under prefix (find bytes_cmp prefix (entries old))))
      ∙ sum_by-put (λ area. area_size area.0 (entries area.1)) prefix Leaf (entries old) w.in_order ∙ add-zero (areas_size (entries old));
}
  where
    by : (o : Option Records) → entries (unwrap_or o Leaf) ≡ under o
    by None = refl
    by (Some t) = refl

    held : entries records ≡ under (find bytes_cmp prefix (entries old))
    held = ap entries r ∙ by (find bytes_cmp prefix (entries old))

pub changes_set : (old new : Tree Records) (prefix : List ℕ) (records : Records) → IsWhole old → is_prefix prefix ≡ true → is_sorted bytes_cmp (entries records) ≡ true → entries new ≡ with_area prefix records (put bytes_cmp prefix Leaf (entries old)) → Changes old new prefix (entries records)
changes_set old new prefix records w p s is = by (entries records) refl
  where
    by : (es : List (List ℕ × List ℕ)) → entries records ≡ es → Changes old new prefix (entries records)
    by [] e =
        let gone : entries new ≡ without prefix (entries old) = is ∙ ap (λ es. cond (is_empty es) (without prefix (put bytes_cmp prefix Leaf (entries old))) (put bytes_cmp prefix records (put bytes_cmp prefix Leaf (entries old)))) e ∙ without-put prefix Leaf (entries old) in
        subst (Changes old new prefix) (sym e) (changes_without old new prefix w gone)
    by (x ∷ es) e =
        let stays : entries new ≡ put bytes_cmp prefix records (entries old) = is ∙ ap (λ es. cond (is_empty es) (without prefix (put bytes_cmp prefix Leaf (entries old))) (put bytes_cmp prefix records (put bytes_cmp prefix Leaf (entries old)))) e ∙ put-put prefix records Leaf (entries old) in
        changes_put old new prefix records w stays p s (ap is_empty e)

-- the same after a tree was taken out
module _ (old mid new : Tree Records) (prefix : List ℕ) (taken records : Records) (w : IsWhole old) (t : IsTaken old mid prefix taken) (is : entries new ≡ with_area prefix records (entries mid)) where
  back : (es : List (List ℕ × List ℕ)) → entries records ≡ es → is_sorted bytes_cmp es ≡ true → Changes old new prefix es
  back es e s = subst (Changes old new prefix) e (changes_set old new prefix records w t.form (ap (is_sorted bytes_cmp) e ∙ s) (is ∙ ap (with_area prefix records) t.stands_in))

  pub changes_back_same : entries records ≡ entries taken → Changes old new prefix (under (find bytes_cmp prefix (entries old)))
  changes_back_same e = back _ (e ∙ t.held) (ap (is_sorted bytes_cmp) (sym t.held) ∙ t.sorted)

  pub changes_back_put : (k v : List ℕ) → (IsInOrder taken → entries records ≡ put bytes_cmp k v (entries taken)) → Changes old new prefix (put bytes_cmp k v (under (find bytes_cmp prefix (entries old))))
  changes_back_put k v e = subst (λ es. Changes old new prefix (put bytes_cmp k v es)) t.held (back _ (e t.sorted) (from_T _ (is_sorted-put bytes_cmp total k v (entries taken) (to_T _ t.sorted))))

  pub changes_back_where : (p : List ℕ → Bool) → (IsInOrder taken → entries records ≡ where_key bytes_cmp p (entries taken)) → Changes old new prefix (where_key bytes_cmp p (under (find bytes_cmp prefix (entries old))))
  changes_back_where p e = subst (λ es. Changes old new prefix (where_key bytes_cmp p es)) t.held (back _ (e t.sorted) (from_T _ (is_sorted-where_key bytes_cmp p (entries taken) (to_T _ t.sorted))))

-- a prefix that isn't known
module _ (old new : Tree Records) (prefix : List ℕ) (w : IsWhole old) (is : entries new ≡ entries old) (nothing : under (find bytes_cmp prefix (entries old)) ≡ []) where
  pub changes_where_none : (p : List ℕ → Bool) → Changes old new prefix (where_key bytes_cmp p (under (find bytes_cmp prefix (entries old))))
  changes_where_none p = subst (Changes old new prefix) (nothing ∙ sym (ap (where_key bytes_cmp p) nothing)) (changes_none old new prefix w is)

pub at_err : {A E : Type 0} {P : Type 0} (r : Result A E) → P → OnErr r P
at_err (Ok x) h = tt
at_err (Err e) h = h

-- the first key under a prefix
pub changes_begin : (old new : Tree Records) (prefix : List ℕ) (area : Records) (k v : List ℕ) → IsWhole old → entries new ≡ put bytes_cmp prefix area (entries old) → is_prefix prefix ≡ true → entries area ≡ (k, v) ∷ [] → Changes old new prefix ((k, v) ∷ [])
changes_begin old new prefix area k v w is p e = subst (Changes old new prefix) e (changes_put old new prefix area w is p (ap (is_sorted bytes_cmp) e) (ap is_empty e))

pub some_empty : {A : Type 0} (l : List A) (x : A) (r : List A) → is_empty (l ++ x ∷ r) ≡ false
some_empty [] x r = refl
some_empty (y ∷ l) x r = refl

-- ---- how the size changes
counted_key : (prefix key : List ℕ) (o : Option (List ℕ)) → counted (λ (e : List ℕ × List ℕ). record_size prefix e.0 e.1) key o ≡ freed_size prefix key o
counted_key prefix key None = refl
counted_key prefix key (Some value) = refl

pub size_put : (old new : Tree Records) (prefix k v : List ℕ) (freed : ℕ) → IsWhole old → Changes old new prefix (put bytes_cmp k v (under (find bytes_cmp prefix (entries old)))) → freed ≡ freed_size prefix k (find bytes_cmp k (under (find bytes_cmp prefix (entries old))))
    → areas_size (entries new) + freed ≡ areas_size (entries old) + record_size prefix k v
size_put old new prefix k v freed w c e =
    let es = under (find bytes_cmp prefix (entries old)) in
    let sums : area_size prefix (put bytes_cmp k v es) + freed_size prefix k (find bytes_cmp k es) ≡ area_size prefix es + record_size prefix k v =
    ap (λ n. area_size prefix (put bytes_cmp k v es) + n) (sym (counted_key prefix k (find bytes_cmp k es))) ∙ sum_by-put (λ (x : List ℕ × List ℕ). record_size prefix x.0 x.1) k v es (area_sorted prefix (entries old) w.areas) in
    omega (arith, c.size, sums, e)

pub size_erase : (old new : Tree Records) (prefix k : List ℕ) (freed : ℕ) → IsWhole old → Changes old new prefix (without k (under (find bytes_cmp prefix (entries old)))) → freed ≡ freed_size prefix k (find bytes_cmp k (under (find bytes_cmp prefix (entries old))))
    → areas_size (entries new) + freed ≡ areas_size (entries old)
size_erase old new prefix k freed w c e =
    let es = under (find bytes_cmp prefix (entries old)) in
    let sums : area_size prefix (without k es) + freed_size prefix k (find bytes_cmp k es) ≡ area_size prefix es =
    ap (λ n. area_size prefix (without k es) + n) (sym (counted_key prefix k (find bytes_cmp k es))) ∙ sum_by-without (λ (x : List ℕ × List ℕ). record_size prefix x.0 x.1) k es (area_sorted prefix (entries old) w.areas) in
    omega (arith, c.size, sums, e)

pub size_prefix : (old new : Tree Records) (prefix : List ℕ) (es : List (List ℕ × List ℕ)) (freed : ℕ) → Changes old new prefix [] → under (find bytes_cmp prefix (entries old)) ≡ es → areas_size (entries old) < 2 ^ 64 → freed ≡ min (area_size prefix es) (2 ^ 64 - 1)
    → areas_size (entries new) + freed ≡ areas_size (entries old)
size_prefix old new prefix es freed c e fits f =
    let all : areas_size (entries new) + area_size prefix es ≡ areas_size (entries old) = ap (λ x. areas_size (entries new) + area_size prefix x) (sym e) ∙ c.size ∙ add-zero (areas_size (entries old)) in
    omega (arith, all, f, fits)

pub size_prefix_none : (old new : Tree Records) (prefix : List ℕ) → Changes old new prefix [] → under (find bytes_cmp prefix (entries old)) ≡ [] → areas_size (entries new) + 0 ≡ areas_size (entries old)
size_prefix_none old new prefix c e = ap (λ es. areas_size (entries new) + area_size prefix es) (sym e) ∙ c.size ∙ add-zero (areas_size (entries old))

pub size_where : (old mid new : Tree Records) (prefix : List ℕ) (taken records : Records) (p : List ℕ → Bool) (freed : ℕ) → IsTaken old mid prefix taken
    → Changes old new prefix (where_key bytes_cmp p (under (find bytes_cmp prefix (entries old)))) → entries records ≡ where_key bytes_cmp p (entries taken)
    → weight_of (length prefix) (entries records) + freed ≡ weight_of (length prefix) (entries taken) → areas_size (entries new) + freed ≡ areas_size (entries old)
size_where old mid new prefix taken records p freed t c e f =
    let all : areas_size (entries new) + area_size prefix (entries taken) ≡ areas_size (entries old) + area_size prefix (entries records) =
    ap (λ x. areas_size (entries new) + area_size prefix x) t.held ∙ c.size ∙ ap (λ x. areas_size (entries old) + area_size prefix x) (sym (e ∙ ap (where_key bytes_cmp p) t.held)) in
    omega (arith, all, f)

-- A sum over entries, if one is put or taken away.
use Rattle.std.proofs.Common.{◌≡◌, ℕ, ◌+◌, true, cond, not, List, [], ◌∷◌, ◌++◌, Option, Some, None, refl, sym, ap, ◌∙◌, arith}
use Rattle.std.specs.declared.cmp.Ordering.{Ordering}
use Rattle.std.specs.declared.cmp.Ordering.TheVariants.{Less, Equal, Greater}
use Rattle.std.specs.List.{sum_by}
use Rattle.std.specs.Ordering.{is_eq}
use Rattle.std.specs.FinMap.{slice_cmp-IsAntisymmetric, nat_cmp-IsAntisymmetric}
use Rattle.std.specs.FinMap.Entries.{find, put, is_sorted, below_all, by_order}
use Rattle.std.proofs.lemmas.Bool.{and_parts}
use Rattle.std.proofs.lemmas.List.Sums.{sum_by-append, sum_by-cons}
use Rattle.mon_kv.specs.Tree.{bytes_cmp}
use Rattle.mon_kv.proofs.Forks.{over_of, over_tied, over_trans, find_over, without, without_over}

same_key : (x y : List ℕ) → bytes_cmp x y ≡ Equal → x ≡ y
same_key = slice_cmp-IsAntisymmetric nat_cmp-IsAntisymmetric

module _ {V : Type 0} (f : List ℕ × V → ℕ) where
  -- what a key adds to the sum
  abbrev pub counted : List ℕ → Option V → ℕ
  counted k None = 0
  counted k (Some v) = f (k, v)

  pub sum_by-put : (k : List ℕ) (v : V) (es : List (List ℕ × V)) → is_sorted bytes_cmp es ≡ true → sum_by f (put bytes_cmp k v es) + counted k (find bytes_cmp k es) ≡ sum_by f es + f (k, v)
  sum_by-put k v [] h = omega (arith, sum_by-cons f (k, v) [])
  sum_by-put k v (e ∷ es) h = by (bytes_cmp k e.0) refl (sum_by-put k v es parts.1)
    where
      parts : (below_all bytes_cmp e.0 es ≡ true) × (is_sorted bytes_cmp es ≡ true)
      parts = and_parts (below_all bytes_cmp e.0 es) (is_sorted bytes_cmp es) h

      by : (o : Ordering) → bytes_cmp k e.0 ≡ o → sum_by f (put bytes_cmp k v es) + counted k (find bytes_cmp k es) ≡ sum_by f es + f (k, v)
          → sum_by f (by_order o ((k, v) ∷ e ∷ es) ((e.0, v) ∷ es) (e ∷ put bytes_cmp k v es)) + counted k (cond (is_eq o) (Some e.1) (find bytes_cmp k es)) ≡ sum_by f (e ∷ es) + f (k, v)
      by Less g r =
          let none : counted k (find bytes_cmp k es) ≡ 0 = ap (counted k) (find_over k es (over_trans k e.0 es g (over_of e.0 es parts.0))) in
          omega (arith, none, sum_by-cons f (k, v) (e ∷ es))
      by Equal g r =
          let same = same_key k e.0 g in
          let here : f (e.0, v) ≡ f (k, v) = ap (λ x. f (x, v)) (sym same) in
          let was : f e ≡ f (k, e.1) = ap (λ x. f (x, e.1)) (sym same) in
          omega (arith, here, was, sum_by-cons f (e.0, v) es, sum_by-cons f e es)
      by Greater g r = omega (arith, r, sum_by-cons f e (put bytes_cmp k v es), sum_by-cons f e es)

  pub sum_by-without : (k : List ℕ) (es : List (List ℕ × V)) → is_sorted bytes_cmp es ≡ true → sum_by f (without k es) + counted k (find bytes_cmp k es) ≡ sum_by f es
  sum_by-without k [] h = refl
  sum_by-without k (e ∷ es) h = by (bytes_cmp k e.0) refl (sum_by-without k es parts.1)
    where
      parts : (below_all bytes_cmp e.0 es ≡ true) × (is_sorted bytes_cmp es ≡ true)
      parts = and_parts (below_all bytes_cmp e.0 es) (is_sorted bytes_cmp es) h

      by : (o : Ordering) → bytes_cmp k e.0 ≡ o → sum_by f (without k es) + counted k (find bytes_cmp k es) ≡ sum_by f es
          → sum_by f (cond (not (is_eq o)) (e ∷ without k es) (without k es)) + counted k (cond (is_eq o) (Some e.1) (find bytes_cmp k es)) ≡ sum_by f (e ∷ es)
      by Less g r = omega (arith, r, sum_by-cons f e (without k es), sum_by-cons f e es)
      by Equal g r =
          let was : f e ≡ f (k, e.1) = ap (λ x. f (x, e.1)) (sym (same_key k e.0 g)) in
          let all : sum_by f (without k es) ≡ sum_by f es = ap (sum_by f) (without_over k es (over_tied k e.0 es g (over_of e.0 es parts.0))) in
          omega (arith, all, was, sum_by-cons f e es)
      by Greater g r = omega (arith, r, sum_by-cons f e (without k es), sum_by-cons f e es)

-- a sum over the two sides of an entry
pub sum_by-fork : {X : Type 0} (f : X → ℕ) (d l : List X) (m : X) (r : List X) → d ≡ l ++ m ∷ r → sum_by f d ≡ sum_by f l + (f m + sum_by f r)
sum_by-fork f d l m r is = ap (sum_by f) is ∙ sum_by-append f l (m ∷ r) ∙ ap (λ n. sum_by f l + n) (sum_by-cons f m r)

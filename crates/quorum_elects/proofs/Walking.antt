-- How a row is walked if no number runs out: by its tests, its checked numbers and its steps.
use Rattle.law_names.proofs.Table.{Which, checked, ◌>>=◌}
use Rattle.std.proofs.Common.{Bool, Err, Ok, Result, false, if◌then◌else◌, leb, subst, sym, true, ℕ, ◌^◌, ◌∙◌, ◌≡◌, ◌≤◌}
use Rattle.std.proofs.lemmas.Bool.{cond_both, false≢true, le-leb}

abbrev pub Holds : {A : Type 0} → (A → Type 0) → Result A Which → Type 0
Holds P (Ok x) = P x
Holds P (Err e) = ⊥

-- the result is no error, and P holds of it
pub record Surely {A : Type 0} (P : A → Type 0) (r : Result A Which) : Type 0 where
  pub holds : Holds P r

pub done : {A : Type 0} {P : A → Type 0} {x : A} → P x → Surely P (Ok x)
done p = record { holds = p }

pub and_then : {A B : Type 0} (P : A → Type 0) (Q : B → Type 0) (r : Result A Which) (f : A → Result B Which) → Surely P r → ((x : A) → P x → Surely Q (f x)) → Surely Q (r >>= f)
and_then P Q (Ok x) f p q = q x p.holds
and_then P Q (Err e) f p q = absurd p.holds

-- two facts of one result make one
pub both : {A : Type 0} (P Q : A → Type 0) (r : Result A Which) → Surely P r → Surely Q r → Surely (λ x. P x × Q x) r
both P Q (Ok x) p q = record { holds = (p.holds, q.holds) }
both P Q (Err e) p q = absurd p.holds

pub weaken : {A : Type 0} (P Q : A → Type 0) (r : Result A Which) → ((x : A) → P x → Q x) → Surely P r → Surely Q r
weaken P Q (Ok x) f p = record { holds = f x p.holds }
weaken P Q (Err e) f p = absurd p.holds

-- what a row does, by an equation
pub so : {A : Type 0} {P : A → Type 0} {r q : Result A Which} → r ≡ q → Surely P q → Surely P r
so {P = P} e p = subst (Surely P) (sym e) p

-- a number that is checked, and fits
pub where_fits : {B : Type 0} (Q : B → Type 0) (w : Which) (n : ℕ) (f : ℕ → Result B Which) → n ≤ 2 ^ 62 → (n ≤ 2 ^ 62 → Surely Q (f n)) → Surely Q (checked w n >>= f)
where_fits Q w n f fits q = cond_both (leb n (2 ^ 62)) (Ok n) (Err w) (λ r. Surely Q (r >>= f)) (λ _. q fits) (λ t. absurd (false≢true (sym t ∙ le-leb n (2 ^ 62) fits)))

pub by_test : {A : Type 0} {Q : A → Type 0} (b : Bool) {x y : Result A Which} → (b ≡ true → Surely Q x) → (b ≡ false → Surely Q y) → Surely Q (if b then x else y)
by_test {Q = Q} b {x = x} {y = y} f k = cond_both b x y (λ r. Surely Q r) f k

-- a test that is known to fail has no case in which it passes
pub never : {P : Type 0} {b : Bool} → b ≡ false → b ≡ true → P
never e t = absurd (false≢true (sym e ∙ t))

-- How many ranks a set has.
use Rattle.law_names.proofs.Runs.{Monitors}
use Rattle.law_names.proofs.Table.{count_of, has}
use Rattle.std.proofs.Common.{Bool, List, [], arith, cond, eqb, false, refl, subst, suc, sym, true, zero, ℕ, ◌+◌, ◌<◌, ◌∙◌, ◌∷◌, ◌≡◌, ◌≤◌}
use Rattle.std.proofs.lemmas.Bool.{eqb-true, false≢true}
use Rattle.std.proofs.lemmas.List.Sums.{sum_by-cons}
use Rattle.timed_election.specs.Election.{CanElect}

count_cons : (a : Bool) (A : List Bool) → count_of (a ∷ A) ≡ cond a 1 0 + count_of A
count_cons a A = sum_by-cons (λ (b : Bool). cond b 1 0) a A

-- a set without one of n ranks has less than n
pub count_lacking : (A : List Bool) (n m : ℕ) → ((k : ℕ) → has A k ≡ true → k < n) → m < n → has A m ≡ false → count_of A < n
count_lacking [] n m below lt out = omega arith
count_lacking (true ∷ A) zero m below lt out = absurd (omega arith)
count_lacking (false ∷ A) zero m below lt out = absurd (omega arith)
count_lacking (true ∷ A) (suc n) zero below lt out = absurd (false≢true (sym out))
count_lacking (true ∷ A) (suc n) (suc m) below lt out = let k = count_lacking A n m (λ k h. let s = below (suc k) h in omega arith) (omega arith) out in omega (arith, count_cons true A)
count_lacking (false ∷ A) (suc n) zero below lt out = let k = count_within A n (λ k h. let s = below (suc k) h in omega arith) in omega (arith, count_cons false A)
  where
    count_within : (A : List Bool) (n : ℕ) → ((k : ℕ) → has A k ≡ true → k < n) → count_of A ≤ n
    count_within [] n below = omega arith
    count_within (true ∷ A) zero below = absurd (let s = below 0 refl in omega arith)
    count_within (false ∷ A) zero below = let k = count_within A zero (λ k h. let s = below (suc k) h in absurd (omega arith)) in omega (arith, count_cons false A)
    count_within (true ∷ A) (suc n) below = let k = count_within A n (λ k h. let s = below (suc k) h in omega arith) in omega (arith, count_cons true A)
    count_within (false ∷ A) (suc n) below = let k = count_within A n (λ k h. let s = below (suc k) h in omega arith) in omega (arith, count_cons false A)
count_lacking (false ∷ A) (suc n) (suc m) below lt out = let k = count_lacking A n m (λ k h. let s = below (suc k) h in omega arith) (omega arith) out in omega (arith, count_cons false A)

-- members of q alone are not all of the map
pub not_whole : (ms : Monitors) (q : List Bool) (best : ℕ) → CanElect ms q best → (A : List Bool) → ((k : ℕ) → has A k ≡ true → has q k ≡ true) → eqb (count_of A) ms.count ≡ false
not_whole ms q best C A members = by (eqb (count_of A) ms.count) refl
  where
    lacks : (z : Bool) → has A C.outsider ≡ z → z ≡ false
    lacks false h = refl
    lacks true h = absurd (false≢true (sym C.outside ∙ members C.outsider h))

    by : (z : Bool) → eqb (count_of A) ms.count ≡ z → z ≡ false
    by false h = refl
    by true h =
        let less = count_lacking A ms.count C.outsider (λ k h. C.members k (members k h)) C.in_map (lacks (has A C.outsider) refl) in
        let same = eqb-true (count_of A) ms.count h in
        absurd (omega arith)

pub several : (ms : Monitors) (q : List Bool) (best : ℕ) → CanElect ms q best → 1 < ms.count
several ms q best C = let a = C.members best C.member in let c = C.in_map in let ne : C.outsider ≡ best → ⊥ = (λ k. false≢true (sym C.outside ∙ subst (λ (z : ℕ). has q z ≡ true) (sym k) C.member)) in omega arith

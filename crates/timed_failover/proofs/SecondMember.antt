-- A majority that isn't all monitors has a second member.
use Rattle.law_names.proofs.Runs.{Monitors}
use Rattle.law_names.proofs.Table.{count_of, has}
use Rattle.std.proofs.Common.{Bool, List, [], arith, cond, false, refl, suc, true, zero, ℕ, ◌*◌, ◌<◌, ◌∷◌, ◌≡◌}
use Rattle.std.proofs.lemmas.Bool.{ltb-true}
use Rattle.std.proofs.lemmas.List.Sums.{sum_by-cons}
use Rattle.timed_election.proofs.Counting.{several}
use Rattle.timed_election.specs.Election.{CanElect}

first_of : (A : List Bool) → 0 < count_of A → (k : ℕ) × (has A k ≡ true)
first_of [] h = absurd (omega arith)
first_of (true ∷ A) h = (0, refl)
first_of (false ∷ A) h = let k = first_of A (omega (arith, sum_by-cons (λ (b : Bool). cond b 1 0) false A)) in (suc k.0, k.1)

other_than : (A : List Bool) (b : ℕ) → 1 < count_of A → (k : ℕ) × (has A k ≡ true) × (k ≡ b → ⊥)
other_than [] b h = absurd (omega arith)
other_than (true ∷ A) zero h = let k = first_of A (omega (arith, sum_by-cons (λ (b : Bool). cond b 1 0) true A)) in (suc k.0, k.1, λ e. omega arith)
other_than (false ∷ A) zero h = let k = first_of A (omega (arith, sum_by-cons (λ (b : Bool). cond b 1 0) false A)) in (suc k.0, k.1, λ e. omega arith)
other_than (true ∷ A) (suc b) h = (0, refl, λ e. omega arith)
other_than (false ∷ A) (suc b) h = let k = other_than A b (omega (arith, sum_by-cons (λ (b : Bool). cond b 1 0) false A)) in (suc k.0, k.1, λ e. k.2 (omega arith))

pub second_member : (ms : Monitors) (q : List Bool) (best : ℕ) → CanElect ms q best → (k : ℕ) × (has q k ≡ true) × (k ≡ best → ⊥)
second_member ms q best C = let m = ltb-true ms.count (2 * count_of q) C.major in let s = several ms q best C in other_than q best (omega arith)

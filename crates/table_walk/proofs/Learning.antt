-- What learning values leaves as it was.
use Rattle.mon_msg.specs.Protocol.Changes.{Last, Learn}
use Rattle.mon_msg.specs.Protocol.Course.{Course}
use Rattle.mon_msg.specs.Protocol.Learning.{learn}
use Rattle.mon_tx.specs.declared.op.Op.{Op}
use Rattle.mon_types.specs.declared.names.Which.TheVariants as which
use Rattle.table_walk.proofs.Walk.{Then, done, where_fits}
use Rattle.std.proofs.Common.{List, [], ap, arith, length, refl, ℕ, ◌++◌, ◌+◌, ◌∷◌, ◌≡◌}

-- two courses with the same state and the same messages sent
pub record Same (x y : Course) : Type 0 where
  pub state : y.state ≡ x.state
  pub out : y.out ≡ x.out

-- learning changes neither what is remembered nor what is sent
pub learns : (v : ℕ) (values : List (List Op)) (x : Course) → Then (Same x) (learn v values x)
unfolding learn
learns v [] x = done (record { state = refl; out = refl })
learns v (value ∷ values) x = where_fits (Same x) which.Version (v + length values) _ (λ _. done (record { state = refl; out = refl }))

-- one value
pub record LearnedOne (v : ℕ) (value : List Op) (x y : Course) : Type 0 where
  pub state : y.state ≡ x.state
  pub out : y.out ≡ x.out
  pub last : y.readings.last ≡ v
  pub changes : y.changes ≡ (x.changes ++ Learn v value ∷ []) ++ Last v ∷ []

pub learns_one : (v : ℕ) (value : List Op) (x : Course) → Then (LearnedOne v value x) (learn v (value ∷ []) x)
unfolding learn
learns_one v value x = where_fits (LearnedOne v value x) which.Version (v + 0) _ (λ _. done (record { state = refl; out = refl; last = omega arith; changes = ap (λ (c : ℕ). (x.changes ++ Learn v value ∷ []) ++ Last c ∷ []) (let e : v + 0 ≡ v = omega arith in e) }))

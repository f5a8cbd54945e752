-- What a winner asks of stores stays so if they keep another epoch or another proposal number.
use Rattle.law_names.proofs.Table.{Epoch, Numbers, Op, Readings, played}
use Rattle.mon_msg.specs.Protocol.Readings.{after}
use Rattle.std.proofs.Common.{List, [], ℕ, ◌∷◌}
use Rattle.timed_failover.specs.Collecting.{CanLearn, IsStocked}

module _ (version : ℕ) (value : List Op) (w : Readings) where
  -- ---- an epoch

  pub stocked_epoch : (e : ℕ) → IsStocked version value w → IsStocked version value (played (Epoch e ∷ []) w)
  stocked_epoch e K = record { near = K.near; low = K.low; made = K.made }

  pub learns_epoch : (e : ℕ) → CanLearn version value w → CanLearn version value (played (Epoch e ∷ []) w)
  unfolding after
  learns_epoch e L = L

  -- ---- an epoch and the numbers of a winner

  pub stocked_won : (e pn : ℕ) → IsStocked version value w → IsStocked version value (played (Epoch e ∷ Numbers pn ∷ []) w)
  stocked_won e pn K = record { near = K.near; low = K.low; made = K.made }

  pub learns_won : (e pn : ℕ) → CanLearn version value w → CanLearn version value (played (Epoch e ∷ Numbers pn ∷ []) w)
  unfolding after
  learns_won e pn L = L

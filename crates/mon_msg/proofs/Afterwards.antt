-- The value of a cell after changes.
use Rattle.std.proofs.Common.{◌≡◌, List, [], ◌∷◌, ◌++◌, Some, None, refl, ap, ◌∙◌}
use Rattle.std.specs.Option.{option_map_or}
use Rattle.mon_tx.specs.declared.op.Op.{Op}
use Rattle.mon_tx.specs.declared.key.Area.{Area}
use Rattle.mon_tx.specs.declared.key.Key.{Key}
use Rattle.mon_tx.specs.Map.{Store, apply_op, apply, number_in}
use Rattle.mon_tx.specs.Keys.{place, cell, number}
use Rattle.mon_tx.specs.Decision.{Cell, Decision, decision, or_before}
use Rattle.mon_tx.proofs.After.{get-apply}
use Rattle.mon_msg.specs.Protocol.Readings.{number_after}

-- the value of the cell after changes
pub told : {A : Type 0} (of_cell : Cell → A) (d : Decision) (c : Cell) → of_cell (or_before d c) ≡ option_map_or of_cell d (of_cell c)
told of_cell None c = refl
told of_cell (Some x) c = refl

pub number-apply : (ops : List Op) (m : Store) (a : Area) (k : Key) → number (apply ops m) a k ≡ number_after ops a k (number m a k)
number-apply ops m a k = ap number_in (get-apply ops m (place a k)) ∙ told number_in (decision ops (place a k)) (cell m a k)

pub apply-append : (a b : List Op) (m : Store) → apply (a ++ b) m ≡ apply b (apply a m)
apply-append [] b m = refl
apply-append (op ∷ a) b m = apply-append a b (apply_op op m)

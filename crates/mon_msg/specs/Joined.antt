-- Joins the changes of a transaction. A put takes the position of the latest earlier put of its key, unless a later
-- change removes the key. Any other change is added at the end.
use Rattle.std.specs.Prelude.{Bool, false, not, ◌&&◌, List, [], ◌∷◌, ◌++◌, Option, Some, None, is_some, if◌then◌else◌}
use Rattle.std.specs.List.{list_any}
use Rattle.std.specs.Ordering.{eq_by_cmp}
use Rattle.mon_tx.specs.declared.op.Op.{Op}
use Rattle.mon_tx.specs.declared.op.Op.TheVariants.{Put, Erase, ErasePrefix, EraseRange}
use Rattle.mon_tx.specs.Map.{Place, place_cmp}
use Rattle.mon_tx.specs.Decision.{decided}

abbrev pub puts : Place → Op → Bool
puts at (Put prefix key value) = eq_by_cmp place_cmp at (prefix, key)
puts at (Erase prefix key) = false
puts at (ErasePrefix prefix) = false
puts at (EraseRange prefix from to) = false

abbrev pub takes_away : Place → Op → Bool
takes_away at (Put prefix key value) = false
takes_away at (Erase prefix key) = is_some (decided (Erase prefix key) at)
takes_away at (ErasePrefix prefix) = is_some (decided (ErasePrefix prefix) at)
takes_away at (EraseRange prefix from to) = is_some (decided (EraseRange prefix from to) at)

-- `op` before the list found further on; if there is none, `new` in place of `op`, if it may be `here`
abbrev pub or_here : Op → Op → List Op → Bool → Option (List Op) → Option (List Op)
or_here new op ops here (Some found) = Some (op ∷ found)
or_here new op ops here None = if here then Some (new ∷ ops) else None

-- the list in which a new put takes the position of the latest put of its key that may be replaced; none if there is no
-- such put
abbrev pub replaced : Place → Op → List Op → Option (List Op)
replaced at new [] = None
replaced at new (op ∷ ops) = or_here new op ops (puts at op && not (list_any (takes_away at) ops)) (replaced at new ops)

abbrev pub or_last : Op → List Op → Option (List Op) → List Op
or_last new done (Some found) = found
or_last new done None = done ++ new ∷ []

abbrev pub joined_with : List Op → Op → List Op
joined_with done (Put prefix key value) = or_last (Put prefix key value) done (replaced (prefix, key) (Put prefix key value) done)
joined_with done (Erase prefix key) = done ++ Erase prefix key ∷ []
joined_with done (ErasePrefix prefix) = done ++ ErasePrefix prefix ∷ []
joined_with done (EraseRange prefix from to) = done ++ EraseRange prefix from to ∷ []

abbrev pub joined_onto : List Op → List Op → List Op
joined_onto done [] = done
joined_onto done (op ∷ ops) = joined_onto (joined_with done op) ops

unfoldable pub joined : List Op → List Op
joined ops = joined_onto [] ops

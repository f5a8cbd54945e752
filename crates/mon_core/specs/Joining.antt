-- Lists of changes in which each key is put at most once.
use Rattle.std.specs.Prelude.{Bool, true, false, not, ◌&&◌, List, [], ◌∷◌}
use Rattle.std.specs.List.{list_any}
use Rattle.mon_msg.specs.Joined.{puts}
use Rattle.mon_tx.specs.declared.op.Op.{Op}
use Rattle.mon_tx.specs.declared.op.Op.TheVariants.{Put, Erase, ErasePrefix, EraseRange}

-- whether one of the changes after a put puts its key again
abbrev pub is_put_again : Op → List Op → Bool
is_put_again (Put prefix key value) ops = list_any (puts (prefix, key)) ops
is_put_again (Erase prefix key) ops = false
is_put_again (ErasePrefix prefix) ops = false
is_put_again (EraseRange prefix from to) ops = false

abbrev pub are_put_once : List Op → Bool
are_put_once [] = true
are_put_once (op ∷ ops) = not (is_put_again op ops) && are_put_once ops

-- The changes that may change the epoch.
use Rattle.std.specs.Prelude.{Bool}
use Rattle.std.specs.Str.{bytes_eq}
use Rattle.mon_tx.specs.Keys.{area_text}
use Rattle.mon_tx.specs.declared.key.Area.TheVariants as area
use Rattle.mon_tx.specs.declared.op.Op.TheVariants.{Put, Erase, ErasePrefix, EraseRange}
use Rattle.mon_tx.specs.declared.op.Op.{Op}

-- whether a change is of the area that has the epoch
abbrev pub speaks_of_monitor : Op → Bool
speaks_of_monitor (Put prefix key value) = bytes_eq (area_text area.Monitor) prefix
speaks_of_monitor (Erase prefix key) = bytes_eq (area_text area.Monitor) prefix
speaks_of_monitor (ErasePrefix prefix) = bytes_eq (area_text area.Monitor) prefix
speaks_of_monitor (EraseRange prefix from to) = bytes_eq (area_text area.Monitor) prefix

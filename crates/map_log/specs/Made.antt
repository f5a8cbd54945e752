-- What the commands of clients make.
use Rattle.std.specs.Prelude.{ℕ, List, length, Result, Ok, Err, nat_lt, if◌then◌else◌}
use Rattle.mon_bytes.specs.declared.command.CommandRefused.{CommandRefused}
use Rattle.mon_bytes.specs.declared.command.CommandRefused.TheVariants.{TooLong}
use Rattle.map_log.specs.declared.command.TheConstants.{MOST_TEXT}
use Rattle.map_log.specs.declared.inc.LogInc.{LogInc}

-- a text that isn't too long
abbrev pub made : ℕ → List ℕ → Result LogInc CommandRefused
made rank text = if nat_lt MOST_TEXT (length text) then Err (TooLong (length text) MOST_TEXT) else Ok (record { rank = rank; text = text })

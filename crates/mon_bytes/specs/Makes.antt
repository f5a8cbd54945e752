-- What a service makes of a command.
use Rattle.std.specs.Prelude.{◌≡◌, Result, Ok, Err}
use Rattle.mon_bytes.specs.declared.command.CommandRefused.{CommandRefused}
use Rattle.mon_bytes.specs.declared.command.CommandRefused.TheVariants as refused

abbrev pub RefusesAs : {X : Type 0} → CommandRefused → Result X CommandRefused → Type 0
RefusesAs refused.OutOfMemory wanted = Unit {0}
RefusesAs e wanted = wanted ≡ Err e

-- a call returns what is wanted, unless memory ran out
abbrev pub Makes : {X : Type 0} → Result X CommandRefused → Result X CommandRefused → Type 0
Makes (Ok x) wanted = wanted ≡ Ok x
Makes (Err e) wanted = RefusesAs e wanted

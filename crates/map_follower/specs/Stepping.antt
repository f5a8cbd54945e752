-- What the calls that apply incrementals return.
use Rattle.std.specs.Prelude.{◌≡◌, ℕ, Option, Some, None, Result, Ok, Err}
use Rattle.mon_wire.specs.declared.reply.ShownMap.{ShownMap}
use Rattle.map_follower.specs.declared.stepping.Unapplied.{Unapplied}
use Rattle.map_follower.specs.declared.stepping.Unapplied.TheVariants.{Bad, OutOfMemory}

-- a step that left the map `new`, by the incremental at a place
abbrev pub Steps : Result (Unit {0}) Unapplied → ℕ → ShownMap → Option ShownMap → Type 0
Steps (Ok x) index new next = next ≡ Some new
Steps (Err (Bad i)) index new next = (next ≡ None) × (i ≡ index)
Steps (Err OutOfMemory) index new next = Unit {0}

-- all steps
abbrev pub Gives : Result ShownMap Unapplied → Result ShownMap ℕ → Type 0
Gives (Ok m) after = after ≡ Ok m
Gives (Err (Bad i)) after = after ≡ Err i
Gives (Err OutOfMemory) after = Unit {0}

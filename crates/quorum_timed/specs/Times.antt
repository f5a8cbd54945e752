-- The times of events.
use Rattle.quorum_model.specs.World.{Client, Deliver, Event, Plain, Ring, Start, plain_of}
use Rattle.std.specs.Prelude.{List, [], max, ℕ, ◌∷◌}

-- when an input comes, by the clock of its monitor, in milliseconds
abbrev pub time_of : Plain → ℕ
time_of (Start rank at) = at
time_of (Deliver message at) = at
time_of (Ring rank timer at) = at
time_of (Client rank at session request) = at

-- the latest time of some events; 0 if there are none
unfoldable pub latest : List Event → ℕ
latest [] = 0
latest (e ∷ es) = max (time_of (plain_of e)) (latest es)

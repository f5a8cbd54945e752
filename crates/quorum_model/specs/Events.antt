-- Which events a run may be made of: those at monitors of the map, whose requests have their form.
use Rattle.std.specs.Prelude.{ℕ, ◌<◌, IfSome, List}
use Rattle.std.specs.List.{AllByRecursion}
use Rattle.mon_wire.specs.declared.request.Request.{Request}
use Rattle.quorum_model.specs.Clients.{command_of}
use Rattle.log_model.specs.LogOfValues.{IsCommand}
use Rattle.quorum_model.specs.World.{Plain, Start, Deliver, Ring, Client, Event, plain_of}

-- if a request asks a command, its key is a name, and its value or its text is UTF-8
abbrev pub RequestFits : Request → Type 0
RequestFits r = IfSome (command_of r) IsCommand

-- what arrives at one of n monitors
abbrev pub PlainFits : ℕ → Plain → Type 0
PlainFits n (Start rank at) = rank < n
PlainFits n (Deliver message at) = Unit {0}
PlainFits n (Ring rank timer at) = rank < n
PlainFits n (Client rank at session r) = (rank < n) × RequestFits r

abbrev pub AllFit : ℕ → List Event → Type 0
AllFit n events = AllByRecursion (λ e. PlainFits n (plain_of e)) events

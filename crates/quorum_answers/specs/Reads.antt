-- That the monitor of a later read has no earlier last version.
use Rattle.std.specs.Prelude.{◌≡◌, ◌≤◌}
use Rattle.std.specs.List.{AllByRecursion}
use Rattle.mon_wire.specs.declared.reply.Reply.{Reply}
use Rattle.quorum_model.specs.World.{World, Replied}
use Rattle.quorum_replies.specs.Kinds.{IsShowing, kind_of}

-- a reply that shows a map, or lists its changes
abbrev pub Shows : Reply → Type 0
Shows r = IsShowing (kind_of r)

-- If both show something and b's event isn't earlier than a's, b's last version isn't lower than a's.
abbrev pub NoOlder : Replied → Replied → Type 0
NoOlder a b = Shows a.reply → Shows b.reply → a.event ≤ b.event → a.last ≤ b.last

-- this holds of any two replies of one epoch, by whichever monitors
abbrev pub EpochsOnward : World → Type 0
EpochsOnward w = AllByRecursion (λ a. AllByRecursion (λ b. a.epoch ≡ b.epoch → NoOlder a b) w.replied) w.replied

-- this holds of any two replies of one monitor, in whatever epochs and whatever crashes came between
abbrev pub EachOnward : World → Type 0
EachOnward w = AllByRecursion (λ a. AllByRecursion (λ b. a.rank ≡ b.rank → NoOlder a b) w.replied) w.replied

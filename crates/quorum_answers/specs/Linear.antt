-- The acknowledged writes and the reads of one epoch are linearizable.
use Rattle.std.specs.Prelude.{◌≡◌, ℕ, ◌<◌, ◌≤◌}
use Rattle.std.specs.List.{Contains}
use Rattle.quorum_model.specs.Kept.{Kept}
use Rattle.quorum_model.specs.Shown.{Shown}
use Rattle.quorum_model.specs.World.{World, Acknowledged, Replied}
use Rattle.quorum_answers.specs.Reads.{Shows}

-- an operation: an acknowledgement of a write, or a reply
pub data Operation : Type 0 where
  Write : (write : Acknowledged) → Operation
  Read : (read : Replied) → Operation

-- The operation is one of the world's: an acknowledgement that a leader made, or a reply that shows a map or changes.
-- The client of an acknowledged write may have no answer yet. A refused command shows nothing and is no read.
abbrev pub Completed : World → Operation → Type 0
Completed w (Write a) = Contains w.acknowledged a
Completed w (Read r) = Contains w.replied r × Shows r.reply

-- The event in which an operation takes effect: the leader acknowledges the write, or the monitor replies to the read.
-- A reply that a write is done is of that event or of a later one (`Kept`). When a client asked isn't stated here.
abbrev pub its_event : Operation → ℕ
its_event (Write a) = a.event
its_event (Read r) = r.event

abbrev pub its_epoch : Operation → ℕ
its_epoch (Write a) = a.what.epoch
its_epoch (Read r) = r.epoch

-- The order of the log: a write has its version, and a read follows the last version of its monitor.
abbrev pub Precedes : Operation → Operation → Type 0
Precedes (Write a) (Write b) = a.what.version < b.what.version
Precedes (Write a) (Read r) = a.what.version ≤ r.last
Precedes (Read r) (Write a) = r.last < a.what.version
Precedes (Read q) (Read r) = q.last ≤ r.last

-- Each write is a version of the one log, and each read shows what the versions up to its monitor's last one make: the
-- map, or changes and whether others follow. Of two operations of one epoch, at whichever monitors, the one of the
-- earlier event comes first in that log. Whether that is the order of time depends on when clients asked, which isn't
-- stated here.
pub record Linearizable (n : ℕ) (w : World) : Type 0 where
  pub writes : Kept n w
  pub reads : Shown w
  pub order : (x y : Operation) → Completed w x → Completed w y → its_epoch x ≡ its_epoch y
      → its_event x < its_event y → Precedes x y

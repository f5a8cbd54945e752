-- What clients are shown is the log's, is what they asked for, and is of a log that has what was acknowledged before in the
-- same epoch.
use Rattle.std.specs.Prelude.{◌≡◌, ℕ, ◌+◌, ◌<◌, ◌≤◌, ◌↔◌, ◌⊎◌, Bool, IsTrue, List, length, take, drop}
use Rattle.std.specs.List.{AllByRecursion, Contains}
use Rattle.mon_msg.specs.Fold.{incrementals, map_of_log, version_of_log}
use Rattle.mon_wire.specs.declared.reply.Reply.{Reply}
use Rattle.mon_wire.specs.declared.reply.Reply.TheVariants as reply
use Rattle.mon_wire.specs.declared.request.Request.{Request}
use Rattle.mon_wire.specs.declared.request.Request.TheVariants as request
use Rattle.quorum_model.specs.World.{World, Acknowledged, Replied}

-- these are the incrementals after the first `from` ones, and `more` says whether others follow
pub record AreAfter (all : List (List ℕ)) (from : ℕ) (told : List (List ℕ)) (more : Bool) : Type 0 where
  pub same : told ≡ take (length told) (drop from all)
  pub others : IsTrue more ↔ from + length told < length all

-- A map is that of the log up to the monitor's last version, and so are the incrementals. Here and below each kind of reply is
-- named, so that whoever adds one decides what is promised of it.
abbrev pub ShowsLog : World → Replied → Reply → Type 0
ShowsLog w r (reply.Shown s paxos version map) =
    (paxos ≡ r.last) × (map ≡ map_of_log s w.log r.last) × (version ≡ version_of_log s w.log r.last)
ShowsLog w r (reply.Since s from told more) = AreAfter (incrementals s w.log r.last) from told more
ShowsLog w r (reply.Done v) = Unit {0}
ShowsLog w r reply.NoSuch = Unit {0}
ShowsLog w r (reply.TooLong len most) = Unit {0}
ShowsLog w r (reply.MapFull would_be) = Unit {0}
ShowsLog w r reply.Unavailable = Unit {0}
ShowsLog w r (reply.NotReadable has lease) = Unit {0}
ShowsLog w r (reply.Busy waiting) = Unit {0}

-- the session asked that of this monitor
abbrev pub AskedFor : World → Replied → Request → Type 0
AskedFor w r what = Contains w.asked (record { rank = r.rank; session = r.session; request = what })

-- What is shown or listed was asked for. If changes are asked for that are no longer kept, the map is shown instead.
abbrev pub WasAskedFor : World → Replied → Reply → Type 0
WasAskedFor w r (reply.Shown s paxos version map) = AskedFor w r (request.Show s) ⊎ ((v : ℕ) × AskedFor w r (request.Since s v))
WasAskedFor w r (reply.Since s from told more) = AskedFor w r (request.Since s from)
WasAskedFor w r (reply.Done v) = Unit {0}
WasAskedFor w r reply.NoSuch = Unit {0}
WasAskedFor w r (reply.TooLong len most) = Unit {0}
WasAskedFor w r (reply.MapFull would_be) = Unit {0}
WasAskedFor w r reply.Unavailable = Unit {0}
WasAskedFor w r (reply.NotReadable has lease) = Unit {0}
WasAskedFor w r (reply.Busy waiting) = Unit {0}

-- the monitor's last version isn't above the log's; what the reply shows is the log's up to it, and was asked for
pub record IsShown (w : World) (r : Replied) : Type 0 where
  pub within : r.last ≤ length w.log
  pub shows : ShowsLog w r r.reply
  pub asked : WasAskedFor w r r.reply

abbrev pub Shown : World → Type 0
Shown w = AllByRecursion (IsShown w) w.replied

-- ---- the fence of an acknowledgement

abbrev pub IsFenced : Acknowledged → Replied → Reply → Type 0
IsFenced a r (reply.Shown s paxos version map) = a.event < r.event → a.what.epoch ≡ r.epoch → a.what.version ≤ r.last
IsFenced a r (reply.Since s from told more) = a.event < r.event → a.what.epoch ≡ r.epoch → a.what.version ≤ r.last
IsFenced a r (reply.Done v) = Unit {0}
IsFenced a r reply.NoSuch = Unit {0}
IsFenced a r (reply.TooLong len most) = Unit {0}
IsFenced a r (reply.MapFull would_be) = Unit {0}
IsFenced a r reply.Unavailable = Unit {0}
IsFenced a r (reply.NotReadable has lease) = Unit {0}
IsFenced a r (reply.Busy waiting) = Unit {0}

-- The monitor of a read after an acknowledgement, in its epoch, has that version. So a map includes it. Changes may end
-- before it, if others follow.
abbrev pub Fence : World → Type 0
Fence w = AllByRecursion (λ a. AllByRecursion (λ r. IsFenced a r r.reply) w.replied) w.acknowledged

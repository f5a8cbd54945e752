-- What was acknowledged is kept.
use Rattle.std.specs.Prelude.{◌≡◌, ℕ, ◌<◌, ◌≤◌, true, List, [], ◌∷◌, length, Option, Some, None}
use Rattle.std.specs.List.{AllByRecursion, Contains}
use Rattle.mon_kv.specs.Readers.{is_marked}
use Rattle.mon_tx.specs.Map.{Store}
use Rattle.mon_tx.specs.Decode.{ops_in}
use Rattle.mon_msg.specs.Fold.{entry, put_in}
use Rattle.mon_msg.specs.Protocol.State.{State}
use Rattle.mon_wire.specs.declared.reply.Reply.{Reply}
use Rattle.mon_wire.specs.declared.reply.Reply.TheVariants as reply
use Rattle.quorum_model.specs.Clients.{made_by}
use Rattle.quorum_model.specs.Growth.{last_of}
use Rattle.quorum_model.specs.Happens.{is_active}
use Rattle.quorum_model.specs.World.{World, Asked, Acknowledged, Acknowledgement, Replied}

-- an active leader with a number of at least that of the acknowledgement has the version, and is under no full synchronization
abbrev pub LeaderHas : Acknowledgement → Option State → Store → Type 0
LeaderHas a None m = Unit {0}
LeaderHas a (Some s) m = is_active s.phase ≡ true → a.pn ≤ s.leader.pn → (a.version ≤ last_of m) × ¬ (is_marked m ≡ true)

-- The version is in the log and puts what was acknowledged, and every later leader has it. Each monitor remembers
-- `state i`, unless it is down, and its map is `store i`.
pub record IsKept (n : ℕ) (log : List (List ℕ)) (state : ℕ → Option State) (store : ℕ → Store)
    (a : Acknowledgement) : Type 0 where
  pub some : 1 ≤ a.version
  pub within : a.version ≤ length log
  pub put : Contains (put_in a.service (ops_in (entry log a.version))) a.incremental
  pub leaders : (i : ℕ) → i < n → LeaderHas a (state i) (store i)

abbrev pub IsKeptIn : ℕ → World → Acknowledged → Type 0
IsKeptIn n w a = IsKept n w.log w.state w.store a.what

-- no version is acknowledged twice
abbrev pub AcknowledgedOnce : {A : Type 0} → (version_of : A → ℕ) → List A → Type 0
AcknowledgedOnce version_of [] = Unit {0}
AcknowledgedOnce version_of (a ∷ others) =
    AllByRecursion (λ b. ¬ (version_of b ≡ version_of a)) others × AcknowledgedOnce version_of others

-- The version was acknowledged, by the reply's event or an earlier one. It was acknowledged for a command that the
-- reply's session asked of the reply's monitor.
pub record IsAnswered (w : World) (r : Replied) (v : ℕ) : Type 0 where
  pub acknowledged : Acknowledged
  pub among : Contains w.acknowledged acknowledged
  pub version : acknowledged.what.version ≡ v
  pub earlier : acknowledged.event ≤ r.event
  pub asked : Asked
  pub was_asked : Contains w.asked asked
  pub rank : asked.rank ≡ r.rank
  pub session : asked.session ≡ r.session
  pub made : made_by asked.rank asked.request ≡ Some (acknowledged.what.service, acknowledged.what.incremental)

-- each kind of reply is named, so that whoever adds one decides what is promised of it
abbrev pub DoneIsAnswered : World → Replied → Reply → Type 0
DoneIsAnswered w r (reply.Done v) = IsAnswered w r v
DoneIsAnswered w r (reply.Shown s paxos version map) = Unit {0}
DoneIsAnswered w r (reply.Since s from told more) = Unit {0}
DoneIsAnswered w r reply.NoSuch = Unit {0}
DoneIsAnswered w r (reply.TooLong len most) = Unit {0}
DoneIsAnswered w r (reply.MapFull would_be) = Unit {0}
DoneIsAnswered w r reply.Unavailable = Unit {0}
DoneIsAnswered w r (reply.NotReadable has lease) = Unit {0}
DoneIsAnswered w r (reply.Busy waiting) = Unit {0}

pub record Kept (n : ℕ) (w : World) : Type 0 where
  pub each : AllByRecursion (IsKeptIn n w) w.acknowledged
  pub once : AcknowledgedOnce (λ (a : Acknowledged). a.what.version) w.acknowledged
  pub answered : AllByRecursion (λ r. DoneIsAnswered w r r.reply) w.replied

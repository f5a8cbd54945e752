-- Which request an answer is to, if its session asked its monitor only once.
use Rattle.std.specs.Prelude.{◌≡◌, ◌⊎◌, ℕ, ◌<◌, ◌≤◌, List, length, Some, slice_get}
use Rattle.std.specs.List.{Contains}
use Rattle.mon_bytes.specs.declared.command.Command.{Command}
use Rattle.mon_msg.specs.Fold.{entry, put_in}
use Rattle.mon_tx.specs.Decode.{ops_in}
use Rattle.mon_wire.specs.declared.reply.Reply.{Reply}
use Rattle.mon_wire.specs.declared.reply.Reply.TheVariants as reply
use Rattle.mon_wire.specs.declared.request.Request.{Request}
use Rattle.mon_wire.specs.declared.request.Request.TheVariants as request
use Rattle.mon_wire.specs.declared.request.Service.{Service}
use Rattle.mon_wire.specs.declared.request.Session.{Session}
use Rattle.network_answers.specs.Answers.{Answer}
use Rattle.network_answers.specs.Fates.{Requests}
use Rattle.quorum_commands.specs.Unmade.{AcknowledgesNone}
use Rattle.quorum_model.specs.Clients.{command_of, made_by}
use Rattle.quorum_model.specs.World.{Asked}
use Rattle.quorum_replies.specs.Kinds.{Deferring, Kind, Refusing, kind_of}
use Rattle.quorum_replies.specs.Replies.{times_asked}

-- At most one request of this session came to monitor i. A session is a client's number and an ID. A client brings that
-- about by a new ID for each request, if no datagram of a request comes twice and no other client gets both its number
-- and this ID, in whatever lives of the monitor.
abbrev pub AsksOnce : List Asked → (i : ℕ) → Session → Type 0
AsksOnce requests i t = times_asked i t requests ≤ 1

-- version v of the log makes the change for which this request asks monitor i
pub record Makes (log : List (List ℕ)) (i : ℕ) (r : Request) (v : ℕ) : Type 0 where
  pub service : Service
  pub incremental : List ℕ
  pub asks : made_by i r ≡ Some (service, incremental)
  pub put : Contains (put_in service (ops_in (entry log v))) incremental

-- the request asks for a command
abbrev pub IsCommanding : Request → Type 0
IsCommanding r = (c : Command) × (command_of r ≡ Some c)

-- A reply of this kind, which shows and acknowledges nothing, may be one to this request. A refusal is to a command.
abbrev pub MayBeTo : Kind → Request → Type 0
MayBeTo Refusing r = IsCommanding r
MayBeTo Deferring r = Unit {0}
MayBeTo other r = ⊥

-- the reply of monitor i is one to this request
abbrev pub Answers : List (List ℕ) → (i : ℕ) → Request → Reply → Type 0
Answers log i r (reply.Done v) = Makes log i r v
Answers log i r (reply.Shown s paxos version map) = (r ≡ request.Show s) ⊎ ((v : ℕ) × (r ≡ request.Since s v))
Answers log i r (reply.Since s from told more) = r ≡ request.Since s from
Answers log i r other = MayBeTo (kind_of other) r

-- The answer is to request k, the only one of its session that came to its monitor. If it isn't Done, no version of the
-- log is of this request. `request` has the number of the request that each version is of.
pub record IsTo (requests : List Asked) (log : List (List ℕ)) (request : Requests log) (a : Answer) : Type 0 where
  pub k : ℕ
  pub by : Asked
  pub at : slice_get requests k ≡ Some by
  pub rank : by.rank ≡ a.rank
  pub session : by.session ≡ a.session
  pub only : (j : ℕ) (other : Asked) → slice_get requests j ≡ Some other → other.rank ≡ a.rank
      → other.session ≡ a.session → j ≡ k
  pub answers : Answers log a.rank by.request a.reply
  pub unmade : AcknowledgesNone a.reply → (v : ℕ) (within : v < length log) → ¬ (request v within ≡ k)

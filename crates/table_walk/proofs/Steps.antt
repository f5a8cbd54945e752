-- The steps of which the table's rows are made, each with the reason for which a row makes it, and what a law proves of
-- each. P is what the law says of the event so far and of what is in hand, and Q what it says of the event at its end.
use Rattle.mon_bytes.specs.declared.command.Command.TheVariants as command
use Rattle.mon_bytes.specs.declared.command.Command.{Command}
use Rattle.mon_bytes.specs.declared.command.CommandRefused.{CommandRefused}
use Rattle.mon_bytes.specs.declared.entry.Entry.{Entry}
use Rattle.mon_lease.specs.Lease.{readable}
use Rattle.mon_msg.specs.Protocol.Answers.{last_answer}
use Rattle.mon_msg.specs.Protocol.Changes.{Boot, Change, Epoch, Last, Numbers, Promise, Unmark, Vote}
use Rattle.mon_msg.specs.Protocol.Chunks.{copy_changes, record_changes}
use Rattle.mon_msg.specs.Protocol.Collecting.{collector, missed}
use Rattle.mon_msg.specs.Protocol.Commands.{is_too_long, may_propose, queue_up, reply_each, too_long, wait_under}
use Rattle.mon_msg.specs.Protocol.Course.{Course, change, change_all, clients_are, disarm, elector_is, forget_clients, in_phase, leader_is, peon_is, prober_is, provider_is, requester_is, say, timers_are, ◌▸◌}
use Rattle.mon_msg.specs.Protocol.Entering.{is_even}
use Rattle.mon_msg.specs.Protocol.Found.{counts}
use Rattle.mon_msg.specs.Protocol.Hearing.{is_heard}
use Rattle.mon_msg.specs.Protocol.Leader.{all_accepted, of_member}
use Rattle.mon_msg.specs.Protocol.Leading.{begin_with}
use Rattle.mon_msg.specs.Protocol.Learning.{learn_changes}
use Rattle.mon_msg.specs.Protocol.Peon.{cancel, of_leader}
use Rattle.mon_msg.specs.Protocol.Phases.{is_leading, is_member, is_peon, same_phase, votes}
use Rattle.mon_msg.specs.Protocol.Places.{is_after}
use Rattle.mon_msg.specs.Protocol.Proposing.{asked_of, refusal}
use Rattle.mon_msg.specs.Protocol.Providing.{chunk}
use Rattle.mon_msg.specs.Protocol.Readings.{Readings, epoch_of, promise_of}
use Rattle.mon_msg.specs.Protocol.Reads.{is_standing, shown, since}
use Rattle.mon_msg.specs.Protocol.Records.{pending}
use Rattle.mon_msg.specs.Protocol.Replay.{step_of}
use Rattle.mon_msg.specs.Protocol.Sending.{answer_any, send}
use Rattle.mon_msg.specs.Protocol.Services.{service_last}
use Rattle.mon_msg.specs.Protocol.State.{State, lease_of, quorum_of}
use Rattle.mon_msg.specs.Protocol.Synchronizing.{full_sync}
use Rattle.mon_msg.specs.Protocol.Table.{at_rest}
use Rattle.mon_msg.specs.Protocol.Value.{service_of, value}
use Rattle.mon_msg.specs.declared.clients.Asked.{Asked}
use Rattle.mon_msg.specs.declared.clients.Waiting.{Waiting}
use Rattle.mon_msg.specs.declared.election.Elector.{Elector}
use Rattle.mon_msg.specs.declared.election.Prober.{Prober}
use Rattle.mon_msg.specs.declared.input.Input.TheVariants as input
use Rattle.mon_msg.specs.declared.input.Input.{Input}
use Rattle.mon_msg.specs.declared.limits.TheConstants.{MOST_WAITING}
use Rattle.mon_msg.specs.declared.paxos.Found.{Found}
use Rattle.mon_msg.specs.declared.paxos.Leader.{Leader}
use Rattle.mon_msg.specs.declared.paxos.LeaderStage.{LeaderStage}
use Rattle.mon_msg.specs.declared.paxos.Peon.{Peon}
use Rattle.mon_msg.specs.declared.plan.Origin.TheVariants as origin
use Rattle.mon_msg.specs.declared.plan.Origin.{Origin}
use Rattle.mon_msg.specs.declared.plan.Sent.TheVariants as sent
use Rattle.mon_msg.specs.declared.plan.Sent.{Sent}
use Rattle.mon_msg.specs.declared.synchronization.Provider.{Provider}
use Rattle.mon_msg.specs.declared.synchronization.Requester.{Requester}
use Rattle.mon_msg.specs.declared.synchronization.SyncStage.TheVariants as sync
use Rattle.mon_msg.specs.declared.synchronization.SyncStage.{SyncStage}
use Rattle.mon_msg.specs.declared.view.Me.{Me}
use Rattle.mon_tx.specs.declared.op.Op.{Op}
use Rattle.mon_wire.specs.declared.body.Body.TheVariants as body
use Rattle.mon_wire.specs.declared.body.Body.{Body}
use Rattle.mon_wire.specs.declared.message.Message.{Message}
use Rattle.mon_wire.specs.declared.parts.Cookie.{Cookie}
use Rattle.mon_wire.specs.declared.parts.Place.{Place}
use Rattle.mon_wire.specs.declared.parts.Told.{Told}
use Rattle.mon_wire.specs.declared.phase.Phase.TheVariants as phase
use Rattle.mon_wire.specs.declared.phase.Phase.{Phase}
use Rattle.mon_wire.specs.declared.phase.Timer.TheVariants as timer
use Rattle.mon_wire.specs.declared.reply.Reply.TheVariants as reply
use Rattle.mon_wire.specs.declared.reply.Reply.{Reply}
use Rattle.mon_wire.specs.declared.request.Request.TheVariants as request
use Rattle.mon_wire.specs.declared.request.Request.{Request}
use Rattle.mon_wire.specs.declared.request.Service.{Service}
use Rattle.mon_wire.specs.declared.request.Session.{Session}
use Rattle.std.proofs.Common.{Bool, Err, List, None, Ok, Option, Some, [], drop, eqb, false, filter, is_some, length, ltb, not, slice_index_or, slice_set, suc, true, ℕ, ◌&&◌, ◌+◌, ◌-◌, ◌<◌, ◌^◌, ◌||◌, ◌∷◌, ◌≡◌, ◌≤◌, ◌⊎◌}
use Rattle.std.specs.List.{AllByRecursion}

-- a monitor that leads, in each of its phases
abbrev pub leading : List Phase
leading = phase.Collecting ∷ phase.Previous ∷ phase.Active ∷ phase.Updating ∷ []

-- ---- in hand

-- What was taken from the input or out of the state, and isn't yet kept, sent or answered.
pub data InHand : Type 0 where
  Nothing : InHand
  -- a client's read
  ReadOf : (u : Session) → (r : Request) → InHand
  -- a command, and who asked for it
  CommandOf : (c : Command) → (o : Origin) → InHand
  -- the value that a leader found while it collected
  FoundOf : (found : Option Found) → InHand
  -- a value that is to be begun or was accepted, and who waits for it
  ValueOf : (value : List Op) → (o : Option Origin) → InHand

-- what a client's request brings
abbrev pub asked_by : Request → Session → InHand
asked_by (request.Set key value) u = CommandOf (command.Set key value) (origin.Session u)
asked_by (request.Remove key) u = CommandOf (command.Remove key) (origin.Session u)
asked_by (request.Log text) u = CommandOf (command.Log text) (origin.Session u)
asked_by (request.Show v) u = ReadOf u (request.Show v)
asked_by (request.Since v n) u = ReadOf u (request.Since v n)

-- what an input brings
abbrev pub brought : Input → InHand
brought (input.Client u r) = asked_by r u
brought other = Nothing

-- who waits for an answer to it
abbrev pub origin_of : InHand → Option Origin
origin_of Nothing = None
origin_of (ReadOf u r) = Some (origin.Session u)
origin_of (CommandOf c o) = Some o
origin_of (FoundOf found) = None
origin_of (ValueOf value o) = o

-- ---- reasons

-- the input is this message, of this rank in this epoch, and the monitor hears it
pub record HeardFrom (me : Me) (came : Input) (f e : ℕ) (m : Body) : Type 0 where
  pub message : Message
  pub is : came ≡ input.Deliver message
  pub from : message.from ≡ f
  pub epoch : message.epoch ≡ e
  pub says : message.body ≡ m
  pub heard : is_heard me message ≡ true

-- The input is an answer to PROBE whose first version is above the monitor's last one. So the monitor lacks versions that
-- the sender doesn't keep.
pub record LacksVersions (w : Readings) (came : Input) : Type 0 where
  pub message : Message
  pub is : came ≡ input.Deliver message
  pub quorum : List Bool
  pub first : ℕ
  pub last : ℕ
  pub says : message.body ≡ body.ProbeReply quorum first last
  pub above : w.last < first
  pub some : 1 < first

-- An epoch that is written is counted up, or is that of a message.
pub data MayEnter (me : Me) (came : Input) : ℕ → Type 0 where
  counted : {e : ℕ} → e ≤ 2 ^ 62 → MayEnter me came e
  heard : {f e : ℕ} {m : Body} → HeardFrom me came f e m → MayEnter me came e

-- the input is a LAST
pub record HeardLast (me : Me) (came : Input) : Type 0 where
  pub sender : ℕ
  pub epoch : ℕ
  pub pn : ℕ
  pub first : ℕ
  pub last : ℕ
  pub whole : Bool
  pub from : ℕ
  pub values : List (List Op)
  pub told : Option Told
  pub said : HeardFrom me came sender epoch (body.Last pn first last whole from values told)

-- A leader commits a value when each member of its quorum accepted it, the sender as the last one.
pub record MayCommit (me : Me) (came : Input) (x : Course) : Type 0 where
  pub sender : ℕ
  pub epoch : ℕ
  pub pn : ℕ
  pub v : ℕ
  pub said : HeardFrom me came sender epoch (body.Accept pn v)
  pub tested : (of_member (phase.Previous ∷ phase.Updating ∷ []) sender epoch x && eqb pn x.state.leader.pn && eqb v (suc x.readings.last)) ≡ true
  pub all : all_accepted me x ≡ true

-- Values that are learned with the last version came with a message, or are accepted by all of the quorum.
pub data MayLearn (me : Me) (came : Input) (x : Course) : InHand → List (List Op) → Type 0 where
  from_last : (k : ℕ) {f e pn first last from : ℕ} {whole : Bool} {values : List (List Op)} {told : Option Told} → HeardFrom me came f e (body.Last pn first last whole from values told) → MayLearn me came x Nothing (drop k values)
  from_commit : (k : ℕ) {f e from : ℕ} {values : List (List Op)} → HeardFrom me came f e (body.Commit from values) → MayLearn me came x Nothing (drop k values)
  from_chunk : {f e : ℕ} {c : Cookie} {p : Place} {values : List (List Op)} {entries : List Entry} {end : Bool} → HeardFrom me came f e (body.Chunk c p values entries end) → MayLearn me came x Nothing values
  from_last_chunk : {f e last : ℕ} {c : Cookie} {p : Place} {values : List (List Op)} {entries : List Entry} → HeardFrom me came f e (body.LastChunk c p values entries last) → MayLearn me came x Nothing values
  accepted_by_all : {value : List Op} → x.state.leader.value ≡ Some value → MayCommit me came x → MayLearn me came x Nothing (value ∷ [])
  -- by the only monitor of the quorum
  alone : {value : List Op} {o : Option Origin} → MayLearn me came x (ValueOf value o) (value ∷ [])

-- Records and entries that are copied came with a CHUNK or a LAST_CHUNK.
pub data MayCopy (me : Me) (came : Input) : List (List Op) → List Entry → Type 0 where
  copied_chunk : {f e : ℕ} {c : Cookie} {p : Place} {values : List (List Op)} {entries : List Entry} {end : Bool} → HeardFrom me came f e (body.Chunk c p values entries end) → MayCopy me came values entries
  copied_last_chunk : {f e last : ℕ} {c : Cookie} {p : Place} {values : List (List Op)} {entries : List Entry} → HeardFrom me came f e (body.LastChunk c p values entries last) → MayCopy me came values entries

-- A monitor leads if it led before, was elected, or is the only one.
pub data MayLead (me : Me) (w : Readings) (s : State) (x : Course) : Type 0 where
  leads_still : is_leading x.state.phase ≡ true → MayLead me w s x
  -- it was elected by all whom it may lead, or by a majority when the election was over
  chosen : votes s.phase ≡ true → is_even (epoch_of w) ≡ false → MayLead me w s x
  stood : same_phase s.phase phase.Electing ≡ true → MayLead me w s x
  only_member : ltb 1 me.member.monitors ≡ false → MayLead me w s x

-- Why a row writes another change. Values, copies, votes, marks and starts are steps of their own.
abbrev pub MayWrite : Me → State → Input → Course → Change → Type 0
MayWrite me s came x (Promise pn) = (f : ℕ) × (e : ℕ) × (first : ℕ) × (last : ℕ) × HeardFrom me came f e (body.Collect pn first last)
MayWrite me s came x (Last v) = (same_phase s.phase phase.Synchronizing ≡ true) × ((next : ℕ) × (s.requester.stage ≡ sync.Replay next v)) × (x.state.phase ≡ s.phase)
MayWrite me s came x Unmark = Unit {0}
MayWrite me s came x other = ⊥

-- why an act writes a number
abbrev pub MayRaise : Me → Input → Change → Type 0
MayRaise me came (Epoch e) = MayEnter me came e
MayRaise me came (Numbers pn) = pn ≤ 2 ^ 62
MayRaise me came other = ⊥

-- Why a body is sent. Answers to PROBE, BEGIN, ACCEPT, FORWARD and ROUTE are sent in steps of their own, and what a leader
-- says to its quorum (`MayTell`).
abbrev pub MaySay : Me → List Entry → Course → Body → Type 0
MaySay me shared x (body.ProbeReply quorum first last) = ⊥
MaySay me shared x (body.Begin pn v value) = ⊥
MaySay me shared x (body.Accept pn v) = ⊥
MaySay me shared x (body.Commit from values) = ⊥
MaySay me shared x (body.Lease last) = ⊥
MaySay me shared x (body.Route seq r) = ⊥
MaySay me shared x (body.Forward seq c) = ⊥
MaySay me shared x (body.Collect pn first last) = pn ≡ x.state.leader.pn
MaySay me shared x (body.Last pn first last whole from values told) = (v : ℕ) × (body.Last pn first last whole from values told ≡ last_answer me.member.monitors x.readings v)
MaySay me shared x (body.Chunk c p values entries end) = body.Chunk c p values entries end ≡ chunk x.readings.last c p (filter (is_after p.key) shared) me.member.monitors x.readings.record_of
MaySay me shared x (body.LastChunk c p values entries last) = body.LastChunk c p values entries last ≡ chunk x.readings.last c p (filter (is_after p.key) shared) me.member.monitors x.readings.record_of
MaySay me shared x other = Unit {0}

-- why a leader sends a LEASE or a COMMIT
abbrev pub MayTell : Me → InHand → Course → Body → Type 0
MayTell me h x (body.Lease last) = last ≡ x.readings.last
MayTell me h x (body.Commit from values) = ((value : List Op) × (o : Option Origin) × (h ≡ ValueOf value o) × (values ≡ value ∷ [])) ⊎ (values ≡ missed me.member.monitors x.readings.record_of x.readings.last (from - 1))
MayTell me h x other = ⊥

-- a message is of the monitor's own rank and has the epoch of its store
abbrev pub IsOwn : Me → Course → (Body → Type 0) → Sent → Type 0
IsOwn me x May (sent.Message to m) = (m.from ≡ me.member.rank) × (m.epoch ≡ epoch_of x.readings) × May m.body
IsOwn me x May (sent.Reply to r) = ⊥

abbrev pub MaySend : Me → List Entry → Course → Sent → Type 0
MaySend me shared x = IsOwn me x (MaySay me shared x)

-- A replay ends where a LAST_CHUNK said, or where it did before.
abbrev pub MayReplay : Me → Input → Course → SyncStage → Type 0
MayReplay me came x (sync.Replay next end) = ((f : ℕ) × (e : ℕ) × (c : Cookie) × (p : Place) × (values : List (List Op)) × (entries : List Entry) × HeardFrom me came f e (body.LastChunk c p values entries end)) ⊎ ((from : ℕ) × (x.state.requester.stage ≡ sync.Replay from end))
MayReplay me came x other = Unit {0}

-- A value that a leader found is the one that it had found before, or that of a LAST.
abbrev pub MayFind : Me → Input → Course → Option Found → Type 0
MayFind me came x None = Unit {0}
MayFind me came x (Some found) = (x.state.leader.found ≡ Some found) ⊎ ((f : ℕ) × (e : ℕ) × (pn : ℕ) × (first : ℕ) × (last : ℕ) × (whole : Bool) × (from : ℕ) × (values : List (List Op)) × (told : Option Told) × (t : Told) × HeardFrom me came f e (body.Last pn first last whole from values told) × (counts told ≡ Some t) × (found.value ≡ t.value))

-- A peon has a lease after a LEASE with its own last version, of its leader. To take it is the first step of the event.
pub record MayHold (me : Me) (w : Readings) (s : State) (came : Input) (x : Course) : Type 0 where
  pub leader : ℕ
  pub epoch : ℕ
  pub last : ℕ
  pub said : HeardFrom me came leader epoch (body.Lease last)
  pub tested : (not (of_leader leader epoch (at_rest w s)) || not (eqb last w.last) || is_some (pending w)) ≡ false
  pub first : x ≡ at_rest w s

-- Why something in hand is answered so.
pub data MayAnswer (me : Me) (now : ℕ) (w : Readings) (s : State) (x : Course) : InHand → Reply → Type 0 where
  -- it hasn't started, or is in no quorum
  unserved : {c : Command} {u : Session} → is_member x.state.phase ≡ false → MayAnswer me now w s x (CommandOf c (origin.Session u)) reply.Unavailable
  unread : {u : Session} {r : Request} → is_member x.state.phase ≡ false → MayAnswer me now w s x (ReadOf u r) reply.Unavailable
  too_much : {c : Command} {o : Origin} → is_too_long c ≡ true → MayAnswer me now w s x (CommandOf c o) (too_long c)
  -- the queue of a leader is full, or a peon's sessions that wait
  busy_queue : {c : Command} {o : Origin} → is_leading x.state.phase ≡ true → MOST_WAITING ≤ length x.state.clients.queue → MayAnswer me now w s x (CommandOf c o) (reply.Busy MOST_WAITING)
  busy_sessions : {c : Command} {u : Session} → is_peon x.state.phase ≡ true → MOST_WAITING ≤ length x.state.clients.sessions → MayAnswer me now w s x (CommandOf c (origin.Session u)) (reply.Busy MOST_WAITING)
  -- the service refuses it over what an active leader's store has
  refused : {c : Command} {o : Origin} (e : CommandRefused) → same_phase x.state.phase phase.Active ≡ true → suc (service_last x.readings (service_of c)) ≤ 2 ^ 62 → value x.readings c (asked_of me o) ≡ Err e → MayAnswer me now w s x (CommandOf c o) (refusal e)
  not_readable : {u : Session} {r : Request} → is_member x.state.phase ≡ true → readable x.readings.last me.member.monitors (lease_of x.state) now ≡ false → MayAnswer me now w s x (ReadOf u r) (reply.NotReadable x.readings.last (is_standing me now x.state))
  -- a read is the first step of its event
  shows_map : {u : Session} (v : Service) → x ≡ at_rest w s → is_member s.phase ≡ true → readable w.last me.member.monitors (lease_of s) now ≡ true → MayAnswer me now w s x (ReadOf u (request.Show v)) (shown x.readings v)
  shows_since : {u : Session} (v : Service) (n : ℕ) → x ≡ at_rest w s → is_member s.phase ≡ true → readable w.last me.member.monitors (lease_of s) now ≡ true → MayAnswer me now w s x (ReadOf u (request.Since v n)) (since x.readings v n)

-- ---- steps

-- What a law proves of each step of a row: P holds after it if P held before it, and Q holds at the end.
pub record Steps (me : Me) (now : ℕ) (shared : List Entry) (w : Readings) (s : State) (came : Input) (P : InHand → Course → Type 0) (Q : Course → Type 0) : Type 0 where
  -- how an event begins and ends
  pub before : (came ≡ input.Start → same_phase s.phase phase.Booting ≡ false) → P (brought came) (at_rest w s)
  pub after : {x : Course} → P Nothing x → Q x
  -- The last step of an event, when P needn't hold between its parts: the store is marked, PROBE is answered, and a peon
  -- accepts a value.
  pub marks : {e first last : ℕ} {q : List Bool} (f : ℕ) → HeardFrom me came f e (body.ProbeReply q first last) → (w.marked ≡ true) ⊎ LacksVersions w came → P Nothing (at_rest w s) → Q (full_sync me now f (at_rest w s))
  pub answers_probe : (f : ℕ) → w.marked ≡ false → P Nothing (at_rest w s) → Q (send me f (body.ProbeReply (quorum_of s) w.first w.last) (at_rest w s))
  pub votes : {x : Course} (f e pn v : ℕ) (value : List Op) → HeardFrom me came f e (body.Begin pn v value) → (of_leader f e x && eqb pn (promise_of x.readings) && eqb v (suc x.readings.last)) ≡ true → P Nothing x
      → Q (x ▸ change (Vote v pn value) ▸ cancel ▸ send me f (body.Accept pn v))
  -- what is written
  pub writes : {x : Course} (c : Change) → MayWrite me s came x c → P Nothing x → P Nothing (change c x)
  pub replays : (left v end : ℕ) (values : List (List Op)) → same_phase s.phase phase.Synchronizing ≡ true → s.requester.stage ≡ sync.Replay v end → step_of w.record_of left v ≡ Some values → P Nothing (disarm timer.Step (at_rest w s)) → P Nothing (change_all (learn_changes v values) (disarm timer.Step (at_rest w s)))
  pub copies : {x : Course} (v : ℕ) (values : List (List Op)) (entries : List Entry) → same_phase x.state.phase phase.Synchronizing ≡ true → MayCopy me came values entries → P Nothing x → P Nothing (x ▸ change_all (record_changes v values) ▸ change_all (copy_changes entries))
  -- what is sent
  pub sends : {x : Course} (sends : List Sent) → AllByRecursion (MaySend me shared x) sends → P Nothing x → P Nothing (say sends x)
  -- what is remembered
  pub timers : {h : InHand} {x : Course} (ts : List (Option ℕ)) → P h x → P h (timers_are ts x)
  pub elector : {x : Course} (e : Elector) → P Nothing x → P Nothing (elector_is e x)
  pub prober : {x : Course} (p : Prober) → P Nothing x → P Nothing (prober_is p x)
  pub peon : {x : Course} (p : Peon) → (is_some p.lease ≡ true → MayHold me w s came x) → P Nothing x → P Nothing (peon_is p x)
  pub provider : {x : Course} (p : Provider) → P Nothing x → P Nothing (provider_is p x)
  pub requester : {x : Course} (q : Requester) → MayReplay me came x q.stage → P Nothing x → P Nothing (requester_is q x)
  -- a leader keeps its number, its lease, its value and who waits for it
  pub leader : {x : Course} (l : Leader) → P Nothing x → P Nothing (leader_is (record l { pn = x.state.leader.pn; lease = x.state.leader.lease; found = x.state.leader.found; value = x.state.leader.value; origin = x.state.leader.origin }) x)
  pub finds : {x : Course} (l : Leader) → MayFind me came x l.found → P Nothing x → P Nothing (leader_is (record l { pn = x.state.leader.pn; lease = x.state.leader.lease; value = x.state.leader.value; origin = x.state.leader.origin }) x)
  -- taken in hand: the first command of the queue, and that of a FORWARD
  pub takes_queued : (q : Waiting) (qs : List Waiting) → s.clients.queue ≡ q ∷ qs → came ≡ input.Timer timer.Propose → may_propose me now (disarm timer.Propose (at_rest w s)) ≡ true → P Nothing (disarm timer.Propose (at_rest w s)) → P (CommandOf q.command q.origin) (clients_are (record s.clients { queue = qs }) (disarm timer.Propose (at_rest w s)))
  pub takes_forwarded : (f e seq : ℕ) (c : Command) → HeardFrom me came f e (body.Forward seq c) → (of_member leading f e (at_rest w s) && ltb (slice_index_or s.clients.taken f 0) seq) ≡ true → P Nothing (at_rest w s) → P (CommandOf c (origin.Forwarded f seq)) (clients_are (record s.clients { taken = slice_set s.clients.taken f seq }) (at_rest w s))
  -- What becomes of it. An event ends with a command that waits or is forwarded, and with an answer.
  pub makes_value : {x : Course} (c : Command) (o : Origin) (ops : List Op) → suc (service_last x.readings (service_of c)) ≤ 2 ^ 62 → value x.readings c (asked_of me o) ≡ Ok ops → same_phase x.state.phase phase.Active ≡ true → P (CommandOf c o) x → P (ValueOf ops (Some o)) x
  pub queues : {x : Course} (c : Command) (o : Origin) → is_too_long c ≡ false → P (CommandOf c o) x → Q (queue_up c o x)
  pub forwards : {x : Course} (c : Command) (u : Session) → is_peon x.state.phase ≡ true → is_too_long c ≡ false → x.state.clients.next_seq ≤ 2 ^ 62 → P (CommandOf c (origin.Session u)) x → Q (x ▸ wait_under x.state.clients.next_seq u ▸ send me x.state.peon.leader (body.Forward x.state.clients.next_seq c))
  pub routes : (f e seq : ℕ) (r : Reply) → HeardFrom me came f e (body.Route seq r) → of_leader f e (at_rest w s) ≡ true → P Nothing (at_rest w s)
      → Q (at_rest w s ▸ clients_are (record s.clients { sessions = filter (λ (a : Asked). not (eqb a.seq seq)) s.clients.sessions }) ▸ reply_each (filter (λ (a : Asked). eqb a.seq seq) s.clients.sessions) r)
  pub answers : {x : Course} (h : InHand) (r : Reply) → MayAnswer me now w s x h r → P h x → Q (answer_any me (origin_of h) r x)

-- What a law proves of each step within an act.
pub record ActSteps (me : Me) (now : ℕ) (shared : List Entry) (w : Readings) (s : State) (came : Input) (P : InHand → Course → Type 0) (Q : Course → Type 0) : Type 0 where
  -- a start begins with the count of starts
  pub boots : came ≡ input.Start → same_phase s.phase phase.Booting ≡ true → suc w.boot ≤ 2 ^ 62 → P Nothing (change (Boot (suc w.boot)) (at_rest w s))
  -- what is written, and a value that a leader begins, which ends the event
  pub raises : {x : Course} (c : Change) → MayRaise me came c → P Nothing x → P Nothing (change c x)
  pub learns : {h : InHand} {x : Course} (v : ℕ) (value : List Op) (values : List (List Op)) → MayLearn me came x h (value ∷ values) → v + length values ≤ 2 ^ 62 → P h x → P h (change (Last (v + length values)) (change_all (learn_changes v (value ∷ values)) x))
  pub proposes : {x : Course} (z : LeaderStage) (value : List Op) (o : Option Origin) → suc x.readings.last ≤ 2 ^ 62 → is_leading x.state.phase ≡ true → P (ValueOf value o) x → Q (begin_with me now z (suc x.readings.last) value o x)
  -- what a leader sends its quorum
  pub tells : {h : InHand} {x : Course} (sends : List Sent) → AllByRecursion (IsOwn me x (MayTell me h x)) sends → P h x → P h (say sends x)
  -- What is remembered. A leader may extend its lease, a leader that collects begins anew, and all requests are forgotten.
  pub leads : {h : InHand} {x : Course} (l : Leader) → P h x → P h (leader_is (record l { pn = x.state.leader.pn; found = x.state.leader.found; value = x.state.leader.value; origin = x.state.leader.origin }) x)
  pub enters : {h : InHand} {x : Course} (p : Phase) → (is_leading p ≡ true → MayLead me w s x) → P h x → P h (in_phase p x)
  pub collects : {x : Course} (q : List Bool) (pn : ℕ) → pn ≤ 2 ^ 62 → P Nothing x → P Nothing (leader_is (collector me q pn x.readings) x)
  pub forgets : {h : InHand} {x : Course} → is_leading x.state.phase ≡ false → P h x → P h (forget_clients x)
  -- a leader's values, which are taken in hand, and what becomes of one that it found
  pub takes_found : {x : Course} → HeardLast me came ⊎ (x.state.leader.found ≡ pending x.readings) → P Nothing x → P (FoundOf x.state.leader.found) (leader_is (record x.state.leader { found = None }) x)
  pub takes_value : {f e pn v : ℕ} {x : Course} (value : List Op) → HeardFrom me came f e (body.Accept pn v) → x.state.leader.value ≡ Some value → P Nothing x → P (ValueOf value x.state.leader.origin) (leader_is (record x.state.leader { value = None; origin = None }) x)
  pub proposes_found : {x : Course} (found : Found) → P (FoundOf (Some found)) x → P (ValueOf found.value None) x
  pub drops_found : {x : Course} (found : Option Found) → P (FoundOf found) x → P Nothing x
  -- the event ends as a value that is learned is acknowledged
  pub acknowledges : {x : Course} (v : ℕ) (value : List Op) (o : Option Origin) → P (ValueOf value o) x → Q (answer_any me o (reply.Done v) x)

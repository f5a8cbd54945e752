-- A quorum that is led, whatever clients ask: what its members remember and keep, and what is under way among them.
use Rattle.mon_bytes.specs.declared.command.Command.{Command}
use Rattle.mon_lease.specs.declared.lease.TheConstants.{LENGTH}
use Rattle.mon_msg.specs.Protocol.Readings.{Readings, epoch_of, promise_of, readings_of}
use Rattle.mon_msg.specs.Protocol.Records.{pending}
use Rattle.mon_msg.specs.Protocol.Sets.{are_within}
use Rattle.mon_msg.specs.Protocol.State.{State}
use Rattle.mon_msg.specs.Protocol.Timers.{end_of, length_of}
use Rattle.mon_msg.specs.Protocol.Value.{value}
use Rattle.mon_tx.specs.declared.op.Op.{Op}
use Rattle.mon_types.specs.Ranks.{has}
use Rattle.mon_wire.specs.declared.body.Body.TheVariants as body
use Rattle.mon_wire.specs.declared.body.Body.{Body}
use Rattle.mon_wire.specs.declared.message.Message.{Message}
use Rattle.mon_wire.specs.declared.phase.Phase.TheVariants as phase
use Rattle.mon_wire.specs.declared.phase.Phase.{Phase}
use Rattle.mon_wire.specs.declared.phase.TheConstants.Timer.{COUNT}
use Rattle.mon_wire.specs.declared.phase.Timer.TheVariants as timer
use Rattle.mon_wire.specs.declared.phase.Timer.{Timer}
use Rattle.quorum_model.specs.Meets.{message_at}
use Rattle.quorum_model.specs.Monitors.{Monitors}
use Rattle.quorum_model.specs.World.{Envelope}
use Rattle.quorum_timed.specs.Timed.{Owed, Pace, Timed}
use Rattle.std.specs.Prelude.{Bool, IsSomeAnd, List, None, Ok, Option, Some, [], drop, false, is_some, length, suc, take, true, zero, ℕ, ◌*◌, ◌+◌, ◌<◌, ◌^◌, ◌∷◌, ◌≡◌, ◌≤◌, ◌⊎◌}

-- who leads, in which epoch, and under which proposal number
pub record Reign : Type 0 where
  pub leader : ℕ
  pub epoch : ℕ
  pub pn : ℕ

-- a value that the leader proposes, and when it began it
pub record Begun : Type 0 where
  pub value : List Op
  pub at : ℕ

-- The leader's last version, its value, and when it was committed. When the leader renewed the leases for the last
-- time, and when it did before. The value in progress, if there is one.
pub record Round : Type 0 where
  pub version : ℕ
  pub value : List Op
  pub committed : ℕ
  pub latest : ℕ
  pub before : ℕ
  pub next : Option Begun

-- ---- what is under way

-- a message, and by when it arrives
pub record Item : Type 0 where
  pub body : Body
  pub by : ℕ

abbrev pub item : Body → ℕ → Item
item b by = record { body = b; by = by }

abbrev pub begin_item : Reign → Pace → (v : ℕ) → Option Begun → List Item
begin_item reign pace v None = []
begin_item reign pace v (Some b) = item (body.Begin reign.pn v b.value) (b.at + pace.delay) ∷ []

abbrev pub accept_item : Reign → Pace → (v : ℕ) → Option Begun → List Item
accept_item reign pace v None = []
accept_item reign pace v (Some b) = item (body.Accept reign.pn v) (b.at + 2 * pace.delay) ∷ []

-- what the leader sends to each peon in a round, in this order
abbrev pub to_peon : Reign → Pace → Round → List Item
to_peon reign pace r =
    item (body.Commit r.version (r.value ∷ [])) (r.latest + pace.delay)
    ∷ item (body.Lease r.version) (r.latest + pace.delay)
    ∷ begin_item reign pace (suc r.version) r.next

-- what each peon answers to the second and third of them, in this order
abbrev pub to_leader : Reign → Pace → Round → List Item
to_leader reign pace r =
    item (body.LeaseAck r.version) (r.latest + 2 * pace.delay) ∷ accept_item reign pace (suc r.version) r.next

-- a message between members, in the epoch of the reign
abbrev pub in_reign : Monitors → Reign → (from to : ℕ) → Body → Envelope
in_reign ms reign from to b =
    record { to = to; message = record { from = from; monitors = ms.count; epoch = reign.epoch; body = b } }

abbrev pub IsOfClients : Body → Type 0
IsOfClients (body.Forward seq c) = Unit {0}
IsOfClients (body.Route seq r) = Unit {0}
IsOfClients other = ⊥

abbrev pub IsOfElections : Body → Type 0
IsOfElections (body.Propose table) = Unit {0}
IsOfElections body.Ack = Unit {0}
IsOfElections other = ⊥

-- monitor f sent the message in an election before this epoch
pub record IsOfEarlier (epoch f : ℕ) (m : Message) : Type 0 where
  pub sender : m.from ≡ f
  pub before : m.epoch < epoch
  pub elects : IsOfElections m.body

-- A message under way from f to i that is of no round: it is about a client's command, or of an election before this
-- epoch.
pub record IsAside (epoch : ℕ) (messages : List Envelope) (f i : ℕ) (o : Owed) : Type 0 where
  pub envelope : Envelope
  pub there : message_at messages o.number ≡ Some envelope
  pub receiver : envelope.to ≡ i
  pub aside : IsOfClients envelope.message.body ⊎ IsOfEarlier epoch f envelope.message

-- it arrives no later than the first of these
abbrev pub IsBefore : ℕ → List Item → Type 0
IsBefore by [] = Unit {0}
IsBefore by (x ∷ xs) = by ≤ x.by

module _ (ms : Monitors) (reign : Reign) (messages : List Envelope) (f i : ℕ) (top : ℕ) where
  -- the item is that message, from f to i
  pub record IsItem (x : Item) (o : Owed) : Type 0 where
    pub there : message_at messages o.number ≡ Some (in_reign ms reign f i x.body)
    pub in_time : o.by ≤ x.by

  -- These items are under way from f to i, in this order. Messages of no round may be between them. All arrive by `top`.
  abbrev pub Carries : List Item → List Owed → Type 0
  Carries xs [] = xs ≡ []
  Carries xs (o ∷ os) = (o.by ≤ top) × ((IsAside reign.epoch messages f i o × IsBefore o.by xs × Carries xs os)
      ⊎ ((x : Item) × (rest : List Item) × (xs ≡ x ∷ rest) × IsItem x o × Carries rest os))

-- ---- the leader

abbrev pub AllIn : List Bool → List Bool → Type 0
AllIn q those = (i : ℕ) → has q i ≡ true → has those i ≡ true

-- The monitor leads this quorum, and has no value in progress. It renewed the leases at this time on its clock. Its
-- timers are those of the next renewal, of acknowledgements unless it has those of all members, and of commands that
-- wait.
pub record LeadsSince (reign : Reign) (q : List Bool) (at : ℕ) (s : State) : Type 0 where
  pub leads : s.phase ≡ phase.Active
  pub quorum : s.leader.quorum ≡ q
  pub number : s.leader.pn ≡ reign.pn
  pub lease : s.leader.lease ≡ Some (at + LENGTH)
  pub ranks : length s.leader.acks ≡ 15
  pub own : has s.leader.acks reign.leader ≡ true
  pub kinds : length s.timers ≡ COUNT
  pub renews : end_of timer.Renew s.timers ≡ Some (at + length_of timer.Renew)
  pub awaits : (end : ℕ) → end_of timer.LeaseAck s.timers ≡ Some end → end ≡ at + length_of timer.LeaseAck
  pub heard : AllIn q s.leader.acks → end_of timer.LeaseAck s.timers ≡ None
  pub only : (kind : Timer) (end : ℕ) → end_of kind s.timers ≡ Some end
      → (kind ≡ timer.Renew) ⊎ (kind ≡ timer.LeaseAck) ⊎ (kind ≡ timer.Propose)

-- The monitor leads this quorum, in this phase. It began this value at this time on its clock, and not all members
-- accepted it yet. Its timers are that of the acceptances, and that of commands that wait, which does nothing meanwhile.
pub record ProposesSince (p : Phase) (n : ℕ) (reign : Reign) (q : List Bool) (x : List Op) (at : ℕ) (s : State) : Type 0 where
  pub leads : s.phase ≡ p
  pub quorum : s.leader.quorum ≡ q
  pub number : s.leader.pn ≡ reign.pn
  pub proposed : s.leader.value ≡ Some x
  pub ranks : length s.leader.accepted ≡ 15
  pub own : has s.leader.accepted reign.leader ≡ true
  pub more : are_within n q s.leader.accepted ≡ false
  pub only : (kind : Timer) (end : ℕ) → end_of kind s.timers ≡ Some end
      → (kind ≡ timer.Propose) ⊎ ((kind ≡ timer.Accept) × (at + length_of timer.Accept ≤ end))

-- a value of a command
pub record IsOfCommand (x : List Op) : Type 0 where
  pub readings : Readings
  pub command : Command
  pub asked : ℕ
  pub made : value readings command asked ≡ Ok x

-- The leader proposes the value in progress. It began it before the leases were to be renewed.
pub record Proposes (n : ℕ) (q : List Bool) (pace : Pace) (reign : Reign) (r : Round) (b : Begun) (s : State) : Type
    0 where
  pub proposes : ProposesSince phase.Updating n reign q b.value (b.at + pace.clock reign.leader) s
  pub made : IsOfCommand b.value
  pub fits : suc r.version ≤ 2 ^ 62
  pub after : r.latest ≤ b.at
  pub before : b.at ≤ r.latest + 3000 + pace.late

abbrev pub Leads : (n : ℕ) → List Bool → Pace → Reign → Round → Option Begun → State → Type 0
Leads n q pace reign r None s = LeadsSince reign q (r.latest + pace.clock reign.leader) s
Leads n q pace reign r (Some b) s = Proposes n q pace reign r b s

-- ---- a peon

-- The monitor follows this leader in this quorum. It got its last lease at this time on its clock or later.
pub record FollowsSince (leader : ℕ) (q : List Bool) (at : ℕ) (s : State) : Type 0 where
  pub follows : s.phase ≡ phase.Peon
  pub leader_is : s.peon.leader ≡ leader
  pub quorum : s.peon.quorum ≡ q
  pub kinds : length s.timers ≡ COUNT
  pub waits : (end : ℕ) → end_of timer.Lease s.timers ≡ Some end → at + length_of timer.Lease ≤ end
  pub only : (kind : Timer) (end : ℕ) → end_of kind s.timers ≡ Some end
      → (kind ≡ timer.Lease) ⊎ (kind ≡ timer.Propose)

-- its lease is of this time on its clock, or later
abbrev pub LeasedSince : (at : ℕ) → State → Type 0
LeasedSince at s = IsSomeAnd s.peon.lease (λ end. at + LENGTH ≤ end)

-- when a peon that took `heard` messages of a round got its last lease
abbrev pub leased : Round → (heard : ℕ) → ℕ
leased r (suc (suc more)) = r.latest
leased r other = r.before

-- It has a lease between the LEASE and the next BEGIN. It has one before that LEASE, if only the leases were renewed.
abbrev pub HasLease : (clock : ℕ) → Round → (heard : ℕ) → State → Type 0
HasLease clock r (suc zero) s = r.committed < r.latest → LeasedSince (r.before + clock) s
HasLease clock r (suc (suc zero)) s = LeasedSince (r.latest + clock) s
HasLease clock r other s = Unit {0}

-- What its store keeps: before the COMMIT a value is pending, and after the BEGIN the next one is. A COMMIT under way
-- has the value of a command, and was sent with the latest LEASE.
abbrev pub Keeps : Round → (heard : ℕ) → Readings → Type 0
Keeps r zero w =
    (suc w.last ≡ r.version) × (w.pending_v ≡ r.version) × IsOfCommand r.value × (r.committed ≡ r.latest)
Keeps r (suc zero) w = (w.last ≡ r.version) × (is_some (pending w) ≡ false)
Keeps r (suc (suc zero)) w = (w.last ≡ r.version) × (is_some (pending w) ≡ false)
Keeps r other w = (w.last ≡ r.version) × (w.pending_v ≡ suc r.version)

-- how many answers the first `heard` messages of a round get: a COMMIT gets none
abbrev pub said : (heard : ℕ) → ℕ
said zero = zero
said (suc h) = h

-- the leader has noted that many answers of peon i
abbrev pub Noted : (i taken : ℕ) → Option Begun → State → Type 0
Noted i taken None s = taken ≡ 1 → has s.leader.acks i ≡ true
Noted i taken (Some b) s =
    (taken ≡ 2 → has s.leader.accepted i ≡ true) × (has s.leader.accepted i ≡ true → taken ≡ 2)

-- Peon i took the first `heard` of a round's messages, and the leader took the first `taken` of its answers. All others
-- that were sent are under way.
pub record Follower (ms : Monitors) (q : List Bool) (pace : Pace) (reign : Reign) (r : Round)
    (messages : List Envelope) (top i : ℕ) (peon lead : Option State) (w : Readings) (down up : List Owed) : Type
    0 where
  pub heard : ℕ
  pub taken : ℕ
  pub sent : heard ≤ length (to_peon reign pace r)
  pub answered : taken ≤ said heard
  pub follows : IsSomeAnd peon (FollowsSince reign.leader q (leased r heard + pace.clock i))
  pub lease : IsSomeAnd peon (HasLease (pace.clock i) r heard)
  pub epoch : epoch_of w ≡ reign.epoch
  pub promise : promise_of w ≡ reign.pn
  pub keeps : Keeps r heard w
  pub noted : IsSomeAnd lead (Noted i taken r.next)
  pub to_come : Carries ms reign messages reign.leader i top (drop heard (to_peon reign pace r)) down
  pub to_take : Carries ms reign messages i reign.leader top
      (drop taken (take (said heard) (to_leader reign pace r))) up

-- ---- the quorum

-- No message between these two is of a round.
abbrev pub AreApart : (leader f i : ℕ) → Type 0
AreApart leader f i = (f ≡ leader → i ≡ leader) × (i ≡ leader → f ≡ leader)

-- The leader leads all of q, which has a second member, and the others follow it. Each renewal comes in time.
pub record Steady (ms : Monitors) (q : List Bool) (pace : Pace) (reign : Reign) (r : Round) (t : Timed) : Type
    0 where
  pub leads : has q reign.leader ≡ true
  pub second : ℕ
  pub second_in : has q second ≡ true
  pub second_is : second ≡ reign.leader → ⊥
  pub members : (i : ℕ) → has q i ≡ true → i < ms.count
  pub short : reign.pn ≤ 2 ^ 62
  pub since : pace.since ≤ r.latest
  pub reached : r.latest ≤ t.time
  pub ordered : r.before ≤ r.latest
  pub renewed : r.committed ≤ r.latest
  pub apart : r.latest ≤ r.before + 3000 + pace.late + 2 * pace.delay
  pub only_renewed : r.committed < r.latest → r.latest ≤ r.before + 3000 + pace.late
  pub epoch : epoch_of (readings_of (t.world.store reign.leader)) ≡ reign.epoch
  pub last : (readings_of (t.world.store reign.leader)).last ≡ r.version
  pub fits : r.version ≤ 2 ^ 62
  pub lead : IsSomeAnd (t.world.state reign.leader) (Leads ms.count q pace reign r r.next)
  pub peons : (i : ℕ) → has q i ≡ true → (i ≡ reign.leader → ⊥)
      → Follower ms q pace reign r t.world.messages (t.time + pace.delay) i (t.world.state i)
      (t.world.state reign.leader) (readings_of (t.world.store i)) (t.under_way reign.leader i)
      (t.under_way i reign.leader)
  pub others : (f i : ℕ) → has q f ≡ true → has q i ≡ true → AreApart reign.leader f i
      → Carries ms reign t.world.messages f i (t.time + pace.delay) [] (t.under_way f i)

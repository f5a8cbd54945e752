-- What holds of a monitor in its phase, and of what it says, in a history.
use Rattle.law_names.proofs.Table.{AllByRecursion, Asked, Body, Cell, Change, Command, Course, Found, Me, Message, Numbers, Op, Origin, Phase, Sent, Session, State, SyncStage, Told, Vote, Waiting, are_within, epoch_or_first, has, is_even, or_zero, start, text}
use Rattle.mon_msg.specs.declared.plan.Origin.TheVariants as origin
use Rattle.mon_msg.specs.declared.plan.Sent.TheVariants as sent
use Rattle.mon_msg.specs.declared.synchronization.SyncStage.TheVariants as sync
use Rattle.mon_wire.specs.declared.body.Body.TheVariants as body
use Rattle.mon_wire.specs.declared.phase.Phase.TheVariants as phase
use Rattle.quorum_history.proofs.History.{ALevel, ANumber, APromise, Accepted, AnEpoch, Ask, Asks, Entered, Entry, Ext, Ghost, Glob, Had, HadIn, Hand, Handed, Joined, Rising, Sign, Triple, entry, hand, triple}
use Rattle.quorum_walk.proofs.Lists.{Among}
use Rattle.quorum_walk.proofs.Sparing.{Own, own_of}
use Rattle.quorum_walk.proofs.Walk.{done}
use Rattle.std.proofs.Common.{Bool, IfSome, List, None, Option, Some, [], false, if◌then◌else◌, is_some, length, suc, true, ℕ, ◌%◌, ◌+◌, ◌<◌, ◌≡◌, ◌≤◌, ◌⊎◌}

-- ---- what its store's readers return

abbrev pub epoch_in : Own → ℕ
epoch_in o = epoch_or_first o.epoch

abbrev pub number_in_own : Own → ℕ
number_in_own o = or_zero o.last_pn

abbrev pub promise_in : Own → ℕ
promise_in o = or_zero o.promise

-- the floor of a marked monitor, and else its last version
abbrev pub level_in : Own → ℕ
level_in o = if o.marked then o.floor else o.last

abbrev pub number_of : Own → Rising → ℕ
number_of o AnEpoch = epoch_in o
number_of o ANumber = number_in_own o
number_of o APromise = promise_in o
number_of o ALevel = level_in o

-- each number of monitor i was signed, or is at its least value; none was signed with a greater value
pub record Numbered (ss : List Sign) (i : ℕ) (o : Own) : Type 0 where
  pub now : (k : Rising) → HadIn ss k i (number_of o k)
  pub top : (k : Rising) (n : ℕ) → HadIn ss k i n → n ≤ number_of o k

-- the value that it accepted last
pub record Voted (ts : List Triple) (i v p : ℕ) (bytes : Cell) : Type 0 where
  pub x : List Op
  pub was : Among (triple i v p x) ts
  pub is : bytes ≡ Some (text x)

-- what else its store keeps
pub record Kept (rs : List Entry) (hs : List Hand) (ts : List Triple) (i : ℕ) (o : Own) (records : ℕ → Cell) : Type 0 where
  pub roles : (f l : ℕ) (q : List Bool) → Among (entry i f l q) rs → f ≤ epoch_in o
  pub hands : (f seq : ℕ) (s : Session) (c : Command) → Among (hand i f seq s c) hs → f ≤ epoch_in o
  pub order : number_in_own o ≤ promise_in o
  pub mine : (number_in_own o ≡ 0) ⊎ (number_in_own o % 100 ≡ i)
  -- it promised what it accepted under, and made each number of its own that anybody accepted under
  pub accepts : (v p : ℕ) (x : List Op) → Among (triple i v p x) ts → p ≤ promise_in o
  pub made : (j v p : ℕ) (x : List Op) → Among (triple j v p x) ts → p % 100 ≡ i → p ≤ number_in_own o
  -- each version that it accepted a value for is at most its level, or its pending one under no lower number
  pub covered : (v p : ℕ) (x : List Op) → Among (triple i v p x) ts → (v ≤ level_in o) ⊎ ((o.pending_v ≡ v) × (p ≤ o.pending_pn))
  pub under : o.pending_pn ≤ promise_in o
  pub next : o.marked ≡ false → o.pending_v ≤ suc o.last
  pub vote : o.marked ≡ false → o.pending_v ≡ suc o.last → Voted ts i (suc o.last) o.pending_pn (records (suc o.last))
  pub clear : o.marked ≡ true → (o.last ≡ 0) × (o.pending_v ≡ 0)

pub record Disk (g : Ghost) (i : ℕ) (o : Own) (records : ℕ → Cell) : Type 0 where
  pub numbers : Numbered g.signs i o
  pub kept : Kept g.roles g.hands g.accepts i o records

-- ---- what is read of a monitor

pub record Core : Type 0 where
  pub own : Own
  pub pn : ℕ
  pub candidate : Bool
  pub acked : List Bool
  pub quorum : List Bool
  pub answered : List Bool
  pub accepted : List Bool
  pub found : Option Found
  pub value : Option (List Op)
  pub leader : ℕ
  pub members : List Bool
  pub lease : Option ℕ
  pub queue : List Waiting
  pub sessions : List Asked
  pub next_seq : ℕ
  pub provider : ℕ
  pub full : Bool
  pub stage : SyncStage
  pub start : ℕ
  pub version : ℕ

abbrev pub core_of : Own → State → Core
core_of o s = record {
  own = o;
  pn = s.leader.pn;
  candidate = s.elector.candidate;
  acked = s.elector.acked;
  quorum = s.leader.quorum;
  answered = s.leader.answered;
  accepted = s.leader.accepted;
  found = s.leader.found;
  value = s.leader.value;
  leader = s.peon.leader;
  members = s.peon.quorum;
  lease = s.peon.lease;
  queue = s.clients.queue;
  sessions = s.clients.sessions;
  next_seq = s.clients.next_seq;
  provider = s.requester.provider;
  full = s.requester.full;
  stage = s.requester.stage;
  start = s.requester.start;
  version = s.requester.place.version;
}

abbrev pub core : Course → Core
core x = core_of (own_of x.readings) x.state

-- ---- in a phase

-- the command was asked of this monitor, or handed on by a peon that was asked
abbrev pub HasSource : Ghost → (i e : ℕ) → Command → Origin → Type 0
HasSource g i e c (origin.Session s) = Asks g i s c
HasSource g i e c (origin.Forwarded f seq) = (s : Session) × Handed g f e seq s c

abbrev pub Waits : Ghost → (i e : ℕ) → Waiting → Type 0
Waits g i e w = HasSource g i e w.command w.origin

abbrev pub IsHanded : Ghost → (i e : ℕ) → Asked → Type 0
IsHanded g i e a = (c : Command) × Handed g i e a.seq a.session c

pub record Stands (n i e : ℕ) (marked : Bool) (candidate : Bool) (acked : List Bool) (waiting : List Waiting) (asked : List Asked) : Type 0 where
  pub odd : is_even e ≡ false
  pub unmarked : marked ≡ false
  pub self : candidate ≡ true → has acked i ≡ true
  pub within : (m : ℕ) → has acked m ≡ true → m < n
  pub queue : waiting ≡ []
  pub sessions : asked ≡ []

-- it leads in its epoch, under whatever number
pub record Reigns (g : Ghost) (i e : ℕ) (marked : Bool) (q : List Bool) (waiting : List Waiting) : Type 0 where
  pub role : Entered g i e i q
  pub unmarked : marked ≡ false
  pub queue : AllByRecursion (Waits g i e) waiting

-- Monitor f answered leader i under number pn. Each value that f accepted under a lower number is for a version that
-- leader i has, or has property Pending.
pub record Heard (g : Ghost) (i e pn last : ℕ) (Pending : ℕ → ℕ → Type 0) (f : ℕ) : Type 0 where
  pub joined : Joined g f e i
  pub promised : Had g APromise f pn
  pub covers : (v r : ℕ) (x : List Op) → Accepted g f v r x → r < pn → (v ≤ last) ⊎ Pending v r

pub record Leads (g : Ghost) (i e : ℕ) (marked : Bool) (q answered : List Bool) (waiting : List Waiting) (pn last_pn promise last : ℕ) (Pending : ℕ → ℕ → Type 0) : Type 0 where
  pub reigns : Reigns g i e marked q waiting
  pub made : pn ≡ last_pn
  pub promised : pn ≡ promise
  pub own : pn % 100 ≡ i
  pub heard : (f : ℕ) → has answered f ≡ true → Heard g i e pn last Pending f

abbrev pub LeadsIn : Ghost → ℕ → Core → (ℕ → ℕ → Type 0) → Type 0
LeadsIn g i c Pending = Leads g i (epoch_in c.own) c.own.marked c.quorum c.answered c.queue c.pn (number_in_own c.own) (promise_in c.own) c.own.last Pending

-- what was found covers a value of this version under this number
abbrev pub FoundCovers : Option Found → ℕ → ℕ → Type 0
FoundCovers None v r = ⊥
FoundCovers (Some f) v r = (v < f.version) ⊎ ((v ≡ f.version) × (r ≤ f.pn))

pub record IsFound (g : Ghost) (q : List Bool) (last pn : ℕ) (f : Found) : Type 0 where
  pub next : f.version ≤ suc last
  pub low : f.pn < pn
  pub by : ℕ
  pub member : has q by ≡ true
  pub was : Accepted g by f.version f.pn f.value

-- Leader i collects. It accepted nothing under its number yet, and what it found was accepted under a lower number.
pub record Gathers (g : Ghost) (i : ℕ) (q : List Bool) (pn last : ℕ) (best : Option Found) : Type 0 where
  pub fresh : (v : ℕ) (x : List Op) → Accepted g i v pn x → ⊥
  pub found : IfSome best (IsFound g q last pn)

-- the value that it proposes: all that was accepted under its number is up to this version
pub record Proposes (g : Ghost) (i pn last : ℕ) (value : Option (List Op)) (accepted : List Bool) : Type 0 where
  pub x : List Op
  pub is : value ≡ Some x
  pub was : Accepted g i (suc last) pn x
  pub most : (v : ℕ) (y : List Op) → Accepted g i v pn y → v ≤ suc last
  pub counted : (f : ℕ) → has accepted f ≡ true → Accepted g f (suc last) pn x

-- Version v is the one after the last, and the leader proposes for it the value that a member of its quorum accepted
-- under a number from r on, below the leader's own.
pub record Repeats (g : Ghost) (q : List Bool) (pn last : ℕ) (value : Option (List Op)) (v r : ℕ) : Type 0 where
  pub next : v ≡ suc last
  pub x : List Op
  pub is : value ≡ Some x
  pub by : ℕ
  pub member : has q by ≡ true
  pub number : ℕ
  pub high : r ≤ number
  pub low : number < pn
  pub was : Accepted g by (suc last) number x

abbrev pub Nowhere : ℕ → ℕ → Type 0
Nowhere v r = ⊥

abbrev pub GathersIn : Ghost → ℕ → Core → Type 0
GathersIn g i c = LeadsIn g i c (FoundCovers c.found) × Gathers g i c.quorum c.pn c.own.last c.found

-- all of its quorum answered
abbrev pub AllIn : ℕ → Core → Type 0
AllIn n c = are_within n c.quorum c.answered ≡ true

abbrev pub ProposesIn : Ghost → ℕ → Core → Type 0
ProposesIn g i c = Proposes g i c.pn c.own.last c.value c.accepted

abbrev pub RepeatsIn : ℕ → Ghost → ℕ → Core → Type 0
RepeatsIn n g i c = LeadsIn g i c (Repeats g c.quorum c.pn c.own.last c.value) × AllIn n c × ProposesIn g i c

abbrev pub UpdatesIn : ℕ → Ghost → ℕ → Core → Type 0
UpdatesIn n g i c = LeadsIn g i c Nowhere × AllIn n c × ProposesIn g i c

-- all that was accepted under its number is committed
abbrev pub Rests : Ghost → (i pn last : ℕ) → Type 0
Rests g i pn last = (v : ℕ) (x : List Op) → Accepted g i v pn x → v ≤ last

abbrev pub ActsIn : ℕ → Ghost → ℕ → Core → Type 0
ActsIn n g i c = LeadsIn g i c Nowhere × AllIn n c × Rests g i c.pn c.own.last

-- all of a leader's quorum followed it into the epoch
pub record Followed (g : Ghost) (e l : ℕ) : Type 0 where
  pub quorum : List Bool
  pub led : Entered g l e l quorum
  pub joined : (m : ℕ) → has quorum m ≡ true → Joined g m e l

pub record Follows (g : Ghost) (i e l : ℕ) (marked : Bool) (q : List Bool) (asked : List Asked) (next : ℕ) (lease : Option ℕ) (last : ℕ) : Type 0 where
  pub role : Entered g i e l q
  pub unmarked : marked ≡ false
  pub sessions : AllByRecursion (IsHanded g i e) asked
  pub below : (seq : ℕ) (s : Session) (c : Command) → Handed g i e seq s c → seq < next
  -- while it has a lease, all that it ever accepted is committed, and its leader has its whole quorum
  pub clear : is_some lease ≡ true → (v p : ℕ) (x : List Op) → Accepted g i v p x → v ≤ last
  pub led : is_some lease ≡ true → Followed g e l

abbrev pub FollowsIn : Ghost → ℕ → Core → Type 0
FollowsIn g i c = Follows g i (epoch_in c.own) c.leader c.own.marked c.members c.sessions c.next_seq c.lease c.own.last

abbrev pub StandsIn : (n i : ℕ) → Core → Type 0
StandsIn n i c = Stands n i (epoch_in c.own) c.own.marked c.candidate c.acked c.queue c.sessions

-- a requester: what it asks for is at most its provider's level, and a full one ends no lower than its floor
abbrev pub StageHolds : Ghost → (last floor provider : ℕ) → Bool → (start version : ℕ) → SyncStage → Type 0
StageHolds g last floor provider full start version sync.Cookie = full ≡ false → Had g ALevel provider last
StageHolds g last floor provider full start version sync.Chunks = Had g ALevel provider version × (full ≡ false → version ≡ last) × (full ≡ true → (floor ≤ start) × (start ≤ version))
StageHolds g last floor provider full start version (sync.Replay next end) = (full ≡ true) × (floor ≤ start) × (start < next) × (next ≤ suc end)

abbrev pub RequestsIn : Ghost → Core → Type 0
RequestsIn g c = (c.full ≡ c.own.marked) × StageHolds g c.own.last c.own.floor c.provider c.full c.start c.version c.stage

abbrev pub InPhase : ℕ → Ghost → ℕ → Core → Phase → Type 0
InPhase n g i c phase.Booting = Unit {0}
InPhase n g i c phase.Probing = Unit {0}
InPhase n g i c phase.Synchronizing = RequestsIn g c
InPhase n g i c phase.Electing = StandsIn n i c
InPhase n g i c phase.Collecting = GathersIn g i c
InPhase n g i c phase.Previous = RepeatsIn n g i c
InPhase n g i c phase.Active = ActsIn n g i c
InPhase n g i c phase.Updating = UpdatesIn n g i c
InPhase n g i c phase.Peon = FollowsIn g i c

-- ---- what is said

-- a member's answer to a leader that collects
pub record Answers (g : Ghost) (i to e pn last : ℕ) (whole : Bool) (first : ℕ) (values : List (List Op)) (pending : Option Told) : Type 0 where
  pub joined : Joined g i e to
  pub promised : Had g APromise i pn
  pub level : Had g ALevel i last
  -- its values follow a version that the leader sent, and go up to its last one at most
  pub base : ℕ
  pub from : first ≡ suc base
  pub behind : Had g ALevel to base
  pub short : (values ≡ []) ⊎ (base + length values ≤ last)
  pub reaches : whole ≡ true → last ≤ base + length values
  -- If its values reach its last version, what it accepted under a number below pn is for a version up to that, or for
  -- the next version, under a number up to that of the value that it sends.
  pub told : IfSome pending (λ t. (whole ≡ true) × (t.pn ≤ pn) × Accepted g i (suc last) t.pn t.value)
  pub covers : whole ≡ true → (v r : ℕ) (x : List Op) → Accepted g i v r x → r < pn → (v ≤ last) ⊎ ((v ≡ suc last) × (t : Told) × (pending ≡ Some t) × (r ≤ t.pn))

abbrev pub BodyHolds : Ghost → (i to e : ℕ) → Body → Type 0
BodyHolds g i to e (body.ProbeReply q first last) = Had g ALevel i last
BodyHolds g i to e (body.Victory q) = Entered g i e i q
BodyHolds g i to e (body.Collect pn first last) = (pn % 100 ≡ i) × Had g ANumber i pn × Had g ALevel i last
BodyHolds g i to e (body.Last pn first last whole from values told) = Answers g i to e pn last whole from values told
BodyHolds g i to e (body.Begin pn v value) = Accepted g i v pn value
BodyHolds g i to e (body.Accept pn v) = Had g APromise i pn × (value : List Op) × Accepted g i v pn value
BodyHolds g i to e (body.Lease last) = Followed g e i
BodyHolds g i to e (body.Forward seq c) = (s : Session) × Handed g i e seq s c
BodyHolds g i to e (body.Cookie full c last) = Had g ALevel i last
BodyHolds g i to e (body.GetChunk c p) = Had g ALevel to p.version
BodyHolds g i to e (body.Chunk c p values entries done) = Had g ALevel i (p.version + length values)
BodyHolds g i to e (body.LastChunk c p values entries last) = Had g ALevel i last × (last ≡ p.version + length values)
BodyHolds g i to e other = Unit {0}

pub record MessageHolds (g : Ghost) (to : ℕ) (m : Message) : Type 0 where
  pub epoch : Had g AnEpoch m.from m.epoch
  pub body : BodyHolds g m.from to m.epoch m.body

abbrev pub SentHolds : Ghost → ℕ → Sent → Type 0
SentHolds g i (sent.Message to m) = (m.from ≡ i) × MessageHolds g to m
SentHolds g i (sent.Reply to r) = Unit {0}

-- ---- what a row preserves: there is a later history, in which this holds of what the row leaves

-- i accepted in this event what its changes say, and nothing else; and each number that it made is its own, and new
pub record Tied (i : ℕ) (g h : Ghost) (cs : List Change) : Type 0 where
  pub votes : (v p : ℕ) (x : List Op) → Among (Vote v p x) cs → Accepted h i v p x
  pub only : (j v p : ℕ) (x : List Op) → Accepted h j v p x → Accepted g j v p x ⊎ ((j ≡ i) × Among (Vote v p x) cs)
  pub made : (p : ℕ) → Among (Numbers p) cs → (p % 100 ≡ i) × ((q : ℕ) → Had g ANumber i q → q < p)

pub record With (n i : ℕ) (g : Ghost) (Known : ℕ → List Op → Type 0) (o : Own) (records : ℕ → Cell) (cs : List Change) (out : List Sent) (P : Ghost → Type 0) : Type 0 where
  pub h : Ghost
  pub ext : Ext i g h
  pub glob : Glob n h
  pub disk : Disk h i o records
  pub tied : Tied i g h cs
  -- this is known of each value that was accepted for a version
  pub known : (j v p : ℕ) (x : List Op) → Accepted h j v p x → Known v x
  -- no session asked since
  pub asks : (a : Ask) → Among a h.asks → Among a g.asks
  pub sent : AllByRecursion (SentHolds h i) out
  pub fact : P h

abbrev pub At : Me → Ghost → (Known : ℕ → List Op → Type 0) → (Ghost → Type 0) → Course → Type 0
At me g Known P x = With me.member.monitors me.member.rank g Known (own_of x.readings) x.readings.record_of x.changes x.out P

abbrev pub Nothing : Ghost → Type 0
Nothing h = Unit {0}

-- what holds after a course, without what holds in the phase
abbrev pub Sound : Me → Ghost → (Known : ℕ → List Op → Type 0) → Course → Type 0
Sound me g Known x = At me g Known Nothing x

abbrev pub Good : Me → Ghost → (Known : ℕ → List Op → Type 0) → Course → Type 0
Good me g Known x = At me g Known (λ h. InPhase me.member.monitors h me.member.rank (core x) x.state.phase) x

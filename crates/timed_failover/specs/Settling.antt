-- A leader that heard all members of its quorum, and proposes the value that it found, or serves at once.
use Rattle.mon_msg.specs.Protocol.Readings.{Readings, epoch_of, promise_of, readings_of}
use Rattle.mon_msg.specs.Protocol.Records.{pending}
use Rattle.mon_msg.specs.Protocol.State.{State}
use Rattle.mon_tx.specs.declared.op.Op.{Op}
use Rattle.mon_types.specs.Ranks.{has}
use Rattle.mon_wire.specs.declared.body.Body.TheVariants as body
use Rattle.mon_wire.specs.declared.phase.Phase.TheVariants as phase
use Rattle.quorum_model.specs.Monitors.{Monitors}
use Rattle.quorum_model.specs.World.{Envelope, Event}
use Rattle.quorum_stays.specs.Steady.{AreApart, Begun, Carries, FollowsSince, IsOfCommand, Item, LeadsSince, ProposesSince, Reign, Round, Steady, item}
use Rattle.quorum_timed.specs.Timed.{Leads, Owed, Pace, Timed}
use Rattle.std.specs.Prelude.{Bool, IsSomeAnd, List, [], false, is_some, suc, true, ℕ, ◌*◌, ◌+◌, ◌++◌, ◌<◌, ◌^◌, ◌∷◌, ◌≡◌, ◌≤◌, Option, None}

-- The last version of a leader, and its value. When the leader won the election. The value that it found for the next
-- version, and when it began it.
pub record Settling : Type 0 where
  pub version : ℕ
  pub value : List Op
  pub won : ℕ
  pub found : Begun

-- ---- a peon

-- how far a peon is
pub data Progress : Type 0 where
  -- it lacks the last version
  Behind : Progress
  -- it has the last version
  Level : Progress
  -- it accepted the value that was found
  Accepted : Progress
  -- the leader knows that
  Counted : Progress

abbrev pub is_counted : Progress → Bool
is_counted Counted = true
is_counted other = false

module _ (reign : Reign) (pace : Pace) (x : Settling) where
  abbrev pub commit_item : Item
  commit_item = item (body.Commit x.version (x.value ∷ [])) (x.found.at + pace.delay)

  abbrev pub begin_item : Item
  begin_item = item (body.Begin reign.pn (suc x.version) x.found.value) (x.found.at + pace.delay)

  abbrev pub accept_item : Item
  accept_item = item (body.Accept reign.pn (suc x.version)) (x.found.at + 2 * pace.delay)

  -- what is under way to such a peon, in this order, and from it
  abbrev pub to_such : Progress → List Item
  to_such Behind = commit_item ∷ begin_item ∷ []
  to_such Level = begin_item ∷ []
  to_such other = []

  abbrev pub from_such : Progress → List Item
  from_such Accepted = accept_item ∷ []
  from_such other = []

  -- what its store keeps
  abbrev pub KeepsAs : Progress → Readings → Type 0
  KeepsAs Behind w = (suc w.last ≡ x.version) × IsOfCommand x.value
  KeepsAs Level w = w.last ≡ x.version
  KeepsAs other w = (w.last ≡ x.version) × (w.pending_v ≡ suc x.version)

-- Peon i follows the leader since the victory or later, promised its number, and is so far with its messages.
pub record Settler (ms : Monitors) (q : List Bool) (pace : Pace) (reign : Reign) (x : Settling) (messages : List Envelope)
    (top i : ℕ) (peon lead : Option State) (w : Readings) (down up : List Owed) : Type 0 where
  pub progress : Progress
  pub follows : IsSomeAnd peon (FollowsSince reign.leader q (x.won + pace.clock i))
  pub epoch : epoch_of w ≡ reign.epoch
  pub promise : promise_of w ≡ reign.pn
  pub keeps : KeepsAs reign pace x progress w
  pub noted : IsSomeAnd lead (λ s. has s.leader.accepted i ≡ is_counted progress)
  pub to_come : Carries ms reign messages reign.leader i top (to_such reign pace x progress) down
  pub to_take : Carries ms reign messages i reign.leader top (from_such reign pace x progress) up

-- ---- the quorum

-- The leader of q, which has a second member, proposes the value that it found. It began it within four delays after its
-- victory. The others follow it, and not all have accepted the value yet.
pub record Settles (ms : Monitors) (q : List Bool) (pace : Pace) (reign : Reign) (x : Settling) (t : Timed) : Type 0 where
  pub leads : has q reign.leader ≡ true
  pub second : ℕ
  pub second_in : has q second ≡ true
  pub second_is : second ≡ reign.leader → ⊥
  pub members : (i : ℕ) → has q i ≡ true → i < ms.count
  pub short : reign.pn ≤ 2 ^ 62
  pub since : pace.since ≤ x.found.at
  pub won : x.won ≤ x.found.at
  pub soon : x.found.at ≤ x.won + 4 * pace.delay
  pub reached : x.found.at ≤ t.time
  pub epoch : epoch_of (readings_of (t.world.store reign.leader)) ≡ reign.epoch
  pub last : (readings_of (t.world.store reign.leader)).last ≡ x.version
  pub made : IsOfCommand x.found.value
  pub fits : suc x.version ≤ 2 ^ 62
  pub lead : IsSomeAnd (t.world.state reign.leader)
      (ProposesSince phase.Previous ms.count reign q x.found.value (x.found.at + pace.clock reign.leader))
  pub peons : (i : ℕ) → has q i ≡ true → (i ≡ reign.leader → ⊥)
      → Settler ms q pace reign x t.world.messages (t.time + pace.delay) i (t.world.state i)
      (t.world.state reign.leader) (readings_of (t.world.store i)) (t.under_way reign.leader i)
      (t.under_way i reign.leader)
  pub others : (f i : ℕ) → has q f ≡ true → has q i ≡ true → AreApart reign.leader f i
      → Carries ms reign t.world.messages f i (t.time + pace.delay) [] (t.under_way f i)

-- At some time of the run, and by time u, q is led, and its last version is the one that had been found. The rest of the run
-- goes on from there.
pub record IsSettledBy (ms : Monitors) (q : List Bool) (pace : Pace) (reign : Reign) (x : Settling) (t last : Timed)
    (more : List (ℕ × Event)) (u : ℕ) : Type 0 where
  pub before : List (ℕ × Event)
  pub after : List (ℕ × Event)
  pub parts : more ≡ before ++ after
  pub reached : Timed
  pub run : Leads ms q pace t before reached
  pub rest : Leads ms q pace reached after last
  pub by : reached.time ≤ u
  pub round : Round
  pub version : round.version ≡ suc x.version
  pub value : round.value ≡ x.found.value
  pub steady : Steady ms q pace reign round reached

-- ---- nothing was found

-- what a leader sends at first to a peon that lacks the last version, or has it
abbrev pub first_items : Reign → Pace → Bool → (version : ℕ) → List Op → (at : ℕ) → List Item
first_items reign pace true version value at =
    item (body.Commit version (value ∷ [])) (at + pace.delay) ∷ item (body.Lease version) (at + pace.delay) ∷ []
first_items reign pace false version value at = item (body.Lease version) (at + pace.delay) ∷ []

-- what the store of such a peon keeps
abbrev pub KeepsAtFirst : Bool → (version : ℕ) → List Op → Readings → Type 0
KeepsAtFirst true version value w = (suc w.last ≡ version) × (w.pending_v ≡ version) × IsOfCommand value
KeepsAtFirst false version value w = (w.last ≡ version) × (is_some (pending w) ≡ false)

-- Peon i of a leader that gave the first leases at this time.
pub record Opener (ms : Monitors) (q : List Bool) (pace : Pace) (reign : Reign) (version : ℕ) (value : List Op)
    (won at : ℕ) (messages : List Envelope) (top i : ℕ) (peon : Option State) (w : Readings) (down up : List Owed) : Type
    0 where
  pub follows : IsSomeAnd peon (FollowsSince reign.leader q (won + pace.clock i))
  pub epoch : epoch_of w ≡ reign.epoch
  pub promise : promise_of w ≡ reign.pn
  pub behind : Bool
  pub keeps : KeepsAtFirst behind version value w
  pub to_come : Carries ms reign messages reign.leader i top (first_items reign pace behind version value at) down
  pub to_take : Carries ms reign messages i reign.leader top [] up

-- The leader of q found nothing, and gave the first leases just now.
pub record Opens (ms : Monitors) (q : List Bool) (pace : Pace) (reign : Reign) (version : ℕ) (value : List Op) (won : ℕ)
    (t : Timed) : Type 0 where
  pub leads : has q reign.leader ≡ true
  pub second : ℕ
  pub second_in : has q second ≡ true
  pub second_is : second ≡ reign.leader → ⊥
  pub members : (i : ℕ) → has q i ≡ true → i < ms.count
  pub short : reign.pn ≤ 2 ^ 62
  pub since : pace.since ≤ t.time
  pub ordered : won ≤ t.time
  pub soon : t.time ≤ won + 4 * pace.delay
  pub epoch : epoch_of (readings_of (t.world.store reign.leader)) ≡ reign.epoch
  pub last : (readings_of (t.world.store reign.leader)).last ≡ version
  pub fits : version ≤ 2 ^ 62
  pub lead : IsSomeAnd (t.world.state reign.leader) (LeadsSince reign q (t.time + pace.clock reign.leader))
  pub peons : (i : ℕ) → has q i ≡ true → (i ≡ reign.leader → ⊥)
      → Opener ms q pace reign version value won t.time t.world.messages (t.time + pace.delay) i (t.world.state i)
      (readings_of (t.world.store i)) (t.under_way reign.leader i) (t.under_way i reign.leader)
  pub others : (f i : ℕ) → has q f ≡ true → has q i ≡ true → AreApart reign.leader f i
      → Carries ms reign t.world.messages f i (t.time + pace.delay) [] (t.under_way f i)

-- the round that begins then
abbrev pub opening : (version : ℕ) → List Op → (won at : ℕ) → Round
opening version value won at =
    record { version = version; value = value; committed = at; latest = at; before = won; next = None }

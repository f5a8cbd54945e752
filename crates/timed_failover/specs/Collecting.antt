-- A leader that just won, and asks its quorum what was accepted.
use Rattle.mon_msg.specs.Protocol.Answers.{answer_of}
use Rattle.mon_msg.specs.Protocol.Changes.{Learn}
use Rattle.mon_msg.specs.Protocol.Entering.{is_even}
use Rattle.mon_msg.specs.Protocol.Played.{play}
use Rattle.mon_msg.specs.Protocol.Readings.{Readings, epoch_of, promise_of, readings_of}
use Rattle.mon_msg.specs.Protocol.Records.{most_value, pending, record_at}
use Rattle.mon_msg.specs.Protocol.Sets.{are_within}
use Rattle.mon_msg.specs.Protocol.State.{State}
use Rattle.mon_msg.specs.Protocol.Timers.{end_of, length_of}
use Rattle.mon_msg.specs.declared.paxos.Found.{Found}
use Rattle.mon_tx.specs.Text.{text}
use Rattle.mon_tx.specs.declared.op.Op.{Op}
use Rattle.mon_types.specs.Ranks.{has}
use Rattle.mon_wire.specs.declared.body.Body.TheVariants as body
use Rattle.mon_wire.specs.declared.body.Body.{Body}
use Rattle.mon_wire.specs.declared.phase.Phase.TheVariants as phase
use Rattle.mon_wire.specs.declared.phase.TheConstants.Timer.{COUNT}
use Rattle.mon_wire.specs.declared.phase.Timer.TheVariants as timer
use Rattle.mon_wire.specs.declared.phase.Timer.{Timer}
use Rattle.quorum_model.specs.Monitors.{Monitors}
use Rattle.quorum_model.specs.World.{Envelope, Event}
use Rattle.quorum_stays.specs.Steady.{AreApart, Carries, FollowsSince, IsOfCommand, Item, Reign, item}
use Rattle.quorum_timed.specs.Begins.{IsBetween}
use Rattle.quorum_timed.specs.Timed.{Leads, Owed, Pace, Timed}
use Rattle.std.specs.List.{AllByRecursion}
use Rattle.std.specs.Prelude.{Bool, IsSomeAnd, List, Option, Some, [], false, is_some, length, slice_index_or, suc, true, ℕ, ◌*◌, ◌+◌, ◌++◌, ◌<◌, ◌^◌, ◌∷◌, ◌≡◌, ◌≤◌, ◌⊎◌}
use Rattle.timed_election.specs.Election.{CanElect, Election, IsWon, reign_of}
use Rattle.timed_election.specs.Keeping.{OnlyVotes}
use Rattle.timed_failover.specs.Settling.{Opens, Settles}

-- The election that the leader won, when, and its proposal number. Its first and its last version then. The last version
-- that any member has or accepted, and its value.
pub record Query : Type 0 where
  pub election : Election
  pub won : ℕ
  pub pn : ℕ
  pub first : ℕ
  pub last : ℕ
  pub version : ℕ
  pub value : List Op

-- ---- stores

-- The store has this version, or lacks it alone and has it pending.
abbrev pub IsNear : (version : ℕ) → List Op → Readings → Type 0
IsNear version value w =
    ((w.last ≡ version) × (0 < version → record_at w.record_of version ≡ Some value))
    ⊎ ((suc w.last ≡ version) × (w.pending_v ≡ version) × (is_some (pending w) ≡ true))

-- if it lacks the version, it keeps its value once it learns it
abbrev pub CanLearn : (version : ℕ) → List Op → Readings → Type 0
CanLearn version value w =
    suc w.last ≡ version → record_at (play (Learn version value) w).record_of version ≡ Some value

-- It keeps all versions, or at least the last 502, and what is pending is the value of a command.
pub record IsStocked (version : ℕ) (value : List Op) (w : Readings) : Type 0 where
  pub near : IsNear version value w
  pub low : (w.first ≤ 1) ⊎ (w.first + 501 ≤ w.last)
  pub made : (f : Found) → pending w ≡ Some f → IsOfCommand f.value

-- what it answers to the leader of n monitors that has `last` versions, under number pn
abbrev pub answer_to : (n pn last : ℕ) → Readings → Body
answer_to n pn last w = answer_of n pn w.first w.last w.record_of (pending w) (suc last)

abbrev pub IsWhole : Body → Type 0
IsWhole (body.Last pn first last whole from values told) = whole ≡ true
IsWhole other = ⊥

-- ---- members

-- how far a member is
pub data Progress : Type 0 where
  -- it still takes part in the election
  Electing : Progress
  -- it heard the VICTORY
  Following : Progress
  -- it promised and answered
  Promised : Progress
  -- the leader took its answer
  Noted : Progress

-- Monitor i takes part in the election, with members alone. No other timer is armed, and if it is a candidate, its timer
-- ends after the VICTORY came.
pub record StillElects (q : List Bool) (pace : Pace) (x : Query) (i : ℕ) (s : State) : Type 0 where
  pub elects : s.phase ≡ phase.Electing
  pub kinds : length s.timers ≡ COUNT
  pub only : (kind : Timer) (end : ℕ) → end_of kind s.timers ≡ Some end → kind ≡ timer.Election
  pub acks : (j : ℕ) → has s.elector.acked j ≡ true → has q j ≡ true
  pub stands : s.elector.candidate ≡ true → (end : ℕ) → end_of timer.Election s.timers ≡ Some end
      → x.won + pace.clock i + pace.delay < end

module _ (n : ℕ) (pace : Pace) (x : Query) where
  abbrev pub reign : Reign
  reign = reign_of x.election x.pn

  -- what is under way to such a member, in this order, and from it
  abbrev pub to_such : List Bool → Progress → List Item
  to_such q Electing =
      item (body.Victory q) (x.won + pace.delay)
      ∷ item (body.Collect x.pn x.first x.last) (x.won + pace.delay)
      ∷ []
  to_such q Following = item (body.Collect x.pn x.first x.last) (x.won + pace.delay) ∷ []
  to_such q other = []

  abbrev pub from_such : Progress → Readings → List Item
  from_such Promised w = item (answer_to n x.pn x.last w) (x.won + 2 * pace.delay) ∷ []
  from_such other w = []

  -- what it remembers, and what its store keeps
  abbrev pub IsAs : (q : List Bool) → (i : ℕ) → Progress → State → Type 0
  IsAs q i Electing s = StillElects q pace x i s
  IsAs q i other s = FollowsSince x.election.best q (x.won + pace.clock i) s

  abbrev pub KeepsAs : Progress → Readings → Type 0
  KeepsAs Electing w = (epoch_of w ≡ x.election.epoch) × (promise_of w < x.pn)
  KeepsAs Following w = (epoch_of w ≡ suc x.election.epoch) × (promise_of w < x.pn)
  KeepsAs other w = (epoch_of w ≡ suc x.election.epoch) × (promise_of w ≡ x.pn)

  -- what the leader, which remembers s and keeps l, noted of member i, which keeps w: its last version, and a pending
  -- value of its version or a later one
  abbrev pub IsNoted : (i : ℕ) → (l w : Readings) → Progress → State → Type 0
  IsNoted i l w Noted s = (has s.leader.answered i ≡ true) × (slice_index_or s.leader.lasts i 0 ≡ w.last)
      × (w.last ≤ l.last)
      × (is_some (pending w) ≡ true → IsSomeAnd s.leader.found (λ f. suc w.last ≤ f.version))
  IsNoted i l w other s = has s.leader.answered i ≡ false

-- Member i is so far. Its store is near, and its answer is whole.
pub record Questioned (ms : Monitors) (q : List Bool) (pace : Pace) (x : Query) (messages : List Envelope)
    (time i : ℕ) (member lead : Option State) (l w : Readings) (down up : List Owed) : Type 0 where
  pub progress : Progress
  pub is_as : IsSomeAnd member (IsAs ms.count pace x q i progress)
  pub keeps : KeepsAs ms.count pace x progress w
  pub stocked : IsStocked x.version x.value w
  pub whole : IsWhole (answer_to ms.count x.pn x.last w)
  pub noted : IsSomeAnd lead (IsNoted ms.count pace x i l w progress)
  pub to_come : Carries ms (reign ms.count pace x) messages x.election.best i (time + pace.delay)
      (to_such ms.count pace x q progress) down
  pub to_take : Carries ms (reign ms.count pace x) messages i x.election.best (time + pace.delay)
      (from_such ms.count pace x progress w) up

-- ---- the leader

-- The leader collects since this time on its clock, and not all members answered yet. What it found is the value of a
-- command, for its next version or an earlier one. Its timer ends after the time for answers.
pub record Collects (n : ℕ) (q : List Bool) (x : Query) (at : ℕ) (w : Readings) (s : State) : Type 0 where
  pub collects : s.phase ≡ phase.Collecting
  pub quorum : s.leader.quorum ≡ q
  pub number : s.leader.pn ≡ x.pn
  pub ranks : length s.leader.answered ≡ 15
  pub long : length s.leader.lasts ≡ 15
  pub own : has s.leader.answered x.election.best ≡ true
  pub more : are_within n q s.leader.answered ≡ false
  pub found : (f : Found) → s.leader.found ≡ Some f → IsOfCommand f.value × (f.version ≤ suc w.last)
  pub kinds : length s.timers ≡ COUNT
  pub only : (kind : Timer) (end : ℕ) → end_of kind s.timers ≡ Some end
      → (kind ≡ timer.Propose) ⊎ ((kind ≡ timer.Collect) × (at + length_of timer.Collect ≤ end))

-- The leader of q, which has a second member, asks the others since it won, and no member lacks more than one version.
pub record IsAsked (ms : Monitors) (q : List Bool) (pace : Pace) (x : Query) (t : Timed) : Type 0 where
  pub can : CanElect ms q x.election.best
  pub odd : is_even x.election.epoch ≡ false
  pub second : ℕ
  pub second_in : has q second ≡ true
  pub second_is : second ≡ x.election.best → ⊥
  pub ranks : length q ≡ 15
  pub short : x.pn ≤ 2 ^ 62
  pub fits : suc (suc x.version) ≤ 2 ^ 62
  pub room : suc x.election.epoch ≤ 2 ^ 62
  pub early : (x.first ≤ 1) ⊎ (x.first + 501 ≤ x.last)
  pub close : x.version ≤ suc x.last
  pub since : pace.since ≤ x.won
  pub begun : x.won ≤ t.time
  pub after : x.election.from + length_of timer.Election ≤ x.won
  pub made : 0 < x.version → IsOfCommand x.value × (length (text x.value) ≤ most_value)
  pub epoch : epoch_of (readings_of (t.world.store x.election.best)) ≡ suc x.election.epoch
  pub promise : promise_of (readings_of (t.world.store x.election.best)) ≡ x.pn
  pub near : IsNear x.version x.value (readings_of (t.world.store x.election.best))
  pub learns : CanLearn x.version x.value (readings_of (t.world.store x.election.best))
  pub grown : x.last ≤ (readings_of (t.world.store x.election.best)).last
  pub lead : IsSomeAnd (t.world.state x.election.best)
      (Collects ms.count q x (x.won + pace.clock x.election.best) (readings_of (t.world.store x.election.best)))
  pub others : (i : ℕ) → has q i ≡ true → (i ≡ x.election.best → ⊥)
      → Questioned ms q pace x t.world.messages t.time i (t.world.state i) (t.world.state x.election.best)
      (readings_of (t.world.store x.election.best)) (readings_of (t.world.store i)) (t.under_way x.election.best i)
      (t.under_way i x.election.best)
  pub apart : (f i : ℕ) → has q f ≡ true → has q i ≡ true → AreApart x.election.best f i
      → Carries ms (reign ms.count pace x) t.world.messages f i (t.time + pace.delay) [] (t.under_way f i)

-- Each message under way between two members is of the one, to the other.
abbrev pub AreBetween : List Bool → Timed → Type 0
AreBetween q t = (f i : ℕ) → has q f ≡ true → has q i ≡ true
    → AllByRecursion (λ o. IsBetween t.world f i o.number) (t.under_way f i)

-- ---- a victory

-- A member of q, which has a second one, just won an election in time (`IsWon`). Of the election only calls and
-- acknowledgements are under way. No member lacks more than this version, for which it has some value pending then. None of
-- the others promised the winner's number or a greater one, and each answer to it fits one message.
pub record IsElected (ms : Monitors) (q : List Bool) (pace : Pace) (E : Election) (version : ℕ) (value : List Op)
    (t : Timed) : Type 0 where
  pub can : CanElect ms q E.best
  pub odd : is_even E.epoch ≡ false
  pub together : E.by ≤ E.from + 3 * pace.delay
  pub soon : t.time ≤ E.by + 5000 + pace.late
  pub since : pace.since ≤ t.time
  pub ranks : length q ≡ 15
  pub second : ℕ
  pub second_in : has q second ≡ true
  pub second_is : second ≡ E.best → ⊥
  pub won : IsWon ms q pace E t
  pub votes : OnlyVotes q E.epoch t
  pub between : AreBetween q t
  pub fits : suc (suc version) ≤ 2 ^ 62
  pub made : 0 < version → IsOfCommand value × (length (text value) ≤ most_value)
  pub stocked : (i : ℕ) → has q i ≡ true → IsStocked version value (readings_of (t.world.store i))
  pub learns : CanLearn version value (readings_of (t.world.store E.best))
  pub low : (i : ℕ) → has q i ≡ true → (i ≡ E.best → ⊥) → promise_of (readings_of (t.world.store i)) < won.pn
  pub whole : (i : ℕ) → has q i ≡ true → (i ≡ E.best → ⊥)
      → IsWhole (answer_to ms.count won.pn (readings_of (t.world.store E.best)).last (readings_of (t.world.store i)))

-- At some time of the run, and by time u, the leader heard all members. It gave the first leases, or proposes the value
-- that it found. The rest of the run goes on from there.
pub record IsHeardBy (ms : Monitors) (q : List Bool) (pace : Pace) (x : Query) (t last : Timed)
    (more : List (ℕ × Event)) (u : ℕ) : Type 0 where
  pub before : List (ℕ × Event)
  pub after : List (ℕ × Event)
  pub parts : more ≡ before ++ after
  pub reached : Timed
  pub run : Leads ms q pace t before reached
  pub rest : Leads ms q pace reached after last
  pub by : reached.time ≤ u
  pub version : ℕ
  pub heard : Opens ms q pace (reign_of x.election x.pn) version x.value x.won reached
      ⊎ ((value : List Op) × Settles ms q pace (reign_of x.election x.pn)
      (record { version = version; value = x.value; won = x.won; found = record { value = value; at = reached.time } }) reached)

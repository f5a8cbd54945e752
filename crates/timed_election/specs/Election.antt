-- An election in which all members of a set take part, and how one of them wins it.
use Rattle.election_rules.specs.Ranking.{allows}
use Rattle.mon_msg.specs.Protocol.Entering.{is_even, scores_count}
use Rattle.mon_msg.specs.Protocol.Changes.{Epoch, Numbers}
use Rattle.mon_msg.specs.Protocol.Played.{played}
use Rattle.mon_msg.specs.Protocol.Readings.{Readings, epoch_of, or_zero, promise_of, readings_of}
use Rattle.mon_msg.specs.Protocol.Records.{pending}
use Rattle.mon_msg.specs.Protocol.Sets.{only}
use Rattle.mon_msg.specs.Protocol.State.{State, start_leader}
use Rattle.mon_msg.specs.Protocol.Timers.{end_of, length_of}
use Rattle.mon_types.specs.Ranks.{has, is_majority}
use Rattle.mon_wire.specs.declared.body.Body.TheVariants as body
use Rattle.mon_wire.specs.declared.body.Body.{Body}
use Rattle.mon_wire.specs.declared.phase.Phase.TheVariants as phase
use Rattle.mon_wire.specs.declared.phase.TheConstants.Timer.{COUNT}
use Rattle.mon_wire.specs.declared.phase.Timer.TheVariants as timer
use Rattle.mon_wire.specs.declared.phase.Timer.{Timer}
use Rattle.quorum_model.specs.Meets.{message_at}
use Rattle.quorum_model.specs.Monitors.{Monitors}
use Rattle.quorum_model.specs.World.{Envelope, Event}
use Rattle.quorum_stays.specs.Steady.{Carries, Reign, item}
use Rattle.quorum_timed.specs.Calls.{IsCall}
use Rattle.quorum_timed.specs.Timed.{Leads, Owed, Pace, Timed}
use Rattle.std.specs.List.{AllByRecursion}
use Rattle.std.specs.Prelude.{Bool, IsSomeAnd, List, None, Some, [], false, length, suc, true, ℕ, ◌*◌, ◌+◌, ◌++◌, ◌<◌, ◌^◌, ◌∷◌, ◌≡◌, ◌≤◌, ◌⊎◌}

-- The epoch of an election, and the member that is to win it. No member's timer of the election was armed before `from`,
-- and that of this member was armed by `by`.
pub record Election : Type 0 where
  pub epoch : ℕ
  pub best : ℕ
  pub from : ℕ
  pub by : ℕ

-- The members of q are a majority of the monitors, but not all of them. By the rule no scores count, and `best` is the
-- lowest rank of a member that may lead.
pub record CanElect (ms : Monitors) (q : List Bool) (best : ℕ) : Type 0 where
  pub members : (i : ℕ) → has q i ≡ true → i < ms.count
  pub major : is_majority ms.count q ≡ true
  pub outsider : ℕ
  pub in_map : outsider < ms.count
  pub outside : has q outsider ≡ false
  pub ranks_decide : scores_count ms.rule ≡ false
  pub member : has q best ≡ true
  pub may_lead : allows ms.rule best ≡ true
  pub lowest : (i : ℕ) → has q i ≡ true → allows ms.rule i ≡ true → best ≤ i

-- ---- what members remember

module _ (q : List Bool) (pace : Pace) (E : Election) where
  -- the timer of monitor i's election ends this long after `from`, or later
  abbrev pub EndsAfter : (wait i : ℕ) → State → Type 0
  EndsAfter wait i s = IsSomeAnd (end_of timer.Election s.timers) (λ end. E.from + pace.clock i + wait ≤ end)

  -- Monitor i takes part in an election. No other timer is armed, only members have acknowledged it, and it has deferred
  -- to a member if to anybody.
  pub record TakesPart (i : ℕ) (s : State) : Type 0 where
    pub elects : s.phase ≡ phase.Electing
    pub kinds : length s.timers ≡ COUNT
    pub only : (kind : Timer) (end : ℕ) → end_of kind s.timers ≡ Some end → kind ≡ timer.Election
    pub ends : EndsAfter (length_of timer.Election) i s
    pub acks : (j : ℕ) → has s.elector.acked j ≡ true → has q j ≡ true
    pub defers : (j : ℕ) → s.elector.deferred ≡ Some j → has q j ≡ true

  -- It is a candidate, and its timer was armed by `by`.
  pub record Stands (s : State) : Type 0 where
    pub candidate : s.elector.candidate ≡ true
    pub ranks : length s.elector.acked ≡ 15
    pub own : has s.elector.acked E.best ≡ true
    pub ends : IsSomeAnd (end_of timer.Election s.timers)
        (λ end. end ≤ E.by + pace.clock E.best + length_of timer.Election)

  -- Monitor i has deferred to `best`. Or the timer of its election fired, and it called again.
  abbrev pub Defers : (at i : ℕ) → State → Type 0
  Defers at i s = ((s.elector.candidate ≡ false) × (s.elector.deferred ≡ Some E.best))
      ⊎ ((E.from + length_of timer.Election ≤ at) × EndsAfter (2 * length_of timer.Election) i s)

-- ---- what is under way

-- a message in the epoch of the election
abbrev pub in_election : Monitors → Election → (from to : ℕ) → Body → Envelope
in_election ms E from to b =
    record { to = to; message = record { from = from; monitors = ms.count; epoch = E.epoch; body = b } }

-- A message from f to i that arrives by `top`. No message is of a later epoch, and a call of `best` is of this one.
pub record IsOfElection (E : Election) (messages : List Envelope) (f i top : ℕ) (o : Owed) : Type 0 where
  pub envelope : Envelope
  pub there : message_at messages o.number ≡ Some envelope
  pub sender : envelope.message.from ≡ f
  pub receiver : envelope.to ≡ i
  pub epoch : envelope.message.epoch ≤ E.epoch
  pub calls : f ≡ E.best → IsCall envelope.message.body → envelope.message.epoch ≡ E.epoch
  pub in_time : o.by ≤ top

-- one of these is such a message, and it and all before it arrive by then
abbrev pub ArrivesBy : (by : ℕ) → (Owed → Type 0) → List Owed → Type 0
ArrivesBy by P [] = ⊥
ArrivesBy by P (o ∷ others) = (o.by ≤ by) × (P o ⊎ ArrivesBy by P others)

module _ (ms : Monitors) (pace : Pace) (E : Election) (q : List Bool) (t : Timed) where
  -- an acknowledgement of monitor i for `best`
  abbrev pub IsAck : (i : ℕ) → Owed → Type 0
  IsAck i o = message_at t.world.messages o.number ≡ Some (in_election ms E i E.best body.Ack)

  -- Monitor i hasn't heard the call of `best` yet, which comes again by `by` + `again`.
  pub record Unheard (i : ℕ) : Type 0 where
    pub comes : t.call_by E.best i ≤ E.by + pace.again
    pub unacked : IsSomeAnd (t.world.state E.best) (λ s. has s.elector.acked i ≡ false)
    pub silent : AllByRecursion (λ o. IsAck i o → ⊥) (t.under_way i E.best)

  -- Monitor i heard the call. Its acknowledgement came, or is under way.
  pub record Heard (i : ℕ) : Type 0 where
    pub defers : IsSomeAnd (t.world.state i) (Defers q pace E t.time i)
    pub acks : IsSomeAnd (t.world.state E.best) (λ s. has s.elector.acked i ≡ true)
        ⊎ ArrivesBy (E.by + pace.again + pace.delay) (IsAck i) (t.under_way i E.best)

-- ---- the election

-- All members take part in the election of this epoch, and `best` has called all others. They began within three delays.
pub record Elects (ms : Monitors) (q : List Bool) (pace : Pace) (E : Election) (t : Timed) : Type 0 where
  pub can : CanElect ms q E.best
  pub odd : is_even E.epoch ≡ false
  pub since : pace.since ≤ E.by
  pub together : E.by ≤ E.from + 3 * pace.delay
  pub begun : E.from ≤ t.time
  pub epoch : (i : ℕ) → has q i ≡ true → epoch_of (readings_of (t.world.store i)) ≡ E.epoch
  pub part : (i : ℕ) → has q i ≡ true → IsSomeAnd (t.world.state i) (TakesPart q pace E i)
  pub stands : IsSomeAnd (t.world.state E.best) (Stands q pace E)
  pub under_way : (f i : ℕ) → has q f ≡ true → has q i ≡ true
      → AllByRecursion (IsOfElection E t.world.messages f i (t.time + pace.delay)) (t.under_way f i)
  pub called : (i : ℕ) → has q i ≡ true → (i ≡ E.best → ⊥)
      → (k : ℕ) × (message_at t.world.messages k ≡ Some (in_election ms E E.best i (body.Propose None)))
  pub alike : (i k : ℕ) (m : Envelope) → message_at t.world.messages k ≡ Some m → IsCall m.message.body
      → m.message.from ≡ E.best → m.to ≡ i → m.message.epoch ≡ E.epoch
      → m ≡ in_election ms E E.best i (body.Propose None)
  pub others : (i : ℕ) → has q i ≡ true → (i ≡ E.best → ⊥) → Unheard ms pace E q t i ⊎ Heard ms pace E q t i

-- ---- its end

-- the winner leads in the next epoch, under this number
abbrev pub reign_of : Election → (pn : ℕ) → Reign
reign_of E pn = record { leader = E.best; epoch = suc E.epoch; pn = pn }

-- The winner leads this quorum under this number, and collects since this time on its clock. It has its own answer
-- alone, and no other timer is armed.
pub record BeginsToCollect (best : ℕ) (quorum : List Bool) (pn at : ℕ) (w : Readings) (s : State) : Type 0 where
  pub collects : s.phase ≡ phase.Collecting
  pub leader_is : s.leader ≡ record start_leader { quorum = quorum; pn = pn; answered = only best; found = pending w }
  pub kinds : length s.timers ≡ COUNT
  pub timers : (kind : Timer) (end : ℕ) → end_of kind s.timers ≡ Some end
      → (kind ≡ timer.Collect) × (end ≡ at + length_of timer.Collect)

-- What is under way to monitor i: messages of the election, and then VICTORY and COLLECT. All arrive by this time.
pub record IsTold (ms : Monitors) (E : Election) (quorum : List Bool) (pn : ℕ) (w : Readings) (messages : List Envelope)
    (i by : ℕ) (os : List Owed) : Type 0 where
  pub earlier : List Owed
  pub later : List Owed
  pub parts : os ≡ earlier ++ later
  pub of_election : AllByRecursion (IsOfElection E messages E.best i by) earlier
  pub tells : Carries ms (reign_of E pn) messages E.best i by
      (item (body.Victory quorum) by ∷ item (body.Collect pn w.first w.last) by ∷ []) later

-- `best` leads exactly the members of q, in the next epoch, and asks them under this number what they accepted. All
-- others still take part in the election, and get a VICTORY and a COLLECT within a delay. All else that is under way
-- is of the election.
pub record IsWon (ms : Monitors) (q : List Bool) (pace : Pace) (E : Election) (t : Timed) : Type 0 where
  pub quorum : List Bool
  pub ranks : length quorum ≡ 15
  pub members : (i : ℕ) → has quorum i ≡ has q i
  pub pn : ℕ
  pub short : pn ≤ 2 ^ 62
  pub fits : suc E.epoch ≤ 2 ^ 62
  pub begun : E.from + length_of timer.Election ≤ t.time
  pub epoch : epoch_of (readings_of (t.world.store E.best)) ≡ suc E.epoch
  pub promise : promise_of (readings_of (t.world.store E.best)) ≡ pn
  pub number : or_zero (readings_of (t.world.store E.best)).last_pn ≡ pn
  pub leads : IsSomeAnd (t.world.state E.best)
      (BeginsToCollect E.best quorum pn (t.time + pace.clock E.best) (readings_of (t.world.store E.best)))
  pub others : (i : ℕ) → has q i ≡ true → (i ≡ E.best → ⊥)
      → IsSomeAnd (t.world.state i) (λ s. TakesPart q pace E i s × Defers q pace E t.time i s)
      × (epoch_of (readings_of (t.world.store i)) ≡ E.epoch)
  pub told : (i : ℕ) → has q i ≡ true → (i ≡ E.best → ⊥)
      → IsTold ms E quorum pn (readings_of (t.world.store E.best)) t.world.messages i (t.time + pace.delay)
      (t.under_way E.best i)
  pub apart : (f i : ℕ) → has q f ≡ true → has q i ≡ true → (f ≡ E.best → i ≡ E.best)
      → AllByRecursion (IsOfElection E t.world.messages f i (t.time + pace.delay)) (t.under_way f i)

-- The winner's store before and after: it keeps the next epoch and its number, which is above what it had promised.
pub record IsRaised (E : Election) (pn : ℕ) (before after : Readings) : Type 0 where
  pub above : promise_of before < pn
  pub after_is : after ≡ played (Epoch (suc E.epoch) ∷ Numbers pn ∷ []) before

-- At some time of the run, and by time u, the election is won.
pub record IsWonBy (ms : Monitors) (q : List Bool) (pace : Pace) (E : Election) (t : Timed) (more : List (ℕ × Event))
    (u : ℕ) : Type 0 where
  pub before : List (ℕ × Event)
  pub after : List (ℕ × Event)
  pub parts : more ≡ before ++ after
  pub reached : Timed
  pub run : Leads ms q pace t before reached
  pub by : reached.time ≤ u
  pub won : IsWon ms q pace E reached

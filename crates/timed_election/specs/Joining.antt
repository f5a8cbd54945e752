-- Members whose leader is lost, or leads no longer, and how all of them join one election.
use Rattle.mon_msg.specs.Protocol.Changes.{Epoch}
use Rattle.mon_msg.specs.Protocol.Entering.{is_even}
use Rattle.mon_msg.specs.Protocol.Played.{played}
use Rattle.mon_msg.specs.Protocol.Probing.{lag}
use Rattle.mon_msg.specs.Protocol.Readings.{epoch_of, readings_of}
use Rattle.mon_msg.specs.Protocol.State.{State}
use Rattle.mon_msg.specs.Protocol.Timers.{end_of, length_of}
use Rattle.mon_types.specs.Ranks.{has}
use Rattle.mon_wire.specs.declared.body.Body.TheVariants as body
use Rattle.mon_wire.specs.declared.body.Body.{Body}
use Rattle.mon_wire.specs.declared.phase.Phase.TheVariants as phase
use Rattle.mon_wire.specs.declared.phase.TheConstants.Timer.{COUNT}
use Rattle.mon_wire.specs.declared.phase.Timer.TheVariants as timer
use Rattle.mon_wire.specs.declared.phase.Timer.{Timer}
use Rattle.quorum_model.specs.Meets.{message_at}
use Rattle.quorum_model.specs.Monitors.{Monitors}
use Rattle.quorum_model.specs.World.{Envelope, Event}
use Rattle.quorum_stays.specs.Steady.{FollowsSince}
use Rattle.quorum_timed.specs.Calls.{IsCall}
use Rattle.quorum_timed.specs.Timed.{Leads, Owed, Pace, Timed}
use Rattle.std.specs.List.{AllByRecursion}
use Rattle.std.specs.Prelude.{Bool, IsSomeAnd, List, None, Some, [], false, length, max, suc, true, ℕ, ◌*◌, ◌+◌, ◌++◌, ◌<◌, ◌^◌, ◌∷◌, ◌≡◌, ◌≤◌, ◌⊎◌}
use Rattle.timed_election.specs.Election.{ArrivesBy, Election, Elects}
use Rattle.timed_election.specs.Probing.{IsProbe, IsProbing}

-- ---- the beginning

-- The monitor follows one outside of q. The timer of its lease ends by this time on its clock, and no other is armed but
-- that of commands that wait, which does nothing at a peon.
pub record FollowsLost (q : List Bool) (by : ℕ) (s : State) : Type 0 where
  pub follows : s.phase ≡ phase.Peon
  pub lost : has q s.peon.leader ≡ false
  pub kinds : length s.timers ≡ COUNT
  pub waits : IsSomeAnd (end_of timer.Lease s.timers) (λ end. end ≤ by)
  pub only : (kind : Timer) (end : ℕ) → end_of kind s.timers ≡ Some end
      → (kind ≡ timer.Lease) ⊎ (kind ≡ timer.Propose)

-- a reply with these versions doesn't make a monitor that probes begin a copy if `last` is its own last version
abbrev pub NeedsNoCopy : (last : ℕ) → (their_first their_last : ℕ) → Type 0
NeedsNoCopy last their_first their_last = (their_first ≤ max 1 last) × (their_last ≤ last + lag)

abbrev pub CausesNoCopy : (last : ℕ) → Body → Type 0
CausesNoCopy last (body.ProbeReply quorum first theirs) = NeedsNoCopy last first theirs
CausesNoCopy last other = Unit {0}

-- neither a call for an election nor a reply to a probe
abbrev pub IsOther : Body → Type 0
IsOther (body.Propose table) = ⊥
IsOther (body.ProbeReply quorum first last) = ⊥
IsOther other = Unit {0}

-- a message from f to i of no later epoch, which arrives by `top`
pub record IsOld (epoch : ℕ) (messages : List Envelope) (f i top : ℕ) (o : Owed) : Type 0 where
  pub envelope : Envelope
  pub there : message_at messages o.number ≡ Some envelope
  pub sender : envelope.message.from ≡ f
  pub receiver : envelope.to ≡ i
  pub early : envelope.message.epoch ≤ epoch
  pub kind : IsOther envelope.message.body
  pub in_time : o.by ≤ top

-- a message that changes no store of a peon
abbrev pub LeavesStores : Body → Type 0
LeavesStores (body.Collect pn first last) = ⊥
LeavesStores (body.Begin pn v value) = ⊥
LeavesStores (body.Commit from values) = ⊥
LeavesStores other = Unit {0}

-- The members of q are in this even epoch. No member needs a copy of another's versions, and no member called an election
-- of a later epoch yet.
pub record Uncalled (q : List Bool) (pace : Pace) (epoch : ℕ) (t : Timed) : Type 0 where
  pub even : is_even epoch ≡ true
  pub fits : suc epoch ≤ 2 ^ 62
  pub since : pace.since ≤ t.time
  pub epoch_is : (i : ℕ) → has q i ≡ true → epoch_of (readings_of (t.world.store i)) ≡ epoch
  pub unmarked : (i : ℕ) → has q i ≡ true → (readings_of (t.world.store i)).marked ≡ false
  pub near : (i j : ℕ) → has q i ≡ true → has q j ≡ true
      → NeedsNoCopy (readings_of (t.world.store i)).last (readings_of (t.world.store j)).first
      (readings_of (t.world.store j)).last
  pub under_way : (f i : ℕ) → has q f ≡ true → has q i ≡ true
      → AllByRecursion (IsOld epoch t.world.messages f i (t.time + pace.delay)) (t.under_way f i)
  pub uncalled : (k : ℕ) (m : Envelope) → message_at t.world.messages k ≡ Some m → has q m.message.from ≡ true
      → IsCall m.message.body → m.message.epoch ≤ epoch
  pub calls : (f i : ℕ) → has q f ≡ true → has q i ≡ true → t.call_by f i ≤ t.time + pace.again

-- Each member follows a monitor outside of q. Its lease timer ends by `by`.
pub record Deserted (q : List Bool) (pace : Pace) (epoch by : ℕ) (t : Timed) : Type 0 where
  pub uncalled : Uncalled q pace epoch t
  pub before : t.time ≤ by
  pub follow : (i : ℕ) → has q i ≡ true → IsSomeAnd (t.world.state i) (FollowsLost q (by + pace.clock i))

-- One member led the others, and just began to probe. Each other gets its PROBE within a delay, and nothing from it that
-- changes a store. The others still follow it for more than three delays: they got their last leases at `leased` or later.
pub record Parted (ms : Monitors) (q : List Bool) (pace : Pace) (leader epoch : ℕ) (t : Timed) : Type 0 where
  pub uncalled : Uncalled q pace epoch t
  pub member : has q leader ≡ true
  pub probes : IsSomeAnd (t.world.state leader)
      (λ s. IsProbing ms pace leader t.time s × (end_of timer.Ping s.timers ≡ None))
  pub asks : (i : ℕ) → has q i ≡ true → (i ≡ leader → ⊥)
      → ArrivesBy (t.time + pace.delay) (IsProbe ms pace leader t.time t.world.messages i) (t.under_way leader i)
  pub leaves : (i : ℕ) → has q i ≡ true
      → AllByRecursion (λ o. IsSomeAnd (message_at t.world.messages o.number) (λ m. LeavesStores m.message.body))
      (t.under_way leader i)
  pub quorum : List Bool
  pub leased : ℕ
  pub before : leased ≤ t.time
  pub lasts : t.time + 3 * pace.delay < leased + length_of timer.Lease
  pub follow : (i : ℕ) → has q i ≡ true → (i ≡ leader → ⊥)
      → IsSomeAnd (t.world.state i) (FollowsSince leader quorum (leased + pace.clock i))

-- ---- its end

-- At some time of the run, and by time u, all members take part in the election of this epoch, which `best` is to win.
-- They changed nothing in their stores but the epoch. The run goes on from there.
pub record JoinBy (ms : Monitors) (q : List Bool) (pace : Pace) (best epoch : ℕ) (t last : Timed)
    (more : List (ℕ × Event)) (u : ℕ) : Type 0 where
  pub before : List (ℕ × Event)
  pub after : List (ℕ × Event)
  pub parts : more ≡ before ++ after
  pub reached : Timed
  pub run : Leads ms q pace t before reached
  pub rest : Leads ms q pace reached after last
  pub election : Election
  pub epoch_is : election.epoch ≡ epoch
  pub best_is : election.best ≡ best
  pub soon : reached.time ≤ election.by
  pub by : election.by ≤ u
  pub elects : Elects ms q pace election reached
  pub kept : (i : ℕ) → has q i ≡ true
      → readings_of (reached.world.store i) ≡ played (Epoch epoch ∷ []) (readings_of (t.world.store i))

-- A member that probes, and the answers that it awaits.
use Rattle.mon_msg.specs.Protocol.Phases.{same_phase}
use Rattle.mon_msg.specs.Protocol.Readings.{readings_of}
use Rattle.mon_msg.specs.Protocol.State.{State}
use Rattle.mon_msg.specs.Protocol.Timers.{end_of, length_of}
use Rattle.mon_types.specs.Ranks.{has, is_majority}
use Rattle.mon_wire.specs.declared.body.Body.TheVariants as body
use Rattle.mon_wire.specs.declared.phase.Phase.TheVariants as phase
use Rattle.mon_wire.specs.declared.phase.Timer.TheVariants as timer
use Rattle.mon_wire.specs.declared.phase.Timer.{Timer}
use Rattle.quorum_model.specs.Meets.{message_at}
use Rattle.quorum_model.specs.Monitors.{Monitors}
use Rattle.quorum_model.specs.World.{Envelope, Event, World}
use Rattle.quorum_timed.specs.Begins.{IsBetween}
use Rattle.quorum_timed.specs.Timed.{Leads, Owed, Pace, Timed}
use Rattle.std.specs.List.{AllByRecursion}
use Rattle.std.specs.Prelude.{Bool, IsSomeAnd, List, Some, false, length, true, ℕ, ◌*◌, ◌+◌, ◌++◌, ◌<◌, ◌≡◌, ◌≤◌, ◌⊎◌}
use Rattle.timed_election.specs.Election.{ArrivesBy}

-- Each member has started, and is in no full synchronization.
abbrev pub CanAnswer : List Bool → World → Event → Type 0
CanAnswer q w e = (j : ℕ) → has q j ≡ true → ((readings_of (w.store j)).marked ≡ false)
    × IsSomeAnd (w.state j) (λ s. same_phase s.phase phase.Booting ≡ false)

module _ (ms : Monitors) (pace : Pace) (i at : ℕ) where
  -- Monitor i has probed since this time. It hasn't heard a majority outside of quorums yet, and none of its timers ends
  -- before that of probing may.
  pub record IsProbing (s : State) : Type 0 where
    pub probes : s.phase ≡ phase.Probing
    pub ranks : length s.prober.outside ≡ 15
    pub own : has s.prober.outside i ≡ true
    pub few : is_majority ms.count s.prober.outside ≡ false
    pub timers : (kind : Timer) (end : ℕ) → end_of kind s.timers ≡ Some end
        → at + pace.clock i + length_of timer.Probe ≤ end

  -- it is a PROBE of i to j
  pub record IsProbe (messages : List Envelope) (j : ℕ) (o : Owed) : Type 0 where
    pub epoch : ℕ
    pub there : message_at messages o.number
        ≡ Some (record { to = j; message = record { from = i; monitors = ms.count; epoch = epoch; body = body.Probe } })

  -- it is an answer of j
  pub record IsAnswer (messages : List Envelope) (j : ℕ) (o : Owed) : Type 0 where
    pub epoch : ℕ
    pub quorum : List Bool
    pub first : ℕ
    pub last : ℕ
    pub there : message_at messages o.number ≡ Some (record {
      to = i;
      message = record { from = j; monitors = ms.count; epoch = epoch; body = body.ProbeReply quorum first last };
    })

  -- Member i of a majority probes. Each other member gets its PROBE within a delay, or its answer comes within two, or came.
  pub record Probes (q : List Bool) (t : Timed) : Type 0 where
    pub members : (j : ℕ) → has q j ≡ true → j < ms.count
    pub major : is_majority ms.count q ≡ true
    pub member : has q i ≡ true
    pub ups : (j : ℕ) → has q j ≡ true → IsSomeAnd (t.world.state j) (λ s. Unit {0})
    pub probing : IsSomeAnd (t.world.state i) IsProbing
    pub under_way : (f j : ℕ) → has q f ≡ true → has q j ≡ true
        → AllByRecursion (λ o. IsBetween t.world f j o.number × (o.by ≤ t.time + pace.delay)) (t.under_way f j)
    pub awaits : (j : ℕ) → has q j ≡ true → (j ≡ i → ⊥)
        → ArrivesBy (at + pace.delay) (IsProbe t.world.messages j) (t.under_way i j)
        ⊎ ArrivesBy (at + 2 * pace.delay) (IsAnswer t.world.messages j) (t.under_way j i)
        ⊎ IsSomeAnd (t.world.state i) (λ s. has s.prober.outside j ≡ true)

-- At some time of the run, and by time u, monitor i doesn't probe.
pub record GoesOnBy (ms : Monitors) (q : List Bool) (pace : Pace) (t : Timed) (more : List (ℕ × Event)) (i u : ℕ) : Type
    0 where
  pub before : List (ℕ × Event)
  pub after : List (ℕ × Event)
  pub parts : more ≡ before ++ after
  pub reached : Timed
  pub run : Leads ms q pace t before reached
  pub by : reached.time ≤ u
  pub left : IsSomeAnd (reached.world.state i) (λ s. same_phase s.phase phase.Probing ≡ false)

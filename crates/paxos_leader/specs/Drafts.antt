-- What an event at a leader has done so far, and calls that go on with it.
use Rattle.std.specs.List.{AllByRecursion}
use Rattle.std.specs.Prelude.{◌≡◌, ℕ, ◌+◌, ◌^◌, min, Bool, true, List, Some, Result, Ok, Err, if◌then◌else◌, [], ◌∷◌, ◌++◌}
use Rattle.mon_msg.specs.Protocol.Changes.{Change, encoded}
use Rattle.mon_msg.specs.Protocol.Course.{Course, ◌▸◌, leader_is}
use Rattle.mon_msg.specs.Protocol.Leader.{is_one_of}
use Rattle.mon_msg.specs.Protocol.Learning.{learn}
use Rattle.mon_msg.specs.Protocol.Phases.{is_leading, phase_of}
use Rattle.mon_msg.specs.Protocol.Played.{Fits}
use Rattle.mon_msg.specs.Protocol.Readings.{Readings, epoch_of}
use Rattle.mon_msg.specs.Protocol.Timers.{length_of}
use Rattle.mon_msg.specs.declared.paxos.Leader.{Leader}
use Rattle.mon_msg.specs.declared.paxos.LeaderStage.TheVariants as stage
use Rattle.mon_msg.specs.declared.plan.Arming.TheVariants as arming
use Rattle.mon_msg.specs.declared.plan.Arming.{Arming}
use Rattle.mon_msg.specs.declared.plan.Next.TheVariants as next
use Rattle.mon_msg.specs.declared.plan.Plan.{Plan}
use Rattle.mon_msg.specs.declared.plan.RoleStop.{RoleStop}
use Rattle.mon_msg.specs.declared.plan.Sent.{Sent}
use Rattle.mon_msg.specs.declared.view.Me.{Me}
use Rattle.mon_tx.specs.declared.op.Op.{Op}
use Rattle.mon_types.specs.declared.names.Which.{Which}
use Rattle.mon_wire.specs.declared.phase.Phase.TheVariants as phase
use Rattle.mon_wire.specs.declared.phase.Timer.TheVariants as timer
use Rattle.mon_wire.specs.declared.phase.Timer.{Timer}
use Rattle.mon_plan.specs.Learned.{Learns, learned}
use Rattle.mon_plan.specs.Plans.{Plans, changed, leads, sending}
use Rattle.paxos_leader.specs.declared.draft.Draft.{Draft}
use Rattle.paxos_leader.specs.declared.seen.Act.{Act}

-- an event under way in which these changes were made and this was sent, and the leader remembers this
abbrev pub under_way : List Change → List Sent → Leader → Course → Course
under_way cs sends l x = x ▸ changed cs ▸ sending sends ▸ leader_is l

-- A call goes on with a draft: if its transaction encodes the changes so far, the plan that is returned does what was done so
-- far and then what is wanted.
abbrev pub GoesOn : Me → (now : ℕ) → (At : Course → Type 0) → Draft → (wanted : Course → Result Course Which)
    → Result (Plan Leader) RoleStop → Type 0
GoesOn me now At d wanted result =
    (cs : List Change) → AllByRecursion Fits cs → d.tx ≡ encoded cs
    → Plans me now leads (λ x. At (under_way cs d.out d.state x)) (λ x. x)
    (λ x. wanted (under_way cs d.out d.state x)) result

-- The same of an act that reads this.
abbrev pub ActsOn : Act → (At : Course → Type 0) → Draft → (wanted : Me → (now : ℕ) → Course → Result Course Which)
    → Result (Plan Leader) RoleStop → Type 0
ActsOn act At d wanted result = GoesOn act.me.now act.time At d (wanted act.me.now act.time) result

-- The plan of a leader that is alone in its quorum and commits a value for a version at once, after a draft. It answers nobody.
pub record IsCommitted (d : Draft) (v : ℕ) (value : List Op) (p : Plan Leader) : Type 0 where
  pub fit : AllByRecursion Fits (learned v (value ∷ []))
  pub learns : (x : Course) → learn v (value ∷ []) x ≡ Ok (changed (learned v (value ∷ [])) x)
  pub plan : p
      ≡ record {
        tx = d.tx ++ encoded (learned v (value ∷ []));
        out = d.out;
        timers = [];
        state = record d.state { stage = stage.Active };
        next = next.Stay;
      }

-- The call returned such a plan, or what ends the learning of the value.
abbrev pub CommitsAlone : Draft → (v : ℕ) → (value : List Op) → Result (Plan Leader) RoleStop → Type 0
CommitsAlone d v value (Ok p) = IsCommitted d v value p
CommitsAlone d v value (Err e) = Learns v (value ∷ []) (Err e)

-- An event under way at a leader whose store has this epoch and this last version.
pub record IsHere (e v : ℕ) (y : Course) : Type 0 where
  pub epoch : epoch_of y.readings ≡ e
  pub last : y.readings.last ≡ v
  pub leads : is_leading y.state.phase ≡ true

-- One that collects, whose store has these records besides.
pub record IsCollecting (e : ℕ) (w : Readings) (y : Course) : Type 0 where
  pub epoch : epoch_of y.readings ≡ e
  pub last : y.readings.last ≡ w.last
  pub records : y.readings.record_of ≡ w.record_of
  pub phase : y.state.phase ≡ phase.Collecting

-- One that collects and remembers so; its store's readers return all of this except the epoch and the count of starts.
pub record IsAsking (e : ℕ) (w : Readings) (y : Course) : Type 0 where
  pub epoch : epoch_of y.readings ≡ e
  pub kept : y.readings ≡ record w { epoch = y.readings.epoch; boot = y.readings.boot }
  pub phase : y.state.phase ≡ phase.Collecting
  pub stage : y.state.leader.stage ≡ stage.Collecting

-- One at a leader whose value is waiting for its quorum, and whose store's readers return this.
pub record IsVoted (w : Readings) (y : Course) : Type 0 where
  pub readings : y.readings ≡ w
  pub stage : phase_of y.state.leader.stage ≡ y.state.phase
  pub phase : is_one_of (phase.Previous ∷ phase.Updating ∷ []) y.state.phase ≡ true

-- ---- events under way as an act is entered

-- one whose store's readers return all of this except the epoch and the count of starts
pub record IsWon (e : ℕ) (w : Readings) (x : Course) : Type 0 where
  pub epoch : epoch_of x.readings ≡ e
  pub kept : x.readings ≡ record w { epoch = x.readings.epoch; boot = x.readings.boot }

-- one at a leader that remembers this, and whose stage is its phase
pub record IsLed (w : Readings) (l : Leader) (x : Course) : Type 0 where
  pub readings : x.readings ≡ w
  pub role : x.state.leader ≡ l
  pub phase : x.state.phase ≡ phase_of l.stage

-- ---- parts of plans

abbrev pub armed_now : (now : ℕ) → Timer → Arming
armed_now now t = arming.Arm t (min (now + length_of t) (2 ^ 62))

-- the timers of a leader that has given a lease
abbrev pub lease_timers : (alone : Bool) → (now : ℕ) → List Arming
lease_timers alone now =
    if alone
    then armed_now now timer.Renew ∷ armed_now now timer.Propose ∷ []
    else armed_now now timer.Renew ∷ armed_now now timer.LeaseAck ∷ armed_now now timer.Propose ∷ []

-- those of one whose value waits for its members
abbrev pub value_timers : (now : ℕ) → List Arming
value_timers now = arming.Disarm timer.Renew ∷ arming.Disarm timer.LeaseAck ∷ armed_now now timer.Accept ∷ []

-- what a store's readers return in that epoch
abbrev pub at_epoch : (epoch : ℕ) → Readings → Readings
at_epoch epoch w = record w { epoch = Some epoch }

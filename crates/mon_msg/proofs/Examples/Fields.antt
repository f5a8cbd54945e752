-- A step writes only the field that it changes, so what an act leaves and what it keeps is seen without a proof.
use Rattle.std.proofs.Common.{◌≡◌, ℕ, Bool, List, Option, Some, refl}
use Rattle.mon_tx.specs.declared.op.Op.{Op}
use Rattle.mon_msg.specs.declared.paxos.LeaderStage.{LeaderStage}
use Rattle.mon_wire.specs.declared.phase.Phase.TheVariants as phase
use Rattle.mon_msg.specs.declared.plan.Origin.{Origin}
use Rattle.mon_msg.specs.declared.view.Me.{Me}
use Rattle.mon_msg.specs.Protocol.Answers.{last_answer}
use Rattle.mon_msg.specs.Protocol.Collecting.{catch_up, collect_with}
use Rattle.mon_msg.specs.Protocol.Course.{Course, forget_clients}
use Rattle.mon_msg.specs.Protocol.Elections.{follow}
use Rattle.mon_msg.specs.Protocol.Entering.{adopt}
use Rattle.mon_msg.specs.Protocol.Leading.{extend, be_active, begin_with}
use Rattle.mon_msg.specs.Protocol.Peon.{cancel, promise}
use Rattle.mon_msg.specs.Protocol.Phases.{phase_of}
use Rattle.mon_msg.specs.Protocol.Records.{pending}
use Rattle.mon_msg.specs.Protocol.Synchronizing.{full_sync, recent_sync}

module _ (me : Me) (now : ℕ) (x : Course) where
  adopt-phase : (e : ℕ) → (adopt now e x).state.phase ≡ phase.Electing
  unfolding adopt
  adopt-phase e = refl

  adopt-epoch : (e : ℕ) → (adopt now e x).readings.epoch ≡ Some e
  unfolding adopt
  adopt-epoch e = refl

  adopt-pending : (e : ℕ) → pending (adopt now e x).readings ≡ pending x.readings
  unfolding adopt
  adopt-pending e = refl

  adopt-leader : (e : ℕ) → (adopt now e x).state.leader ≡ x.state.leader
  unfolding adopt
  adopt-leader e = refl

  follow-answer : (f e : ℕ) (q : List Bool) (n from : ℕ) → last_answer n (follow now f e q x).readings from ≡ last_answer n x.readings from
  follow-answer f e q n from = refl

  extend-readings : (extend me now x).readings ≡ x.readings
  unfolding extend
  extend-readings = refl

  extend-changes : (extend me now x).changes ≡ x.changes
  unfolding extend
  extend-changes = refl

  extend-phase : (extend me now x).state.phase ≡ x.state.phase
  unfolding extend
  extend-phase = refl

  be_active-phase : (be_active me now x).state.phase ≡ phase.Active
  unfolding be_active extend
  be_active-phase = refl

  be_active-clients : (be_active me now x).state.clients ≡ x.state.clients
  unfolding be_active extend
  be_active-clients = refl

  begin_with-phase : (s : LeaderStage) (v : ℕ) (value : List Op) (o : Option Origin) → (begin_with me now s v value o x).state.phase ≡ phase_of s
  unfolding begin_with
  begin_with-phase s v value o = refl

  begin_with-last : (s : LeaderStage) (v : ℕ) (value : List Op) (o : Option Origin) → (begin_with me now s v value o x).readings.last ≡ x.readings.last
  unfolding begin_with
  begin_with-last s v value o = refl

  collect_with-pending : (q : List Bool) (pn : ℕ) → pending (collect_with me now q pn x).readings ≡ pending x.readings
  unfolding collect_with
  collect_with-pending q pn = refl

  collect_with-number : (q : List Bool) (pn : ℕ) → (collect_with me now q pn x).state.leader.pn ≡ pn
  unfolding collect_with
  collect_with-number q pn = refl

  catch_up-state : (ks : List ℕ) → (catch_up me ks x).state ≡ x.state
  catch_up-state ks = refl

  promise-state : (pn : ℕ) → (promise pn x).state ≡ x.state
  promise-state pn = refl

  cancel-readings : (cancel x).readings ≡ x.readings
  cancel-readings = refl

  forget-timers : (forget_clients x).state.timers ≡ x.state.timers
  forget-timers = refl

  full_sync-phase : (from : ℕ) → (full_sync me now from x).state.phase ≡ phase.Synchronizing
  unfolding full_sync
  full_sync-phase from = refl

  recent_sync-readings : (from : ℕ) → (recent_sync me now from x).readings ≡ x.readings
  unfolding recent_sync
  recent_sync-readings from = refl

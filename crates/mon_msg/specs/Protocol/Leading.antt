-- The acts of an active leader: leases, and values that are begun and committed.
use Rattle.std.specs.Prelude.{ℕ, suc, Bool, not, List, Option, Some, None, Result, Ok, if◌then◌else◌, [], ◌∷◌}
use Rattle.mon_lease.specs.Lease as lease
use Rattle.mon_msg.specs.Protocol.Changes.{Vote}
use Rattle.mon_msg.specs.Protocol.Course.{Course, ◌▸◌, ◌>>=◌, checked, change, leader_is, arm, arm_if, arm_once_if, disarm, leads_in}
use Rattle.mon_msg.specs.Protocol.Learning.{learn}
use Rattle.mon_msg.specs.Protocol.Sending.{members, send_each, answer_any}
use Rattle.mon_msg.specs.Protocol.Sets.{is_empty, only}
use Rattle.mon_wire.specs.declared.body.Body.TheVariants as body
use Rattle.mon_msg.specs.declared.paxos.LeaderStage.TheVariants as stage
use Rattle.mon_msg.specs.declared.paxos.LeaderStage.{LeaderStage}
use Rattle.mon_wire.specs.declared.phase.Timer.TheVariants as timer
use Rattle.mon_msg.specs.declared.plan.Origin.{Origin}
use Rattle.mon_wire.specs.declared.reply.Reply.TheVariants as reply
use Rattle.mon_msg.specs.declared.view.Me.{Me}
use Rattle.mon_tx.specs.declared.op.Op.{Op}
use Rattle.mon_types.specs.declared.names.Which.TheVariants as which
use Rattle.mon_types.specs.declared.names.Which.{Which}

-- whether the leader's quorum is itself alone
abbrev pub is_alone : Me → List Bool → Bool
is_alone me q = is_empty (members me q)

abbrev pub has_queue : Course → Bool
has_queue x = not (is_empty x.state.clients.queue)

-- a quorum of the leader alone commits a value at once
unfoldable pub begin_alone : Me → (v : ℕ) → List Op → Option Origin → Course → Result Course Which
begin_alone me v value o x = do
  y ← learn v (value ∷ []) x
  Ok (y ▸ leads_in stage.Active ▸ answer_any me o (reply.Done v))

module _ (me : Me) (now : ℕ) where
  -- The leader extends its lease and gives one to all members. If it still awaits acknowledgements of an earlier lease,
  -- it waits for no longer than before, so a leader that is cut off steps down.
  unfoldable pub extend : Course → Course
  extend x =
      let peons = members me x.state.leader.quorum in
      x
      ▸ leader_is (record x.state.leader { lease = lease.extended now; acks = only me.member.rank })
      ▸ send_each me peons (body.Lease x.readings.last)
      ▸ arm now timer.Renew
      ▸ arm_once_if (not (is_empty peons)) now timer.LeaseAck

  unfoldable pub be_active : Course → Course
  be_active x = x ▸ leads_in stage.Active ▸ extend ▸ arm_if (has_queue x) now timer.Propose

  -- ---- a value

  -- the leader accepts the value itself, and asks its peons to
  unfoldable pub begin_with : LeaderStage → (v : ℕ) → List Op → Option Origin → Course → Course
  begin_with s v value o x =
      let leader = x.state.leader in
      x
      ▸ leads_in s
      ▸ change (Vote v leader.pn value)
      ▸ leader_is (record leader { stage = s; accepted = only me.member.rank; value = Some value; origin = o })
      ▸ disarm timer.Renew
      ▸ disarm timer.LeaseAck
      ▸ send_each me (members me leader.quorum) (body.Begin leader.pn v value)
      ▸ arm now timer.Accept

  -- a value for the next version is begun
  unfoldable pub begin : LeaderStage → List Op → Option Origin → Course → Result Course Which
  begin s value o x = do
    v ← checked which.Version (suc x.readings.last)
    if is_alone me x.state.leader.quorum then begin_alone me v value o x else Ok (begin_with s v value o x)

  -- all of the quorum accepted the value
  unfoldable pub commit : List Op → Course → Result Course Which
  commit value x = do
    y ← learn (suc x.readings.last) (value ∷ []) x
    let leader = y.state.leader in Ok (y
        ▸ disarm timer.Accept
        ▸ leader_is (record leader { value = None; origin = None })
        ▸ send_each me (members me leader.quorum) (body.Commit (suc x.readings.last) (value ∷ []))
        ▸ be_active
        ▸ answer_any me leader.origin (reply.Done (suc x.readings.last)))

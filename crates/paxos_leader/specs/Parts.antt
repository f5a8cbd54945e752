-- Parts of what a leader's plans send and remember.
use Rattle.std.specs.Prelude.{ℕ, Bool, List, Option, None, Result, Ok, max, map, flat_map, slice_set}
use Rattle.mon_msg.specs.Protocol.Collecting.{commits_to}
use Rattle.mon_msg.specs.Protocol.Course.{Course, ◌▸◌, leader_is}
use Rattle.mon_msg.specs.Protocol.Leading.{be_active}
use Rattle.mon_msg.specs.Protocol.Readings.{Readings, or_zero, promise_of}
use Rattle.mon_msg.specs.Protocol.Sending.{members, message_to, send_each, answer_any}
use Rattle.mon_msg.specs.declared.paxos.Found.{Found}
use Rattle.mon_msg.specs.declared.paxos.Leader.{Leader}
use Rattle.mon_msg.specs.declared.plan.Sent.{Sent}
use Rattle.mon_msg.specs.declared.view.Me.{Me}
use Rattle.mon_tx.specs.declared.op.Op.{Op}
use Rattle.mon_types.specs.Proposal.{next_number}
use Rattle.mon_types.specs.Ranks.{with_rank}
use Rattle.mon_types.specs.declared.names.Which.{Which}
use Rattle.mon_wire.specs.declared.body.Body.TheVariants as body
use Rattle.mon_wire.specs.declared.reply.Reply.TheVariants as reply
use Rattle.paxos_leader.specs.Drafts.{at_epoch}

-- ---- a leader that collects

-- the number that it makes, above all that are known
abbrev pub made : Me → (above : ℕ) → Readings → ℕ
made me above w = next_number (or_zero w.last_pn) (max (promise_of w) above) me.member.rank

-- the question to the quorum
abbrev pub asked : Me → List Bool → (pn epoch : ℕ) → Readings → List Sent
asked me quorum pn epoch w = map (message_to me epoch (body.Collect pn w.first w.last)) (members me quorum)

-- what members that lack versions are sent
abbrev pub commits : Me → (epoch : ℕ) → Readings → Leader → List Sent
commits me epoch w l = flat_map (commits_to me (at_epoch epoch w) l.lasts) (members me l.quorum)

abbrev pub without_found : Leader → Leader
without_found l = record l { found = None }

-- the leader's state with a member's complete answer: its last version, and the value that is found by then
abbrev pub with_answer : (f last : ℕ) → Option Found → Leader → Leader
with_answer f last found l =
    record l { answered = with_rank l.answered f; lasts = slice_set l.lasts f last; found = found }

-- ---- a leader whose value is committed

abbrev pub without_value : Leader → Leader
without_value l = record l { value = None; origin = None }

-- the members get the values from a version on and a lease, and the origin of that version is answered
abbrev pub announced : Me → (now v : ℕ) → List (List Op) → Course → Result Course Which
announced me now v values x =
    let l = x.state.leader in
    Ok (x
    ▸ leader_is (without_value l)
    ▸ send_each me (members me l.quorum) (body.Commit v values)
    ▸ be_active me now
    ▸ answer_any me l.origin (reply.Done v))

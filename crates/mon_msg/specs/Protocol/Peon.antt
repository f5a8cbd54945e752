-- The rows of a peon.
use Rattle.std.specs.Prelude.{ℕ, suc, Bool, not, ◌&&◌, ◌||◌, ◌==◌, nat_lt, List, None, Result, Ok, if◌then◌else◌, is_some}
use Rattle.mon_lease.specs.Lease as lease
use Rattle.mon_msg.specs.Protocol.Answers.{last_answer}
use Rattle.mon_msg.specs.Protocol.Changes.{Promise, Vote}
use Rattle.mon_msg.specs.Protocol.Course.{Course, ◌▸◌, ◌>>=◌, checked, dropped, change, change_if, peon_is, arm}
use Rattle.mon_msg.specs.Protocol.Entering.{bootstrap}
use Rattle.mon_msg.specs.Protocol.Learning.{learn, news}
use Rattle.mon_msg.specs.Protocol.Phases.{is_peon}
use Rattle.mon_msg.specs.Protocol.Readings.{epoch_of, promise_of}
use Rattle.mon_msg.specs.Protocol.Records.{pending}
use Rattle.mon_msg.specs.Protocol.Sending.{send}
use Rattle.mon_wire.specs.declared.body.Body.TheVariants as body
use Rattle.mon_wire.specs.declared.phase.Timer.TheVariants as timer
use Rattle.mon_msg.specs.declared.view.Me.{Me}
use Rattle.mon_tx.specs.declared.op.Op.{Op}
use Rattle.mon_types.specs.declared.names.Which.TheVariants as which
use Rattle.mon_types.specs.declared.names.Which.{Which}

-- a message of this epoch from the leader that a peon follows
abbrev pub of_leader : (f e : ℕ) → Course → Bool
of_leader f e x = is_peon x.state.phase && e == epoch_of x.readings && f == x.state.peon.leader

-- ---- promises

-- the peon gives up its lease
abbrev pub cancel : Course → Course
cancel x = peon_is (record x.state.peon { lease = None }) x

-- a number above the one that was promised is promised
abbrev pub promise : (pn : ℕ) → Course → Course
promise pn x = change_if (nat_lt (promise_of x.readings) pn) (Promise pn) x

abbrev pub answer_collect : Me → (f pn last : ℕ) → Course → Result Course Which
answer_collect me f pn last x = do
  from ← checked which.Version (suc last)
  let y = x ▸ cancel ▸ promise pn in Ok (y ▸ send me f (last_answer me.member.monitors y.readings from))

unfoldable pub hear_collect : Me → (now f e : ℕ) → (pn first last : ℕ) → Course → Result Course Which
hear_collect me now f e pn first last x =
    if not (of_leader f e x) then dropped x else (
    if nat_lt (suc x.readings.last) first then bootstrap me now x else answer_collect me f pn last x)

-- ---- values

unfoldable pub hear_begin : Me → (f e : ℕ) → (pn v : ℕ) → List Op → Course → Result Course Which
hear_begin me f e pn v value x =
    if not (of_leader f e x && pn == promise_of x.readings && v == suc x.readings.last) then dropped x else
    Ok (x ▸ change (Vote v pn value) ▸ cancel ▸ send me f (body.Accept pn v))

unfoldable pub hear_commit : (f e : ℕ) → (from : ℕ) → List (List Op) → Course → Result Course Which
hear_commit f e from values x =
    let last = x.readings.last in
    if not (of_leader f e x) || nat_lt (suc last) from then dropped x else learn (suc last) (news last from values) x

-- ---- leases

unfoldable pub hear_lease : Me → (now f e : ℕ) → (last : ℕ) → Course → Result Course Which
hear_lease me now f e last x =
    if not (of_leader f e x) || not (last == x.readings.last) || is_some (pending x.readings) then dropped x else
    Ok (x
    ▸ peon_is (record x.state.peon { lease = lease.extended now })
    ▸ arm now timer.Lease
    ▸ send me f (body.LeaseAck x.readings.last))

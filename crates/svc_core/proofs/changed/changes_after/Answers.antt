use Rattle.std.proofs.Common.{◌≤◌, ◌<◌, ◌+◌, ◌⊎◌, inl, inr, length, sym, ap, arith}
use Rattle.mon_msg.specs.Protocol.Readings.{readings_of}
use Rattle.svc_core.proofs.Sendings.{sends_more, sends_full, sends_gap, sends_last}
use Rattle.svc_core.proofs.changed.changes_after.Goals as goal
use Rattle.svc_core.proofs.changed.changes_after.Goals.{then-as_slice-eq-MOST_ITEMS-via-then-as_slice-eq-MOST_ITEMS, then-as_slice-eq-MOST_ITEMS-via-else-as_slice-eq-MOST_ITEMS+then-bytes-room}

pub returns-in_default-clause-updates : goal.returns-in_default-clause-updates
returns-in_default-clause-updates c =
    rw (← c.last_version-last.ensures.value)
    (sends_gap (readings_of c.args.kv.now) c.args.service c.last_version-last.result c.args.v c.loop-n.n c.loop-n.updates c.loop-n.room c.loop-n-test.true (sym (rw c.in_default.is at c.incremental.ensures)) c.loop-n.invariant).0

pub returns-in_default-clause-more : goal.returns-in_default-clause-more
returns-in_default-clause-more c =
    rw (← c.last_version-last.ensures.value)
    (sends_gap (readings_of c.args.kv.now) c.args.service c.last_version-last.result c.args.v c.loop-n.n c.loop-n.updates c.loop-n.room c.loop-n-test.true (sym (rw c.in_default.is at c.incremental.ensures)) c.loop-n.invariant).1

pub returns-then-as_slice-eq-MOST_ITEMS-clause-updates : goal.returns-then-as_slice-eq-MOST_ITEMS-clause-updates
returns-then-as_slice-eq-MOST_ITEMS-clause-updates c =
    let full : (65535 ≤ length c.loop-n.updates) ⊎ (c.loop-n.room < length c.in-Some.bytes.now + 4) =
    elim c.then-as_slice-eq-MOST_ITEMS.branch [
      | then-as_slice-eq-MOST_ITEMS-via-then-as_slice-eq-MOST_ITEMS w ↦ inl (omega (arith, ap length c.as_slice.ensures))
      | then-as_slice-eq-MOST_ITEMS-via-else-as_slice-eq-MOST_ITEMS+then-bytes-room w ↦ inr w.if-bytes-room.true
    ] in
    rw (← c.last_version-last.ensures.value)
    (sends_full (readings_of c.args.kv.now) c.args.service c.last_version-last.result c.args.v c.loop-n.n c.loop-n.updates c.loop-n.room c.in-Some.bytes.now c.loop-n-test.true (sym (rw c.in-Some.is at c.incremental.ensures)) full c.loop-n.invariant).0

pub returns-then-as_slice-eq-MOST_ITEMS-clause-more : goal.returns-then-as_slice-eq-MOST_ITEMS-clause-more
returns-then-as_slice-eq-MOST_ITEMS-clause-more c =
    let full : (65535 ≤ length c.loop-n.updates) ⊎ (c.loop-n.room < length c.in-Some.bytes.now + 4) =
    elim c.then-as_slice-eq-MOST_ITEMS.branch [
      | then-as_slice-eq-MOST_ITEMS-via-then-as_slice-eq-MOST_ITEMS w ↦ inl (omega (arith, ap length c.as_slice.ensures))
      | then-as_slice-eq-MOST_ITEMS-via-else-as_slice-eq-MOST_ITEMS+then-bytes-room w ↦ inr w.if-bytes-room.true
    ] in
    rw (← c.last_version-last.ensures.value)
    (sends_full (readings_of c.args.kv.now) c.args.service c.last_version-last.result c.args.v c.loop-n.n c.loop-n.updates c.loop-n.room c.in-Some.bytes.now c.loop-n-test.true (sym (rw c.in-Some.is at c.incremental.ensures)) full c.loop-n.invariant).1

pub loop-n-preserved : goal.loop-n-preserved
loop-n-preserved c =
    let few : length c.loop-n.updates < 65535 = omega (arith, ap length c.as_slice.ensures, c.loop-n.invariant.many) in
    rw c.in_ok-push_copy.ensures
    (sends_more (readings_of c.args.kv.now) c.args.service c.last_version-last.result c.args.v c.loop-n.n c.loop-n.updates c.loop-n.room c.in-Some.bytes.now c.loop-n-test.true (sym (rw c.in-Some.is at c.incremental.ensures)) few c.if-bytes-room.false c.loop-n.invariant)

pub returns-clause-updates : goal.returns-clause-updates
returns-clause-updates c =
    rw (← c.last_version-last.ensures.value)
    (sends_last (readings_of c.args.kv.now) c.args.service c.last_version-last.result c.args.v c.loop-n.n c.loop-n.updates c.loop-n.room c.loop-n-test.false c.loop-n.invariant).0

pub returns-clause-more : goal.returns-clause-more
returns-clause-more c =
    rw (← c.last_version-last.ensures.value)
    (sends_last (readings_of c.args.kv.now) c.args.service c.last_version-last.result c.args.v c.loop-n.n c.loop-n.updates c.loop-n.room c.loop-n-test.false c.loop-n.invariant).1

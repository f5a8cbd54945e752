use Rattle.std.proofs.Common.{◌≡◌, ◌+◌, ◌-◌, ◌≤◌, suc, length, sym, ◌∙◌, arith}
use Rattle.mon_msg.specs.Protocol.Readings.{readings_of}
use Rattle.mon_msg.specs.Protocol.Replay.{more_of}
use Rattle.mon_tx.specs.Text.{text}
use Rattle.sync_requester.proofs.ReplayLaws.{goes-none, goes-full, goes-on, goes-past, onto, record-short}
use Rattle.sync_requester.proofs.replay.with_more.Goals as goal

pub returns-in_default : goal.returns-in_default
returns-in_default c =
    let records = (readings_of c.args.stored.now).record_of in
    goes-none records (onto c.args.values (more_of records (c.args.to - c.args.from) c.args.room c.args.from)) c.loop-v.all c.args.to c.loop-v.left c.loop-v.v c.loop-v.invariant
    c.loop-v-test.true (sym c.in_ok-value.ensures ∙ c.in_default.is)

pub returns-then-size-left : goal.returns-then-size-left
returns-then-size-left c =
    let records = (readings_of c.args.stored.now).record_of in
    let there = sym c.in_ok-value.ensures ∙ c.in-Some.is in
    let short = record-short records c.loop-v.v c.in-Some.value there in
    goes-full records (onto c.args.values (more_of records (c.args.to - c.args.from) c.args.room c.args.from)) c.loop-v.all c.args.to c.loop-v.left c.loop-v.v c.loop-v.invariant
    c.loop-v-test.true c.in-Some.value there (omega (arith, short, c.text_len-size.ensures, c.if-size-left.true))

pub loop-v-preserved : goal.loop-v-preserved
loop-v-preserved c =
    let records = (readings_of c.args.stored.now).record_of in
    let there = sym c.in_ok-value.ensures ∙ c.in-Some.is in
    let short = record-short records c.loop-v.v c.in-Some.value there in
    let size : c.text_len-size.result ≡ length (text c.in-Some.value) = omega (arith, short, c.text_len-size.ensures) in
    let fits : length (text c.in-Some.value) ≤ c.loop-v.left = omega (arith, size, c.if-size-left.false) in
    let n : c.loop-v.v + 1 ≡ suc c.loop-v.v = omega arith in
    (λ i. onto (c.in_ok-push.ensures.ok i) (more_of records (c.args.to - n i) (c.loop-v.left - size i) (n i)))
    ∙ goes-on records (onto c.args.values (more_of records (c.args.to - c.args.from) c.args.room c.args.from)) c.loop-v.all c.args.to c.loop-v.left c.loop-v.v c.loop-v.invariant
    c.loop-v-test.true c.in-Some.value there fits

pub returns : goal.returns
returns c =
    let records = (readings_of c.args.stored.now).record_of in
    goes-past records (onto c.args.values (more_of records (c.args.to - c.args.from) c.args.room c.args.from)) c.loop-v.all c.args.to c.loop-v.left c.loop-v.v c.loop-v.invariant
    c.loop-v-test.false

use Rattle.std.proofs.Common.{◌≡◌, ◌-◌, cond, eqb, length, ap, sym, ◌∙◌, arith}
use Rattle.mon_msg.specs.Protocol.Parts.{value_length}
use Rattle.mon_msg.specs.Protocol.Readings.{readings_of}
use Rattle.mon_msg.specs.Protocol.Records.{record_at}
use Rattle.mon_stored.proofs.Running.{with_room, run-first, run-past, run-full, run-out, run-next}
use Rattle.mon_stored.proofs.stored.Stored.run.Goals as goal

pub loop-v-init : goal.loop-v-init
loop-v-init c = let w = readings_of c.args.self.now in rw c.new-values.ensures (run-first w.record_of w.last c.args.from c.args.plain c.args.at_end)

pub returns-then-as_slice-eq-MOST_ITEMS-clause-values : goal.returns-then-as_slice-eq-MOST_ITEMS-clause-values
returns-then-as_slice-eq-MOST_ITEMS-clause-values c =
    let w = readings_of c.args.self.now in
    run-full w.record_of w.last c.args.from c.args.plain c.args.at_end c.loop-v.v c.loop-v.bytes c.loop-v.values c.loop-v.invariant
    (omega (arith, c.loop-v-test.true, c.get-last.ensures.value, c.last.ensures.value)) (sym (ap length c.as_slice.ensures) ∙ c.if-as_slice-eq-MOST_ITEMS.true)

pub returns-in_default-clause-values : goal.returns-in_default-clause-values
returns-in_default-clause-values c =
    let w = readings_of c.args.self.now in
    let last : c.get-last.result ≡ w.last = c.get-last.ensures.value ∙ c.last.ensures.value in
    run-out w.record_of w.last c.args.from c.args.plain c.args.at_end c.loop-v.v c.loop-v.bytes c.room_at-room.result c.loop-v.values c.loop-v.invariant
    (omega (arith, c.loop-v-test.true, last)) (c.room_at-room.ensures ∙ ap (λ l. 1048576 - cond (eqb c.loop-v.v l) c.args.at_end c.args.plain - c.loop-v.bytes) last)
    (sym c.in_ok-value.ensures ∙ c.in_default.is)

pub returns-clause-values : goal.returns-clause-values
returns-clause-values c =
    let w = readings_of c.args.self.now in
    run-past w.record_of w.last c.args.from c.args.plain c.args.at_end c.loop-v.v c.loop-v.bytes c.loop-v.values c.loop-v.invariant
    (omega (arith, c.loop-v-test.false, c.get-last.ensures.value, c.last.ensures.value))

pub loop-v-preserved : goal.loop-v-preserved
loop-v-preserved c =
    let w = readings_of c.args.self.now in
    let last : c.get-last.result ≡ w.last = c.get-last.ensures.value ∙ c.last.ensures.value in
    let room : c.room_at-room.result ≡ 1048576 - cond (eqb c.loop-v.v w.last) c.args.at_end c.args.plain - c.loop-v.bytes =
    c.room_at-room.ensures ∙ ap (λ l. 1048576 - cond (eqb c.loop-v.v l) c.args.at_end c.args.plain - c.loop-v.bytes) last in
    let there = sym c.in_ok-value.ensures ∙ c.in-Some.is in
    let fits = (with_room c.room_at-room.result (record_at w.record_of c.loop-v.v) c.in-Some.value there).1 in
    let size : c.value_len-bytes.result ≡ value_length c.in-Some.value = omega (arith, fits, c.value_len-bytes.ensures, room) in
    rw (c.in_ok-push.ensures.ok, size)
    (run-next w.record_of w.last c.args.from c.args.plain c.args.at_end c.loop-v.v c.loop-v.bytes c.room_at-room.result c.loop-v.values c.in-Some.value c.loop-v.invariant
    (omega (arith, last, c.loop-v-test.true)) room (λ e. c.if-as_slice-eq-MOST_ITEMS.false (ap length c.as_slice.ensures ∙ e)) there)

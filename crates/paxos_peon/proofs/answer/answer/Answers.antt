use Rattle.std.proofs.Common.{◌≡◌, ℕ, Bool, leb, ◌+◌, ◌≤◌, ◌<◌, true, length, ap, sym, ◌∙◌, arith}
use Rattle.std.specs.Prelude.{sum_by}
use Rattle.mon_msg.specs.Protocol.Parts.{told_length, value_length}
use Rattle.mon_msg.specs.Protocol.Readings.{readings_of}
use Rattle.mon_wire.specs.declared.body.Body.TheVariants as body
use Rattle.paxos_peon.proofs.AnswerLaws.{answer-short, answer-full, answer-whole}
use Rattle.paxos_peon.proofs.answer.answer.Goals as goal

-- the test of the room, by the values
room_is : (b : Bool) (bytes sum told : ℕ) → bytes ≡ sum → b ≡ leb (47 + bytes + told) 1048576 → b ≡ leb (47 + sum + told) 1048576
room_is b bytes sum told e h = h ∙ ap (λ n. leb (47 + n + told) 1048576) e

pub returns-then-get-as_slice : goal.returns-then-get-as_slice
returns-then-get-as_slice c =
    λ n.
    let w = readings_of c.args.stored.now in
    let run = c.in_ok-values.field-0 in
    let told = c.in_ok-values.ensures in
    let h : c.args.from + length run.values ≤ w.last = omega (arith, c.if-get-as_slice.true, c.get.ensures.value, c.get-2.ensures.value, ap length c.as_slice.ensures, c.last-last.ensures.value) in
    c.answer_in_part.ensures ∙ answer-short n c.args.promise w c.args.from run.values (told.values n c.args.promise) h

pub returns-then-not-has_room : goal.returns-then-not-has_room
returns-then-not-has_room c =
    λ n.
    let w = readings_of c.args.stored.now in
    let run = c.in_ok-values.field-0 in
    let told = c.in_ok-values.ensures in
    let h : w.last < c.args.from + length run.values = omega (arith, c.if-get-as_slice.false, c.get.ensures.value, c.get-2.ensures.value, ap length c.as_slice.ensures, c.last-last.ensures.value) in
    c.answer_in_part-then-not-has_room.ensures
    ∙ answer-full n c.args.promise w c.args.from run.values (told.values n c.args.promise) c.in_ok-pending.pending c.in_ok-pending.ensures told.few h
    (sym (room_is c.has_room.result run.bytes (sum_by value_length run.values) (told_length c.in_ok-pending.pending) told.bytes c.has_room.ensures) ∙ c.if-not-has_room.true)

pub returns : goal.returns
returns c =
    λ n.
    let w = readings_of c.args.stored.now in
    let run = c.in_ok-values.field-0 in
    let told = c.in_ok-values.ensures in
    let h : w.last < c.args.from + length run.values = omega (arith, c.if-get-as_slice.false, c.get.ensures.value, c.get-2.ensures.value, ap length c.as_slice.ensures, c.last-last.ensures.value) in
    (λ i. body.Last c.args.promise (c.first.ensures i) (c.last-last.ensures.value i) true c.args.from run.values c.in_ok-pending.pending)
    ∙ answer-whole n c.args.promise w c.args.from run.values (told.values n c.args.promise) c.in_ok-pending.pending c.in_ok-pending.ensures told.few h
    (sym (room_is c.has_room.result run.bytes (sum_by value_length run.values) (told_length c.in_ok-pending.pending) told.bytes c.has_room.ensures) ∙ c.if-not-has_room.false)

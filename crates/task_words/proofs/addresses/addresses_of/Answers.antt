use Rattle.std.proofs.Common.{List, sym, ap, ◌∙◌, arith}
use Rattle.mon_link.specs.declared.udp.Address.{Address}
use Rattle.task_words.specs.Addresses.{address_of, addresses_of}
use Rattle.task_words.proofs.AddressLaws.{starts}
use Rattle.task_words.proofs.PartsLoop.{left, no_front, reading_ends, reading_leaves, reading_stops, reads_on, with_front}
use Rattle.task_words.proofs.addresses.addresses_of.Goals as goal

pub loop-rank-init : goal.loop-rank-init
loop-rank-init c =
    ap (λ (front : List Address). with_front front (left Address 44 address_of c.args.monitors 0 c.new-parts.result)) c.new-addresses.ensures
    ∙ no_front (left Address 44 address_of c.args.monitors 0 c.new-parts.result) ∙ starts c.args.monitors c.args.text.now c.new-parts.result c.new-parts.ensures

pub returns-in_default-clause-refused : goal.returns-in_default-clause-refused
returns-in_default-clause-refused c = λ _.
    reading_stops Address 44 address_of c.args.monitors c.loop-rank._rank c.loop-rank.addresses c.loop-rank.parts c.in_default.field-0 (addresses_of c.args.monitors c.args.text.now) c.loop-rank-test.true c.in_default.ensures
    c.loop-rank.invariant

pub loop-rank-preserved : goal.loop-rank-preserved
loop-rank-preserved c =
    rw c.in_ok-push.ensures.ok
    (reads_on Address 44 address_of c.args.monitors c.loop-rank._rank c.loop-rank.addresses c.loop-rank.parts c.next_address.new.parts c.in-Ok.address (addresses_of c.args.monitors c.args.text.now) c.loop-rank-test.true c.in-Ok.ensures
    c.loop-rank.invariant)

pub returns-then-is_done-clause-read : goal.returns-then-is_done-clause-read
returns-then-is_done-clause-read c =
    reading_ends Address 44 address_of c.args.monitors c.loop-rank._rank c.loop-rank.addresses c.loop-rank.parts (addresses_of c.args.monitors c.args.text.now) (omega arith) (sym c.is_done.ensures ∙ c.if-is_done.true) c.loop-rank.invariant

pub returns-else-is_done-clause-refused : goal.returns-else-is_done-clause-refused
returns-else-is_done-clause-refused c = λ _.
    reading_leaves Address 44 address_of c.args.monitors c.loop-rank._rank c.loop-rank.addresses c.loop-rank.parts (addresses_of c.args.monitors c.args.text.now) (omega arith) (sym c.is_done.ensures ∙ c.if-is_done.false) c.loop-rank.invariant

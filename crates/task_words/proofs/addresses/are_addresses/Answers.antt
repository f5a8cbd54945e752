use Rattle.std.proofs.Common.{List, Result, ap, ◌∙◌, arith}
use Rattle.std.specs.Prelude.{is_ok}
use Rattle.mon_link.specs.declared.udp.Address.{Address}
use Rattle.schedule_text.specs.declared.refusal.ScheduleKind.{ScheduleKind}
use Rattle.task_words.specs.Addresses.{address_of, addresses_of}
use Rattle.task_words.proofs.AddressLaws.{starts}
use Rattle.task_words.proofs.PartsLoop.{test_ends, test_stops, tests_on}
use Rattle.task_words.proofs.addresses.are_addresses.Goals as goal

pub loop-rank-init : goal.loop-rank-init
loop-rank-init c = ap (λ (read : Result (List Address) ScheduleKind). is_ok read) (starts c.args.monitors c.args.text.now c.new-parts.result c.new-parts.ensures)

pub returns-in_default : goal.returns-in_default
returns-in_default c =
    test_stops Address 44 address_of c.args.monitors c.loop-rank._rank c.loop-rank.parts c.in_default.field-0 (is_ok (addresses_of c.args.monitors c.args.text.now)) c.loop-rank-test.true c.in_default.ensures c.loop-rank.invariant

pub loop-rank-preserved : goal.loop-rank-preserved
loop-rank-preserved c =
    tests_on Address 44 address_of c.args.monitors c.loop-rank._rank c.loop-rank.parts c.next_address.new.parts c.in-Ok._address (is_ok (addresses_of c.args.monitors c.args.text.now)) c.loop-rank-test.true c.in-Ok.ensures
    c.loop-rank.invariant

pub returns : goal.returns
returns c =
    c.is_done.ensures ∙ test_ends Address 44 address_of c.args.monitors c.loop-rank._rank c.loop-rank.parts (is_ok (addresses_of c.args.monitors c.args.text.now)) (omega arith) c.loop-rank.invariant

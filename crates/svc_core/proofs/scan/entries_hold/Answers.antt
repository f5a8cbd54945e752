use Rattle.std.proofs.Common.{◌||◌, ap}
use Rattle.svc_core.proofs.Scans.{scan_begins, scan_goes_on, scan_ends}
use Rattle.svc_core.proofs.scan.entries_hold.Goals as goal

pub loop-init : goal.loop-init
loop-init c = scan_begins c.args.count c.args.cursor.now c.args.key.now

pub loop-preserved : goal.loop-preserved
loop-preserved c =
    scan_goes_on c.args.count c.args.cursor.now c.args.key.now c.loop.counter c.loop.before.now c.in-Some.name.now c.in-Some-text_at.field-0.now c.loop.cursor c.key_at.new.cursor c.text_at.new.cursor c.loop.held
    (c.loop.held || c.eq-held.result) c.loop-test.true c.in-Some.ensures c.in-Some-text_at.ensures (ap (λ b. c.loop.held || b) c.eq-held.ensures) c.loop.invariant

pub returns : goal.returns
returns c = scan_ends c.args.count c.args.cursor.now c.args.key.now c.loop.counter c.loop.before.now c.loop.cursor c.loop.held c.loop-test.false c.loop.invariant

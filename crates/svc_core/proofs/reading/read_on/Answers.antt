use Rattle.std.proofs.Common.{sym}
use Rattle.mon_msg.specs.Protocol.Readings.{readings_of}
use Rattle.svc_core.proofs.Onwards.{is_at_first, is_at_next, is_at_end, is_at_last}
use Rattle.svc_core.proofs.reading.read_on.Goals as goal

pub loop-i-init : goal.loop-i-init
loop-i-init c = record { at = is_at_first (readings_of c.args.kv.now) c.args.service c.args.count c.args.v c.args.map.now; form = c.requires.form }

pub returns-then-not-branch-clause-map : goal.returns-then-not-branch-clause-map
returns-then-not-branch-clause-map c =
    sym (is_at_end (readings_of c.args.kv.now) c.args.service c.args.count c.args.v c.args.map.now c.loop-i.i c.loop-i.map c.step_at.new.map c.loop-i-test.true (rw c.if-not-branch.true at c.in_ok-step_at.ensures.step) c.loop-i.invariant.at).0

pub returns-then-not-branch-clause-all : goal.returns-then-not-branch-clause-all
returns-then-not-branch-clause-all c =
    sym (is_at_end (readings_of c.args.kv.now) c.args.service c.args.count c.args.v c.args.map.now c.loop-i.i c.loop-i.map c.step_at.new.map c.loop-i-test.true (rw c.if-not-branch.true at c.in_ok-step_at.ensures.step) c.loop-i.invariant.at).1

pub loop-i-preserved : goal.loop-i-preserved
loop-i-preserved c = record {
  at = is_at_next (readings_of c.args.kv.now) c.args.service c.args.count c.args.v c.args.map.now c.loop-i.i c.loop-i.map c.step_at.new.map c.loop-i-test.true (rw c.if-not-branch.false at c.in_ok-step_at.ensures.step) c.loop-i.invariant.at;
  form = c.in_ok-step_at.ensures.form c.loop-i.invariant.form;
}

pub returns-clause-map : goal.returns-clause-map
returns-clause-map c = sym (is_at_last (readings_of c.args.kv.now) c.args.service c.args.count c.args.v c.args.map.now c.loop-i.i c.loop-i.map c.loop-i-test.false c.loop-i.invariant.at).0

pub returns-clause-all : goal.returns-clause-all
returns-clause-all c = sym (is_at_last (readings_of c.args.kv.now) c.args.service c.args.count c.args.v c.args.map.now c.loop-i.i c.loop-i.map c.loop-i-test.false c.loop-i.invariant.at).1

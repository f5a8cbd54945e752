use Rattle.mon_msg.specs.Protocol.Readings.{readings_of}
use Rattle.svc_core.proofs.Outlines.{come_first, come_next, come_last}
use Rattle.svc_core.proofs.outline.outline_on.Goals as goal

pub loop-i-init : goal.loop-i-init
loop-i-init c = record { come = come_first (readings_of c.args.kv.now) c.args.key.now c.args.full c.args.count c.args.v; most = c.requires.most }

pub outline_after-requires : goal.outline_after-requires
outline_after-requires c = c.loop-i.invariant.most

pub loop-i-preserved : goal.loop-i-preserved
loop-i-preserved c = record {
  come = come_next (readings_of c.args.kv.now) c.args.key.now c.args.full c.loop-i.outline c.in-Some.next c.args.count c.args.v c.loop-i.i c.loop-i-test.true (rw c.in-Some.is at c.in_ok-next.ensures.outline) c.loop-i.invariant.come;
  most = rw c.in-Some.is at c.in_ok-next.ensures.most;
}

pub returns : goal.returns
returns c = come_last (readings_of c.args.kv.now) c.args.key.now c.args.full c.loop-i.outline c.args.count c.args.v c.loop-i.i c.loop-i-test.false c.loop-i.invariant.come

use Rattle.std.proofs.Common.{◌+◌, ◌++◌, arith}
use Rattle.schedule_made.specs.Made.{made_events}
use Rattle.schedule_made.proofs.MadeLaws.{next_of_made_event}
use Rattle.schedule_made.proofs.Steps.{made_events_step, made_events_end}
use Rattle.schedule_made.proofs.made_events.put_made_events.Goals as goal

pub loop-i-preserved : goal.loop-i-preserved
loop-i-preserved c =
    let bounds = next_of_made_event c.loop-i.i c.loop-i.next c.loop-i.generator in
    record {
      least = omega (arith, bounds.0, c.in_ok-made_event.ensures.next);
      most = omega (arith, bounds.1, c.in_ok-made_event.ensures.next);
      so_far = made_events_step c.args.most (c.args.events.now.items ++ made_events c.args.most 34 31 c.args.generator.now) c.loop-i.events.items
          (34 + c.args.most) c.loop-i.i c.loop-i.next c.in_ok-made_event.field-0 c.push.new.self.items c.loop-i.generator c.made_event.new.generator c.made_event.new.next
          c.loop-i-test.true c.loop-i.invariant.so_far c.in_ok-made_event.ensures.value c.in_ok-push.ensures.items c.in_ok-made_event.ensures.after c.in_ok-made_event.ensures.next;
    }

pub returns : goal.returns
returns c =
    made_events_end c.args.most (c.args.events.now.items ++ made_events c.args.most 34 31 c.args.generator.now) c.loop-i.events.items
    (34 + c.args.most) c.loop-i.i c.loop-i.next c.loop-i.generator c.loop-i-test.false c.loop-i.invariant.so_far

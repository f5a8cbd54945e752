use Rattle.std.proofs.Common.{arith}
use Rattle.mon_link.specs.Clients.{MOST_CLIENTS, stopped}
use Rattle.mon_link.proofs.Places.{passes, stops, came_round}
use Rattle.mon_link.proofs.clients.Ring.stop.Goals as goal

pub loop-preserved : goal.loop-preserved
loop-preserved c =
    record {
      within = omega arith;
      so_far = passes MOST_CLIENTS c.loop.counter c.loop.self.marks c.loop.self.hand (stopped MOST_CLIENTS c.args.self.now) c.loop-test.true c.if-not-is_marked.false c.loop.invariant.so_far;
    }

pub returns-then-not-is_marked-clause-stopped : goal.returns-then-not-is_marked-clause-stopped
returns-then-not-is_marked-clause-stopped c =
    stops MOST_CLIENTS c.loop.counter c.loop.self.marks c.loop.self.hand (stopped MOST_CLIENTS c.args.self.now) c.loop-test.true c.if-not-is_marked.true c.loop.invariant.so_far

pub returns-clause-stopped : goal.returns-clause-stopped
returns-clause-stopped c =
    came_round MOST_CLIENTS c.loop.counter c.loop.self (stopped MOST_CLIENTS c.args.self.now) c.loop-test.false c.loop.invariant.so_far

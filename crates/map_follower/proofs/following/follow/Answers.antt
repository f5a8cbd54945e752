use Rattle.std.proofs.Common.{[], sym, subst, ◌∙◌, arith}
use Rattle.map_follower.specs.Iterations.{course}
use Rattle.map_follower.proofs.Leading.{Leads, begins, ends_at, ends_first, ends_last, leads_on}
use Rattle.map_follower.proofs.following.follow.Goals as goal

pub returns-in-Err-clause-follows : goal.returns-in-Err-clause-follows
returns-in-Err-clause-follows g c =
    let held = g.K.Sink.held c.args.sink.now in
    let old = course c.args.follower.now [] 0 (g.L.Link.state c.args.link.now).observed held in
    let it = ends_first c.args.monitors c.args.turns c.in-Err.end old (course c.args.follower.now [] c.ask_on.new.asks (g.L.Link.state c.ask_on.new.link).observed held) (g.L.Link.history c.args.link.now) (g.L.Link.history c.ask_on.new.link) (c.in-Err.ensures.does [] held) (c.in-Err.ensures.talks [] held) in
    (c.ask_on.new.asks, [], it.0, it.1)

pub loop-made-init : goal.loop-made-init
loop-made-init g c =
    let held = g.K.Sink.held c.args.sink.now in
    let observed = (g.L.Link.state c.ask_on.new.link).observed in
    let old = course c.args.follower.now [] 0 (g.L.Link.state c.args.link.now).observed held in
    record {
      leads = subst (λ parts. Leads c.args.monitors 0 old (course c.args.follower.now parts c.ask_on.new.asks observed held) (g.L.Link.history c.args.link.now) (g.L.Link.history c.ask_on.new.link)) (sym c.new-assembly.ensures)
          (begins c.args.monitors old (course c.args.follower.now [] c.ask_on.new.asks observed held) (g.L.Link.history c.args.link.now) (g.L.Link.history c.ask_on.new.link) (c.in_default.ensures.does [] held) (c.in_default.ensures.talks [] held));
      asks = omega (arith, c.in_default.ensures.asks);
      faults = c.in_default.ensures.faults;
      later = omega arith;
    }

pub returns-in-Err-iteration-clause-follows : goal.returns-in-Err-iteration-clause-follows
returns-in-Err-iteration-clause-follows g c =
    let l = c.loop-made in
    let old = course c.args.follower.now [] 0 (g.L.Link.state c.args.link.now).observed (g.K.Sink.held c.args.sink.now) in
    let now = course l.follower l.assembly l.asks (g.L.Link.state l.link).observed (g.K.Sink.held l.sink) in
    let n = c.iteration.new in
    let t = c.in-Err-iteration.ensures.turned in
    let it = ends_at c.args.monitors l.made old now (g.L.Link.history c.args.link.now) (g.L.Link.history l.link) l.invariant.leads t.0 t.1 c.args.turns c.in-Err-iteration.end (course n.follower n.assembly n.asks (g.L.Link.state n.link).observed (g.K.Sink.held n.sink)) (g.L.Link.history n.link) (omega (arith, c.loop-made-test.true)) t.2 t.3 in
    (n.asks, n.assembly, it.0, it.1)

pub loop-made-preserved : goal.loop-made-preserved
loop-made-preserved g c =
    let l = c.loop-made in
    let old = course c.args.follower.now [] 0 (g.L.Link.state c.args.link.now).observed (g.K.Sink.held c.args.sink.now) in
    let now = course l.follower l.assembly l.asks (g.L.Link.state l.link).observed (g.K.Sink.held l.sink) in
    let n = c.iteration.new in
    let e = c.in_default-iteration.ensures in
    let t = e.turned in
    record {
      leads = leads_on c.args.monitors l.made old now (g.L.Link.history c.args.link.now) (g.L.Link.history l.link) l.invariant.leads t.0 t.1 (course n.follower n.assembly n.asks (g.L.Link.state n.link).observed (g.K.Sink.held n.sink)) (g.L.Link.history n.link) t.2 t.3;
      asks = omega (arith, e.asks, l.invariant.asks);
      faults = e.faults ∙ l.invariant.faults;
      later = omega (arith, e.later, l.invariant.later);
    }

pub returns-clause-follows : goal.returns-clause-follows
returns-clause-follows g c =
    let l = c.loop-made in
    let old = course c.args.follower.now [] 0 (g.L.Link.state c.args.link.now).observed (g.K.Sink.held c.args.sink.now) in
    let now = course l.follower l.assembly l.asks (g.L.Link.state l.link).observed (g.K.Sink.held l.sink) in
    let it = ends_last c.args.monitors l.made c.args.turns old now (g.L.Link.history c.args.link.now) (g.L.Link.history l.link) l.invariant.leads (omega (arith, c.loop-made-test.false, l.auto.made-end)) in
    (l.asks, l.assembly, it.0, it.1)

use Rattle.mon_node.proofs.Hearings.{timer_heard, link_heard}
use Rattle.mon_node.proofs.hearing.hear.Goals as goal

pub returns-in-Some-clause-heard : goal.returns-in-Some-clause-heard
returns-in-Some-clause-heard g c =
    timer_heard c.args.monitors c.args.next.now c.now-began.result c.args.assembly.now (g.C.Clock.left c.args.clock.now) (g.C.Clock.left c.now-began.new.self) (g.L.Link.state c.args.link.now).observed c.now-began.ensures.shows c.now-began.ensures.left (g.L.Link.history c.args.link.now) c.in-Some.timer c.in-Some.ensures

pub returns-in-None-clause-heard : goal.returns-in-None-clause-heard
returns-in-None-clause-heard g c =
    let h = c.ask.ensures.heard in
    link_heard c.args.monitors c.args.next.now c.now-began.result c.args.assembly.now (g.C.Clock.left c.args.clock.now) (g.C.Clock.left c.now-began.new.self) (g.L.Link.state c.args.link.now).observed c.now-began.ensures.shows c.now-began.ensures.left
    c.wait_until-wait.result c.wait_until-wait.ensures c.in-None.ensures
    (g.L.Link.history c.args.link.now) (g.L.Link.history c.ask.new.link) h.0 h.1 c.ask.result _ h.2 h.3 h.4

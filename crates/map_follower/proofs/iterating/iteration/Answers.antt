use Rattle.std.proofs.Common.{None, Result, Ok, Err, inl, refl, sym, subst, ap, ◌∙◌}
use Rattle.mon_link.specs.declared.link.Got.{Got}
use Rattle.mon_types.specs.declared.names.Stop.{Stop}
use Rattle.map_follower.specs.Iterations.{course}
use Rattle.map_follower.specs.Talking.{WentBy}
use Rattle.map_follower.proofs.Leading.{ends_silent, idle_talk, iteration_closed, iteration_failed, iteration_idle, iteration_out, iteration_with, silent_talk}
use Rattle.map_follower.proofs.iterating.iteration.Goals as goal

pub returns-in-Ok-Datagram-clause-turned : goal.returns-in-Ok-Datagram-clause-turned
returns-in-Ok-Datagram-clause-turned g c =
    let old = course c.args.follower.now c.args.assembly.now c.args.asks.now (g.L.Link.state c.args.link.now).observed (g.K.Sink.held c.args.sink.now) in
    let observed = (g.L.Link.state c.next.new.self).observed in
    let t = c.take_datagram-done in (
      c.next.result,
      c.next.ensures.calls.answer,
      iteration_with c.args.monitors t.result c.next.result c.in-Ok-Datagram.from c.in-Ok-Datagram.bytes c.as_slice.result.now (c.in-Ok-Datagram.is ∙ ap Ok c.in-Ok-Datagram.field-0-is) c.as_slice.ensures
          old observed c.next.ensures.calls.observed (course t.new.follower t.new.assembly c.args.asks.now observed (g.K.Sink.held t.new.sink)) (t.ensures.does c.args.asks.now observed),
      silent_talk c.args.monitors old c.next.result (g.L.Link.history c.args.link.now) (g.L.Link.history c.next.new.self) c.next.ensures.goes_on t.result (subst (λ (z : Result Got Stop). WentBy z None) (sym (c.in-Ok-Datagram.is ∙ ap Ok c.in-Ok-Datagram.field-0-is)) refl),
    )

pub returns-in-Ok-Idle-clause-turned : goal.returns-in-Ok-Idle-clause-turned
returns-in-Ok-Idle-clause-turned g c =
    let held = g.K.Sink.held c.args.sink.now in
    let old = course c.args.follower.now c.args.assembly.now c.args.asks.now (g.L.Link.state c.args.link.now).observed held in
    let observed = (g.L.Link.state c.next.new.self).observed in
    let a = c.ask_on in (
      c.next.result,
      c.next.ensures.calls.answer,
      iteration_idle c.args.monitors a.result c.next.result (c.in-Ok-Idle.is ∙ ap Ok c.in-Ok-Idle.field-0-is) old observed c.next.ensures.calls.observed
          (course c.args.follower.now c.args.assembly.now a.new.asks (g.L.Link.state a.new.link).observed held) (a.ensures.does c.args.assembly.now held),
      idle_talk c.args.monitors old c.next.result (g.L.Link.history c.args.link.now) (g.L.Link.history c.next.new.self) c.next.ensures.goes_on (g.L.Link.history a.new.link) a.result observed (c.in-Ok-Idle.is ∙ ap Ok c.in-Ok-Idle.field-0-is) (a.ensures.talks c.args.assembly.now held),
    )

pub returns-in-Err-OutOfMemory-clause-turned : goal.returns-in-Err-OutOfMemory-clause-turned
returns-in-Err-OutOfMemory-clause-turned g c =
    let old = course c.args.follower.now c.args.assembly.now c.args.asks.now (g.L.Link.state c.args.link.now).observed (g.K.Sink.held c.args.sink.now) in (
      c.next.result,
      c.next.ensures.calls.answer,
      (inl refl, iteration_out c.args.monitors c.next.result (c.in-Err-OutOfMemory.is ∙ ap Err c.in-Err-OutOfMemory.field-0-is) old (g.L.Link.state c.next.new.self).observed c.next.ensures.calls.observed),
      ends_silent c.args.monitors old c.next.result (g.L.Link.history c.args.link.now) (g.L.Link.history c.next.new.self) c.next.ensures.goes_on _,
    )

pub returns-in-Ok-Closed-clause-turned : goal.returns-in-Ok-Closed-clause-turned
returns-in-Ok-Closed-clause-turned g c =
    let old = course c.args.follower.now c.args.assembly.now c.args.asks.now (g.L.Link.state c.args.link.now).observed (g.K.Sink.held c.args.sink.now) in (
      c.next.result,
      c.next.ensures.calls.answer,
      iteration_closed c.args.monitors c.next.result (c.in-Ok-Closed.is ∙ ap Ok c.in-Ok-Closed.field-0-is) old (g.L.Link.state c.next.new.self).observed c.next.ensures.calls.observed,
      ends_silent c.args.monitors old c.next.result (g.L.Link.history c.args.link.now) (g.L.Link.history c.next.new.self) c.next.ensures.goes_on _,
    )

pub returns-in-Err-Failed-clause-turned : goal.returns-in-Err-Failed-clause-turned
returns-in-Err-Failed-clause-turned g c =
    let old = course c.args.follower.now c.args.assembly.now c.args.asks.now (g.L.Link.state c.args.link.now).observed (g.K.Sink.held c.args.sink.now) in (
      c.next.result,
      c.next.ensures.calls.answer,
      iteration_failed c.args.monitors c.next.result (c.in-Err-Failed.is ∙ ap Err c.in-Err-Failed.field-0-is) old (g.L.Link.state c.next.new.self).observed c.next.ensures.calls.observed,
      ends_silent c.args.monitors old c.next.result (g.L.Link.history c.args.link.now) (g.L.Link.history c.next.new.self) c.next.ensures.goes_on _,
    )

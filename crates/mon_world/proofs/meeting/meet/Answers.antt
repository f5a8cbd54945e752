use Rattle.std.proofs.Common.{Option, sym, ap, subst, ◌∙◌}
use Rattle.std.specs.Prelude.{is_some}
use Rattle.std.proofs.lemmas.Result.{err_from_is_err_and}
use Rattle.mon_msg.specs.Protocol.State.{State}
use Rattle.mon_world.specs.Monitor.{Represents}
use Rattle.mon_world.proofs.Standing.{as_it_stands, is_up, is_down, handles_input, stops_input, no_start}
use Rattle.mon_world.proofs.meeting.meet.Goals as goal

pub handle_input-requires-clause-up : goal.handle_input-requires-clause-up
handle_input-requires-clause-up c =
    let stands = c.requires.stands in
    let up = is_up stands.1 stands.2 c.in-Some.before (sym c.in-Some.is ∙ c.state.ensures stands.0 stands.1 stands.2 stands.3 stands.4) in
    (stands.0, stands.1, up.state, stands.3, subst (λ (s : Option State). Represents stands.0 stands.1 s stands.3 c.args.monitor.now) up.up stands.4)

pub returns-in_err-handle_input-in-Some-clause-meets : goal.returns-in_err-handle_input-in-Some-clause-meets
returns-in_err-handle_input-in-Some-clause-meets c = λ me m s f h.
    let p = err_from_is_err_and c.from_residual-in_err-handle_input-in-Some.result c.from_residual-in_err-handle_input-in-Some.ensures.1 in
    let up = is_up m s c.in-Some.before (sym c.in-Some.is ∙ c.state.ensures me m s f h) in
    rw (p.1, p.2)
    (stops_input me c.args.at m s f c.in-Some.before c.args.input.now c.handle_input.new.monitor (no_start c.args.input.now c.is_start.result c.is_start.ensures c.if-is_start.false) up _
    (c.in_err-handle_input-in-Some.ensures.handles me m up.state f (subst (λ (s : Option State). Represents me m s f c.args.monitor.now) up.up h)))

pub returns-in_ok-handle_input-in-Some-clause-meets : goal.returns-in_ok-handle_input-in-Some-clause-meets
returns-in_ok-handle_input-in-Some-clause-meets c = λ me m s f h.
    let up = is_up m s c.in-Some.before (sym c.in-Some.is ∙ c.state.ensures me m s f h) in
    handles_input me c.args.at m s f c.in-Some.before c.args.input.now c.handle_input.new.monitor (no_start c.args.input.now c.is_start.result c.is_start.ensures c.if-is_start.false) up _
    (c.in_ok-handle_input-in-Some.ensures.handles me m up.state f (subst (λ (s : Option State). Represents me m s f c.args.monitor.now) up.up h))

pub returns-in-None-clause-meets : goal.returns-in-None-clause-meets
returns-in-None-clause-meets c = λ me m s f h. (
  (as_it_stands me.member.rank m s f c.args.input.now (no_start c.args.input.now c.is_start.result c.is_start.ensures c.if-is_start.false)).state
      ∙ is_down m s c.state.result (c.state.ensures me m s f h) (ap is_some c.in-None.is),
  h,
)

pub returns-in_ok-handle_input-in-Some-clause-passes : goal.returns-in_ok-handle_input-in-Some-clause-passes
returns-in_ok-handle_input-in-Some-clause-passes c = λ me m s f h.
    let up = is_up m s c.in-Some.before (sym c.in-Some.is ∙ c.state.ensures me m s f h) in
    c.in_ok-handle_input-in-Some.ensures.passes me m up.state f (subst (λ (s : Option State). Represents me m s f c.args.monitor.now) up.up h)

use Rattle.std.proofs.Common.{◌≡◌, not, Some, None, ap, ◌∙◌}
use Rattle.std.proofs.lemmas.Result.{err_from_is_err_and}
use Rattle.mon_msg.specs.Protocol.State.{State}
use Rattle.quorum_model.specs.Meets.{state_at}
use Rattle.mon_world.proofs.Standing.{as_it_stands, is_down, may_go_on, may_start, no_start}
use Rattle.mon_world.proofs.meeting.fail_disk.Goals as goal
use Rattle.mon_world.proofs.meeting.fail_disk.Goals.{else-not-is_start-via-then-not-is_start+else-is_none, else-not-is_start-via-else-not-is_start}

pub returns-then-is_none : goal.returns-then-is_none
returns-then-is_none c = λ me m s f h. (
  (as_it_stands me.member.rank m s f c.args.input.now (no_start c.args.input.now c.is_start.result c.is_start.ensures c.if-not-is_start.true)).state
      ∙ is_down m s c.state.result (c.state.ensures me m s f h) (c.is_none.ensures ∙ ap not c.if-is_none.true),
  h,
)

pub returns-in_err-kept : goal.returns-in_err-kept
returns-in_err-kept c = λ me m s f h.
    let p = err_from_is_err_and c.from_residual.result c.from_residual.ensures.1 in
    let t : (t : State) × (state_at me.member.rank s c.args.input.now ≡ Some t) =
    elim c.else-not-is_start.branch [
      | else-not-is_start-via-then-not-is_start+else-is_none w ↦ may_go_on me.member.rank m s c.args.input.now w.state.result (w.state.ensures me m s f h) (w.is_none.ensures ∙ ap not w.if-is_none.false)
      | else-not-is_start-via-else-not-is_start w ↦ may_start me.member.rank s c.args.input.now (c.is_start.ensures.0 w.if-not-is_start.false)
    ] in
    rw (p.1, p.2) (t.0, t.1, c.in_err-kept.ensures me m s t.0 f h t.1)

pub returns : goal.returns
returns c = λ me m s f h.
    let t : (t : State) × (state_at me.member.rank s c.args.input.now ≡ Some t) =
    elim c.else-not-is_start.branch [
      | else-not-is_start-via-then-not-is_start+else-is_none w ↦ may_go_on me.member.rank m s c.args.input.now w.state.result (w.state.ensures me m s f h) (w.is_none.ensures ∙ ap not w.if-is_none.false)
      | else-not-is_start-via-else-not-is_start w ↦ may_start me.member.rank s c.args.input.now (c.is_start.ensures.0 w.if-not-is_start.false)
    ] in
    let down = c.in_ok-kept.ensures me m s t.0 f h t.1 in
    (t.0, t.1, record { down = down; last = c.last.ensures me _ None _ down.stands })

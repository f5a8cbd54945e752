use Rattle.std.proofs.Common.{Err, refl, ap, sym, subst, ◌∙◌}
use Rattle.std.proofs.lemmas.Result.{IfOk-at_ok, err_from_is_err_and}
use Rattle.std.specs.List.{AllByRecursion}
use Rattle.mon_bounds.specs.Fitting.{IsBounded}
use Rattle.mon_bounds.proofs.Table.{reaction_ok}
use Rattle.mon_event.specs.State.{state_of}
use Rattle.mon_msg.specs.Joined.{joined}
use Rattle.svc_core.specs.Cache.{known_after}
use Rattle.mon_core.specs.Core.{Monitor}
use Rattle.mon_core.specs.Reacts.{Reacts, SendsNamed}
use Rattle.mon_core.proofs.Reacting.{reacts, stops}
use Rattle.mon_core.proofs.monitor.react_to.Goals as goal

pub returns-in_err-played-clause-reacts : goal.returns-in_err-played-clause-reacts
returns-in_err-played-clause-reacts c =
    let me = c.args.here.now.me.now in
    let m = c.args.here.now.kv.now in
    let came = c.args.input.now in
    let e = c.args.event.now in
    let done = c.played.new.event in
    let old : Monitor = record { me = me; state = state_of e.state; cache = c.args.cache.now } in
    let new : Monitor = record { me = me; state = state_of done.state; cache = c.played.new.cache } in
    let p = err_from_is_err_and c.from_residual.result c.from_residual.ensures.1 in
    subst (Reacts old new m c.args.here.now.time came) (sym (p.1 ∙ ap Err p.2))
    (stops me m c.args.here.now.time came e c.args.cache.now done new c.in_err-played.field-0.0 c.in_err-played.ensures.comes)

pub returns-clause-reacts : goal.returns-clause-reacts
returns-clause-reacts c =
    let me = c.args.here.now.me.now in
    let m = c.args.here.now.kv.now in
    let came = c.args.input.now in
    let e = c.args.event.now in
    let tx = c.in_ok-tx.tx in
    let is = reacts me m c.args.here.now.time came e c.played.new.event c.in_ok-played.ensures.comes tx
    (c.in_ok-tx.ensures ∙ ap joined c.replace-written.ensures.value) c.replace-out.result c.replace-out.ensures.value in
    record {
      me = refl;
      reacts = is;
      bounded = IfOk-at_ok (IsBounded me) is (reaction_ok me c.args.here.now.time m (state_of e.state) came c.requires.ready.remembers c.requires.comes);
      named = subst (AllByRecursion SendsNamed) c.as_slice.ensures c.see_named.ensures;
      known = λ s. c.in_ok-follow.ensures.known s ∙ ap (known_after s tx) (c.in_ok-played.ensures.known s);
      follows = c.in_ok-follow.ensures.follows m c.in_ok-played.ensures.follows;
    }

pub returns-clause-ready : goal.returns-clause-ready
returns-clause-ready c =
    let me = c.args.here.now.me.now in
    let m = c.args.here.now.kv.now in
    let came = c.args.input.now in
    let e = c.args.event.now in
    let is = reacts me m c.args.here.now.time came e c.played.new.event c.in_ok-played.ensures.comes c.in_ok-tx.tx
    (c.in_ok-tx.ensures ∙ ap joined c.replace-written.ensures.value) c.replace-out.result c.replace-out.ensures.value in
    record {
      unwritten = c.replace-written.ensures.after ∙ c.new.ensures;
      unsent = c.replace-out.ensures.after ∙ c.new-2.ensures;
      remembers =
          (IfOk-at_ok (IsBounded me) is (reaction_ok me c.args.here.now.time m (state_of e.state) came c.requires.ready.remembers c.requires.comes)).state;
    }

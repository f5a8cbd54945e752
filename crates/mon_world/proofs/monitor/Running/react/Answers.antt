use Rattle.std.proofs.Common.{sym, subst, ◌∙◌}
use Rattle.std.proofs.lemmas.Result.{err_from_is_err_and}
use Rattle.mon_msg.specs.Protocol.Readings.{readings_of}
use Rattle.mon_tx.specs.Map.{Store}
use Rattle.svc_core.specs.Cache.{Follows}
use Rattle.mon_world.specs.declared.monitor.Running.{Running}
use Rattle.mon_world.specs.Monitor.{does}
use Rattle.mon_world.proofs.Reacting.{core_stops, reacted, unkept}
use Rattle.mon_world.proofs.monitor.Running.react.Goals as goal

pub react-requires-clause-follows : goal.react-requires-clause-follows
react-requires-clause-follows c =
    let x = c.requires.up in
    subst (λ (m : Store). Follows c.args.self.now.core.cache (readings_of m)) (sym (c.kv.ensures ∙ x.4.runs.map)) x.4.follows

pub keep-requires-clause-runs : goal.keep-requires-clause-runs
keep-requires-clause-runs c = let x = c.requires.up in (x.0.member, x.1, x.3, x.4.runs)

pub keep-requires-clause-short : goal.keep-requires-clause-short
keep-requires-clause-short c = c.in_ok-reaction.ensures.bounded.transaction

pub returns-clause-reacts : goal.returns-clause-reacts
returns-clause-reacts c me m s f up =
    let new : Running = record { store = c.keep.new.store; core = c.react.new.self } in
    reacted me c.args.now m s f c.args.input.now c.args.self.now new c.kv.result.now c.in_ok-reaction.reaction up c.kv.ensures c.in_ok-reaction.ensures (c.in_ok-keep.ensures.keeps me.member m f up.runs)

pub returns-in_err-reaction-clause-reacts : goal.returns-in_err-reaction-clause-reacts
unfolding does
returns-in_err-reaction-clause-reacts c me m s f up =
    let p = err_from_is_err_and c.from_residual.result c.from_residual.ensures.1 in
    let core = c.args.self.now.core in
    rw (p.1, p.2) (core_stops me c.args.now m s c.args.input.now core c.react.new.self c.kv.result.now c.in_err-reaction.field-0.0 up.me_is up.state (c.kv.ensures ∙ up.runs.map) c.in_err-reaction.ensures)

pub returns-in_err-keep-clause-reacts : goal.returns-in_err-keep-clause-reacts
returns-in_err-keep-clause-reacts c me m s f up =
    let p = err_from_is_err_and c.from_residual-in_err-keep.result c.from_residual-in_err-keep.ensures.1 in
    rw (p.1, p.2)
    (unkept me c.args.now m s f c.args.input.now c.args.self.now c.react.new.self c.kv.result.now c.in_ok-reaction.reaction c.in_err-keep.field-0.0 up c.kv.ensures c.in_ok-reaction.ensures (c.in_err-keep.ensures.keeps me.member m f up.runs))

pub returns-clause-passes : goal.returns-clause-passes
returns-clause-passes c me m s f up = c.in_ok-keep.ensures.passes me.member m f up.runs

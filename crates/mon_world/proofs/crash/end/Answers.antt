use Rattle.std.proofs.Common.{refl, sym, subst, ◌∙◌}
use Rattle.std.proofs.lemmas.Result.{err_from_is_err_and}
use Rattle.mon_core.specs.Reacts.{IsReaction}
use Rattle.mon_msg.specs.Protocol.Readings.{readings_of}
use Rattle.mon_tx.specs.Map.{Store}
use Rattle.svc_core.specs.Cache.{Follows}
use Rattle.mon_world.proofs.Ending.{ends}
use Rattle.mon_world.proofs.Reacting.{core_stops}
use Rattle.mon_world.proofs.crash.end.Goals as goal

pub kv-requires : goal.kv-requires
kv-requires c = c.requires.fault.3.unbroken

pub react-requires-clause-follows : goal.react-requires-clause-follows
react-requires-clause-follows c = subst (λ (m : Store). Follows c.args.core.now.cache (readings_of m)) (sym c.kv.ensures) c.requires.follows

pub returns-in_err-reaction : goal.returns-in_err-reaction
returns-in_err-reaction c m f faulty =
    let p = err_from_is_err_and c.from_residual.result c.from_residual.ensures.1 in
    let core = c.args.core.now in
    rw (p.1, p.2) (core_stops core.me c.args.now m core.state c.args.input.now core c.react.new.self c.kv.result.now c.in_err-reaction.field-0.0 refl refl (c.kv.ensures ∙ faulty.map) c.in_err-reaction.ensures)

pub end_with-requires-clause-fault : goal.end_with-requires-clause-fault
end_with-requires-clause-fault c = c.requires.fault

pub end_with-requires-clause-short : goal.end_with-requires-clause-short
end_with-requires-clause-short c = c.in_ok-reaction.ensures.bounded.transaction

pub returns : goal.returns
returns c m f faulty =
    let core = c.args.core.now in
    let now = c.args.now in
    let came = c.args.input.now in
    let x = c.in_ok-reaction.reaction in
    let new = c.react.new.self in
    let h = subst (λ (m : Store). IsReaction core new m now came x) (c.kv.ensures ∙ faulty.map) c.in_ok-reaction.ensures in
    ends core.me now m core.state came c.args.injected core.me.member f (record { transaction = x.tx; sends = x.out; state = new.state }) c.end_with.result h.reacts (c.end_with.ensures core.me.member m f faulty)

use Rattle.std.proofs.Common.{◌≡◌, List, IfOk, sym, ap, subst, ◌∙◌}
use Rattle.mon_msg.specs.Protocol.Answers.{sent_values}
use Rattle.mon_msg.specs.Protocol.Readings.{readings_of}
use Rattle.mon_stored.specs.Runs.{run_within}
use Rattle.mon_stored.proofs.Fitting.{sent_values-run}
use Rattle.mon_tx.specs.declared.op.Op.{Op}
use Rattle.paxos_peon.proofs.answer.sent_values.Goals as goal

pub returns-then-sends_none-clause-values : goal.returns-then-sends_none-clause-values
returns-then-sends_none-clause-values c = λ n promise. rw (sym c.sends_none.ensures ∙ c.if-sends_none.true) c.new.ensures

pub returns-clause-values : goal.returns-clause-values
returns-clause-values c =
    λ n promise.
    let w = readings_of c.args.stored.now in
    let same : run_within w.record_of w.last c.get.result 48 48 ≡ sent_values n promise w.first w.last w.record_of c.args.from =
    ap (λ v. run_within w.record_of w.last v 48 48) c.get.ensures.value
    ∙ sym (sent_values-run n promise w.first w.last w.record_of c.args.from (sym c.sends_none.ensures ∙ c.if-sends_none.false)) in
    subst (λ (vs : List (List Op)). IfOk c.run.result (λ run. run.values ≡ vs)) same c.run.ensures.values

use Rattle.std.proofs.Common.{◌≡◌, ◌≤◌, ◌+◌, ◌++◌, [], drop, length, List, sym, ap, ◌∙◌, append-nil, arith}
use Rattle.std.proofs.lemmas.List.{drop_all}
use Rattle.mon_tx.specs.Text.{text, most}
use Rattle.mon_tx.specs.declared.op.Op.{Op}
use Rattle.mon_msg.specs.Protocol.Changes.{encoded}
use Rattle.mon_msg.specs.Protocol.Chunks.{record_changes}
use Rattle.mon_wire.proofs.WriteLoops.{item_has}
use Rattle.mon_plan.proofs.Learning.{records-next, records-fit}
use Rattle.mon_plan.proofs.writers.put_records.Goals as goal

pub put_record-requires : goal.put_record-requires
put_record-requires c = item_has (λ (ops : List Op). length (text ops) ≤ most) c.args.values.now c.loop-value.value-index c.value-item.result c.requires.short c.loop-value-test.true c.value-item.is

pub returns-in_err-put_record-clause-fit : goal.returns-in_err-put_record-clause-fit
returns-in_err-put_record-clause-fit c = records-fit c.args.from c.args.values.now

pub loop-value-preserved : goal.loop-value-preserved
loop-value-preserved c = record {
  at = omega (arith, c.loop-value.invariant.at);
  tx = ap (λ (tx : List Op). tx ++ encoded (record_changes (c.loop-value.v + 1) (drop (c.loop-value.value-index + 1) c.args.values.now))) c.in_ok-put_record.ensures
      ∙ records-next c.loop-value.tx (c.args.tx.now ++ encoded (record_changes c.args.from c.args.values.now)) c.loop-value.v c.loop-value.value-index c.args.values.now c.value-item.result c.loop-value-test.true c.value-item.is c.loop-value.invariant.tx;
}

pub returns-clause-changes : goal.returns-clause-changes
returns-clause-changes c =
    let none : drop c.loop-value.value-index c.args.values.now ≡ [] = drop_all c.loop-value.value-index c.args.values.now c.loop-value-test.false in
    sym (append-nil c.loop-value.tx) ∙ sym (ap (λ (vs : List (List Op)). c.loop-value.tx ++ encoded (record_changes c.loop-value.v vs)) none) ∙ c.loop-value.invariant.tx

pub returns-clause-fit : goal.returns-clause-fit
returns-clause-fit c = records-fit c.args.from c.args.values.now

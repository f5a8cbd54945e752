use Rattle.std.proofs.Common.{◌≡◌, ◌+◌, ◌++◌, [], drop, List, sym, ap, ◌∙◌, append-nil}
use Rattle.std.proofs.lemmas.List.{drop_all}
use Rattle.mon_bytes.specs.declared.entry.Entry.{Entry}
use Rattle.mon_tx.specs.declared.op.Op.{Op}
use Rattle.mon_msg.specs.Protocol.Changes.{encoded}
use Rattle.mon_msg.specs.Protocol.Chunks.{copy_changes}
use Rattle.mon_plan.proofs.Learning.{copies-next, copies-fit}
use Rattle.mon_plan.proofs.writers.put_copies.Goals as goal

pub returns-in_err-put_copy-clause-fit : goal.returns-in_err-put_copy-clause-fit
returns-in_err-put_copy-clause-fit c = copies-fit c.args.entries.now

pub loop-entry-preserved : goal.loop-entry-preserved
loop-entry-preserved c =
    ap (λ (tx : List Op). tx ++ encoded (copy_changes (drop (c.loop-entry.entry-index + 1) c.args.entries.now))) c.in_ok-put_copy.ensures
    ∙ copies-next c.loop-entry.tx (c.args.tx.now ++ encoded (copy_changes c.args.entries.now)) c.loop-entry.entry-index c.args.entries.now c.entry-item.result c.loop-entry-test.true c.entry-item.is c.loop-entry.invariant

pub returns-clause-changes : goal.returns-clause-changes
returns-clause-changes c =
    let none : drop c.loop-entry.entry-index c.args.entries.now ≡ [] = drop_all c.loop-entry.entry-index c.args.entries.now c.loop-entry-test.false in
    sym (append-nil c.loop-entry.tx) ∙ sym (ap (λ (es : List Entry). c.loop-entry.tx ++ encoded (copy_changes es)) none) ∙ c.loop-entry.invariant

pub returns-clause-fit : goal.returns-clause-fit
returns-clause-fit c = copies-fit c.args.entries.now

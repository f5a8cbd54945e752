use Rattle.std.proofs.Common.{refl, sym, append-nil}
use Rattle.mon_plan.proofs.Learning.{learns-empty, learns-spent, learns-done, learns-fit, learns-encoded, empty-changes, above}
use Rattle.mon_plan.proofs.writers.learn.Goals as goal

pub returns-then-is_empty-clause-act : goal.returns-then-is_empty-clause-act
returns-then-is_empty-clause-act c = learns-empty c.args.from c.args.values.now c.if-is_empty.ensures

pub returns-then-is_empty-clause-changes : goal.returns-then-is_empty-clause-changes
returns-then-is_empty-clause-changes c = rw (empty-changes c.args.from c.args.values.now c.if-is_empty.ensures) (sym (append-nil c.args.tx.now))

pub returns-then-is_empty-clause-fit : goal.returns-then-is_empty-clause-fit
returns-then-is_empty-clause-fit c = rw (empty-changes c.args.from c.args.values.now c.if-is_empty.ensures) tt

pub returns-in_default-clause-act : goal.returns-in_default-clause-act
returns-in_default-clause-act c = learns-spent c.args.from c.args.values.now c.requires.from c.if-is_empty.ensures (above _ _ c.in_default.ensures.valid.1)

pub returns-clause-act : goal.returns-clause-act
returns-clause-act c = learns-done c.args.from c.args.values.now c.requires.from c.if-is_empty.ensures (c.in-Some.ensures.valid.0 refl)

pub returns-clause-changes : goal.returns-clause-changes
returns-clause-changes c =
    learns-encoded c.args.tx.now c.put_learned.new.tx c.put_last.new.tx c.args.from c.in-Some.last c.args.values.now c.requires.from c.if-is_empty.ensures
    c.in-Some.ensures.value c.in_ok-put_learned.ensures.changes c.in_ok-put_last.ensures.changes

pub returns-clause-fit : goal.returns-clause-fit
returns-clause-fit c = learns-fit c.args.from c.args.values.now c.requires.from (c.in-Some.ensures.valid.0 refl)

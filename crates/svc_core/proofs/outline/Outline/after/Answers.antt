use Rattle.std.proofs.Common.{◌+◌, length, bytes_eq, not, refl, ap, ◌∙◌, arith}
use Rattle.svc_core.proofs.Outlines.{after_set, after_remove}
use Rattle.svc_core.proofs.outline.Outline.after.Goals as goal

pub returns-then-self-clause-outline : goal.returns-then-self-clause-outline
returns-then-self-clause-outline c =
    rw c.in-Set.is
    (after_set c.args.key.now c.args.self c.args.self.held (c.args.self.most + (length c.as_slice.result.now + length c.as_slice-in-Set.result.now + 5)) c.in-Set.set c.in-Set.value
    (rw c.if-self.true refl) (omega (arith, ap length c.as_slice.ensures.value, ap length c.as_slice-in-Set.ensures.value)))

pub returns-else-self-clause-outline : goal.returns-else-self-clause-outline
returns-else-self-clause-outline c =
    rw c.in-Set.is
    (after_set c.args.key.now c.args.self c.eq.result (c.args.self.most + (length c.as_slice.result.now + length c.as_slice-in-Set.result.now + 5)) c.in-Set.set c.in-Set.value
    (rw c.if-self.false (c.eq.ensures ∙ ap (bytes_eq c.args.key.now) c.as_slice-else-self.ensures.value)) (omega (arith, ap length c.as_slice.ensures.value, ap length c.as_slice-in-Set.ensures.value)))

pub returns-then-self-2-clause-outline : goal.returns-then-self-2-clause-outline
returns-then-self-2-clause-outline c =
    rw c.in-Remove.is
    (after_remove c.args.key.now c.args.self c.ne.result c.in-Remove.removed (rw c.if-self-2.true (c.ne.ensures ∙ ap (λ k. not (bytes_eq c.args.key.now k)) c.as_slice-then-self-2.ensures.value)))

pub returns-else-self-2-clause-outline : goal.returns-else-self-2-clause-outline
returns-else-self-2-clause-outline c = rw c.in-Remove.is (after_remove c.args.key.now c.args.self c.args.self.held c.in-Remove.removed (rw c.if-self-2.false refl))

use Rattle.std.proofs.Common.{[], ◌∷◌, ap, ◌∙◌}
use Rattle.mon_msg.specs.declared.plan.Arming.{Arming}
use Rattle.mon_msg.specs.declared.plan.Next.TheVariants as next
use Rattle.paxos_leader.proofs.collecting.await_answers.Goals as goal

pub returns : goal.returns
returns c =
    let timers = c.in_ok-timers.ensures ∙ ap (λ (a : Arming). a ∷ []) c.armed.ensures in
    λ i. record { tx = c.args.draft.tx; out = c.args.draft.out; timers = timers i; state = c.args.draft.state; next = next.Stay }

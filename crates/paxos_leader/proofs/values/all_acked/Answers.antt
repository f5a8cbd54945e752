use Rattle.std.proofs.Common.{[], ◌∷◌, ap, ◌∙◌}
use Rattle.mon_msg.specs.declared.plan.Arming.{Arming}
use Rattle.mon_msg.specs.declared.plan.Next.TheVariants as next
use Rattle.paxos_leader.proofs.values.all_acked.Goals as goal

pub returns : goal.returns
returns c =
    let timers = c.in_ok-timers.ensures ∙ ap (λ (a : Arming). a ∷ []) c.disarmed.ensures in
    λ i. record { tx = c.new.ensures i; out = c.new-2.ensures i; timers = timers i; state = c.args.state; next = next.Stay }

use Rattle.std.proofs.Common.{sym, subst}
use Rattle.mon_msg.specs.declared.plan.Next.{Next}
use Rattle.mon_plan.specs.Plans.{stands}
use Rattle.mon_event.specs.Events.{Goes}
use Rattle.mon_event.proofs.event.Event.stand.Goals as goal

pub returns-in-Electing-clause-goes : goal.returns-in-Electing-clause-goes
returns-in-Electing-clause-goes c =
    subst (λ (n : Next). Goes c.args.self.now c.start_over.new.self (stands n)) (sym c.in-Electing.is) c.start_over.ensures.goes

pub returns-in-Follow-clause-goes : goal.returns-in-Follow-clause-goes
returns-in-Follow-clause-goes c =
    subst (λ (n : Next). Goes c.args.self.now c.follow.new.self (stands n)) (sym c.in-Follow.is) c.follow.ensures.goes

use Rattle.std.proofs.Common.{◌++◌, List, ap, ◌∙◌}
use Rattle.mon_tx.specs.declared.op.Op.{Op}
use Rattle.mon_plan.specs.Plans.{stands, changed}
use Rattle.mon_event.specs.declared.event.Event.{Event}
use Rattle.mon_event.proofs.Going.{then_goes, writes}
use Rattle.mon_event.proofs.event.Event.begin.Goals as goal

pub returns-clause-goes : goal.returns-clause-goes
returns-clause-goes c =
    λ cs fit is.
    then_goes c.args.self.now c.stand.new.self c.write.new.self (stands c.args.next.now) (changed cs) c.stand.ensures.goes
    (writes c.stand.new.self c.write.new.self c.args.tx cs fit is c.in_ok-write.ensures)

pub returns-clause-written : goal.returns-clause-written
returns-clause-written c =
    ap (λ (e : Event). e.tx) c.in_ok-write.ensures ∙ ap (λ (tx : List Op). tx ++ c.args.tx) c.stand.ensures.written

use Rattle.std.proofs.Common.{◌-◌, ◌++◌, [], ◌∷◌, List, ap, sym, ◌∙◌, append_assoc, append-nil}
use Rattle.schedule_text.specs.declared.event.Event.{Event}
use Rattle.schedule_made.specs.Made.{deliver, deliveries}
use Rattle.schedule_made.proofs.Steps.{deliveries_none, deliveries_more}
use Rattle.schedule_made.proofs.events.put_deliveries.Goals as goal

pub loop-message-init : goal.loop-message-init
loop-message-init c =
    let old = c.args.events.now.items in
    sym (ap (λ (l : List Event). old ++ l) (deliveries_none c.args.first c.args.at) ∙ append-nil old)

pub loop-message-preserved : goal.loop-message-preserved
loop-message-preserved c =
    let old = c.args.events.now.items in
    let m = c.loop-message.message in
    let so_far = deliveries c.args.first (m - c.args.first) c.args.at in
    c.in_ok-push.ensures.items
    ∙ (λ i. c.loop-message.invariant i ++ c.deliver.ensures i ∷ [])
    ∙ append_assoc old so_far (deliver m c.args.at ∷ [])
    ∙ ap (λ (l : List Event). old ++ l) (sym (deliveries_more c.args.first m c.args.at c.loop-message.auto.message))

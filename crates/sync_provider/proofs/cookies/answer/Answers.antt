use Rattle.std.proofs.Common.{◌≡◌, ℕ, [], ◌∷◌, Ok, refl, ap, ◌∙◌}
use Rattle.mon_msg.specs.Protocol.Course.{Course, provider_is}
use Rattle.mon_msg.specs.Protocol.Readings.{readings_of, epoch_of}
use Rattle.mon_msg.specs.Protocol.Sending.{message_to, send}
use Rattle.mon_msg.specs.declared.plan.Sent.{Sent}
use Rattle.mon_tx.specs.Map.{Store}
use Rattle.mon_plan.proofs.Planning.{does_as}
use Rattle.sync_provider.specs.Rows.{Holds}
use Rattle.sync_provider.proofs.RowLaws.{answers, plan_of, says}
use Rattle.sync_provider.proofs.cookies.answer.Goals as goal

pub returns-clause-plans : goal.returns-clause-plans
returns-clause-plans c =
    λ now.
    let here = c.args.here.now in
    let me = here.me.now in
    let s = here.state.now in
    let w = readings_of here.kv.now in
    let epoch : c.epoch.result ≡ epoch_of w = c.epoch.ensures ∙ ap (λ (m : Store). epoch_of (readings_of m)) c.of-stored.ensures in
    let sent = c.message.ensures ∙ ap (λ (k : ℕ). message_to me k c.args.body c.args.to) epoch in
    let out = c.in_ok-out.ensures ∙ ap (λ (m : Sent). m ∷ []) sent in
    does_as me now provider_is (Holds w s) (λ x. x) (λ (x : Course). Ok (send me c.args.to c.args.body x))
    [] tt (says (message_to me (epoch_of w) c.args.body c.args.to) s) refl
    (λ x b. answers w s x b me c.args.to c.args.body)
    c.sending.result (c.sending.ensures ∙ (λ i. plan_of (out i) s))

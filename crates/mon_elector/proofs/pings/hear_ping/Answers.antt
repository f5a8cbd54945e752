use Rattle.std.proofs.Common.{◌≡◌, [], ◌∷◌, Option, None, Some, refl, ap, ◌∙◌}
use Rattle.election_rules.specs.declared.scores.Scores.{Scores}
use Rattle.mon_msg.specs.Protocol.Pings.{hear_ping, with_heard}
use Rattle.mon_msg.specs.Protocol.Sending.{message_to}
use Rattle.mon_msg.specs.declared.election.Elector.{Elector}
use Rattle.mon_msg.specs.declared.plan.Next.TheVariants as next
use Rattle.mon_msg.specs.declared.plan.Sent.{Sent}
use Rattle.mon_wire.specs.declared.body.Body.TheVariants as body
use Rattle.mon_elector.specs.Rows.{sent_table}
use Rattle.mon_elector.proofs.Known.{epoch_in, plan_of, plans, stays}
use Rattle.mon_elector.proofs.PingLaws as laws
use Rattle.mon_elector.proofs.pings.hear_ping.Goals as goal

none_is : (t : Option Scores) → ((x : Scores) → t ≡ Some x → ⊥) → t ≡ None
none_is None no_some = refl
none_is (Some x) no_some = absurd (no_some x refl)

pub returns-in_default-clause-plans : goal.returns-in_default-clause-plans
returns-in_default-clause-plans c =
    let here = c.args.here.now in
    stays here (hear_ping here.me.now c.args.from c.args.table.now) c.stay.result c.stay.ensures
    (λ x b. ap (λ (t : Option Scores). hear_ping here.me.now c.args.from t x) (none_is c.args.table.now c.in_default.not-Some) ∙ laws.ping-untold here.me.now c.args.from x)

pub returns-clause-plans : goal.returns-clause-plans
returns-clause-plans c =
    let here = c.args.here.now in
    let me = here.me.now in
    let s = here.state.now in
    let f = c.args.from in
    let table = c.in-Some.table in
    let heard : c.with_heard-heard.result ≡ with_heard f table s = c.with_heard-heard.ensures ∙ ap (λ (t : Scores). with_heard f t s) c.scores.ensures in
    let told : c.in_ok-table.table ≡ sent_table me.rule (with_heard f table s).scores = c.in_ok-table.ensures ∙ ap (λ (t : Elector). sent_table me.rule t.scores) heard in
    let sent = c.message-sent.ensures ∙ (λ i. message_to me (c.epoch.ensures i) (body.PingReply (told i)) f) in
    let out = c.in_ok-out.ensures ∙ ap (λ (m : Sent). m ∷ []) sent in
    plans here (hear_ping me f c.args.table.now) c.sending.result
    [] tt (message_to me (epoch_in here) (body.PingReply (sent_table me.rule (with_heard f table s).scores)) f ∷ []) [] (with_heard f table s) next.Stay
    (c.sending.ensures ∙ (λ i. plan_of [] (out i) [] (heard i) next.Stay))
    (λ x b. ap (λ (t : Option Scores). hear_ping me f t x) c.in-Some.is ∙ laws.ping-answered here x b f table)

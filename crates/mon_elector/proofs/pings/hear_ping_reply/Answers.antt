use Rattle.std.proofs.Common.{◌≡◌, [], Option, ap, ◌∙◌}
use Rattle.election_rules.specs.declared.scores.Scores.{Scores}
use Rattle.mon_msg.specs.Protocol.Pings.{hear_ping_reply, with_heard}
use Rattle.mon_msg.specs.declared.plan.Next.TheVariants as next
use Rattle.mon_elector.proofs.Known.{plan_of, stays, plans}
use Rattle.mon_elector.proofs.PingLaws as laws
use Rattle.mon_elector.proofs.pings.hear_ping_reply.Goals as goal

pub returns-in-None-clause-plans : goal.returns-in-None-clause-plans
returns-in-None-clause-plans c =
    let here = c.args.here.now in
    stays here (hear_ping_reply c.args.from c.args.table.now) c.stay.result c.stay.ensures
    (λ x b. ap (λ (t : Option Scores). hear_ping_reply c.args.from t x) c.in-None.is ∙ laws.ping_reply-untold c.args.from x)

pub returns-in-Some-clause-plans : goal.returns-in-Some-clause-plans
returns-in-Some-clause-plans c =
    let here = c.args.here.now in
    let s = here.state.now in
    let f = c.args.from in
    let table = c.in-Some.table in
    let heard : c.with_heard.result ≡ with_heard f table s = c.with_heard.ensures ∙ ap (λ (t : Scores). with_heard f t s) c.scores.ensures in
    plans here (hear_ping_reply f c.args.table.now) c.stay-in-Some.result
    [] tt [] [] (with_heard f table s) next.Stay
    (c.stay-in-Some.ensures ∙ (λ i. plan_of [] [] [] (heard i) next.Stay))
    (λ x b. ap (λ (t : Option Scores). hear_ping_reply f t x) c.in-Some.is ∙ laws.ping_reply-noted here x b f table)

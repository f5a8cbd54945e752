use Rattle.std.proofs.Common.{◌≡◌, ◌+◌, ◌^◌, [], ◌∷◌, map, min, ap, ◌∙◌}
use Rattle.mon_msg.specs.Protocol.Pings.{ping, measure}
use Rattle.mon_msg.specs.Protocol.Sending.{message_to, others}
use Rattle.mon_msg.specs.declared.election.Elector.{Elector}
use Rattle.mon_msg.specs.declared.plan.Arming.TheVariants as arming
use Rattle.mon_msg.specs.declared.plan.Next.TheVariants as next
use Rattle.mon_wire.specs.declared.body.Body.TheVariants as body
use Rattle.mon_wire.specs.declared.phase.Timer.TheVariants as timer
use Rattle.mon_elector.specs.Rows.{sent_table}
use Rattle.mon_elector.proofs.Known.{epoch_in, plans}
use Rattle.mon_elector.proofs.PingLaws as laws
use Rattle.mon_elector.proofs.pings.ping.Goals as goal

pub returns-clause-plans : goal.returns-clause-plans
returns-clause-plans c =
    let here = c.args.here.now in
    let me = here.me.now in
    let s = here.state.now in
    let state : c.in_ok-elector.elector ≡ measure me here.time s = c.in_ok-elector.ensures in
    let told : c.in_ok-table.table ≡ sent_table me.rule (measure me here.time s).scores = c.in_ok-table.ensures ∙ ap (λ (t : Elector). sent_table me.rule t.scores) state in
    let out : c.in_ok-out.out ≡ laws.asks me here.time (epoch_in here) s = c.in_ok-out.ensures ∙ (λ i. map (message_to me (c.epoch.ensures i) (body.Ping (told i))) (others me)) in
    plans here (ping me here.time) c.in_ok-plan_until.field-0
    [] tt (laws.asks me here.time (epoch_in here) s) (arming.Arm timer.Ping (min (here.time + 2000) (2 ^ 62)) ∷ []) (measure me here.time s) next.Stay
    (c.in_ok-plan_until.ensures ∙ (λ i. record { tx = c.new-tx.ensures i; out = out i; timers = c.armed-arming.ensures i ∷ []; state = state i; next = next.Stay }))
    (λ x b. laws.ping-due here x b)

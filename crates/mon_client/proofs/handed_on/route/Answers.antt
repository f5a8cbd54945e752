use Rattle.std.proofs.Common.{not, ◌==◌, filter, map, List, [], Ok, ap, sym, ◌∙◌}
use Rattle.mon_msg.specs.Protocol.Commands.{hear_route}
use Rattle.mon_msg.specs.Protocol.Course.{Course, clients_are}
use Rattle.mon_msg.specs.Protocol.Readings.{readings_of}
use Rattle.mon_msg.specs.declared.clients.Asked.{Asked}
use Rattle.mon_msg.specs.declared.plan.Next.TheVariants as next
use Rattle.mon_msg.specs.declared.plan.Sent.TheVariants as sent
use Rattle.mon_plan.proofs.Planning.{sending-is}
use Rattle.mon_client.proofs.Planned.{plans, keeps}
use Rattle.mon_client.proofs.CommandLaws.{Met, same}
use Rattle.mon_client.proofs.HandedOnLaws.{route-of_others, route-replies}
use Rattle.mon_client.proofs.handed_on.route.Goals as goal

pub returns-then-not-is_of_leader-clause-plans : goal.returns-then-not-is_of_leader-clause-plans
returns-then-not-is_of_leader-clause-plans c =
    let here = c.args.here.now in
    let me = here.me.now in
    let now = here.time in
    let w = readings_of here.kv.now in
    let v = here.view.now in
    let s = c.args.clients in
    keeps me now (Met me now w v s) (hear_route c.args.from c.args.epoch c.args.seq c.args.reply.now) s
    (λ x b.
    route-of_others me now w v s x b c.args.from c.args.epoch c.args.seq c.args.reply.now (sym c.is_of_leader.ensures ∙ c.if-not-is_of_leader.true)
    ∙ ap (λ (y : Course). Ok y) (same me now w v s x b))
    c.stay.result c.stay.ensures

pub returns-clause-plans : goal.returns-clause-plans
returns-clause-plans c =
    let here = c.args.here.now in
    let me = here.me.now in
    let now = here.time in
    let w = readings_of here.kv.now in
    let v = here.view.now in
    let s = c.args.clients in
    let after = record s { sessions = c.in_ok-kept.kept } in
    let kept = c.in_ok-kept.ensures ∙ ap (λ (l : List Asked). filter (λ a. not (a.seq == c.args.seq)) l) c.as_slice-sessions.ensures in
    let told = c.in_ok-out.ensures ∙ ap (λ (l : List Asked). map (λ a. sent.Reply a.session c.args.reply.now) (filter (λ a. a.seq == c.args.seq) l)) c.as_slice-sessions.ensures in
    plans me now (Met me now w v s) (hear_route c.args.from c.args.epoch c.args.seq c.args.reply.now) c.in_ok-out.out [] after next.Stay
    (λ x b.
    route-replies me now w v s x b c.args.from c.args.epoch c.args.seq c.args.reply.now (sym c.is_of_leader.ensures ∙ c.if-not-is_of_leader.false)
    after (λ i. record s { sessions = kept i }) c.in_ok-out.out told
    ∙ ap (λ (y : Course). Ok y) (sym (sending-is c.in_ok-out.out (clients_are after x))))
    c.sending.result c.sending.ensures

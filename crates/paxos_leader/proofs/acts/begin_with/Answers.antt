use Rattle.std.proofs.Common.{ℕ, List, [], ◌∷◌, Ok, map, refl, ap, ◌∙◌}
use Rattle.mon_msg.specs.Protocol.Changes.{Vote}
use Rattle.mon_msg.specs.Protocol.Leading.{begin_with}
use Rattle.mon_msg.specs.Protocol.Sending.{members, message_to}
use Rattle.mon_msg.specs.declared.plan.Next.TheVariants as next
use Rattle.mon_wire.specs.declared.body.Body.TheVariants as body
use Rattle.paxos_leader.specs.Drafts.{IsHere, value_timers}
use Rattle.paxos_leader.specs.declared.draft.Draft.{Draft}
use Rattle.paxos_leader.proofs.Acting.{begun-here, awaiting_votes}
use Rattle.paxos_leader.proofs.Going.{goes}
use Rattle.paxos_leader.proofs.acts.begin_with.Goals as goal

pub returns-clause-goes : goal.returns-clause-goes
returns-clause-goes c =
    λ last.
    let me = c.args.act.now.me.now in
    let d = c.args.draft in
    let asked : Draft = c.in_ok-asked.asked in
    let is = c.in_ok-asked.ensures.draft in
    let ks : List ℕ = members me d.state.quorum in
    goes me c.args.act.now.time (IsHere c.args.act.now.epoch last) d (λ y. Ok (begin_with me c.args.act.now.time c.args.stage c.args.version c.args.value c.args.origin y))
    (Vote c.args.version d.state.pn c.args.value ∷ []) (c.in_ok-asked.ensures.fit, tt)
    (map (message_to me c.args.act.now.epoch (body.Begin d.state.pn c.args.version c.args.value)) ks) (value_timers c.args.act.now.time) (awaiting_votes me c.args.stage c.args.value c.args.origin d.state)
    (λ y b e. ap Ok (begun-here me c.args.act.now.time c.args.act.now.epoch last d.state y b e c.args.stage c.args.version c.args.value c.args.origin))
    (record { tx = asked.tx; out = asked.out; timers = c.in_ok-timers.timers; state = c.awaiting_votes.result; next = next.Stay })
    (ap (λ (a : Draft). a.tx) is) (ap (λ (a : Draft). a.out) is) c.in_ok-timers.ensures
    (c.awaiting_votes.ensures ∙ ap (λ (a : Draft). awaiting_votes me c.args.stage c.args.value c.args.origin a.state) is) refl

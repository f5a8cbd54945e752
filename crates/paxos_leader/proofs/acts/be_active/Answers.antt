use Rattle.std.proofs.Common.{ℕ, List, [], Ok, map, refl, sym, ap, ◌∙◌, append-nil}
use Rattle.mon_msg.specs.Protocol.Leading.{be_active}
use Rattle.mon_msg.specs.Protocol.Sending.{members, message_to}
use Rattle.mon_msg.specs.Protocol.Sets.{is_empty}
use Rattle.mon_msg.specs.declared.plan.Next.TheVariants as next
use Rattle.mon_wire.specs.declared.body.Body.TheVariants as body
use Rattle.paxos_leader.specs.Drafts.{IsHere, lease_timers}
use Rattle.paxos_leader.proofs.Acting.{active-here, leasing}
use Rattle.paxos_leader.proofs.Going.{goes}
use Rattle.paxos_leader.proofs.acts.be_active.Goals as goal

pub returns-clause-goes : goal.returns-clause-goes
returns-clause-goes c =
    let me = c.args.act.now.me.now in
    let d = c.args.draft in
    let ks : List ℕ = members me d.state.quorum in
    goes me c.args.act.now.time (IsHere c.args.act.now.epoch c.args.last) d (λ y. Ok (be_active me c.args.act.now.time y)) [] tt
    (map (message_to me c.args.act.now.epoch (body.Lease c.args.last)) ks) (lease_timers (is_empty ks) c.args.act.now.time) (leasing me c.args.act.now.time d.state)
    (λ y b e. ap Ok (active-here me c.args.act.now.time c.args.act.now.epoch c.args.last d.state y b e))
    (record { tx = d.tx; out = c.in_ok-out.out; timers = c.in_ok-timers.timers; state = c.leasing-state.result; next = next.Stay })
    (sym (append-nil d.tx))
    c.in_ok-out.ensures
    (c.in_ok-timers.ensures ∙ ap (λ alone. lease_timers alone c.args.act.now.time) c.is_alone.ensures)
    c.leasing-state.ensures refl

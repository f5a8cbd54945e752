use Rattle.std.proofs.Common.{ℕ, ◌++◌, List, [], ◌∷◌, None, refl, ap, sym, ◌∙◌}
use Rattle.mon_msg.specs.Protocol.Changes.{Vote, ops_of}
use Rattle.mon_msg.specs.Protocol.Course.{peon_is}
use Rattle.mon_msg.specs.Protocol.Peon.{hear_begin}
use Rattle.mon_msg.specs.Protocol.Readings.{readings_of, epoch_of}
use Rattle.mon_msg.specs.Protocol.Sending.{message_to}
use Rattle.mon_msg.specs.declared.plan.Next.TheVariants as next
use Rattle.mon_msg.specs.declared.plan.Sent.{Sent}
use Rattle.mon_tx.specs.declared.op.Op.{Op}
use Rattle.mon_wire.specs.declared.body.Body.TheVariants as body
use Rattle.mon_plan.proofs.Kept.{kept-peon}
use Rattle.mon_plan.proofs.Planning.{does, only_acts}
use Rattle.paxos_peon.specs.Rows.{IsOurs}
use Rattle.paxos_peon.proofs.ValueLaws.{begin-dropped, begin-accepts}
use Rattle.paxos_peon.proofs.values.begin.Goals as goal

pub returns-then-not-is_accepted-clause-plans : goal.returns-then-not-is_accepted-clause-plans
returns-then-not-is_accepted-clause-plans c =
    λ e.
    let here = c.args.here.now in
    let me = here.me.now in
    let s = here.state.now in
    let w = readings_of here.stored.now in
    only_acts me here.time peon_is (IsOurs w s s.leader e) (λ x. x) (hear_begin me s.leader e c.args.pn c.args.version c.args.value.now)
    [] tt s (λ x b. kept-peon s x b.role) next.Stay (λ x. refl)
    (λ x b. begin-dropped w s s.leader e x b me c.args.pn c.args.version c.args.value.now (sym c.is_accepted.ensures ∙ c.if-not-is_accepted.true))
    c.stay.result c.stay.ensures

pub returns-clause-plans : goal.returns-clause-plans
returns-clause-plans c =
    λ e.
    let here = c.args.here.now in
    let me = here.me.now in
    let s = here.state.now in
    let w = readings_of here.stored.now in
    let vote = Vote c.args.version c.args.pn c.args.value.now in
    does me here.time peon_is (IsOurs w s s.leader e) (λ x. x) (hear_begin me s.leader e c.args.pn c.args.version c.args.value.now)
    (vote ∷ []) (c.put_vote.ensures.fit, tt) (message_to me (epoch_of w) (body.Accept c.args.pn c.args.version) s.leader ∷ []) [] (record s { lease = None }) next.Stay
    (λ x b.
    begin-accepts w s s.leader e x b me c.args.pn c.args.version c.args.value.now (sym c.is_accepted.ensures ∙ c.if-not-is_accepted.false))
    (record { tx = c.put_vote.new.tx; out = c.in_ok-out.out; timers = c.new.result; state = c.without_lease.result; next = next.Stay })
    (c.in_ok-put_vote.ensures.changes ∙ ap (λ (t : List Op). t ++ ops_of vote) c.new-tx.ensures)
    (c.in_ok-out.ensures
    ∙ ap (λ (m : Sent). m ∷ []) (c.message-sent.ensures ∙ ap (λ (k : ℕ). message_to me k (body.Accept c.args.pn c.args.version) s.leader) c.epoch.ensures))
    c.new.ensures c.without_lease.ensures refl

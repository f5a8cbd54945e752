use Rattle.std.proofs.Common.{◌≡◌, false, not, ◌&&◌, [], ◌∷◌, length, ap, sym, ◌∙◌, arith}
use Rattle.std.proofs.lemmas.Bool.{le-leb, lt-leb}
use Rattle.mon_msg.specs.Protocol.Commands.{too_long, at_leader}
use Rattle.mon_msg.specs.Protocol.Course.{clients_are}
use Rattle.mon_msg.specs.Protocol.Proposing.{propose}
use Rattle.mon_msg.specs.Protocol.Readings.{readings_of, epoch_of}
use Rattle.mon_msg.specs.Protocol.Sending.{answer_to}
use Rattle.mon_msg.specs.Protocol.Sets.{is_empty}
use Rattle.mon_msg.specs.declared.plan.Next.TheVariants as next
use Rattle.mon_wire.specs.declared.reply.Reply.TheVariants as reply
use Rattle.mon_plan.proofs.Planning.{instead}
use Rattle.mon_client.specs.Rows.{IsUnderWay}
use Rattle.mon_client.proofs.Planned.{plan_of, answers, keeps}
use Rattle.mon_client.proofs.CommandLaws.{seems_free, goes_first, goes_later, leader-long, leader-first, leader-full, leader-waits}
use Rattle.mon_client.proofs.commands.at_leader.Goals as goal
use Rattle.mon_client.proofs.commands.at_leader.Goals.{else-may_propose-via-then-may_propose+else-is_empty, else-may_propose-via-else-may_propose}

pub returns-then-is_too_long-clause-plans : goal.returns-then-is_too_long-clause-plans
returns-then-is_too_long-clause-plans c =
    let here = c.args.here.now in
    let me = here.me.now in
    let w = readings_of here.kv.now in
    let o = c.args.origin in
    answers me here.time (IsUnderWay me here.time w here.view.now) (λ x. at_leader me here.time c.args.command o (clients_are c.args.clients x))
    (answer_to me (epoch_of w) o (too_long c.args.command)) c.args.clients
    (λ x b. leader-long me here.time w here.view.now x b c.args.command o c.args.clients (sym c.is_too_long.ensures ∙ c.if-is_too_long.true))
    c.in_ok-answered.field-0
    (c.in_ok-answered.ensures
    ∙ (λ i. plan_of ((c.answer-sent.ensures ∙ ap (answer_to me (epoch_of w) o) c.too_long.ensures) i ∷ []) [] c.args.clients next.Stay))

pub returns-then-is_empty-clause-plans : goal.returns-then-is_empty-clause-plans
returns-then-is_empty-clause-plans c =
    let here = c.args.here.now in
    let me = here.me.now in
    let w = readings_of here.kv.now in
    let o = c.args.origin in
    instead me here.time clients_are (IsUnderWay me here.time w here.view.now) (λ x. x)
    (λ x. propose me here.time c.args.command o (clients_are c.args.clients x)) (λ x. at_leader me here.time c.args.command o (clients_are c.args.clients x)) c.propose-plan.result
    (λ x b.
    leader-first me here.time w here.view.now x b c.args.command o c.args.clients (sym c.is_too_long.ensures ∙ c.if-is_too_long.false) (goes_first (seems_free here.view.now) c.args.clients.queue (sym c.may_propose.ensures ∙ c.if-may_propose.true) (sym c.is_empty.ensures ∙ c.if-is_empty.true)))
    c.propose-plan.ensures.plans

pub returns-then-len-ge-MOST_WAITING-clause-plans : goal.returns-then-len-ge-MOST_WAITING-clause-plans
returns-then-len-ge-MOST_WAITING-clause-plans c =
    let here = c.args.here.now in
    let me = here.me.now in
    let w = readings_of here.kv.now in
    let o = c.args.origin in
    let later : (seems_free here.view.now && not (not (is_empty c.args.clients.queue))) ≡ false =
    elim c.else-may_propose.branch [
      | else-may_propose-via-then-may_propose+else-is_empty r ↦ goes_later (seems_free here.view.now) c.args.clients.queue (sym r.is_empty.ensures ∙ r.if-is_empty.false)
      | else-may_propose-via-else-may_propose r ↦ ap (λ free. free && not (not (is_empty c.args.clients.queue))) (sym c.may_propose.ensures ∙ r.if-may_propose.false)
    ] in
    answers me here.time (IsUnderWay me here.time w here.view.now) (λ x. at_leader me here.time c.args.command o (clients_are c.args.clients x))
    (answer_to me (epoch_of w) o (reply.Busy 64)) c.args.clients
    (λ x b.
    leader-full me here.time w here.view.now x b c.args.command o c.args.clients (sym c.is_too_long.ensures ∙ c.if-is_too_long.false) later
    (le-leb 64 (length c.args.clients.queue) (omega (arith, c.len.ensures, c.if-len-ge-MOST_WAITING.true))))
    c.in_ok-answered-2.field-0
    (c.in_ok-answered-2.ensures
    ∙ (λ i. plan_of ((c.answer-sent-then-len-ge-MOST_WAITING.ensures ∙ ap (answer_to me (epoch_of w) o) c.busy.ensures) i ∷ []) [] c.args.clients next.Stay))

pub returns-clause-plans : goal.returns-clause-plans
returns-clause-plans c =
    let here = c.args.here.now in
    let me = here.me.now in
    let w = readings_of here.kv.now in
    let o = c.args.origin in
    let later : (seems_free here.view.now && not (not (is_empty c.args.clients.queue))) ≡ false =
    elim c.else-may_propose.branch [
      | else-may_propose-via-then-may_propose+else-is_empty r ↦ goes_later (seems_free here.view.now) c.args.clients.queue (sym r.is_empty.ensures ∙ r.if-is_empty.false)
      | else-may_propose-via-else-may_propose r ↦ ap (λ free. free && not (not (is_empty c.args.clients.queue))) (sym c.may_propose.ensures ∙ r.if-may_propose.false)
    ] in
    let after = record c.args.clients { queue = c.push.new.self } in
    keeps me here.time (IsUnderWay me here.time w here.view.now) (λ x. at_leader me here.time c.args.command o (clients_are c.args.clients x))
    after
    (λ x b.
    leader-waits me here.time w here.view.now x b c.args.command o c.args.clients (sym c.is_too_long.ensures ∙ c.if-is_too_long.false) later
    (lt-leb 64 (length c.args.clients.queue) (omega (arith, c.len.ensures, c.if-len-ge-MOST_WAITING.false))) after (λ i. record c.args.clients { queue = c.in_ok-push.ensures.ok i }))
    c.stay.result c.stay.ensures

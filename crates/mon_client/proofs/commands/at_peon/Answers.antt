use Rattle.std.proofs.Common.{◌≡◌, ◌+◌, suc, [], ◌∷◌, length, sym, ◌∙◌, arith}
use Rattle.std.proofs.lemmas.Bool.{le-leb, lt-leb}
use Rattle.mon_msg.specs.Protocol.Commands.{too_long, at_peon}
use Rattle.mon_msg.specs.Protocol.Course.{clients_are}
use Rattle.mon_msg.specs.Protocol.Readings.{readings_of, epoch_of}
use Rattle.mon_msg.specs.Protocol.Sending.{message_to}
use Rattle.mon_msg.specs.declared.plan.Next.TheVariants as next
use Rattle.mon_msg.specs.declared.plan.Sent.TheVariants as sent
use Rattle.mon_wire.specs.declared.body.Body.TheVariants as body
use Rattle.mon_wire.specs.declared.reply.Reply.TheVariants as reply
use Rattle.mon_client.specs.Rows.{IsUnderWay}
use Rattle.mon_client.proofs.Planned.{plan_of, answers}
use Rattle.mon_client.proofs.CommandLaws.{peon-long, peon-full, peon-hands_on, spent, hands_on}
use Rattle.mon_client.proofs.commands.at_peon.Goals as goal

pub returns-then-is_too_long-clause-plans : goal.returns-then-is_too_long-clause-plans
returns-then-is_too_long-clause-plans c =
    let here = c.args.here.now in
    let me = here.me.now in
    let w = readings_of here.kv.now in
    let s = c.args.clients in
    answers me here.time (IsUnderWay me here.time w here.view.now) (λ x. at_peon me c.args.command c.args.session (clients_are s x))
    (sent.Reply c.args.session (too_long c.args.command)) s
    (λ x b. peon-long me here.time w here.view.now x b c.args.command c.args.session s (sym c.is_too_long.ensures ∙ c.if-is_too_long.true))
    c.in_ok-answered.field-0
    (c.in_ok-answered.ensures ∙ (λ i. plan_of (sent.Reply c.args.session (c.too_long-reply.ensures i) ∷ []) [] s next.Stay))

pub returns-then-len-ge-MOST_WAITING-clause-plans : goal.returns-then-len-ge-MOST_WAITING-clause-plans
returns-then-len-ge-MOST_WAITING-clause-plans c =
    let here = c.args.here.now in
    let me = here.me.now in
    let w = readings_of here.kv.now in
    let s = c.args.clients in
    let full = le-leb 64 (length s.sessions) (omega (arith, c.len.ensures, c.if-len-ge-MOST_WAITING.true)) in
    answers me here.time (IsUnderWay me here.time w here.view.now) (λ x. at_peon me c.args.command c.args.session (clients_are s x))
    (sent.Reply c.args.session (reply.Busy 64)) s
    (λ x b. peon-full me here.time w here.view.now x b c.args.command c.args.session s (sym c.is_too_long.ensures ∙ c.if-is_too_long.false) full)
    c.in_ok-answered-2.field-0
    (c.in_ok-answered-2.ensures ∙ (λ i. plan_of (sent.Reply c.args.session (c.busy-reply.ensures i) ∷ []) [] s next.Stay))

pub returns-then-seq-gt-GREATEST-clause-plans : goal.returns-then-seq-gt-GREATEST-clause-plans
returns-then-seq-gt-GREATEST-clause-plans c =
    let here = c.args.here.now in
    let me = here.me.now in
    let w = readings_of here.kv.now in
    let s = c.args.clients in
    let free = lt-leb 64 (length s.sessions) (omega (arith, c.len.ensures, c.if-len-ge-MOST_WAITING.false)) in
    λ x b.
    peon-hands_on me here.time w here.view.now x b c.args.command c.args.session s (sym c.is_too_long.ensures ∙ c.if-is_too_long.false) free
    ∙ spent me here.time w here.view.now x b c.args.command c.args.session s c.if-seq-gt-GREATEST.true

pub returns-clause-plans : goal.returns-clause-plans
returns-clause-plans c =
    let here = c.args.here.now in
    let me = here.me.now in
    let w = readings_of here.kv.now in
    let s = c.args.clients in
    let free = lt-leb 64 (length s.sessions) (omega (arith, c.len.ensures, c.if-len-ge-MOST_WAITING.false)) in
    let up : s.next_seq + 1 ≡ suc s.next_seq = omega arith in
    let after = record s { sessions = c.push.new.self; next_seq = s.next_seq + 1 } in
    let forward = message_to me (epoch_of w) (body.Forward s.next_seq c.args.command) here.view.now.leader in
    answers me here.time (IsUnderWay me here.time w here.view.now) (λ x. at_peon me c.args.command c.args.session (clients_are s x))
    forward after
    (λ x b.
    peon-hands_on me here.time w here.view.now x b c.args.command c.args.session s (sym c.is_too_long.ensures ∙ c.if-is_too_long.false) free
    ∙ hands_on me here.time w here.view.now x b c.args.command c.args.session s c.requires c.if-seq-gt-GREATEST.false after
    (λ i. record s { sessions = c.in_ok-push.ensures.ok i; next_seq = up i }))
    c.in_ok-answered-3.field-0
    (c.in_ok-answered-3.ensures
    ∙ (λ i. plan_of ((c.message-sent.ensures ∙ (λ j. message_to me (c.epoch.ensures j) (body.Forward s.next_seq c.args.command) here.view.now.leader)) i ∷ []) [] after next.Stay))

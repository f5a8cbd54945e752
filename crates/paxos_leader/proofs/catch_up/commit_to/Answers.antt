use Rattle.std.proofs.Common.{◌≡◌, ℕ, suc, ◌++◌, [], ◌∷◌, get_or, sym, ap, ◌∙◌, arith}
use Rattle.std.proofs.lemmas.List.{get_or_read}
use Rattle.mon_msg.specs.Protocol.Readings.{Readings, readings_of}
use Rattle.mon_msg.specs.Protocol.Sending.{message_to}
use Rattle.mon_stored.proofs.Fitting.{missed-run}
use Rattle.mon_stored.specs.Runs.{run_within}
use Rattle.mon_wire.specs.declared.body.Body.TheVariants as body
use Rattle.paxos_leader.proofs.Settling.{commits-none, commits-some}
use Rattle.paxos_leader.proofs.catch_up.commit_to.Goals as goal

pub returns-then-is_empty : goal.returns-then-is_empty
returns-then-is_empty c =
    let w : Readings = readings_of c.args.stored.now in
    let told : ℕ = c.index-lasts-from.result in
    let at : c.from.result ≡ c.args.to = omega (arith, c.from.ensures, c.get.ensures.value) in
    let read : told ≡ get_or c.args.lasts.now c.args.to 0 = get_or_read c.args.lasts.now c.from.result told (omega (arith, at, c.get.ensures.most)) c.index-lasts-from.is 0 ∙ ap (λ i. get_or c.args.lasts.now i 0) at in
    let next : c.get-5.result ≡ suc told = omega (arith, c.get-5.ensures.value, c.known-next.ensures, c.get-4.ensures.value) in
    commits-none c.args.act.now.me.now c.args.act.now.epoch w c.args.lasts.now c.args.to told c.in_ok-values.field-0.values read
    (omega (arith, c.if-get.false, c.get-2.ensures.value, c.get-3.ensures.value, c.last.ensures.value))
    (c.in_ok-values.ensures.values ∙ ap (λ v. run_within w.record_of w.last v 22 22) next ∙ sym (missed-run c.args.act.now.me.now.member.monitors w.record_of w.last told))
    c.args.out.now (sym c.is_empty.ensures ∙ c.if-is_empty.true)

pub returns : goal.returns
returns c =
    let w : Readings = readings_of c.args.stored.now in
    let told : ℕ = c.index-lasts-from.result in
    let at : c.from.result ≡ c.args.to = omega (arith, c.from.ensures, c.get.ensures.value) in
    let read : told ≡ get_or c.args.lasts.now c.args.to 0 = get_or_read c.args.lasts.now c.from.result told (omega (arith, at, c.get.ensures.most)) c.index-lasts-from.is 0 ∙ ap (λ i. get_or c.args.lasts.now i 0) at in
    let next : c.get-5.result ≡ suc told = omega (arith, c.get-5.ensures.value, c.known-next.ensures, c.get-4.ensures.value) in
    let first : c.known-next.result ≡ suc told = omega (arith, c.known-next.ensures, c.get-4.ensures.value) in
    c.in_ok-push.ensures.ok
    ∙ ap (λ m. c.args.out.now ++ m ∷ []) (c.message.ensures ∙ ap (λ v. message_to c.args.act.now.me.now c.args.act.now.epoch (body.Commit v c.in_ok-values.field-0.values) c.args.to) first)
    ∙ ap (λ l. c.args.out.now ++ l)
    (commits-some c.args.act.now.me.now c.args.act.now.epoch w c.args.lasts.now c.args.to told c.in_ok-values.field-0.values read
    (omega (arith, c.if-get.false, c.get-2.ensures.value, c.get-3.ensures.value, c.last.ensures.value))
    (c.in_ok-values.ensures.values ∙ ap (λ v. run_within w.record_of w.last v 22 22) next ∙ sym (missed-run c.args.act.now.me.now.member.monitors w.record_of w.last told))
    (sym c.is_empty.ensures ∙ c.if-is_empty.false))

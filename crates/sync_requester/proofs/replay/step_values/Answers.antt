use Rattle.std.proofs.Common.{◌≡◌, ◌+◌, ◌-◌, ◌++◌, ℕ, suc, min, length, List, [], ◌∷◌, Option, IfOk, sym, ap, subst, ◌∙◌, arith}
use Rattle.mon_msg.specs.Protocol.Readings.{readings_of}
use Rattle.mon_msg.specs.Protocol.Replay.{more_of, step_of}
use Rattle.mon_tx.specs.Text.{text}
use Rattle.mon_tx.specs.declared.op.Op.{Op}
use Rattle.sync_requester.proofs.ReplayLaws.{onto, record-short, step-first, step-lost, step-past}
use Rattle.sync_requester.proofs.replay.step_values.Goals as goal

pub returns-then-from-past : goal.returns-then-from-past
returns-then-from-past c =
    let records = (readings_of c.args.stored.now).record_of in
    rw c.new-values.ensures (step-past records c.args.end c.args.next (omega (arith, c.if-from-past.true, c.get-from.ensures.value, c.get-past.ensures.value)))

pub returns-in_default : goal.returns-in_default
returns-in_default c =
    let records = (readings_of c.args.stored.now).record_of in
    step-lost records c.args.end c.get-from.result (omega (arith, c.if-from-past.false, c.get-past.ensures.value)) (sym c.in_ok-value.ensures ∙ c.in_default.is)
    ∙ ap (λ (n : ℕ). step_of records (suc c.args.end - n) n) c.get-from.ensures.value

pub returns : goal.returns
returns c =
    let records = (readings_of c.args.stored.now).record_of in
    let there = sym c.in_ok-value.ensures ∙ c.in-Some.is in
    let short = record-short records c.get-from.result c.in-Some.value there in
    let pushed : c.push.new.self ≡ c.in-Some.value ∷ [] = c.in_ok-push.ensures.ok ∙ ap (λ (l : List (List Op)). l ++ c.in-Some.value ∷ []) c.new-values.ensures in
    let room : c.saturating_sub-room.result ≡ 524288 - length (text c.in-Some.value) = omega (arith, c.saturating_sub-room.ensures, c.text_len.ensures, short) in
    let count : c.min-to.result - (c.get-from.result + 1) ≡ min (c.args.end - c.get-from.result) 63 = omega (arith, c.min-to.ensures, c.get-past.ensures.value, c.if-from-past.false) in
    let e =
    ap (λ (values : List (List Op)). onto values (more_of records (c.min-to.result - (c.get-from.result + 1)) c.saturating_sub-room.result (c.get-from.result + 1))) pushed
    ∙ step-first records c.args.end c.get-from.result (c.min-to.result - (c.get-from.result + 1)) c.saturating_sub-room.result c.in-Some.value (omega (arith, c.if-from-past.false, c.get-past.ensures.value)) there count room
    ∙ ap (λ (n : ℕ). step_of records (suc c.args.end - n) n) c.get-from.ensures.value in
    subst (λ (wanted : Option (List (List Op))). IfOk c.with_more.result (λ values. values ≡ wanted)) e c.with_more.ensures

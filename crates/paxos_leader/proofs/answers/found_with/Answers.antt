use Rattle.std.proofs.Common.{List, Some, Ok, refl, sym, subst, ◌∙◌, arith}
use Rattle.mon_tx.specs.declared.op.Op.{Op}
use Rattle.paxos_leader.specs.Rows.{NotesFound}
use Rattle.paxos_leader.proofs.Acting.{over}
use Rattle.paxos_leader.proofs.Answering.{notes-long, note-spent, notes-older, notes-newer}
use Rattle.paxos_leader.proofs.answers.found_with.Goals as goal

pub returns-then-text_len-clause-notes : goal.returns-then-text_len-clause-notes
returns-then-text_len-clause-notes c = notes-long c.args.found c.args.last c.args.told.now (omega (arith, c.if-text_len.true, c.text_len.ensures))

pub returns-in_default-clause-notes : goal.returns-in_default-clause-notes
returns-in_default-clause-notes c =
    λ f x. note-spent f c.args.last x c.args.told.now (omega (arith, c.if-text_len.false, c.text_len.ensures)) (over c.args.last c.in_default.ensures.valid.1)

pub returns-then-not-is_newer-clause-notes : goal.returns-then-not-is_newer-clause-notes
returns-then-not-is_newer-clause-notes c =
    notes-older c.args.found c.args.last c.args.told.now (omega (arith, c.if-text_len.false, c.text_len.ensures)) c.in-Some.version (omega (arith, c.in-Some.ensures.value)) (omega (arith, c.in-Some.ensures.value, c.in-Some.ensures.valid.0 refl))
    (sym c.is_newer.ensures ∙ c.if-not-is_newer.true)

pub returns-clause-notes : goal.returns-clause-notes
returns-clause-notes c =
    let v = c.in-Some.version in
    subst (λ (value : List Op). NotesFound c.args.found c.args.last (Some c.args.told.now) (Ok (Some (record { version = v; pn = c.args.told.now.pn; value = value })))) (sym c.in_ok-value.ensures)
    (notes-newer c.args.found c.args.last c.args.told.now (omega (arith, c.if-text_len.false, c.text_len.ensures)) v (omega (arith, c.in-Some.ensures.value)) (omega (arith, c.in-Some.ensures.value, c.in-Some.ensures.valid.0 refl))
    (sym c.is_newer.ensures ∙ c.if-not-is_newer.false))

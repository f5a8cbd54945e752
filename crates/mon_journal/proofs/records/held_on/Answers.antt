use Rattle.std.proofs.Common.{List, ℕ, Option, Ok, Err, subst, sym, ◌∙◌, arith}
use Rattle.std.specs.Prelude.{IfSome}
use Rattle.std.proofs.lemmas.Result.{err_from_is_err_and}
use Rattle.mon_journal.specs.Content.{records_at, Finds}
use Rattle.mon_journal.specs.Pieces.{left_at}
use Rattle.mon_journal.proofs.Looking.{cut_piece}
use Rattle.mon_journal.proofs.Finds.{closed_on, header_fault_on, records_fault_on, found_on}
use Rattle.mon_journal.proofs.records.held_on.Goals as goal

pub returns-then-is_closed-clause-held : goal.returns-then-is_closed-clause-held
returns-then-is_closed-clause-held g c =
    let s = (g.D.Disk.state c.args.disk.now).content.seen in
    let there = c.in_ok-reach.ensures in
    let head = cut_piece (g.D.Disk.state c.reach.new.disk) c.reach.new.self s 0 _ c.get-head.result.now there.on there.disk.seen there.from there.to c.get-head.ensures.bytes in
    closed_on s c.args.piece.now.end _ c.get-head.result.now c.requires.on.long (omega (arith, c.min-count.ensures, c.end.ensures)) head
    (sym c.is_closed.ensures ∙ c.if-is_closed.true)

pub returns-in_err-journal-clause-held : goal.returns-in_err-journal-clause-held
returns-in_err-journal-clause-held g c =
    let s = (g.D.Disk.state c.args.disk.now).content.seen in
    let there = c.in_ok-reach.ensures in
    let head = cut_piece (g.D.Disk.state c.reach.new.disk) c.reach.new.self s 0 _ c.get-head.result.now there.on there.disk.seen there.from there.to c.get-head.ensures.bytes in
    let p = err_from_is_err_and c.from_residual-in_err-journal.result c.from_residual-in_err-journal.ensures.1 in
    rw (p.1, p.2)
    (header_fault_on s c.args.piece.now.end _ c.get-head.result.now c.requires.on.long (omega (arith, c.min-count.ensures, c.end.ensures)) head
    (sym c.is_closed.ensures ∙ c.if-is_closed.false) c.in_err-journal.field-0.0 c.in_err-journal.ensures.header)

pub returns-in_err-next_gate-clause-held : goal.returns-in_err-next_gate-clause-held
returns-in_err-next_gate-clause-held g c =
    let s = (g.D.Disk.state c.args.disk.now).content.seen in
    let there = c.in_ok-reach.ensures in
    let head = cut_piece (g.D.Disk.state c.reach.new.disk) c.reach.new.self s 0 _ c.get-head.result.now there.on there.disk.seen there.from there.to c.get-head.ensures.bytes in
    let p = err_from_is_err_and c.from_residual-in_err-next_gate.result c.from_residual-in_err-next_gate.ensures.1 in
    let fails = subst (λ (t : Option (List ℕ)). IfSome t (λ file. Finds (λ (gate : ℕ) (payloads : List (List ℕ)). (payloads, gate)) (Err c.in_err-next_gate.field-0.0) (records_at (left_at 25 file)))) there.disk.seen c.in_err-next_gate.ensures.records in
    rw (p.1, p.2)
    (records_fault_on s c.args.piece.now.end _ c.get-head.result.now c.requires.on.long (omega (arith, c.min-count.ensures, c.end.ensures)) head
    (sym c.is_closed.ensures ∙ c.if-is_closed.false) c.in_ok-journal.journal c.in_ok-journal.ensures.header c.in_err-next_gate.field-0.0 fails)

pub returns-clause-held : goal.returns-clause-held
returns-clause-held g c =
    let s = (g.D.Disk.state c.args.disk.now).content.seen in
    let there = c.in_ok-reach.ensures in
    let head = cut_piece (g.D.Disk.state c.reach.new.disk) c.reach.new.self s 0 _ c.get-head.result.now there.on there.disk.seen there.from there.to c.get-head.ensures.bytes in
    let found = subst (λ (t : Option (List ℕ)). IfSome t (λ file. Finds (λ (gate : ℕ) (payloads : List (List ℕ)). (payloads, gate)) (Ok c.in_ok-next_gate.next_gate) (records_at (left_at 25 file)))) there.disk.seen c.in_ok-next_gate.ensures.records in
    found_on s c.args.piece.now.end _ c.get-head.result.now c.requires.on.long (omega (arith, c.min-count.ensures, c.end.ensures)) head
    (sym c.is_closed.ensures ∙ c.if-is_closed.false) c.in_ok-journal.journal c.in_ok-journal.ensures.header c.in_ok-next_gate.next_gate found

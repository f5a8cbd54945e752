use Rattle.std.proofs.Common.{Option, Ok, sym, ap, subst, ◌∙◌}
use Rattle.mon_wire.specs.declared.parts.Told.{Told}
use Rattle.paxos_leader.specs.Rows.{NotesFound, may_begin_pending}
use Rattle.paxos_leader.proofs.Answering.{notes-none}
use Rattle.paxos_leader.proofs.answers.found_with_any.Goals as goal

pub found_with-requires-clause-told : goal.found_with-requires-clause-told
found_with-requires-clause-told c = ap may_begin_pending (sym c.in-Some.is) ∙ c.requires.told

pub returns-in-None-clause-notes : goal.returns-in-None-clause-notes
returns-in-None-clause-notes c =
    subst (λ (told : Option Told). NotesFound c.args.found c.args.last told (Ok c.args.found)) (sym c.in-None.is) (notes-none c.args.found c.args.last)

pub returns-in-Some-clause-notes : goal.returns-in-Some-clause-notes
returns-in-Some-clause-notes c =
    subst (λ (told : Option Told). NotesFound c.args.found c.args.last told c.found_with.result) (sym c.in-Some.is) c.found_with.ensures.notes

use Rattle.std.proofs.Common.{◌≡◌, Option, Ok, Err, sym, ap, subst, ◌∙◌}
use Rattle.mon_msg.specs.declared.paxos.Found.{Found}
use Rattle.mon_msg.specs.declared.paxos.Leader.{Leader}
use Rattle.paxos_leader.specs.Inputs.{may_begin_found}
use Rattle.paxos_leader.specs.Parts.{with_answer}
use Rattle.paxos_leader.specs.Rows.{Notes, NotesFound}
use Rattle.paxos_leader.proofs.Answering.{notes-leader, notes-fails}
use Rattle.paxos_leader.proofs.answers.note.Goals as goal

pub found_with_any-requires-clause-found : goal.found_with_any-requires-clause-found
found_with_any-requires-clause-found c =
    ap (λ (r : Leader × Option Found). may_begin_found r.1) c.take_found-state.ensures ∙ c.requires.found

pub returns-in-Ok-clause-notes : goal.returns-in-Ok-clause-notes
returns-in-Ok-clause-notes c =
    let l : Leader = c.args.state in
    let a = c.args.answer.now in
    let found = c.in-Ok.found in
    let old : c.take_found-state.result.1 ≡ l.found = ap (λ (r : Leader × Option Found). r.1) c.take_found-state.ensures in
    let new : c.answered.result ≡ with_answer a.from a.last found l =
    c.answered.ensures ∙ ap (λ (r : Leader × Option Found). with_answer a.from a.last found r.0) c.take_found-state.ensures in
    subst (λ (k : Leader). Notes l a.from a.last a.pending.now (Ok k)) (sym new)
    (notes-leader l a.from a.last a.pending.now found (subst (λ (o : Option Found). NotesFound o a.last a.pending.now (Ok found)) old c.in-Ok.ensures.notes))

pub returns-in-Ok-clause-short : goal.returns-in-Ok-clause-short
returns-in-Ok-clause-short c = ap (λ (k : Leader). may_begin_found k.found) c.answered.ensures ∙ c.in-Ok.ensures.short

pub returns-in-Ok-clause-stage : goal.returns-in-Ok-clause-stage
returns-in-Ok-clause-stage c =
    ap (λ (k : Leader). k.stage) c.answered.ensures ∙ ap (λ (r : Leader × Option Found). r.0.stage) c.take_found-state.ensures

pub returns-in-Err-clause-notes : goal.returns-in-Err-clause-notes
returns-in-Err-clause-notes c =
    let l : Leader = c.args.state in
    let a = c.args.answer.now in
    let old : c.take_found-state.result.1 ≡ l.found = ap (λ (r : Leader × Option Found). r.1) c.take_found-state.ensures in
    notes-fails l a.from a.last a.pending.now c.in-Err.stop (subst (λ (o : Option Found). NotesFound o a.last a.pending.now (Err c.in-Err.stop)) old c.in-Err.ensures.notes)

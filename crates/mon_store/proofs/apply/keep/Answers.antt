use Rattle.std.proofs.Common.{List, ℕ, None, Err, ◌∙◌, subst}
use Rattle.std.proofs.lemmas.Result.{err_from_is_err_and}
use Rattle.mon_disk.specs.Calls.{Called}
use Rattle.mon_disk.proofs.Following.{widened}
use Rattle.mon_tx.specs.Text.{text}
use Rattle.mon_journal.specs.Content.{WithOrWithout}
use Rattle.mon_journal.specs.Steps.{append_calls, payloads_seen, stop_in as of_journal}
use Rattle.mon_store.specs.Sound.{WithChange}
use Rattle.mon_store.proofs.Keeping.{not_changed}
use Rattle.mon_store.proofs.Stops.{none_made, journal_stopped}
use Rattle.mon_store.proofs.apply.keep.Goals as goal

pub returns-in_err-text-clause-call : goal.returns-in_err-text-clause-call
returns-in_err-text-clause-call g c =
    let p = err_from_is_err_and c.from_residual.result c.from_residual.ensures.1 in
    let j = c.args.journal.now in
    let old = g.D.Disk.state c.args.disk.now in
    rw (p.1, p.2)
    (none_made (Unit {0}) c.in_err-text.field-0.0 (append_calls j.next_gate (text c.args.tx.now)) (WithChange j (payloads_seen old.content) c.args.kv.now c.args.tx.now) old c.in_err-text.ensures.early
    (not_changed j old.known old.content c.requires c.args.kv.now c.args.tx.now))

pub returns-in_err-append-clause-call : goal.returns-in_err-append-clause-call
returns-in_err-append-clause-call g c =
    let p = err_from_is_err_and c.from_residual-in_err-append.result c.from_residual-in_err-append.ensures.1 in
    let e = c.in_err-append.field-0.0 in
    let j = c.args.journal.now in
    let tx = c.args.tx.now in
    let old = g.D.Disk.state c.args.disk.now in
    let new = g.D.Disk.state c.append.new.disk in
    let is = c.deref.ensures.value ∙ c.in_ok-text.ensures.text in
    let P = WithOrWithout j (payloads_seen old.content) in
    let one = subst (λ (bytes : List ℕ). Called (append_calls j.next_gate bytes) (P bytes) (of_journal {T = Unit {0}} (Err e)) old new) is c.in_err-append.ensures.call in
    rw (p.1, p.2)
    (journal_stopped (Unit {0}) (Unit {0}) e (append_calls j.next_gate (text tx)) (P (text tx)) (WithChange j (payloads_seen old.content) c.args.kv.now tx) old new c.in_err-append.ensures.outside one
    (λ d h. (h, λ gate. (c.in_ok-text.ensures.form, c.in_ok-text.ensures.size))))

pub returns-clause-call : goal.returns-clause-call
returns-clause-call g c =
    let j = c.args.journal.now in
    let tx = c.args.tx.now in
    let old = g.D.Disk.state c.args.disk.now in
    let new = g.D.Disk.state c.append.new.disk in
    let is = c.deref.ensures.value ∙ c.in_ok-text.ensures.text in
    let P = WithOrWithout j (payloads_seen old.content) in
    let one = subst (λ (bytes : List ℕ). Called (append_calls j.next_gate bytes) (P bytes) None old new) is c.in_ok-append.ensures.call in
    widened (P (text tx)) (WithChange j (payloads_seen old.content) c.args.kv.now tx) one (λ d h. (h, λ gate. (c.in_ok-text.ensures.form, c.in_ok-text.ensures.size)))

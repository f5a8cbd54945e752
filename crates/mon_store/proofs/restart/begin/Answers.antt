use Rattle.std.specs.Prelude.{IfSome}
use Rattle.std.proofs.Common.{◌≡◌, ◌+◌, [], ◌∷◌, List, ℕ, Some, None, Err, inl, length, ap, subst, ◌∙◌, arith}
use Rattle.std.proofs.lemmas.Result.{err_from_is_err_and}
use Rattle.mon_disk.specs.Calls.{Called}
use Rattle.mon_disk.proofs.Following.{none, widened, stopped_at, without_memory}
use Rattle.mon_journal.specs.declared.journal.Journal.{Journal}
use Rattle.mon_journal.specs.Written.{owner_of, created}
use Rattle.mon_journal.specs.Steps.{create_calls, CreatedFrom, made_more, Made, stop_in as of_journal}
use Rattle.mon_store.specs.Sound.{next_journal, Begins}
use Rattle.mon_store.specs.Checkpoint.{checkpoint_text}
use Rattle.mon_store.proofs.Sizes.{length-checkpoint}
use Rattle.mon_store.proofs.Restarting.{as_begins, not_begun, has_begun}
use Rattle.mon_store.proofs.Stops.{stop_goes_on}
use Rattle.mon_store.proofs.restart.begin.Goals as goal

pub restart-requires-clause-short : goal.restart-requires-clause-short
restart-requires-clause-short g c =
    let is : c.deref.result.now ≡ checkpoint_text c.args.kv.now = c.deref.ensures.value ∙ c.in_ok-text.ensures.text in
    omega (arith, ap length is, length-checkpoint c.args.kv.now, c.requires.size)

pub returns-in_err-text-clause-call : goal.returns-in_err-text-clause-call
returns-in_err-text-clause-call g c =
    let p = err_from_is_err_and c.from_residual.result c.from_residual.ensures.1 in
    let j = c.args.journal.now in
    let old = g.D.Disk.state c.args.disk.now in
    let P = Begins old.content (next_journal j c.args.kv.now) c.args.kv.now in
    rw (p.1, p.2) (stopped_at (create_calls (owner_of j.member) (j.generation + 1) (Some (checkpoint_text c.args.kv.now))) P P (without_memory P (none old P (λ d left. inl left))) (λ d h. h))

pub returns-in_err-restart-clause-call : goal.returns-in_err-restart-clause-call
returns-in_err-restart-clause-call g c =
    let is : c.deref.result.now ≡ checkpoint_text c.args.kv.now = c.deref.ensures.value ∙ c.in_ok-text.ensures.text in
    let p = err_from_is_err_and c.from_residual-in_err-restart.result c.from_residual-in_err-restart.ensures.1 in
    let e = c.in_err-restart.field-0.0 in
    let j = c.args.journal.now in
    let m = c.args.kv.now in
    let old = g.D.Disk.state c.args.disk.now in
    let new = g.D.Disk.state c.restart.new.disk in
    let one = subst (λ (bytes : List ℕ). Called (create_calls (owner_of j.member) (j.generation + 1) (Some bytes)) (CreatedFrom old.content (created j.member (j.generation + 1) (Some bytes)) (bytes ∷ [])) (of_journal {T = Journal} (Err e)) old new) is c.in_err-restart.ensures.call in
    rw (p.1, p.2, stop_goes_on Journal e c.in_err-restart.ensures.outside) (widened (CreatedFrom old.content (next_journal j m) (checkpoint_text m ∷ [])) (Begins old.content (next_journal j m) m) one (as_begins old.content (next_journal j m) m c.in_ok-text.ensures.form))

pub returns-clause-call : goal.returns-clause-call
returns-clause-call g c =
    let is : c.deref.result.now ≡ checkpoint_text c.args.kv.now = c.deref.ensures.value ∙ c.in_ok-text.ensures.text in
    let j = c.args.journal.now in
    let m = c.args.kv.now in
    let old = g.D.Disk.state c.args.disk.now in
    let new = g.D.Disk.state c.restart.new.disk in
    let one = subst (λ (bytes : List ℕ). Called (create_calls (owner_of j.member) (j.generation + 1) (Some bytes)) (CreatedFrom old.content (created j.member (j.generation + 1) (Some bytes)) (bytes ∷ [])) None old new) is c.in_ok-restart.ensures.call in
    widened (CreatedFrom old.content (next_journal j m) (checkpoint_text m ∷ [])) (Begins old.content (next_journal j m) m) one (as_begins old.content (next_journal j m) m c.in_ok-text.ensures.form)

pub returns-in_err-text-clause-settles : goal.returns-in_err-text-clause-settles
returns-in_err-text-clause-settles g c = not_begun (g.D.Disk.state c.args.disk.now).content (next_journal c.args.journal.now c.args.kv.now) c.args.kv.now (g.D.Disk.state c.args.disk.now).observed (g.met.D.Disk.settled c.args.disk.now)

pub returns-in_err-restart-clause-settles : goal.returns-in_err-restart-clause-settles
returns-in_err-restart-clause-settles g c =
    let is : c.deref.result.now ≡ checkpoint_text c.args.kv.now = c.deref.ensures.value ∙ c.in_ok-text.ensures.text in
    let j = c.args.journal.now in
    let old = (g.D.Disk.state c.args.disk.now).observed in
    let new = (g.D.Disk.state c.restart.new.disk).observed in
    let x = (g.D.Disk.state c.args.disk.now).content in
    has_begun x (next_journal j c.args.kv.now) c.args.kv.now old new c.in_ok-text.ensures.form
    (subst (λ (bytes : List ℕ). IfSome old (λ s. IfSome new (λ t. Made x (created j.member (j.generation + 1) (Some bytes)) (bytes ∷ []) (made_more 4 s t) (t.settles t.made)))) is c.restart.ensures.settles)

pub returns-clause-settles : goal.returns-clause-settles
returns-clause-settles g c =
    let is : c.deref.result.now ≡ checkpoint_text c.args.kv.now = c.deref.ensures.value ∙ c.in_ok-text.ensures.text in
    let j = c.args.journal.now in
    let old = (g.D.Disk.state c.args.disk.now).observed in
    let new = (g.D.Disk.state c.restart.new.disk).observed in
    let x = (g.D.Disk.state c.args.disk.now).content in
    has_begun x (next_journal j c.args.kv.now) c.args.kv.now old new c.in_ok-text.ensures.form
    (subst (λ (bytes : List ℕ). IfSome old (λ s. IfSome new (λ t. Made x (created j.member (j.generation + 1) (Some bytes)) (bytes ∷ []) (made_more 4 s t) (t.settles t.made)))) is c.restart.ensures.settles)

use Rattle.std.proofs.Common.{◌≡◌, [], ◌∷◌, Some, None, ◌+◌, ◌<◌, ◌^◌, max, length, List, ℕ, ◌∙◌, subst, ap, arith}
use Rattle.std.proofs.lemmas.Result.{err_from_is_err_and}
use Rattle.mon_disk.specs.declared.disk.DiskCall.TheVariants.{Write, Sync}
use Rattle.mon_disk.specs.Images.{TornFrom, written}
use Rattle.mon_disk.specs.Calls.{Called}
use Rattle.mon_disk.proofs.Following.{none, stopped_at, then_calls, without_memory, settles_by}
use Rattle.mon_journal.specs.Steps.{append_calls, payloads_seen}
use Rattle.mon_journal.specs.Content.{WithOrWithout}
use Rattle.mon_journal.proofs.Stops.{stop_back}
use Rattle.mon_journal.proofs.Appending.{body, before_it, behind_it, in_second, is_kept, length-body}
use Rattle.mon_journal.proofs.journal.Journal.append.Goals as goal

pub overflow_add-self-3 : goal.overflow_add-self-3
overflow_add-self-3 g c =
    let is : c.deref.result.now ≡ body c.args.payload.now = c.deref.ensures.value ∙ c.in_ok-body.ensures in
    let end = subst (λ (bytes : List ℕ). c.args.self.now.next_gate + 1 + length bytes < 2 ^ 64) is c.in_ok-write_synced.ensures.end in
    omega (arith, end, length-body c.args.payload.now)

pub returns-in_err-body-clause-call : goal.returns-in_err-body-clause-call
returns-in_err-body-clause-call g c =
    let p = err_from_is_err_and c.from_residual.result c.from_residual.ensures.1 in
    let j = c.args.self.now in
    let old = g.D.Disk.state c.args.disk.now in
    let P = WithOrWithout j (payloads_seen old.content) c.args.payload.now in
    rw (p.1, p.2) (stopped_at (append_calls j.next_gate c.args.payload.now) P P (without_memory P (none old P (before_it j c.args.payload.now c.requires.short old.content old.known c.requires.stands))) (λ d h. h))

pub returns-in_err-write_synced-clause-call : goal.returns-in_err-write_synced-clause-call
returns-in_err-write_synced-clause-call g c =
    let p = err_from_is_err_and c.from_residual-in_err-write_synced.result c.from_residual-in_err-write_synced.ensures.1 in
    let e = c.in_err-write_synced.field-0.0 in
    let j = c.args.self.now in
    let payload = c.args.payload.now in
    let old = g.D.Disk.state c.args.disk.now in
    let mid = g.D.Disk.state c.write_synced.new.disk in
    let at = j.next_gate + 1 in
    let P = WithOrWithout j (payloads_seen old.content) payload in
    let is : c.deref.result.now ≡ body payload = c.deref.ensures.value ∙ c.in_ok-body.ensures in
    let one = subst (λ (bytes : List ℕ). Called (Write at bytes ∷ Sync ∷ []) (TornFrom old.content at bytes) (Some e) old mid) is c.in_err-write_synced.ensures.call in
    rw (p.1, p.2, stop_back (Unit {0}) e) (stopped_at (Write j.next_gate (1 ∷ []) ∷ Sync ∷ []) (TornFrom old.content at (body payload)) P one (behind_it j payload c.requires.short old.content old.known c.requires.stands))

pub returns-in_err-write_synced-2-clause-call : goal.returns-in_err-write_synced-2-clause-call
returns-in_err-write_synced-2-clause-call g c =
    let p = err_from_is_err_and c.from_residual-in_err-write_synced-2.result c.from_residual-in_err-write_synced-2.ensures.1 in
    let e = c.in_err-write_synced-2.field-0.0 in
    let j = c.args.self.now in
    let payload = c.args.payload.now in
    let old = g.D.Disk.state c.args.disk.now in
    let mid = g.D.Disk.state c.write_synced.new.disk in
    let at = j.next_gate + 1 in
    let P = WithOrWithout j (payloads_seen old.content) payload in
    let is : c.deref.result.now ≡ body payload = c.deref.ensures.value ∙ c.in_ok-body.ensures in
    let one = subst (λ (bytes : List ℕ). Called (Write at bytes ∷ Sync ∷ []) (TornFrom old.content at bytes) None old mid) is c.in_ok-write_synced.ensures.call in
    let seen = c.in_ok-write_synced.ensures.seen ∙ ap (λ (bytes : List ℕ). written at bytes old.content.seen) is in
    rw (p.1, p.2, stop_back (Unit {0}) e)
    (then_calls (TornFrom old.content at (body payload)) (TornFrom mid.content j.next_gate (1 ∷ [])) P one c.in_err-write_synced-2.ensures.call (behind_it j payload c.requires.short old.content old.known c.requires.stands)
    (in_second j payload c.requires.short old.content old.known c.requires.stands mid.content seen c.in_ok-write_synced.ensures.durable))

pub returns-clause-call : goal.returns-clause-call
returns-clause-call g c =
    let j = c.args.self.now in
    let payload = c.args.payload.now in
    let old = g.D.Disk.state c.args.disk.now in
    let mid = g.D.Disk.state c.write_synced.new.disk in
    let at = j.next_gate + 1 in
    let P = WithOrWithout j (payloads_seen old.content) payload in
    let is : c.deref.result.now ≡ body payload = c.deref.ensures.value ∙ c.in_ok-body.ensures in
    let one = subst (λ (bytes : List ℕ). Called (Write at bytes ∷ Sync ∷ []) (TornFrom old.content at bytes) None old mid) is c.in_ok-write_synced.ensures.call in
    let seen = c.in_ok-write_synced.ensures.seen ∙ ap (λ (bytes : List ℕ). written at bytes old.content.seen) is in
    then_calls (TornFrom old.content at (body payload)) (TornFrom mid.content j.next_gate (1 ∷ [])) P one c.in_ok-write_synced-2.ensures.call (behind_it j payload c.requires.short old.content old.known c.requires.stands)
    (in_second j payload c.requires.short old.content old.known c.requires.stands mid.content seen c.in_ok-write_synced.ensures.durable)

pub returns-clause-kept : goal.returns-clause-kept
returns-clause-kept g c =
    let is : c.deref.result.now ≡ body c.args.payload.now = c.deref.ensures.value ∙ c.in_ok-body.ensures in
    let old = g.D.Disk.state c.args.disk.now in
    let mid = g.D.Disk.state c.write_synced.new.disk in
    let new = g.D.Disk.state c.write_synced-2.new.disk in
    let seen = c.in_ok-write_synced.ensures.seen ∙ ap (λ (bytes : List ℕ). written (c.args.self.now.next_gate + 1) bytes old.content.seen) is in
    let reach = c.in_ok-write_synced.ensures.known ∙ ap (λ (bytes : List ℕ). max old.known (c.args.self.now.next_gate + 1 + length bytes)) is in
    let end = subst (λ (bytes : List ℕ). c.args.self.now.next_gate + 1 + length bytes < 2 ^ 64) is c.in_ok-write_synced.ensures.end in
    let gate : c.args.self.now.next_gate + (5 + length c.args.payload.now) ≡ c.args.self.now.next_gate + 5 + length c.args.payload.now = omega arith in
    rw gate
    (is_kept c.args.self.now c.args.payload.now c.requires.short old.content old.known c.requires.stands mid.content new.content mid.known new.known
    seen c.in_ok-write_synced-2.ensures.seen c.in_ok-write_synced-2.ensures.durable end reach c.in_ok-write_synced-2.ensures.known)

pub returns-in_err-body-clause-settles : goal.returns-in_err-body-clause-settles
returns-in_err-body-clause-settles g c =
    let old = g.D.Disk.state c.args.disk.now in
    let new = g.D.Disk.state c.args.disk.now in
    settles_by old.content new.content new.observed (WithOrWithout c.args.self.now (payloads_seen old.content) c.args.payload.now) (returns-in_err-body-clause-call g c).any_time (g.met.D.Disk.settled c.args.disk.now)

pub returns-in_err-write_synced-clause-settles : goal.returns-in_err-write_synced-clause-settles
returns-in_err-write_synced-clause-settles g c =
    let old = g.D.Disk.state c.args.disk.now in
    let new = g.D.Disk.state c.write_synced.new.disk in
    settles_by old.content new.content new.observed (WithOrWithout c.args.self.now (payloads_seen old.content) c.args.payload.now) (returns-in_err-write_synced-clause-call g c).any_time (g.met.D.Disk.settled c.write_synced.new.disk)

pub returns-in_err-write_synced-2-clause-settles : goal.returns-in_err-write_synced-2-clause-settles
returns-in_err-write_synced-2-clause-settles g c =
    let old = g.D.Disk.state c.args.disk.now in
    let new = g.D.Disk.state c.write_synced-2.new.disk in
    settles_by old.content new.content new.observed (WithOrWithout c.args.self.now (payloads_seen old.content) c.args.payload.now) (returns-in_err-write_synced-2-clause-call g c).any_time (g.met.D.Disk.settled c.write_synced-2.new.disk)

pub returns-clause-settles : goal.returns-clause-settles
returns-clause-settles g c =
    let old = g.D.Disk.state c.args.disk.now in
    let new = g.D.Disk.state c.write_synced-2.new.disk in
    settles_by old.content new.content new.observed (WithOrWithout c.args.self.now (payloads_seen old.content) c.args.payload.now) (returns-clause-call g c).any_time (g.met.D.Disk.settled c.write_synced-2.new.disk)

use Rattle.std.proofs.Common.{[], ◌∷◌, Some, None, Err, ap}
use Rattle.std.proofs.lemmas.Result.{err_from_is_err_and}
use Rattle.mon_disk.specs.declared.disk.DiskCall.TheVariants.{Write, Sync}
use Rattle.mon_disk.specs.Images.{images, TornFrom, LeavesOnly}
use Rattle.mon_disk.proofs.Following.{stopped_at, then_calls, now}
use Rattle.mon_journal.proofs.Counts.{refused, done_before}
use Rattle.mon_journal.proofs.step.write_synced.Goals as goal

pub returns-in_err-write_at-clause-call : goal.returns-in_err-write_at-clause-call
returns-in_err-write_at-clause-call g c =
    let p = err_from_is_err_and c.from_residual.result c.from_residual.ensures.1 in
    let old = (g.D.Disk.state c.args.disk.now).content in
    rw (p.1, p.2) (stopped_at (Sync ∷ []) (TornFrom old c.args.at c.args.bytes.now) (TornFrom old c.args.at c.args.bytes.now) c.in_err-write_at.ensures.call (λ d h. h))

pub returns-in_err-sync-clause-call : goal.returns-in_err-sync-clause-call
returns-in_err-sync-clause-call g c =
    let p = err_from_is_err_and c.from_residual-in_err-sync.result c.from_residual-in_err-sync.ensures.1 in
    let old = (g.D.Disk.state c.args.disk.now).content in
    let mid = (g.D.Disk.state c.write_at.new.self).content in
    let first = TornFrom old c.args.at c.args.bytes.now in
    rw (p.1, p.2) (then_calls first (images mid) first c.in_ok-write_at.ensures.call c.in_err-sync.ensures.call (λ d h. h) (λ d h. now old mid first c.in_ok-write_at.ensures.call.any_time d h))

pub returns-clause-call : goal.returns-clause-call
returns-clause-call g c =
    let old = (g.D.Disk.state c.args.disk.now).content in
    let mid = (g.D.Disk.state c.write_at.new.self).content in
    let first = TornFrom old c.args.at c.args.bytes.now in
    then_calls first (images mid) first c.in_ok-write_at.ensures.call c.in_ok-sync.ensures.call (λ d h. h) (λ d h. now old mid first c.in_ok-write_at.ensures.call.any_time d h)

pub returns-in_err-write_at-clause-not_begun : goal.returns-in_err-write_at-clause-not_begun
returns-in_err-write_at-clause-not_begun g c =
    let old = g.D.Disk.state c.args.disk.now in
    let new = g.D.Disk.state c.write_at.new.self in
    let e = c.in_err-write_at.field-0.0 in
    refused (LeavesOnly old.content new.content (images old.content)) (Write c.args.at c.args.bytes.now) e old.observed new.observed c.in_err-write_at.ensures.call.made (λ is. (c.in_err-write_at.ensures.no_memory (ap (λ x. Err x) is)).any_time)

pub returns-in_err-sync-clause-not_begun : goal.returns-in_err-sync-clause-not_begun
returns-in_err-sync-clause-not_begun g c =
    let old = g.D.Disk.state c.args.disk.now in
    let mid = g.D.Disk.state c.write_at.new.self in
    let new = g.D.Disk.state c.sync.new.self in
    done_before (LeavesOnly old.content new.content (images old.content)) (Write c.args.at c.args.bytes.now) Sync (Some c.in_err-sync.field-0.0) old.observed mid.observed new.observed c.in_ok-write_at.ensures.call.made c.in_err-sync.ensures.call.made

pub returns-clause-not_begun : goal.returns-clause-not_begun
returns-clause-not_begun g c =
    let old = g.D.Disk.state c.args.disk.now in
    let mid = g.D.Disk.state c.write_at.new.self in
    let new = g.D.Disk.state c.sync.new.self in
    done_before (LeavesOnly old.content new.content (images old.content)) (Write c.args.at c.args.bytes.now) Sync None old.observed mid.observed new.observed c.in_ok-write_at.ensures.call.made c.in_ok-sync.ensures.call.made

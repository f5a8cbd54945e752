use Rattle.std.proofs.lemmas.Result.{err_from_is_err_and}
use Rattle.mon_disk.specs.Images.{images}
use Rattle.mon_disk.proofs.Following.{then_calls, now}
use Rattle.mon_journal.proofs.opening.synced_len.Goals as goal

pub returns-in_err-len-clause-call : goal.returns-in_err-len-clause-call
returns-in_err-len-clause-call g c =
    let p = err_from_is_err_and c.from_residual-in_err-len.result c.from_residual-in_err-len.ensures.1 in
    let old = (g.D.Disk.state c.args.disk.now).content in
    let mid = (g.D.Disk.state c.sync.new.self).content in
    rw (p.1, p.2) (then_calls (images old) (images mid) (images old) c.in_ok-sync.ensures.call c.in_err-len.ensures.call (λ d h. h) (λ d h. now old mid (images old) c.in_ok-sync.ensures.call.any_time d h))

pub returns-clause-call : goal.returns-clause-call
returns-clause-call g c =
    let old = (g.D.Disk.state c.args.disk.now).content in
    let mid = (g.D.Disk.state c.sync.new.self).content in
    then_calls (images old) (images mid) (images old) c.in_ok-sync.ensures.call c.in_ok-len.ensures.call (λ d h. h) (λ d h. now old mid (images old) c.in_ok-sync.ensures.call.any_time d h)

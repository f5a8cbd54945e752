use Rattle.mon_tx.specs.Map.{apply}
use Rattle.quorum_model.specs.Files.{after_append}
use Rattle.mon_site.proofs.InUse.{both_made}
use Rattle.mon_site.proofs.Times.{while_applied, while_written}
use Rattle.mon_site.proofs.running.apply.Goals as goal

pub returns-in-Ok-clause-applies : goal.returns-in-Ok-clause-applies
returns-in-Ok-clause-applies c member m f runs =
    let ops = c.args.tx.now in
    let k = c.in-Ok.ensures.changes member m f runs in
    both_made member m f ops c.renew.new.store c.renew.result k.0 (c.renew.ensures.renews member (apply ops m) (after_append ops f) k.1)

pub returns-in-Ok-clause-any_time : goal.returns-in-Ok-clause-any_time
returns-in-Ok-clause-any_time c member m f runs =
    let ops = c.args.tx.now in
    let e = c.in-Ok.ensures in
    let here = (e.changes member m f runs).1 in
    while_applied member m f ops c.args.store.now c.change.new.store runs e.side e.other (e.any_time runs.unbroken)
    (after_append ops f) c.renew.new.store here e.journal c.renew.ensures.untouched (c.renew.ensures.any_time here.unbroken)

pub returns-in-Err-clause-any_time : goal.returns-in-Err-clause-any_time
returns-in-Err-clause-any_time c member m f runs =
    let e = c.in-Err.ensures in
    while_written member m f c.args.tx.now c.args.store.now c.change.new.store runs e.side e.other (e.any_time runs.unbroken)

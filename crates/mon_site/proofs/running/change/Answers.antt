use Rattle.mon_site.proofs.InUse.{changes}
use Rattle.mon_site.proofs.running.change.Goals as goal

pub returns-clause-changes : goal.returns-clause-changes
returns-clause-changes c member m f runs =
    let e = c.apply.ensures in
    changes member m f c.args.tx.now c.args.store.now c.apply.new.self runs c.apply.result e.side e.other e.sound e.broken e.answer e.journal e.call

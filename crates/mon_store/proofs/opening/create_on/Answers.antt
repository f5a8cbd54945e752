use Rattle.mon_types.specs.declared.names.Side.TheVariants.{A}
use Rattle.mon_journal.specs.declared.journal.Journal.{Journal}
use Rattle.mon_store.specs.declared.opening.LiveStore.{LiveStore}
use Rattle.mon_store.proofs.Called.{stop_named, outside_named}
use Rattle.mon_store.proofs.opening.create_on.Goals as goal

pub returns-in-Err-clause-outside : goal.returns-in-Err-clause-outside
returns-in-Err-clause-outside g c = rw c.named.ensures (outside_named A c.in-Err.stop c.in-Err.ensures.outside)

pub returns-in-Err-clause-call : goal.returns-in-Err-clause-call
returns-in-Err-clause-call g c = rw (c.named.ensures, stop_named Journal LiveStore A c.in-Err.stop) c.in-Err.ensures.call

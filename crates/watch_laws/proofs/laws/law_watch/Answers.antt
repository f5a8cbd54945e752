use Rattle.watch_laws.proofs.Datagrams.{link_is_so}
use Rattle.watch_laws.proofs.Runs.{watch_is_so}
use Rattle.watch_laws.proofs.laws.law_watch.Goals as goal

pub returns : goal.returns
returns c = record { messages = watch_is_so; datagrams = link_is_so }

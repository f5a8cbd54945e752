use Rattle.sync_provider.proofs.ChunkLaws.{none-done}
use Rattle.sync_provider.proofs.entries.is_end.Goals as goal

pub returns : goal.returns
returns c = none-done c.args.kv.now c.args.place.now c.in_ok-found.found c.in_ok-found.ensures

use Rattle.std.proofs.Common.{ap, ◌∙◌}
use Rattle.map_kv.specs.Kept.{pairs}
use Rattle.map_kv.proofs.Kept.{same_entries}
use Rattle.map_kv.proofs.map.KvMap.iter.Goals as goal

pub returns : goal.returns
returns c = ap pairs c.iter.ensures.rest ∙ same_entries c.self.inside.entries.entries c.self.inside.size c.args.self.now c.self.invariant c.self.view_is

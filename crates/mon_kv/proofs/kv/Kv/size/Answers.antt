use Rattle.std.proofs.Common.{sym, ap, ◌∙◌}
use Rattle.mon_kv.specs.Readers.{size_of}
use Rattle.mon_kv.proofs.PlaceLaws.{size_of-store}
use Rattle.mon_kv.proofs.kv.Kv.size.Goals as goal

pub returns : goal.returns
returns c = c.self.invariant.1 ∙ sym (size_of-store _ c.self.invariant.0) ∙ ap size_of c.self.view_is

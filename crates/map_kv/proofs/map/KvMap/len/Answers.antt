use Rattle.std.proofs.Common.{ap, sym, length, ◌∙◌}
use Rattle.std.proofs.lemmas.List.{length-map}
use Rattle.std.specs.FinMap.{len-entries}
use Rattle.map_kv.proofs.Kept.{same_entries}
use Rattle.map_kv.proofs.map.KvMap.len.Goals as goal

pub returns : goal.returns
returns c =
    c.len.ensures.len ∙ sym (length-map c.self.inside.entries.entries _) ∙ ap length (same_entries c.self.inside.entries.entries c.self.inside.size c.args.self.now c.self.invariant c.self.view_is)
    ∙ sym (len-entries c.args.self.now)

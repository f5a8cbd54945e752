use Rattle.std.proofs.Common.{ap, sym, ◌∙◌, option_copied}
use Rattle.map_kv.specs.Kept.{held}
use Rattle.map_kv.proofs.Kept.{found}
use Rattle.map_kv.proofs.map.KvMap.held.Goals as goal

pub returns-in-Some : goal.returns-in-Some
returns-in-Some c =
    c.entry_size.ensures.size
    ∙ ap (held c.args.key.now) (sym (ap option_copied c.in-Some.is) ∙ c.get.ensures.value ∙ found c.args.key.now c.self.inside.entries.entries c.self.inside.size c.args.self.now c.self.invariant c.self.view_is)

pub returns-in-None : goal.returns-in-None
returns-in-None c = ap (held c.args.key.now) (sym (ap option_copied c.in-None.is) ∙ c.get.ensures.value ∙ found c.args.key.now c.self.inside.entries.entries c.self.inside.size c.args.self.now c.self.invariant c.self.view_is)

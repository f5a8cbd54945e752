use Rattle.std.proofs.Common.{ap, sym, ◌∙◌, Some, option_copied}
use Rattle.std.specs.FinMap.{get}
use Rattle.map_kv.proofs.Kept.{no_text, found}
use Rattle.map_kv.proofs.map.KvMap.get.Goals as goal

pub returns-in_default : goal.returns-in_default
returns-in_default c = sym (no_text c.args.key.now c.self.inside.entries.entries c.self.inside.size c.args.self.now c.self.invariant c.self.view_is c.in_default.ensures.cases.0)

pub returns-in-Some : goal.returns-in-Some
returns-in-Some c =
    ap Some c.as_slice.ensures.value ∙ sym (ap option_copied c.in-Some.is) ∙ c.get.ensures.value ∙ found c.in-Ok.key.now c.self.inside.entries.entries c.self.inside.size c.args.self.now c.self.invariant c.self.view_is
    ∙ ap (get c.args.self.now) c.in-Ok.ensures.cases.0

pub returns-in-None : goal.returns-in-None
returns-in-None c =
    sym (ap option_copied c.in-None.is) ∙ c.get.ensures.value ∙ found c.in-Ok.key.now c.self.inside.entries.entries c.self.inside.size c.args.self.now c.self.invariant c.self.view_is
    ∙ ap (get c.args.self.now) c.in-Ok.ensures.cases.0

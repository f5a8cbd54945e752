use Rattle.std.proofs.Common.{ap, ◌∙◌, subst, sym, refl}
use Rattle.std.specs.List.{AllByRecursion}
use Rattle.map_kv.specs.Text.{EntryFits}
use Rattle.map_kv.specs.Kept.{pairs}
use Rattle.map_kv.proofs.Kept.{same_entries, fits}
use Rattle.map_kv.proofs.map.KvMap.encode.Goals as goal

pub loop-key-init : goal.loop-key-init
loop-key-init c =
    let form = fits c.self.inside.entries.entries c.self.inside.size c.args.self.now c.self.invariant c.self.view_is c.requires in
    let all = ap pairs c.into_iter-key-iterator.ensures.into_iter_gives.0 ∙ same_entries c.self.inside.entries.entries c.self.inside.size c.args.self.now c.self.invariant c.self.view_is in
    (rw (c.in_ok-write_count.ensures.ok, c.in_ok-out.ensures, c.len.ensures, all) refl, subst (AllByRecursion EntryFits) (sym all) form.each)

pub returns-clause-form : goal.returns-clause-form
returns-clause-form c = fits c.self.inside.entries.entries c.self.inside.size c.args.self.now c.self.invariant c.self.view_is c.requires

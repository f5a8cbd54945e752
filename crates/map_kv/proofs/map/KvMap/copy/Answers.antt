use Rattle.std.proofs.Common.{◌≡◌, IfOk, subst, ◌∙◌}
use Rattle.std.specs.Map.Iter.{deref_pair}
use Rattle.std.proofs.lemmas.Map.Iter.{rest_all}
use Rattle.map_kv.proofs.Kept.{all_copied}
use Rattle.map_kv.proofs.Rising.{same_map_kept}
use Rattle.map_kv.proofs.map.KvMap.copy.Goals as goal

pub returns : goal.returns
returns c =
    let none = rest_all deref_pair c.loop-key.key-iterator c.next.new.self c.next.result c.in-None.is c.next.ensures.steps in
    let same = all_copied c.loop-key.entries.items c.loop-key.key-iterator c.self.inside.entries.entries none c.loop-key.invariant in
    subst (λ m. IfOk c.from_sorted.result (λ map. map ≡ m)) (same_map_kept c.loop-key.entries.items c.self.inside.entries.entries same ∙ c.self.view_is) c.from_sorted.ensures

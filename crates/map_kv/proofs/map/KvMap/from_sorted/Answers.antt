use Rattle.std.proofs.Common.{string_cmp, sym, subst, ◌∙◌}
use Rattle.std.proofs.lemmas.Iterator.{items_from_drains}
use Rattle.std.proofs.lemmas.Iterator.Adapters.{YieldsList-from_vec}
use Rattle.std.proofs.lemmas.List.{map-id}
use Rattle.std.specs.BTreeMap.{IsFromIterResult}
use Rattle.map_kv.proofs.Rising.{pairs-made, same_kept, same_map_kept}
use Rattle.map_kv.proofs.map.KvMap.from_sorted.Goals as goal

pub invariant_of-result : goal.invariant_of-result
invariant_of-result c =
    let ran = c.in_ok-from_iter.ensures.ran in
    let all = sym (map-id ran.1) ∙ items_from_drains ran.1 ran.3 (YieldsList-from_vec {s = ran.0} c.args.entries.items ran.2.0 (ran.2.1 ∙ c.args.entries.ok.0)) in
    let same = pairs-made c.args.entries.items c.in_ok-from_iter.field-0 c.requires.sorted (subst (λ xs. IsFromIterResult string_cmp xs c.in_ok-from_iter.field-0) all ran.4) in
    same_kept c.in_ok-from_iter.field-0.entries c.args.entries.items c.args.size same c.requires

pub returns : goal.returns
returns c =
    let ran = c.in_ok-from_iter.ensures.ran in
    let all = sym (map-id ran.1) ∙ items_from_drains ran.1 ran.3 (YieldsList-from_vec {s = ran.0} c.args.entries.items ran.2.0 (ran.2.1 ∙ c.args.entries.ok.0)) in
    let same = pairs-made c.args.entries.items c.in_ok-from_iter.field-0 c.requires.sorted (subst (λ xs. IsFromIterResult string_cmp xs c.in_ok-from_iter.field-0) all ran.4) in
    same_map_kept c.in_ok-from_iter.field-0.entries c.args.entries.items same

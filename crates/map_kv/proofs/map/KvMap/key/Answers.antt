use Rattle.std.proofs.Common.{ap, sym, ◌∙◌, Some, string_bytes, option_map}
use Rattle.std.proofs.lemmas.Iterator.Consumers.{nth_from_yields_List, YieldsList-from_rest}
use Rattle.map_kv.proofs.Kept.{key_at}
use Rattle.map_kv.proofs.map.KvMap.key.Goals as goal

pub returns-in-Some : goal.returns-in-Some
returns-in-Some c =
    let at = nth_from_yields_List c.nth.result c.nth.new.self c.args.at c.nth.ensures.ran (YieldsList-from_rest _ c.keys.ensures.rest) in
    ap Some c.as_bytes.ensures.value ∙ sym (ap (λ r. option_map string_bytes (option_map (λ x. x.now) r)) c.in-Some.is)
    ∙ key_at c.self.inside.entries.entries c.self.inside.size c.args.self.now c.args.at (option_map (λ x. x.now) c.nth.result) c.self.invariant c.self.view_is at

pub returns-in-None : goal.returns-in-None
returns-in-None c =
    let at = nth_from_yields_List c.nth.result c.nth.new.self c.args.at c.nth.ensures.ran (YieldsList-from_rest _ c.keys.ensures.rest) in
    sym (ap (λ r. option_map string_bytes (option_map (λ x. x.now) r)) c.in-None.is)
    ∙ key_at c.self.inside.entries.entries c.self.inside.size c.args.self.now c.args.at (option_map (λ x. x.now) c.nth.result) c.self.invariant c.self.view_is at

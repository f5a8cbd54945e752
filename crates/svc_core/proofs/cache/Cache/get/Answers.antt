use Rattle.std.proofs.Common.{ap, refl, ◌∙◌}
use Rattle.svc_core.specs.Cache.{map_in}
use Rattle.svc_core.proofs.cache.Cache.get.Goals as goal

pub unreachable-requires : goal.unreachable-requires
unreachable-requires c =
    let kept = ap map_in c.kept.ensures ∙ c.in_ok-learn.ensures.ok.map_is in
    let none = rw c.in-None.is at c.map.ensures in
    absurd cc

pub returns : goal.returns
returns c =
    let kept = ap map_in c.kept.ensures ∙ c.in_ok-learn.ensures.ok.map_is in
    let some = rw c.in-Some.is at c.map.ensures in
    ((refl, (λ _. tt), c.in_ok-learn.ensures.ok), record { after = tt; map = cc })

use Rattle.std.proofs.Common.{◌≡◌, refl}
use Rattle.mon_link.proofs.Layers.{grows_as}
use Rattle.mon_name.specs.Histories.{IsAskedPast, names}
use Rattle.mon_name.proofs.named.NamedLink.next.Goals as goal

pub returns-clause-does : goal.returns-clause-does
returns-clause-does g c =
    let same : names c.asks_past.new.self.tag c.asks_past.new.self.life ≡ names c.args.self.now.tag c.args.self.now.life = rw (c.asks_past.ensures.tag, c.asks_past.ensures.life) refl in
    grows_as _ _ (IsAskedPast c.args.self.now.tag c.args.wait c.asks_past.result) _ (λ calls p. (p, same)) c.asks_past.ensures.grows

use Rattle.std.proofs.Common.{◌≡◌, ◌≤◌, ◌-◌, Result}
use Rattle.mon_link.specs.Layers.{Grows}
use Rattle.mon_link.specs.Links.{LinkState}
use Rattle.mon_link.specs.declared.link.Got.{Got}
use Rattle.mon_types.specs.declared.names.Stop.{Stop}
use Rattle.mon_name.specs.Naming.{AsksPast}
use Rattle.mon_name.specs.declared.named.TheConstants.{MOST_FOREIGN}
use Rattle.mon_name.proofs.Asked.{CameForeign}
use Rattle.mon_name.proofs.named.Named.asks_past.Given as goal

abbrev pub invariant-loop : goal.invariant-loop
invariant-loop g l = record {
  past : (last : Result Got Stop) (new : LinkState) → AsksPast (MOST_FOREIGN - l.counter) l.fn.self.tag l.rest last (g.L.Link.state l.self.inner) new
      → AsksPast MOST_FOREIGN l.fn.self.tag l.fn.wait last (g.L.Link.state l.fn.self.inner) new;
  most : l.counter ≤ MOST_FOREIGN;
  grows : Grows (g.L.Link.history l.fn.self.inner) (CameForeign l.fn.self.tag l.fn.wait l.rest l.counter) (g.L.Link.history l.self.inner);
  tag : l.self.tag ≡ l.fn.self.tag;
  life : l.self.life ≡ l.fn.self.life;
}

-- One more call of a link.
use Rattle.std.proofs.Common.{List, [], ◌∷◌, ◌++◌, refl, subst}
use Rattle.mon_link.specs.Links.{LinkState}
use Rattle.mon_link.specs.Histories.{Calls, Happened, Leads}

pub leads_on : (h : List Happened) (x : Happened) (first old new : LinkState) → Leads h first old → Calls x old new → Leads (h ++ x ∷ []) first new
leads_on [] x first old new led call = (new, subst (λ s. Calls x s new) led call, refl)
leads_on (y ∷ h) x first old new led call = (led.0, led.1, leads_on h x led.0 old new led.2 call)

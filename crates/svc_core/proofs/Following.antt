-- A cache that knows no service follows every store.
use Rattle.std.proofs.Common.{◌≡◌, Option, None, sym, subst}
use Rattle.std.specs.Prelude.{IfSome}
use Rattle.mon_msg.specs.Protocol.Readings.{Readings}
use Rattle.mon_wire.specs.declared.request.Service.{Service}
use Rattle.svc_core.specs.Cache.{Follows, IsCurrent, known}
use Rattle.svc_core.specs.declared.cache.Cache.{Cache}
use Rattle.svc_core.specs.declared.cache.Known.{Known}

pub follows_any : (c : Cache) → ((s : Service) → known c s ≡ None) → (w : Readings) → Follows c w
follows_any c none w s = subst (λ (k : Option Known). IfSome k (IsCurrent w s)) (sym (none s)) tt

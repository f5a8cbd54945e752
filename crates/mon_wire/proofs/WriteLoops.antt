-- What loops that encode need: each item has what all have, and a map that is shown is short.
use Rattle.std.proofs.Common.{◌≡◌, ℕ, zero, suc, ◌^◌, ◌<◌, List, [], ◌∷◌, length, get_or, sym, subst, arith}
use Rattle.std.specs.List.{AllByRecursion}
use Rattle.mon_wire.specs.declared.reply.ShownMap.{ShownMap}
use Rattle.mon_wire.specs.declared.reply.ShownMap.TheVariants as map
use Rattle.mon_wire.specs.declared.request.Service.{Service}
use Rattle.mon_wire.specs.declared.request.Service.TheVariants as service
use Rattle.mon_wire.specs.Message.Parts.{ShownFits, shown_length}

pub all_at : {A : Type 0} (P : A → Type 0) (xs : List A) (i : ℕ) (d : A) → AllByRecursion P xs → i < length xs → P (get_or xs i d)
all_at P [] i d each lt = absurd (omega arith)
all_at P (x ∷ xs) zero d each lt = each.0
all_at P (x ∷ xs) (suc i) d each lt = all_at P xs i d each.1 (omega arith)

pub item_has : {A : Type 0} (P : A → Type 0) (xs : List A) (i : ℕ) (x : A) → AllByRecursion P xs → i < length xs → x ≡ get_or xs i x → P x
item_has P xs i x each lt is = subst P (sym is) (all_at P xs i x each lt)

pub shown_is_short : (s : Service) (m : ShownMap) → ShownFits s m → shown_length m < 2 ^ 32
shown_is_short service.Kv (map.Kv m) h = h.1
shown_is_short service.Log (map.Log es) h = h.1
shown_is_short service.Kv (map.Log es) h = absurd h
shown_is_short service.Log (map.Kv m) h = absurd h

-- The map that is read is one of its service.
use Rattle.std.proofs.Common.{◌≡◌, ℕ, zero, suc, Bool, true, false, cond, leb, List, length, Option, Some, None, refl, ap, ◌∙◌}
use Rattle.std.specs.Option.{option_and_then, option_map}
use Rattle.map_kv.specs.Decode as kv_decode
use Rattle.map_kv.specs.Map as kv
use Rattle.map_log.specs.Decode as log_decode
use Rattle.map_log.specs.declared.inc.LogInc.{LogInc}
use Rattle.mon_tx.specs.declared.key.Key.TheVariants as key
use Rattle.mon_tx.specs.Decision.{Cell}
use Rattle.mon_msg.specs.Protocol.Maps.{empty_map, if_ok, next_map, decoded_map}
use Rattle.mon_msg.specs.Protocol.Services.{service_last, full_latest, full_map, read_on, read_map}
use Rattle.mon_msg.specs.Protocol.Readings.{Readings}
use Rattle.mon_wire.specs.declared.reply.ShownMap.{ShownMap}
use Rattle.mon_wire.specs.declared.reply.ShownMap.TheVariants as map
use Rattle.mon_wire.specs.declared.request.Service.{Service}
use Rattle.mon_wire.specs.declared.request.Service.TheVariants as service
use Rattle.svc_core.specs.Kinds.{kind}
use Rattle.svc_core.specs.Onward.{step_at}
use Rattle.svc_core.proofs.Onwards.{read-none, read-some}
use Rattle.svc_core.proofs.Starts.{read-full, read-empty}
use Rattle.svc_core.proofs.Steps.{next_kind}

step_kind : (w : Readings) (s : Service) (v : ℕ) (m x : ShownMap) → step_at w s v m ≡ Some x → kind x ≡ kind m
step_kind w s v m x e = by (w.row s (key.Version v)) e
  where
    by : (c : Cell) → option_and_then (next_map s m) c ≡ Some x → kind x ≡ kind m
    by None e = absurd cc
    by (Some bytes) e = next_kind s m bytes x e

on_kind : (w : Readings) (s : Service) (count v : ℕ) (m : ShownMap) → kind (read_on w s count v m) ≡ kind m
unfolding read_on
on_kind w s zero v m = refl
on_kind w s (suc count) v m = by (step_at w s v m) refl (λ x. on_kind w s count (suc v) x)
  where
    by : (o : Option ShownMap) → step_at w s v m ≡ o → ((x : ShownMap) → kind (read_on w s count (suc v) x) ≡ kind x) → kind (read_on w s (suc count) v m) ≡ kind m
    by None e h = ap kind (read-none w s count v m e)
    by (Some x) e h = ap kind (read-some w s count v m x e) ∙ h x ∙ step_kind w s v m x e

decoded_kind : (s : Service) (bytes : List ℕ) (m : ShownMap) → decoded_map s bytes ≡ Some m → kind m ≡ s
decoded_kind service.Kv bytes m e = by (leb (length bytes) 393216) (if_ok (kv_decode.map_of bytes)) e
  where
    by : (b : Bool) (o : Option kv.Kv) → cond b (option_map map.Kv o) None ≡ Some m → kind m ≡ service.Kv
    by true None e = absurd cc
    by true (Some x) e = let same : map.Kv x ≡ m = cc in rw (← same) refl
    by false o e = absurd cc
decoded_kind service.Log bytes m e = by (leb (length bytes) 12288) (if_ok (log_decode.map_of bytes)) e
  where
    by : (b : Bool) (o : Option (List LogInc)) → cond b (option_map map.Log o) None ≡ Some m → kind m ≡ service.Log
    by true None e = absurd cc
    by true (Some x) e = let same : map.Log x ≡ m = cc in rw (← same) refl
    by false o e = absurd cc

full_kind : (w : Readings) (s : Service) (m : ShownMap) → full_map w s ≡ Some m → kind m ≡ s
full_kind w s m e = by (leb (full_latest w s) (service_last w s)) (w.row s (key.Full (full_latest w s))) e
  where
    by : (b : Bool) (c : Cell) → cond b (option_and_then (decoded_map s) c) None ≡ Some m → kind m ≡ s
    by true None e = absurd cc
    by true (Some bytes) e = decoded_kind s bytes m e
    by false c e = absurd cc

empty_kind : (s : Service) → kind (empty_map s) ≡ s
empty_kind service.Kv = refl
empty_kind service.Log = refl

pub read_kind : (w : Readings) (s : Service) → kind (read_map w s) ≡ s
read_kind w s = by (full_map w s) refl
  where
    by : (o : Option ShownMap) → full_map w s ≡ o → kind (read_map w s) ≡ s
    by None e = ap kind (read-empty w s e) ∙ on_kind w s (service_last w s) 1 (empty_map s) ∙ empty_kind s
    by (Some m) e = ap kind (read-full w s m e) ∙ on_kind w s _ _ m ∙ full_kind w s m e

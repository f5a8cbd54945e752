-- What a command makes of the map that is read.
use Rattle.std.proofs.Common.{◌≡◌, ℕ, suc, ◌+◌, ◌≤◌, ◌%◌, Bool, true, false, cond, eqb, ltb, List, [], length, Result, Ok, Err, refl, sym, ap, ◌∙◌, arith}
use Rattle.std.proofs.lemmas.Bool.{ltb-false, le-ltb}
use Rattle.std.specs.FinMap.{insert, contains_key}
use Rattle.map_kv.specs.Made as kv_made
use Rattle.map_kv.specs.Map as kv
use Rattle.map_kv.specs.Text as kv_text
use Rattle.map_kv.specs.declared.inc.KvInc.{KvInc}
use Rattle.map_kv.specs.declared.inc.KvInc.TheVariants as kv_inc
use Rattle.map_log.specs.Made as log_made
use Rattle.map_log.specs.Text as log_text
use Rattle.map_log.specs.declared.inc.LogInc.{LogInc}
use Rattle.mon_bytes.specs.Makes.{RefusesAs}
use Rattle.mon_bytes.specs.declared.command.Command.{Command}
use Rattle.mon_bytes.specs.declared.command.Command.TheVariants as command
use Rattle.mon_bytes.specs.declared.command.CommandRefused.{CommandRefused}
use Rattle.mon_bytes.specs.declared.command.CommandRefused.TheVariants as refused
use Rattle.mon_bytes.proofs.Fields.{guard_ok, chosen_ok, ok_is}
use Rattle.mon_tx.specs.declared.key.Area.{Area}
use Rattle.mon_msg.specs.Protocol.Parts.{map_text}
use Rattle.mon_msg.specs.Protocol.Services.{service_first, service_last, read_map}
use Rattle.mon_msg.specs.Protocol.Rules.{value_ops}
use Rattle.mon_msg.specs.Protocol.Value.{service_of, made, value_of, value}
use Rattle.mon_msg.specs.Protocol.Readings.{Readings}
use Rattle.mon_msg.specs.Puts.{area_of}
use Rattle.mon_msg.specs.declared.limits.TheConstants.{FULL_EVERY}
use Rattle.mon_wire.specs.declared.reply.ShownMap.{ShownMap}
use Rattle.mon_wire.specs.declared.reply.ShownMap.TheVariants as map
use Rattle.mon_wire.specs.declared.request.Service.{Service}
use Rattle.mon_wire.specs.declared.request.Service.TheVariants as service
use Rattle.svc_core.specs.Drafts.{drafted, kv_incremental}
use Rattle.svc_core.specs.Kinds.{kind}
use Rattle.svc_core.specs.Room.{IsWithin}
use Rattle.svc_core.specs.declared.made.Draft.{Draft}
use Rattle.map_kv.proofs.Kept.{length-inserted}
use Rattle.map_kv.proofs.Removed.{length_removed}

-- the map with the incremental that is made of it isn't too long
pub made_short : (m : kv.Kv) (c : Command) (inc : KvInc) → length (kv_text.map_text m) ≤ 393216 → kv_made.made m c ≡ Ok inc → length (kv_text.map_text (kv.with_inc m inc)) ≤ 393216
made_short m (command.Set k v) inc h e =
    let p = guard_ok (ltb 65536 (length v)) (refused.TooLong (length v) 65536) _ inc e in
    let q = guard_ok (ltb 393216 (length (kv_text.map_text (insert m k v)))) (refused.MapFull (length (kv_text.map_text (insert m k v)))) (Ok (kv_inc.Set k v)) inc p.1 in
    let same = ok_is {E = CommandRefused} (kv_inc.Set k v) inc q.1 in
    rw (← same) (ltb-false _ _ q.0)
made_short m (command.Remove k) inc h e =
    let p = chosen_ok (contains_key m k) refused.NoSuch (Ok (kv_inc.Remove k)) inc e in
    let same = ok_is {E = CommandRefused} (kv_inc.Remove k) inc p.1 in
    rw (← same) (omega (arith, length_removed m k))
made_short m (command.Log t) inc h e = absurd cc

-- a set is made of a map that surely has room for it
pub set_fits : (m : ShownMap) (k v : List ℕ) (n : ℕ) → length v ≤ 65536 → n + (length k + length v + 5) ≤ 393216 → IsWithin n m → kv_incremental m (command.Set k v) ≡ Ok (kv_inc.Set k v)
set_fits (map.Kv m) k v n short room h =
    let fits : length (kv_text.map_text (insert m k v)) ≤ 393216 = omega (arith, length-inserted m k v) in
    rw (le-ltb 65536 (length v) short, le-ltb 393216 (length (kv_text.map_text (insert m k v))) fits) refl
set_fits (map.Log es) k v n short room h = absurd h

pub draft_is : (d : Draft) (incremental text : List ℕ) → d.incremental ≡ incremental → d.text ≡ text → ◌≡◌ {A = Draft} (record { incremental = incremental; text = text }) d
draft_is d incremental text p q = rw (← p, ← q) refl

-- a text that is too long is refused whatever the cluster log is
pub log_refused : (m : ShownMap) (due : Bool) (asked : ℕ) (text : List ℕ) (e : CommandRefused) → kind m ≡ service.Log → RefusesAs e (log_made.made asked text) → RefusesAs e (drafted due (made m asked (command.Log text)))
log_refused (map.Kv m) due asked text e k h = absurd cc
log_refused (map.Log es) due asked text refused.NoSuch k h = rw h refl
log_refused (map.Log es) due asked text (refused.TooLong len most) k h = rw h refl
log_refused (map.Log es) due asked text (refused.MapFull would_be) k h = rw h refl
log_refused (map.Log es) due asked text refused.OutOfMemory k h = tt

-- if no full map is due, the entry is made whatever the cluster log is
pub log_entry : (m : ShownMap) (asked : ℕ) (text : List ℕ) (inc : LogInc) → kind m ≡ service.Log → log_made.made asked text ≡ Ok inc
    → drafted false (made m asked (command.Log text)) ≡ Ok (record { incremental = log_text.inc_text inc; text = [] })
log_entry (map.Kv m) asked text inc k h = absurd cc
log_entry (map.Log es) asked text inc k h = rw h refl

-- a map's text matters only if a full map is due
text_matters : (first last : ℕ) (a : Area) (n service_first : ℕ) (incremental text : List ℕ) (due : Bool) → eqb (n % FULL_EVERY) 0 ≡ due
    → value_ops first last a n service_first incremental text ≡ value_ops first last a n service_first incremental (cond due text [])
unfolding value_ops
text_matters first last a n service_first incremental text true e = refl
text_matters first last a n service_first incremental text false e = rw e refl

made_so : (w : Readings) (c : Command) (asked : ℕ) (incremental : List ℕ) (next : ShownMap) → made (read_map w (service_of c)) asked c ≡ Ok (incremental, next) → value w c asked ≡ Ok (value_of w (service_of c) incremental next)
unfolding value
made_so w c asked incremental next e = rw e refl

pub value_made : (w : Readings) (c : Command) (asked : ℕ) (s : Service) (n : ℕ) (due : Bool) (d : Draft) → s ≡ service_of c → n ≡ service_last w s + 1 → due ≡ eqb (n % FULL_EVERY) 0
    → drafted due (made (read_map w (service_of c)) asked c) ≡ Ok d → value w c asked ≡ Ok (value_ops w.first w.last (area_of s) n (service_first w s) d.incremental d.text)
value_made w c asked s n due d same number is_due h = by (made (read_map w (service_of c)) asked c) refl h
  where
    by : (r : Result (List ℕ × ShownMap) CommandRefused) → made (read_map w (service_of c)) asked c ≡ r → drafted due r ≡ Ok d
        → value w c asked ≡ Ok (value_ops w.first w.last (area_of s) n (service_first w s) d.incremental d.text)
    by (Ok (incremental, next)) e f =
        let is : record { incremental = incremental; text = cond due (map_text next) [] } ≡ d = ok_is {E = CommandRefused} _ _ f in
        let m : n ≡ suc (service_last w s) = omega (arith, number) in
        made_so w c asked incremental next e
        ∙ rw (← same, ← m) (ap Ok (text_matters w.first w.last (area_of s) n (service_first w s) incremental (map_text next) due (sym is_due)))
        ∙ ap (λ (d : Draft). Ok (value_ops w.first w.last (area_of s) n (service_first w s) d.incremental d.text)) is
    by (Err x) e f = absurd cc

-- What the value of a command puts is the command's incremental.
use Rattle.std.proofs.Common.{◌≡◌, ℕ, suc, Bool, true, false, cond, ltb, List, [], ◌∷◌, length, Result, Ok, Err, refl, sym, ap, ◌∙◌}
use Rattle.std.specs.FinMap.{insert, contains_key}
use Rattle.mon_bytes.specs.declared.command.Command.{Command}
use Rattle.mon_bytes.specs.declared.command.Command.TheVariants as command
use Rattle.mon_bytes.specs.declared.command.CommandRefused.{CommandRefused}
use Rattle.map_kv.specs.Text as kv_text
use Rattle.mon_tx.specs.declared.op.Op.{Op}
use Rattle.mon_tx.specs.Keys.{same_area}
use Rattle.mon_tx.proofs.Ties.{same_area_itself}
use Rattle.mon_wire.specs.declared.reply.ShownMap.{ShownMap}
use Rattle.mon_wire.specs.declared.reply.ShownMap.TheVariants as map
use Rattle.mon_wire.specs.declared.request.Service.{Service}
use Rattle.mon_wire.specs.declared.request.Service.TheVariants as service
use Rattle.mon_msg.specs.Fold.{put_in}
use Rattle.mon_msg.specs.Puts.{area_of}
use Rattle.mon_msg.specs.Protocol.Parts.{map_text}
use Rattle.mon_msg.specs.Protocol.Services.{service_first, service_last, read_map}
use Rattle.mon_msg.specs.Protocol.Value.{service_of, made, value_of, value}
use Rattle.mon_msg.specs.Protocol.Readings.{Readings}
use Rattle.quorum_model.specs.Acknowledging.{kv_or_log, incremental_in}
use Rattle.quorum_model.specs.Clients.{incremental_of}
use Rattle.log_model.proofs.Puts.{puts_value}

first_same : (y x : List ℕ) (m next : ShownMap) → ◌≡◌ {A = Result (List ℕ × ShownMap) CommandRefused} (Ok (y, m)) (Ok (x, next)) → x ≡ y
first_same y x m next e =
    let pair : (y, m) ≡ (x, next) = cc in
    ap (λ (p : List ℕ × ShownMap). p.0) (sym pair)

made_is : (m : ShownMap) (asked : ℕ) (c : Command) (x : List ℕ) (next : ShownMap) → made m asked c ≡ Ok (x, next) → x ≡ incremental_of asked c
made_is (map.Kv m) asked (command.Set k v) x next e = long (ltb 65536 (length v)) refl (ltb 393216 (length (kv_text.map_text (insert m k v)))) refl
  where
    long : (a : Bool) → ltb 65536 (length v) ≡ a → (b : Bool) → ltb 393216 (length (kv_text.map_text (insert m k v))) ≡ b → x ≡ incremental_of asked (command.Set k v)
    long true p b q = let g = rw p at e in absurd cc
    long false p true q = let g = rw (p, q) at e in absurd cc
    long false p false q = let g = rw (p, q) at e in first_same (incremental_of asked (command.Set k v)) x _ next g
made_is (map.Kv m) asked (command.Remove k) x next e = there (contains_key m k) refl
  where
    there : (a : Bool) → contains_key m k ≡ a → x ≡ incremental_of asked (command.Remove k)
    there true p = let g = rw p at e in first_same (incremental_of asked (command.Remove k)) x _ next g
    there false p = let g = rw p at e in absurd cc
made_is (map.Log es) asked (command.Log t) x next e = long (ltb 1024 (length t)) refl
  where
    long : (a : Bool) → ltb 1024 (length t) ≡ a → x ≡ incremental_of asked (command.Log t)
    long true p = let g = rw p at e in absurd cc
    long false p = let g = rw p at e in first_same (incremental_of asked (command.Log t)) x _ next g
made_is (map.Kv m) asked (command.Log t) x next e = absurd cc
made_is (map.Log es) asked (command.Set k v) x next e = absurd cc
made_is (map.Log es) asked (command.Remove k) x next e = absurd cc

-- a value puts its command's incremental in the command's service, and nothing in the other
pub puts_in : (w : Readings) (c : Command) (asked : ℕ) (ops : List Op) (s : Service) → value w c asked ≡ Ok ops
    → put_in s ops ≡ cond (same_area (area_of (service_of c)) (area_of s)) (incremental_of asked c ∷ []) []
unfolding value
puts_in w c asked ops s h = by (made (read_map w (service_of c)) asked c) refl
  where
    by : (r : Result (List ℕ × ShownMap) CommandRefused) → made (read_map w (service_of c)) asked c ≡ r
        → put_in s ops ≡ cond (same_area (area_of (service_of c)) (area_of s)) (incremental_of asked c ∷ []) []
    by (Err e) p = let g = rw p at h in absurd cc
    by (Ok (x, next)) p =
        let g = rw p at h in
        let e : value_of w (service_of c) x next ≡ ops = cc in
        ap (put_in s) (sym e) ∙ puts_value s (area_of (service_of c)) w.first w.last (suc (service_last w (service_of c))) (service_first w (service_of c)) x (map_text next)
        ∙ ap (λ (y : List ℕ). cond (same_area (area_of (service_of c)) (area_of s)) (y ∷ []) []) (made_is (read_map w (service_of c)) asked c x next p)

pub puts_command : (w : Readings) (c : Command) (asked : ℕ) (ops : List Op) → value w c asked ≡ Ok ops → put_in (service_of c) ops ≡ incremental_of asked c ∷ []
puts_command w c asked ops h =
    puts_in w c asked ops (service_of c) h ∙ ap (λ b. cond b (incremental_of asked c ∷ []) []) (same_area_itself (area_of (service_of c)))

-- so that is what it says of the value
pub first_put : (w : Readings) (c : Command) (asked : ℕ) (ops : List Op) → value w c asked ≡ Ok ops → incremental_in ops ≡ (service_of c, incremental_of asked c)
first_put w (command.Set k v) asked ops h = λ i. kv_or_log (puts_in w (command.Set k v) asked ops service.Kv h i) (puts_in w (command.Set k v) asked ops service.Log h i)
first_put w (command.Remove k) asked ops h = λ i. kv_or_log (puts_in w (command.Remove k) asked ops service.Kv h i) (puts_in w (command.Remove k) asked ops service.Log h i)
first_put w (command.Log t) asked ops h = λ i. kv_or_log (puts_in w (command.Log t) asked ops service.Kv h i) (puts_in w (command.Log t) asked ops service.Log h i)

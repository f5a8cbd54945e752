-- A value has an encoding that is short enough to be proposed, whatever store it is made over.
use Rattle.std.proofs.Common.{◌≡◌, ℕ, suc, ◌≤◌, ◌^◌, Bool, true, false, ltb, List, [], ◌∷◌, ◌++◌, length, Result, Ok, Err, refl, subst, arith}
use Rattle.std.proofs.lemmas.Bool.{ltb-false}
use Rattle.std.specs.FinMap.{insert, contains_key}
use Rattle.mon_bytes.specs.declared.command.Command.{Command}
use Rattle.mon_bytes.specs.declared.command.Command.TheVariants as command
use Rattle.mon_bytes.specs.declared.command.CommandRefused.{CommandRefused}
use Rattle.map_kv.specs.Text as kv_text
use Rattle.mon_tx.specs.declared.op.Op.{Op}
use Rattle.mon_tx.specs.Decode.{HasText}
use Rattle.mon_tx.specs.Text.{text}
use Rattle.mon_wire.specs.declared.reply.ShownMap.{ShownMap}
use Rattle.mon_wire.specs.declared.reply.ShownMap.TheVariants as map
use Rattle.mon_msg.specs.Puts.{area_of}
use Rattle.mon_msg.specs.Protocol.Maps.{most_map}
use Rattle.mon_msg.specs.Protocol.Parts.{map_text}
use Rattle.mon_msg.specs.Protocol.Services.{service_first, service_last, read_map}
use Rattle.mon_msg.specs.Protocol.Records.{most_value}
use Rattle.mon_msg.specs.Protocol.Value.{service_of, made, value_of, value}
use Rattle.mon_msg.specs.Protocol.Readings.{Readings}
use Rattle.log_model.specs.LogOfValues.{IsCommand, IsValue}
use Rattle.log_model.proofs.KvSteps as kv_steps
use Rattle.log_model.proofs.LogSteps as log_steps
use Rattle.log_model.proofs.ReadMaps.{read_map_short}
use Rattle.log_model.proofs.TextSizes.{value_short, value_text}

-- an incremental and the map that it makes
abbrev AreShort : List ℕ × ShownMap → Type 0
AreShort p = (length p.0 ≤ 65797) × (length (map_text p.1) ≤ 393216)

moved : (p q : List ℕ × ShownMap) → ◌≡◌ {A = Result (List ℕ × ShownMap) CommandRefused} (Ok p) (Ok q) → AreShort p → AreShort q
moved p q e h = let same : p ≡ q = cc in subst AreShort same h

-- what a command makes of a short map is short
made_short : (c : Command) (asked : ℕ) (m : ShownMap) (made_of : List ℕ × ShownMap) → IsCommand c → length (map_text m) ≤ 393216 → made m asked c ≡ Ok made_of → AreShort made_of
made_short (command.Set k v) asked (map.Kv m) p form h e = by (ltb 65536 (length v)) refl (ltb 393216 (length (kv_text.map_text (insert m k v)))) refl
  where
    by : (a : Bool) → ltb 65536 (length v) ≡ a → (b : Bool) → ltb 393216 (length (kv_text.map_text (insert m k v))) ≡ b → AreShort p
    by true t b u = let g = rw t at e in absurd cc
    by false t true u = let g = rw (t, u) at e in absurd cc
    by false t false u = let g = rw (t, u) at e in moved _ p g (kv_steps.set_short k v form.0 (ltb-false 65536 (length v) t), ltb-false 393216 (length (kv_text.map_text (insert m k v))) u)
made_short (command.Remove k) asked (map.Kv m) p form h e = by (contains_key m k) refl
  where
    by : (a : Bool) → contains_key m k ≡ a → AreShort p
    by true t = let g = rw t at e in moved _ p g (kv_steps.remove_short k form, omega (arith, kv_steps.remove_shorter m k))
    by false t = let g = rw t at e in absurd cc
made_short (command.Log t) asked (map.Log es) p form h e = by (ltb 1024 (length t)) refl
  where
    by : (a : Bool) → ltb 1024 (length t) ≡ a → AreShort p
    by true u = let g = rw u at e in absurd cc
    by false u =
        let g = rw u at e in
        let s = log_steps.inc_short (record { rank = asked; text = t }) (ltb-false 1024 (length t) u) in
        let l = log_steps.short_trimmed (es ++ record { rank = asked; text = t } ∷ []) in
        moved _ p g (omega arith, omega arith)
made_short (command.Set k v) asked (map.Log es) p form h e = absurd cc
made_short (command.Remove k) asked (map.Log es) p form h e = absurd cc
made_short (command.Log t) asked (map.Kv m) p form h e = absurd cc

most_short : (c : Command) (l : ℕ) → l ≤ most_map (service_of c) → l ≤ 393216
most_short (command.Set k v) l h = h
most_short (command.Remove k) l h = h
most_short (command.Log t) l h = omega arith

pub any_text : (w : Readings) (older : List Op) (V : IsValue w older) → w.last ≤ 2 ^ 62 → suc (service_last w (service_of V.command)) ≤ 2 ^ 62
    → HasText older × (length (text older) ≤ most_value)
unfolding value
any_text w older V at room = by (made (read_map w (service_of V.command)) V.asked V.command) refl
  where
    by : (r : Result (List ℕ × ShownMap) CommandRefused) → made (read_map w (service_of V.command)) V.asked V.command ≡ r → HasText older × (length (text older) ≤ most_value)
    by (Err e) p = let g = rw p at V.made in absurd cc
    by (Ok (x, next)) p =
        let g = rw p at V.made in
        let is : V.newer ≡ value_of w (service_of V.command) x next = cc in
        let short = made_short V.command V.asked (read_map w (service_of V.command)) (x, next) V.form (most_short V.command _ (read_map_short w (service_of V.command))) p in
        let s = service_of V.command in (
          value_text w.first w.last (area_of s) (suc (service_last w s)) (service_first w s) x (map_text next) V.newer is at room short.0 short.1 older V.encoded,
          value_short w.first w.last (area_of s) (suc (service_last w s)) (service_first w s) x (map_text next) V.newer is at room short.0 short.1 older V.encoded,
        )

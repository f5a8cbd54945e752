-- How long the incremental of a command is at most.
use Rattle.std.proofs.Common.{◌≡◌, ℕ, ◌≤◌, ltb, List, length, Ok, IsTrue, arith, length-append}
use Rattle.std.proofs.lemmas.Bool.{ltb-false, and_parts, leb-true}
use Rattle.std.specs.FinMap.{insert, contains_key}
use Rattle.map_kv.specs.Made as kv_made
use Rattle.map_kv.specs.Map as kv
use Rattle.map_kv.specs.Text as kv_text
use Rattle.map_kv.specs.declared.inc.KvInc.{KvInc}
use Rattle.map_kv.specs.declared.inc.KvInc.TheVariants as kv_inc
use Rattle.map_log.specs.Made as log_made
use Rattle.map_log.specs.Text as log_text
use Rattle.map_log.specs.declared.inc.LogInc.{LogInc}
use Rattle.mon_bytes.specs.Texts.{is_name}
use Rattle.mon_bytes.specs.declared.command.Command.{Command}
use Rattle.mon_bytes.specs.declared.command.Command.TheVariants as command
use Rattle.mon_bytes.specs.declared.command.CommandRefused.{CommandRefused}
use Rattle.mon_bytes.specs.declared.command.CommandRefused.TheVariants as refused
use Rattle.mon_wire.specs.declared.reply.ShownMap.{ShownMap}
use Rattle.mon_wire.specs.declared.reply.ShownMap.TheVariants as map
use Rattle.svc_core.specs.Drafts.{kv_incremental}
use Rattle.mon_bytes.proofs.Fields.{guard_ok, chosen_ok, ok_is}
use Rattle.mon_bytes.proofs.Forms.{length-u32_bytes}

pub name_length : (k : List ℕ) → IsTrue (is_name k) → length k ≤ 255
name_length k h = leb-true (length k) 255 (and_parts _ _ (and_parts _ _ h).0).1

pub kv_inc_short : (m : kv.Kv) (c : Command) (inc : KvInc) → kv_text.IncFits inc → kv_made.made m c ≡ Ok inc → length (kv_text.inc_text inc) ≤ 65797
kv_inc_short m (command.Set k v) inc form e =
    let p = guard_ok (ltb 65536 (length v)) (refused.TooLong (length v) 65536) _ inc e in
    let q = guard_ok (ltb 393216 (length (kv_text.map_text (insert m k v)))) (refused.MapFull (length (kv_text.map_text (insert m k v)))) (Ok (kv_inc.Set k v)) inc p.1 in
    let same = ok_is {E = CommandRefused} (kv_inc.Set k v) inc q.1 in
    let fits = rw (← same) at form in
    rw (← same) (set_short k v fits.0 (ltb-false 65536 (length v) p.0))
  where
    set_short : (k v : List ℕ) → IsTrue (is_name k) → length v ≤ 65536 → length (kv_text.inc_text (kv_inc.Set k v)) ≤ 65797
    set_short k v name le = let n = name_length k name in simp length-append (omega (arith, length-u32_bytes (length v)))
kv_inc_short m (command.Remove k) inc form e =
    let p = chosen_ok (contains_key m k) refused.NoSuch (Ok (kv_inc.Remove k)) inc e in
    let same = ok_is {E = CommandRefused} (kv_inc.Remove k) inc p.1 in
    let fits = rw (← same) at form in
    let n = name_length k fits in rw (← same) (omega arith)
kv_inc_short m (command.Log t) inc form e = absurd cc

pub incremental_short : (m : ShownMap) (c : Command) (inc : KvInc) → kv_text.IncFits inc → kv_incremental m c ≡ Ok inc → length (kv_text.inc_text inc) ≤ 65797
incremental_short (map.Kv m) c inc form e = kv_inc_short m c inc form e
incremental_short (map.Log es) c inc form e = absurd cc

pub log_inc_short : (asked : ℕ) (text : List ℕ) (inc : LogInc) → log_made.made asked text ≡ Ok inc → length (log_text.inc_text inc) ≤ 65797
log_inc_short asked text inc e =
    let p = guard_ok (ltb 1024 (length text)) (refused.TooLong (length text) 1024) (Ok (record { rank = asked; text = text })) inc e in
    let same = ok_is {E = CommandRefused} (record { rank = asked; text = text }) inc p.1 in
    rw (← same) (entry_short (ltb-false 1024 (length text) p.0))
  where
    entry_short : length text ≤ 1024 → length (log_text.inc_text (record { rank = asked; text = text })) ≤ 65797
    entry_short le = simp length-append (omega (arith, length-u32_bytes (length text)))

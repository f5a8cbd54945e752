-- The map of a service that is read has its form, whatever the store holds, and so has what refuses a command.
use Rattle.std.proofs.Common.{◌≡◌, ℕ, zero, suc, ◌+◌, ◌-◌, ◌≤◌, ◌<◌, ◌^◌, Bool, true, false, cond, leb, ltb, List, [], ◌∷◌, ◌++◌, length, Option, Some, None, Result, Ok, Err, refl, ap, subst, arith}
use Rattle.std.proofs.lemmas.Bool.{cond_both, leb-true}
use Rattle.std.specs.Cmp.Lexicographic.{nat_list_cmp_total}
use Rattle.std.specs.FinMap.{contains_key, entries, entries_sorted, entries-insert, insert}
use Rattle.std.specs.List.{AllByRecursion}
use Rattle.std.specs.Option.{option_map, option_and_then}
use Rattle.mon_bytes.specs.declared.command.Command.{Command}
use Rattle.mon_bytes.specs.declared.command.Command.TheVariants as command
use Rattle.mon_bytes.specs.declared.command.CommandRefused.{CommandRefused}
use Rattle.mon_bytes.specs.declared.command.CommandRefused.TheVariants as refused
use Rattle.mon_bytes.specs.declared.command.MapRefused.{MapRefused}
use Rattle.map_kv.proofs.Kept as kv_kept
use Rattle.map_kv.proofs.Lengths.{length-map_text}
use Rattle.map_kv.proofs.Pairs.{size_of-put}
use Rattle.map_kv.specs.Decode as kv_decode
use Rattle.map_kv.specs.Kept.{IsPair, size_of}
use Rattle.map_kv.specs.Map as kv
use Rattle.map_kv.specs.Text as kv_text
use Rattle.map_kv.specs.declared.inc.KvInc.{KvInc}
use Rattle.map_kv.specs.declared.inc.KvInc.TheVariants as inc
use Rattle.map_log.proofs.Lengths as log_lengths
use Rattle.map_log.specs.Decode as log_decode
use Rattle.map_log.specs.Map as log
use Rattle.map_log.specs.Text.{IsEntry}
use Rattle.map_log.specs.Text as log_text
use Rattle.map_log.specs.declared.inc.LogInc.{LogInc}
use Rattle.log_model.proofs.KvSteps as kv_steps
use Rattle.log_model.proofs.LogSteps as log_steps
use Rattle.log_model.proofs.Lists.{all_map, all_both}
use Rattle.log_model.proofs.TextsWithin.{kv_within, log_within}
use Rattle.log_model.specs.LogOfValues.{IsCommand}
use Rattle.mon_tx.specs.Decision.{Cell}
use Rattle.mon_tx.specs.declared.key.Key.TheVariants as key
use Rattle.mon_wire.specs.Message.Parts.{ShownFits}
use Rattle.mon_wire.specs.declared.reply.ShownMap.{ShownMap}
use Rattle.mon_wire.specs.declared.reply.ShownMap.TheVariants as map
use Rattle.mon_wire.specs.declared.request.Service.{Service}
use Rattle.mon_wire.specs.declared.request.Service.TheVariants as service
use Rattle.mon_msg.specs.Protocol.Commands.{most_text, text_length}
use Rattle.mon_msg.specs.Protocol.Maps.{if_ok, empty_map, most_map, short_map, map_of, decoded_map, with_incremental, next_map}
use Rattle.mon_msg.specs.Protocol.Parts.{map_text}
use Rattle.mon_msg.specs.Protocol.Readings.{Readings}
use Rattle.mon_msg.specs.Protocol.Services.{service_last, full_latest, read_on, full_map, read_from, read_map}
use Rattle.mon_msg.specs.Protocol.Value.{service_of, made, made_kv, made_log, value, value_if_made}
use Rattle.mon_tx.specs.declared.op.Op.{Op}
use Rattle.mon_bounds.proofs.Sizes.{word_short}
use Rattle.mon_bounds.proofs.MapForms.{IncIs, kv_inc_is, kv_map_is, inserted_is, log_inc_is, log_map_is}

-- names and texts alone, of that service
abbrev Worded : Service → ShownMap → Type 0
Worded service.Kv (map.Kv m) = AllByRecursion IsPair (entries m)
Worded service.Log (map.Log es) = AllByRecursion IsEntry es
Worded s m = ⊥

abbrev IfWorded : Service → Option ShownMap → Type 0
IfWorded s None = Unit {0}
IfWorded s (Some m) = Worded s m

-- ---- reading

kv_next : (m : kv.Kv) (i : KvInc) → IncIs i → AllByRecursion IsPair (entries m) → length (kv_text.map_text m) ≤ 393216 → AllByRecursion IsPair (entries (kv.with_inc m i))
kv_next m (inc.Set k v) new h short = inserted_is m k v new h
kv_next m (inc.Remove k) new h short = let s = kv_steps.steps_remove m k (record { each = h; short = short }) new in let f = s.fine in f.each

-- the map is one of that service, of names and texts, and no longer than it may be
record Good (s : Service) (m : ShownMap) : Type 0 where
  worded : Worded s m
  short : length (map_text m) ≤ most_map s

with_worded : (s : Service) (m : ShownMap) (bytes : List ℕ) → Good s m → IfWorded s (with_incremental m bytes)
with_worded service.Kv (map.Kv m) bytes h = by (kv_decode.inc_of bytes) refl
  where
    by : (r : Result KvInc MapRefused) → kv_decode.inc_of bytes ≡ r → IfWorded service.Kv (option_map (λ i. map.Kv (kv.with_inc m i)) (if_ok r))
    by (Ok i) e = kv_next m i (kv_inc_is bytes i e) h.worded h.short
    by (Err f) e = tt
with_worded service.Log (map.Log es) bytes h = by (log_decode.inc_of bytes) refl
  where
    by : (r : Result LogInc MapRefused) → log_decode.inc_of bytes ≡ r → IfWorded service.Log (option_map (λ i. map.Log (log.with_inc es i)) (if_ok r))
    by (Ok i) e = log_lengths.each-trimmed (es ++ i ∷ []) (log_lengths.each-append es i h.worded (log_inc_is bytes i e))
    by (Err f) e = tt
with_worded service.Kv (map.Log es) bytes h = absurd h.worded
with_worded service.Log (map.Kv m) bytes h = absurd h.worded

abbrev IfGood : Service → Option ShownMap → Type 0
IfGood s None = Unit {0}
IfGood s (Some m) = Good s m

if_short_value : (s : Service) (o : Option ShownMap) → IfWorded s o → IfGood s (option_and_then (short_map s) o)
if_short_value s None h = tt
if_short_value s (Some m) h = by (leb (length (map_text m)) (most_map s)) refl
  where
    by : (b : Bool) → leb (length (map_text m)) (most_map s) ≡ b → IfGood s (cond b (Some m) None)
    by true e = record { worded = h; short = leb-true (length (map_text m)) (most_map s) e }
    by false e = tt

decoded_good : (s : Service) (bytes : List ℕ) → length bytes ≤ most_map s → IfGood s (map_of s bytes)
decoded_good service.Kv bytes le = by (kv_decode.map_of bytes) refl
  where
    by : (r : Result kv.Kv MapRefused) → kv_decode.map_of bytes ≡ r → IfGood service.Kv (option_map map.Kv (if_ok r))
    by (Ok m) e = let w = kv_within bytes m e in record { worded = kv_map_is bytes m e; short = omega arith }
    by (Err f) e = tt
decoded_good service.Log bytes le = by (log_decode.map_of bytes) refl
  where
    by : (r : Result (List LogInc) MapRefused) → log_decode.map_of bytes ≡ r → IfGood service.Log (option_map map.Log (if_ok r))
    by (Ok es) e = let w = log_within bytes es e in record { worded = log_map_is bytes es e; short = omega arith }
    by (Err f) e = tt

empty_good : (s : Service) → Good s (empty_map s)
empty_good service.Kv = let f = kv_steps.fine_empty in record { worded = f.each; short = f.short }
empty_good service.Log = let f = log_steps.fine_empty in record { worded = f.each; short = f.short }

module _ (w : Readings) (s : Service) where
  next_good : (m : ShownMap) (c : Cell) → Good s m → IfGood s (option_and_then (next_map s m) c)
  next_good m None h = tt
  next_good m (Some bytes) h = if_short_value s (with_incremental m bytes) (with_worded s m bytes h)

  on_good : (count v : ℕ) (m : ShownMap) → Good s m → Good s (read_on w s count v m)
  unfolding read_on
  on_good zero v m h = h
  on_good (suc count) v m h = by (option_and_then (next_map s m) (w.row s (key.Version v))) (next_good m (w.row s (key.Version v)) h) (λ next k. on_good count (suc v) next k)
    where
      by : (o : Option ShownMap) → IfGood s o → ((next : ShownMap) → Good s next → Good s (read_on w s count (suc v) next))
          → Good s (elim o as (λ _. ShownMap) [ None ↦ m | Some next ↦ read_on w s count (suc v) next ])
      by None k go = h
      by (Some next) k go = go next k

  if_good : (c : Cell) → IfGood s (option_and_then (decoded_map s) c)
  if_good None = tt
  if_good (Some bytes) = cond_both (leb (length bytes) (most_map s)) (map_of s bytes) None (IfGood s) (λ t. decoded_good s bytes (leb-true (length bytes) (most_map s) t)) (λ _. tt)

  full_good : IfGood s (full_map w s)
  full_good = cond_both (leb (full_latest w s) (service_last w s)) (option_and_then (decoded_map s) (w.row s (key.Full (full_latest w s)))) None (IfGood s)
      (λ _. if_good (w.row s (key.Full (full_latest w s)))) (λ _. tt)

  read_good : Good s (read_map w s)
  unfolding read_map
  read_good = by (full_map w s) full_good
    where
      by : (o : Option ShownMap) → IfGood s o → Good s (read_from w s o)
      by None k = on_good (service_last w s) 1 (empty_map s) (empty_good s)
      by (Some m) k = on_good (service_last w s - full_latest w s) (suc (full_latest w s)) m k

most_kv : (s : Service) → most_map s ≤ 393216
most_kv service.Kv = omega arith
most_kv service.Log = omega arith

shown_fits : (s : Service) (m : ShownMap) → Good s m → ShownFits s m
shown_fits service.Kv (map.Kv m) h =
    let l = h.short in
    let short : length (kv_text.map_text m) < 2 ^ 32 = omega arith in
    let is = kv_kept.is_short m short in
    (record { each = all_map (λ e. IsPair e × kv_text.IsShort e) kv_text.EntryFits (λ e p. (p.0.0, p.0.1, p.1)) (entries m) (all_both IsPair kv_text.IsShort (entries m) h.worded is.each); count = is.count }, short)
shown_fits service.Log (map.Log es) h =
    let l = h.short in
    let short : length (log_text.map_text es) < 2 ^ 32 = omega arith in
    (log_lengths.fits es h.worded (log_lengths.is_short es short), short)
shown_fits service.Kv (map.Log es) h = absurd h.worded
shown_fits service.Log (map.Kv m) h = absurd h.worded

-- the map that is read may be shown
pub read_shown : (w : Readings) (s : Service) → ShownFits s (read_map w s) × (length (map_text (read_map w s)) ≤ 393216)
read_shown w s = let g = read_good w s in let l = g.short in (shown_fits s (read_map w s) g, omega (arith, most_kv s))

-- ---- why a command makes no value

-- how much longer a map becomes by an entry
grown : (m : kv.Kv) (k v : List ℕ) → length (kv_text.map_text (insert m k v)) ≤ length (kv_text.map_text m) + length k + length v + 5
grown m k v =
    let p = size_of-put k v (entries m) (entries_sorted m) in
    omega (arith, p, length-map_text m, length-map_text (insert m k v), ap size_of (entries-insert nat_list_cmp_total m k v))

-- a refusal that may be sent
abbrev pub MayRefuse : CommandRefused → Type 0
MayRefuse refused.NoSuch = Unit {0}
MayRefuse (refused.TooLong len most) = (len ≤ 2 ^ 62) × (most ≤ 2 ^ 62)
MayRefuse (refused.MapFull would_be) = would_be ≤ 2 ^ 62
MayRefuse refused.OutOfMemory = ⊥

abbrev IfRefused : {A : Type 0} → Result A CommandRefused → Type 0
IfRefused (Ok x) = Unit {0}
IfRefused (Err e) = MayRefuse e

made_refused : (m : ShownMap) (asked : ℕ) (c : Command) → IsCommand c → text_length c ≤ most_text c → length (map_text m) ≤ 393216 → IfRefused (made m asked c)
made_refused (map.Kv m) asked (command.Set k v) form short h = by (ltb 65536 (length v)) refl (ltb 393216 (length (kv_text.map_text (insert m k v))))
  where
    by : (a : Bool) → ltb 65536 (length v) ≡ a → (b : Bool) → IfRefused (made_kv m (cond a (Err (refused.TooLong (length v) 65536)) (cond b (Err (refused.MapFull (length (kv_text.map_text (insert m k v))))) (Ok (inc.Set k v)))))
    by true e b = (omega arith, omega arith)
    by false e true = let g = grown m k v in let n = word_short 255 k form.0 in omega arith
    by false e false = tt
made_refused (map.Kv m) asked (command.Remove k) form short h = by (contains_key m k)
  where
    by : (b : Bool) → IfRefused (made_kv m (cond b (Ok (inc.Remove k)) (Err refused.NoSuch)))
    by true = tt
    by false = tt
made_refused (map.Kv m) asked (command.Log t) form short h = tt
made_refused (map.Log es) asked (command.Set k v) form short h = tt
made_refused (map.Log es) asked (command.Remove k) form short h = tt
made_refused (map.Log es) asked (command.Log t) form short h = by (ltb 1024 (length t))
  where
    by : (b : Bool) → IfRefused (made_log es (cond b (Err (refused.TooLong (length t) 1024)) (Ok (record { rank = asked; text = t }))))
    by true = (omega arith, omega arith)
    by false = tt

pub value_refused : (w : Readings) (c : Command) (asked : ℕ) (e : CommandRefused) → IsCommand c → text_length c ≤ most_text c → value w c asked ≡ Err e → MayRefuse e
unfolding value
value_refused w c asked e form short h = by (made (read_map w (service_of c)) asked c) (made_refused (read_map w (service_of c)) asked c form short (read_shown w (service_of c)).1) h
  where
    by : (r : Result (List ℕ × ShownMap) CommandRefused) → IfRefused r → ◌≡◌ {A = Result (List Op) CommandRefused} (value_if_made w (service_of c) r) (Err e) → MayRefuse e
    by (Ok p) k q = absurd cc
    by (Err f) k q = let same : f ≡ e = cc in subst MayRefuse same k

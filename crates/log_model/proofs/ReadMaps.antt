-- The map of a service that is read is no longer than a map may be, whatever the store holds.
use Rattle.std.proofs.Common.{◌≡◌, ℕ, zero, suc, ◌-◌, ◌≤◌, Bool, true, false, cond, leb, List, length, Option, Some, None, Result, Ok, Err, refl, arith}
use Rattle.std.proofs.lemmas.Bool.{leb-true}
use Rattle.std.specs.Option.{option_map, option_and_then}
use Rattle.mon_bytes.specs.declared.command.MapRefused.{MapRefused}
use Rattle.map_kv.specs.Decode as kv_decode
use Rattle.map_kv.specs.Map as kv
use Rattle.map_log.specs.declared.inc.LogInc.{LogInc}
use Rattle.map_log.specs.Decode as log_decode
use Rattle.mon_tx.specs.Decision.{Cell}
use Rattle.mon_tx.specs.declared.key.Key.TheVariants as key
use Rattle.mon_wire.specs.declared.reply.ShownMap.{ShownMap}
use Rattle.mon_wire.specs.declared.reply.ShownMap.TheVariants as map
use Rattle.mon_wire.specs.declared.request.Service.{Service}
use Rattle.mon_wire.specs.declared.request.Service.TheVariants.{Kv, Log}
use Rattle.mon_msg.specs.Protocol.Maps.{if_ok, empty_map, most_map, short_map, map_of, decoded_map, with_incremental, next_map}
use Rattle.mon_msg.specs.Protocol.Parts.{map_text}
use Rattle.mon_msg.specs.Protocol.Readings.{Readings}
use Rattle.mon_msg.specs.Protocol.Services.{service_last, full_latest, read_on, full_map, read_from, read_map}
use Rattle.log_model.proofs.KvSteps as kv_steps
use Rattle.log_model.proofs.LogSteps as log_steps
use Rattle.log_model.proofs.TextsWithin.{kv_within, log_within}

-- if there is a map, its encoding is no longer than this many bytes
abbrev AtMost : ℕ → Option ShownMap → Type 0
AtMost most None = Unit {0}
AtMost most (Some m) = length (map_text m) ≤ most

within : (s : Service) (bytes : List ℕ) → AtMost (length bytes) (map_of s bytes)
within Kv bytes = by (kv_decode.map_of bytes) refl
  where
    by : (r : Result kv.Kv MapRefused) → kv_decode.map_of bytes ≡ r → AtMost (length bytes) (option_map map.Kv (if_ok r))
    by (Ok m) e = kv_within bytes m e
    by (Err f) e = tt
within Log bytes = by (log_decode.map_of bytes) refl
  where
    by : (r : Result (List LogInc) MapRefused) → log_decode.map_of bytes ≡ r → AtMost (length bytes) (option_map map.Log (if_ok r))
    by (Ok es) e = log_within bytes es e
    by (Err f) e = tt

longer : (m n : ℕ) (o : Option ShownMap) → m ≤ n → AtMost m o → AtMost n o
longer m n None le h = tt
longer m n (Some x) le h = omega arith

empty_short : (s : Service) → length (map_text (empty_map s)) ≤ most_map s
empty_short Kv = let f = kv_steps.fine_empty in f.short
empty_short Log = let f = log_steps.fine_empty in f.short

module _ (w : Readings) (s : Service) where
  if_short : (m : ShownMap) → AtMost (most_map s) (short_map s m)
  if_short m = by (leb (length (map_text m)) (most_map s)) refl
    where
      by : (b : Bool) → leb (length (map_text m)) (most_map s) ≡ b → AtMost (most_map s) (cond b (Some m) None)
      by true e = leb-true (length (map_text m)) (most_map s) e
      by false e = tt

  if_next : (m : ShownMap) (c : Cell) → AtMost (most_map s) (option_and_then (next_map s m) c)
  if_next m None = tt
  if_next m (Some bytes) = by (with_incremental m bytes)
    where
      by : (o : Option ShownMap) → AtMost (most_map s) (option_and_then (short_map s) o)
      by None = tt
      by (Some next) = if_short next

  if_encoded : (c : Cell) → AtMost (most_map s) (option_and_then (decoded_map s) c)
  if_encoded None = tt
  if_encoded (Some bytes) = by (leb (length bytes) (most_map s)) refl
    where
      by : (b : Bool) → leb (length bytes) (most_map s) ≡ b → AtMost (most_map s) (cond b (map_of s bytes) None)
      by true e = longer (length bytes) (most_map s) (map_of s bytes) (leb-true (length bytes) (most_map s) e) (within s bytes)
      by false e = tt

  on_short : (count v : ℕ) (m : ShownMap) → length (map_text m) ≤ most_map s → length (map_text (read_on w s count v m)) ≤ most_map s
  unfolding read_on
  on_short zero v m h = h
  on_short (suc count) v m h = by (option_and_then (next_map s m) (w.row s (key.Version v))) (if_next m (w.row s (key.Version v))) (λ next k. on_short count (suc v) next k)
    where
      by : (o : Option ShownMap) → AtMost (most_map s) o → ((next : ShownMap) → length (map_text next) ≤ most_map s → length (map_text (read_on w s count (suc v) next)) ≤ most_map s)
          → length (map_text (elim o as (λ _. ShownMap) [ None ↦ m | Some next ↦ read_on w s count (suc v) next ])) ≤ most_map s
      by None k go = h
      by (Some next) k go = go next k

  full_short : AtMost (most_map s) (full_map w s)
  full_short = by (leb (full_latest w s) (service_last w s))
    where
      by : (b : Bool) → AtMost (most_map s) (cond b (option_and_then (decoded_map s) (w.row s (key.Full (full_latest w s)))) None)
      by true = if_encoded (w.row s (key.Full (full_latest w s)))
      by false = tt

  pub read_map_short : length (map_text (read_map w s)) ≤ most_map s
  unfolding read_map
  read_map_short = by (full_map w s) full_short
    where
      by : (o : Option ShownMap) → AtMost (most_map s) o → length (map_text (read_from w s o)) ≤ most_map s
      by None k = on_short (service_last w s) 1 (empty_map s) (empty_short s)
      by (Some m) k = on_short (service_last w s - full_latest w s) (suc (full_latest w s)) m k

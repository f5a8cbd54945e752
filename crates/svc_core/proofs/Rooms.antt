-- The key-value map surely has room, by the lengths of what it is read from.
use Rattle.std.proofs.Common.{◌≡◌, ℕ, zero, suc, ◌+◌, ◌-◌, ◌≤◌, List, length, Bool, true, false, cond, leb, Option, Some, None, Result, Ok, Err, refl, sym, ap, ◌∙◌, arith, length-append}
use Rattle.std.specs.Option.{option_and_then, option_map}
use Rattle.std.specs.Prelude.{IfSome, SomeIff}
use Rattle.map_kv.specs.Decode as kv_decode
use Rattle.map_kv.specs.Map as kv
use Rattle.map_kv.specs.Text as kv_text
use Rattle.map_kv.specs.declared.inc.KvInc.{KvInc}
use Rattle.map_kv.specs.declared.inc.KvInc.TheVariants as kv_inc
use Rattle.map_kv.proofs.Kept.{length-inserted}
use Rattle.map_kv.proofs.Laws.{inc_is_lawful, inc_is_whole, map_is_found}
use Rattle.map_kv.proofs.Removed.{length_removed}
use Rattle.mon_bytes.specs.Reading.{IsBytes}
use Rattle.mon_bytes.specs.declared.command.MapRefused.{MapRefused}
use Rattle.mon_bytes.proofs.Forms.{is_found, length-u32_bytes}
use Rattle.mon_tx.specs.Decision.{Cell}
use Rattle.mon_tx.specs.declared.key.Key.TheVariants as key
use Rattle.mon_msg.specs.Protocol.Maps.{empty_map, if_ok, short_map, next_map, decoded_map}
use Rattle.mon_msg.specs.Protocol.Services.{service_last, full_latest, full_map, read_on, read_map}
use Rattle.mon_msg.specs.Protocol.Readings.{Readings}
use Rattle.mon_wire.specs.declared.reply.ShownMap.{ShownMap}
use Rattle.mon_wire.specs.declared.reply.ShownMap.TheVariants as map
use Rattle.mon_wire.specs.declared.request.Service.TheVariants as service
use Rattle.svc_core.specs.Onward.{step_at}
use Rattle.svc_core.specs.Room.{IsWithin, IsRoom}
use Rattle.svc_core.proofs.Onwards.{read-none, read-some}
use Rattle.svc_core.proofs.Starts.{read-full, read-empty}
use Rattle.svc_core.proofs.Steps.{shortened, length-empty}

more_room : (m n : ℕ) (x : ShownMap) → m ≤ n → IsWithin m x → IsWithin n x
more_room m n (map.Kv y) le h = omega arith
more_room m n (map.Log es) le h = h

length-set : (k v : List ℕ) → length (kv_text.inc_text (kv_inc.Set k v)) ≡ length k + length v + 6
length-set k v = simp length-append (omega (arith, length-u32_bytes (length v)))

-- an incremental makes a map at most as much longer as it is long itself
inc_grows : (m : kv.Kv) (inc : KvInc) → length (kv_text.map_text (kv.with_inc m inc)) ≤ length (kv_text.map_text m) + length (kv_text.inc_text inc)
inc_grows m (kv_inc.Set k v) = omega (arith, length-inserted m k v, length-set k v)
inc_grows m (kv_inc.Remove k) = omega (arith, length_removed m k)

next_grows : (bytes : List ℕ) (n : ℕ) (m x : ShownMap) → IsBytes bytes → next_map service.Kv m bytes ≡ Some x → IsWithin n m → IsWithin (n + length bytes) x
next_grows bytes n (map.Kv y) x fits e h = by (kv_decode.inc_of bytes) refl e
  where
    by : (r : Result KvInc MapRefused) → kv_decode.inc_of bytes ≡ r → option_and_then (short_map service.Kv) (option_map (λ inc. map.Kv (kv.with_inc y inc)) (if_ok r)) ≡ Some x → IsWithin (n + length bytes) x
    by (Ok inc) f e =
        let found = is_found kv_decode.inc_format inc_is_lawful bytes (Ok inc) fits (sym (inc_is_whole bytes) ∙ f) in
        let long : length bytes ≡ length (kv_text.inc_text inc) = ap length found.1 in
        let same = (shortened service.Kv (map.Kv (kv.with_inc y inc)) x e).0 in
        rw (← same) (omega (arith, inc_grows y inc, long))
    by (Err r) f e = absurd cc
next_grows bytes n (map.Log es) x fits e h = absurd h

-- a map is no longer than the bytes that encode it
pub decoded_within : (n : ℕ) (bytes : List ℕ) → IsBytes bytes → length bytes ≤ n → IfSome (decoded_map service.Kv bytes) (IsWithin n)
decoded_within n bytes fits le = by (leb (length bytes) 393216) (kv_decode.map_of bytes) refl
  where
    by : (b : Bool) (r : Result kv.Kv MapRefused) → kv_decode.map_of bytes ≡ r → IfSome (cond b (option_map map.Kv (if_ok r)) None) (IsWithin n)
    by true (Ok x) f = omega (arith, ap length (map_is_found bytes (Ok x) fits f).1)
    by true (Err r) f = tt
    by false r f = tt

-- ---- the room before incrementals

module _ (w : Readings) where
  pub room_after_all : (most v : ℕ) → IsRoom w most 0 v most
  unfolding read_on
  room_after_all most v = record { less = omega arith; within = λ m h. h }

  -- if there is no incremental, a reading ends
  pub room_without : (room v : ℕ) → w.row service.Kv (key.Version v) ≡ None → IsRoom w room 1 v room
  room_without room v none = record { less = omega arith; within = λ m h. rw (read-none w service.Kv 0 v m (ap (option_and_then (next_map service.Kv m)) none)) h }

  pub room_with : (room v len : ℕ) (bytes : List ℕ) (before : Option ℕ) → w.row service.Kv (key.Version v) ≡ Some bytes → IsBytes bytes → len ≡ length bytes → SomeIff before (len ≤ room) (room - len)
      → IfSome before (IsRoom w room 1 v)
  unfolding read_on
  room_with room v len bytes None there fits is left = tt
  room_with room v len bytes (Some before) there fits is left = record { less = omega (arith, left.1); within = λ m h. by m h (step_at w service.Kv v m) refl }
    where
      by : (m : ShownMap) → IsWithin before m → (o : Option ShownMap) → step_at w service.Kv v m ≡ o → IsWithin room (read_on w service.Kv 1 v m)
      by m h None e = rw (read-none w service.Kv 0 v m e) (more_room before room m (omega (arith, left.1)) h)
      by m h (Some x) e =
          let next : next_map service.Kv m bytes ≡ Some x = sym (ap (option_and_then (next_map service.Kv m)) there) ∙ e in
          rw (read-some w service.Kv 0 v m x e) (more_room (before + length bytes) room x (omega (arith, left.0, left.1)) (next_grows bytes before m x fits next h))

  pub room_before : (most room before count v : ℕ) → IsRoom w room 1 v before → IsRoom w most count (suc v) room → IsRoom w most (suc count) v before
  unfolding read_on
  room_before most room before count v first rest = record { less = omega (arith, first.less, rest.less); within = λ m h. by m h (first.within m h) (step_at w service.Kv v m) refl }
    where
      by : (m : ShownMap) → IsWithin before m → IsWithin room (read_on w service.Kv 1 v m) → (o : Option ShownMap) → step_at w service.Kv v m ≡ o → IsWithin most (read_on w service.Kv (suc count) v m)
      by m h once None e = rw (read-none w service.Kv count v m e) (more_room before most m (omega (arith, first.less, rest.less)) h)
      by m h once (Some x) e = rw (read-some w service.Kv count v m x e) (rest.within x (rw (read-some w service.Kv 0 v m x e) at once))

  -- ---- the map that is read

  pub full_within : (latest n : ℕ) (c : Cell) → latest ≡ full_latest w service.Kv → w.row service.Kv (key.Full latest) ≡ c → IfSome (option_and_then (decoded_map service.Kv) c) (IsWithin n)
      → IfSome (full_map w service.Kv) (IsWithin n)
  full_within latest n c is there h = by (leb (full_latest w service.Kv) (service_last w service.Kv))
    where
      full_there : w.row service.Kv (key.Full (full_latest w service.Kv)) ≡ c
      full_there = rw is at there

      by : (b : Bool) → IfSome (cond b (option_and_then (decoded_map service.Kv) (w.row service.Kv (key.Full (full_latest w service.Kv)))) None) (IsWithin n)
      by true = rw full_there h
      by false = tt

  pub read_within : (most last latest count from room base : ℕ) → last ≡ service_last w service.Kv → latest ≡ full_latest w service.Kv → count ≡ last - latest → from ≡ suc latest
      → w.row service.Kv (key.Version 1) ≡ None → IsRoom w most count from room → base ≤ room → 4 ≤ base → IfSome (full_map w service.Kv) (IsWithin base) → IsWithin most (read_map w service.Kv)
  unfolding read_on
  read_within most last latest count from room base is_last is_latest is_count is_from none left le four full = by (full_map w service.Kv) refl full
    where
      from_first : (count : ℕ) → IsWithin most (read_on w service.Kv count 1 (empty_map service.Kv))
      from_first zero = omega (arith, length-empty, left.less)
      from_first (suc count) = rw (read-none w service.Kv count 1 (empty_map service.Kv) (ap (option_and_then (next_map service.Kv (empty_map service.Kv))) none)) (omega (arith, length-empty, left.less))

      by : (o : Option ShownMap) → full_map w service.Kv ≡ o → IfSome o (IsWithin base) → IsWithin most (read_map w service.Kv)
      by None e h = rw (read-empty w service.Kv e) (from_first (service_last w service.Kv))
      by (Some m) e h = rw (read-full w service.Kv m e, ← is_last, ← is_latest, ← is_count, ← is_from) (left.within m (more_room base room m le h))

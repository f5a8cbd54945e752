-- The outline of a map: that of a full map, after incrementals, and what a removal is made of.
use Rattle.std.proofs.Common.{◌≡◌, ℕ, suc, ◌+◌, ◌-◌, ◌<◌, ◌≤◌, Bool, true, false, cond, ◌||◌, ◌&&◌, not, List, length, Option, Some, None, is_some, Result, Ok, Err, bytes_eq, refl, sym, ap, ◌∙◌, arith}
use Rattle.std.proofs.lemmas.Bool.{le-leb}
use Rattle.std.proofs.lemmas.Map.Text.{is_eq-slice_cmp}
use Rattle.std.specs.Cmp.Lexicographic.{nat_list_cmp_total}
use Rattle.std.specs.Option.{option_map}
use Rattle.std.specs.Prelude.{IfSome}
use Rattle.std.specs.FinMap.{insert, remove, get, contains_key, get-remove}
use Rattle.map_kv.specs.Decode as kv_decode
use Rattle.map_kv.specs.Map as kv
use Rattle.map_kv.specs.Text as kv_text
use Rattle.map_kv.specs.declared.inc.KvInc.{KvInc}
use Rattle.map_kv.specs.declared.inc.KvInc.TheVariants as kv_inc
use Rattle.map_kv.proofs.Kept.{length-inserted}
use Rattle.map_kv.proofs.Laws.{map_is_found}
use Rattle.map_kv.proofs.Removed.{length_removed}
use Rattle.mon_bytes.specs.Reading.{IsBytes}
use Rattle.mon_bytes.specs.declared.command.Command.TheVariants as command
use Rattle.mon_bytes.specs.declared.command.CommandRefused.TheVariants as refused
use Rattle.mon_bytes.specs.declared.command.MapRefused.{MapRefused}
use Rattle.mon_tx.specs.declared.key.Key.TheVariants as key
use Rattle.mon_msg.specs.Protocol.Maps.{if_ok, decoded_map}
use Rattle.mon_msg.specs.Protocol.Services.{service_last, full_latest, full_map, read_on, read_map}
use Rattle.mon_msg.specs.Protocol.Readings.{Readings}
use Rattle.mon_wire.specs.declared.reply.ShownMap.{ShownMap}
use Rattle.mon_wire.specs.declared.reply.ShownMap.TheVariants as map
use Rattle.mon_wire.specs.declared.request.Service.TheVariants as service
use Rattle.svc_core.specs.Drafts.{kv_incremental}
use Rattle.svc_core.specs.Onward.{step_at}
use Rattle.svc_core.specs.Scan.{map_holds}
use Rattle.svc_core.specs.Outline.{IsOf, Outlines, OutlinesSome, Holds}
use Rattle.svc_core.specs.declared.outline.Outline.{Outline}
use Rattle.svc_core.proofs.Onwards.{IsAt, is_at_first, is_at_next, is_at_last}
use Rattle.svc_core.proofs.Scans.{holds-insert}
use Rattle.svc_core.proofs.Starts.{read-full}

holds-remove : (m : kv.Kv) (k q : List ℕ) → contains_key (remove m k) q ≡ (contains_key m q && not (bytes_eq q k))
holds-remove m k q = ap is_some (get-remove nat_list_cmp_total m k q) ∙ rw (is_eq-slice_cmp q k) (by (bytes_eq q k) (get m q))
  where
    by : (b : Bool) (o : Option (List ℕ)) → is_some (cond b None o) ≡ (is_some o && not b)
    by true None = refl
    by true (Some w) = refl
    by false None = refl
    by false (Some w) = refl

-- ---- after an incremental

pub after_set : (q : List ℕ) (o : Outline) (held : Bool) (most : ℕ) (k v : List ℕ) → held ≡ (o.held || bytes_eq q k) → o.most + (length k + length v + 5) ≤ most
    → (m : kv.Kv) → IsOf q o m → IsOf q (record { held = held; most = most }) (insert m k v)
after_set q o held most k v e le m h = record {
  held = e ∙ ap (λ (b : Bool). b || bytes_eq q k) h.held ∙ sym (holds-insert m k v q);
  within = omega (arith, length-inserted m k v, h.within, le);
}

pub after_remove : (q : List ℕ) (o : Outline) (held : Bool) (k : List ℕ) → held ≡ (o.held && not (bytes_eq q k))
    → (m : kv.Kv) → IsOf q o m → IsOf q (record { held = held; most = o.most }) (remove m k)
after_remove q o held k e m h = record {
  held = e ∙ ap (λ (b : Bool). b && not (bytes_eq q k)) h.held ∙ sym (holds-remove m k q);
  within = omega (arith, length_removed m k, h.within);
}

-- ---- of bytes

pub decoded_outlined : (q : List ℕ) (o : Outline) (bytes : List ℕ) → IsBytes bytes → length bytes ≤ 393216 → length bytes ≤ o.most
    → map_holds q (kv_decode.map_of bytes) ≡ Some o.held → OutlinesSome q o (decoded_map service.Kv bytes)
decoded_outlined q o bytes fits short le h = rw (le-leb (length bytes) 393216 short) (by (kv_decode.map_of bytes) refl h)
  where
    by : (r : Result kv.Kv MapRefused) → kv_decode.map_of bytes ≡ r → map_holds q r ≡ Some o.held → OutlinesSome q o (option_map map.Kv (if_ok r))
    by (Ok m) f h = let same : contains_key m q ≡ o.held = cc in record { held = sym same; within = omega (arith, ap length (map_is_found bytes (Ok m) fits f).1, le) }
    by (Err e) f h = absurd cc

-- ---- of what a store keeps

module _ (w : Readings) (q : List ℕ) where
  pub full_outlined : (o : Option Outline) (latest : ℕ) (bytes : List ℕ) → latest ≡ full_latest w service.Kv → latest ≤ service_last w service.Kv
      → w.row service.Kv (key.Full latest) ≡ Some bytes → IfSome o (λ o. OutlinesSome q o (decoded_map service.Kv bytes)) → IfSome o (λ o. OutlinesSome q o (full_map w service.Kv))
  full_outlined None latest bytes is le there h = tt
  full_outlined (Some o) latest bytes is le there h =
      let full_there : w.row service.Kv (key.Full (full_latest w service.Kv)) ≡ Some bytes = rw is at there in
      let not_newer : full_latest w service.Kv ≤ service_last w service.Kv = omega (arith, is, le) in
      rw (le-leb (full_latest w service.Kv) (service_last w service.Kv) not_newer, full_there) h

  stepped : (o next : Outline) (v : ℕ) (bytes : List ℕ) (inc : KvInc) → w.row service.Kv (key.Version v) ≡ Some bytes → Some inc ≡ if_ok (kv_decode.inc_of bytes)
      → ((m : kv.Kv) → IsOf q o m → IsOf q next (kv.with_inc m inc)) → next.most ≤ 393216
      → (m : ShownMap) → Outlines q o m → OutlinesSome q next (step_at w service.Kv v m)
  stepped o next v bytes inc there e after short (map.Kv m) h =
      let x = after m h in
      let fits : length (kv_text.map_text (kv.with_inc m inc)) ≤ 393216 = omega (arith, x.within, short) in
      rw (there, ← e, le-leb (length (kv_text.map_text (kv.with_inc m inc))) 393216 fits) x
  stepped o next v bytes inc there e after short (map.Log es) h = absurd h

  pub step_outlined : (o : Outline) (next : Option Outline) (v : ℕ) (bytes : List ℕ) (inc : KvInc) → w.row service.Kv (key.Version v) ≡ Some bytes → Some inc ≡ if_ok (kv_decode.inc_of bytes)
      → IfSome next (λ next. (m : kv.Kv) → IsOf q o m → IsOf q next (kv.with_inc m inc)) → IfSome next (λ next. next.most ≤ 393216)
      → IfSome next (λ next. (m : ShownMap) → Outlines q o m → OutlinesSome q next (step_at w service.Kv v m))
  step_outlined o None v bytes inc there e after short = tt
  step_outlined o (Some next) v bytes inc there e after short = stepped o next v bytes inc there e after short

  -- from a map, `i` of `count` incrementals from version v on give a map that the outline is of
  pub record ComesTo (count v i : ℕ) (from : ShownMap) (o : Outline) : Type 0 where
    pub to : ShownMap
    pub is : Outlines q o to
    pub at : IsAt w service.Kv count v from i to

  abbrev pub Comes : (full o : Outline) → (count v i : ℕ) → Type 0
  Comes full o count v i = (m : ShownMap) → Outlines q full m → ComesTo count v i m o

  pub come_first : (full : Outline) (count v : ℕ) → Comes full full count v 0
  come_first full count v = λ m h. record { to = m; is = h; at = is_at_first w service.Kv count v m }

  pub come_next : (full o next : Outline) (count v i : ℕ) → i < count → ((m : ShownMap) → Outlines q o m → OutlinesSome q next (step_at w service.Kv (v + i) m))
      → Comes full o count v i → Comes full next count v (i + 1)
  come_next full o next count v i lt step so_far = λ m h. let x = so_far m h in by m x (step_at w service.Kv (v + i) x.to) refl (step x.to x.is)
    where
      by : (m : ShownMap) (x : ComesTo count v i m o) (y : Option ShownMap) → step_at w service.Kv (v + i) x.to ≡ y → OutlinesSome q next y → ComesTo count v (i + 1) m next
      by m x (Some y) e h = record { to = y; is = h; at = is_at_next w service.Kv count v m i x.to y lt e x.at }
      by m x None e h = absurd h

  pub come_last : (full o : Outline) (count v i : ℕ) → count ≤ i → Comes full o count v i → (m : ShownMap) → Outlines q full m → Outlines q o (read_on w service.Kv count v m)
  come_last full o count v i le so_far m h = let x = so_far m h in rw (is_at_last w service.Kv count v m i x.to le x.at).0 x.is

  outlined_holds : (o : Outline) (m : ShownMap) → Outlines q o m → Holds q o.held m
  outlined_holds o (map.Kv m) h = h.held
  outlined_holds o (map.Log es) h = absurd h

  pub read_holds : (full o : Outline) (last latest from : ℕ) → last ≡ service_last w service.Kv → latest ≡ full_latest w service.Kv → from ≡ suc latest
      → OutlinesSome q full (full_map w service.Kv) → ((m : ShownMap) → Outlines q full m → Outlines q o (read_on w service.Kv (last - latest) from m)) → Holds q o.held (read_map w service.Kv)
  read_holds full o last latest from is_last is_latest is_from there on = by (full_map w service.Kv) refl there
    where
      by : (x : Option ShownMap) → full_map w service.Kv ≡ x → OutlinesSome q full x → Holds q o.held (read_map w service.Kv)
      by None e h = absurd h
      by (Some m) e h = rw (read-full w service.Kv m e, ← is_last, ← is_latest, ← is_from) (outlined_holds o (read_on w service.Kv (last - latest) from m) (on m h))

-- ---- what a removal is made of

pub removal : (m : ShownMap) (k : List ℕ) → Holds k true m → kv_incremental m (command.Remove k) ≡ Ok (kv_inc.Remove k)
removal (map.Kv m) k h = rw (← h) refl
removal (map.Log es) k h = absurd h

pub no_removal : (m : ShownMap) (k : List ℕ) → Holds k false m → kv_incremental m (command.Remove k) ≡ Err refused.NoSuch
no_removal (map.Kv m) k h = rw (← h) refl
no_removal (map.Log es) k h = absurd h

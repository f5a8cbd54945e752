-- The next map, and that it is one of the service.
use Rattle.std.proofs.Common.{◌≡◌, ℕ, ◌+◌, ◌≤◌, Bool, true, false, cond, leb, List, [], ◌∷◌, ◌++◌, length, Option, Some, None, refl, sym, ap, ◌∙◌, arith}
use Rattle.std.proofs.lemmas.Bool.{le-leb, leb-true}
use Rattle.std.specs.FinMap.{empty, entries}
use Rattle.std.specs.Option.{option_and_then, option_map}
use Rattle.map_kv.specs.Decode as kv_decode
use Rattle.map_kv.specs.Kept.{size_of}
use Rattle.map_kv.specs.Map as kv
use Rattle.map_kv.specs.Text as kv_text
use Rattle.map_kv.specs.declared.inc.KvInc.{KvInc}
use Rattle.map_kv.proofs.Kept.{entries-kept_map, none_kept}
use Rattle.map_kv.proofs.Lengths as kv_lengths
use Rattle.map_log.specs.Decode as log_decode
use Rattle.map_log.specs.Map as log
use Rattle.map_log.specs.Text as log_text
use Rattle.map_log.specs.declared.inc.LogInc.{LogInc}
use Rattle.map_log.proofs.Lengths as log_lengths
use Rattle.mon_msg.specs.Protocol.Maps.{empty_map, if_ok, most_map, short_map, with_incremental, next_map}
use Rattle.mon_msg.specs.Protocol.Parts.{map_text}
use Rattle.mon_wire.specs.declared.reply.ShownMap.{ShownMap}
use Rattle.mon_wire.specs.declared.reply.ShownMap.TheVariants as map
use Rattle.mon_wire.specs.declared.request.Service.{Service}
use Rattle.mon_wire.specs.declared.request.Service.TheVariants as service
use Rattle.svc_core.specs.Kinds.{kind, IsMapOf}
use Rattle.svc_core.proofs.MapSizes.{trimmed_short}

log_most : (s : Service) → 12288 ≤ most_map s
log_most service.Kv = omega arith
log_most service.Log = omega arith

-- an entry always gives a map of the cluster log
pub next-log : (s : Service) (es : List LogInc) (bytes : List ℕ) (inc : LogInc) → Some inc ≡ if_ok (log_decode.inc_of bytes) → next_map s (map.Log es) bytes ≡ Some (map.Log (log.with_inc es inc))
next-log s es bytes inc e =
    let short : leb (length (log_text.map_text (log.with_inc es inc))) (most_map s) ≡ true = le-leb _ _ (omega (arith, trimmed_short (es ++ inc ∷ []), log_most s)) in
    rw (sym e) (rw short refl)

-- what a step leaves
kind_kept : (m : ShownMap) (bytes : List ℕ) (x : ShownMap) → with_incremental m bytes ≡ Some x → kind x ≡ kind m
kind_kept (map.Kv m) bytes x e = by (if_ok (kv_decode.inc_of bytes)) e
  where
    by : (o : Option KvInc) → option_map (λ inc. map.Kv (kv.with_inc m inc)) o ≡ Some x → kind x ≡ service.Kv
    by None e = absurd cc
    by (Some inc) e = let same : map.Kv (kv.with_inc m inc) ≡ x = cc in rw (← same) refl
kind_kept (map.Log es) bytes x e = by (if_ok (log_decode.inc_of bytes)) e
  where
    by : (o : Option LogInc) → option_map (λ inc. map.Log (log.with_inc es inc)) o ≡ Some x → kind x ≡ service.Log
    by None e = absurd cc
    by (Some inc) e = let same : map.Log (log.with_inc es inc) ≡ x = cc in rw (← same) refl

pub shortened : (s : Service) (m x : ShownMap) → short_map s m ≡ Some x → (m ≡ x) × (length (map_text x) ≤ most_map s)
shortened s m x e = by (leb (length (map_text m)) (most_map s)) refl e
  where
    by : (b : Bool) → leb (length (map_text m)) (most_map s) ≡ b → cond b (Some m) None ≡ Some x → (m ≡ x) × (length (map_text x) ≤ most_map s)
    by true h e = let same : m ≡ x = cc in (same, rw (← same) (leb-true _ _ h))
    by false h e = absurd cc

pub next_kind : (s : Service) (m : ShownMap) (bytes : List ℕ) (x : ShownMap) → next_map s m bytes ≡ Some x → kind x ≡ kind m
next_kind s m bytes x e = by (with_incremental m bytes) refl e
  where
    by : (o : Option ShownMap) → with_incremental m bytes ≡ o → option_and_then (short_map s) o ≡ Some x → kind x ≡ kind m
    by None f e = absurd cc
    by (Some y) f e = kind_kept m bytes x (f ∙ ap Some (shortened s y x e).0)

pub next_is : (s : Service) (m : ShownMap) (bytes : List ℕ) (x : ShownMap) → next_map s m bytes ≡ Some x → IsMapOf s m → IsMapOf s x
next_is s m bytes x e h = by (with_incremental m bytes) refl e
  where
    by : (o : Option ShownMap) → with_incremental m bytes ≡ o → option_and_then (short_map s) o ≡ Some x → IsMapOf s x
    by None f e = absurd cc
    by (Some y) f e = record { kind_is = next_kind s m bytes x (ap (option_and_then (short_map s)) f ∙ e) ∙ h.kind_is; short = (shortened s y x e).1 }

pub length-empty : length (kv_text.map_text empty) ≡ 4
length-empty = kv_lengths.length-map_text empty ∙ ap (λ (es : List (List ℕ × List ℕ)). 4 + size_of es) (sym (ap entries (none_kept [] refl)) ∙ entries-kept_map [] tt)

pub empty_is : (s : Service) → IsMapOf s (empty_map s)
empty_is service.Kv = record { kind_is = refl; short = omega (arith, length-empty) }
empty_is service.Log = record { kind_is = refl; short = omega (arith, log_lengths.length-map_text []) }

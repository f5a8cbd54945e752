-- The cluster log's maps that entries make can be read back from their texts.
use Rattle.std.proofs.Common.{◌≡◌, ◌≤◌, Bool, true, false, ◌||◌, ltb, List, [], ◌∷◌, ◌++◌, length, Some, refl, arith, length-append}
use Rattle.std.proofs.lemmas.Bool.{cond_both, le-leb, ltb-false}
use Rattle.std.specs.List.{AllByRecursion}
use Rattle.mon_bytes.proofs.Forms.{length-u32_bytes}
use Rattle.map_log.specs.Map.{is_above, trimmed, with_inc}
use Rattle.map_log.specs.Text.{inc_text, map_text, IsEntry}
use Rattle.map_log.specs.declared.inc.LogInc.{LogInc}
use Rattle.map_log.proofs.Again.{inc_again, map_again}
use Rattle.map_log.proofs.Lengths.{length-map_text, each-append, each-trimmed, is_short, fits}
use Rattle.mon_wire.specs.declared.reply.ShownMap.TheVariants as shown
use Rattle.mon_wire.specs.declared.request.Service.TheVariants as service
use Rattle.mon_msg.specs.Protocol.Maps.{next_map, decoded_map}

pub record IsFine (es : List LogInc) : Type 0 where
  pub each : AllByRecursion IsEntry es
  pub short : length (map_text es) ≤ 12288

pub fine_empty : IsFine []
fine_empty = record { each = tt; short = omega (arith, length-map_text []) }

below : (e : LogInc) (es : List LogInc) → is_above (e ∷ es) ≡ false → length (map_text (e ∷ es)) ≤ 12288
below e es h = ltb-false 12288 (length (map_text (e ∷ es))) (second (ltb 500 (length (e ∷ es))) _ h)
  where
    second : (a b : Bool) → (a || b) ≡ false → b ≡ false
    second true b h = absurd cc
    second false b h = h

pub short_trimmed : (es : List LogInc) → length (map_text (trimmed es)) ≤ 12288
short_trimmed [] = omega (arith, length-map_text [])
short_trimmed (e ∷ es) = cond_both (is_above (e ∷ es)) (trimmed es) (e ∷ es) (λ z. length (map_text z) ≤ 12288) (λ h. short_trimmed es) (λ h. below e es h)

pub read_back : (es : List LogInc) → IsFine es → decoded_map service.Log (map_text es) ≡ Some (shown.Log es)
read_back es h =
    let form = fits es h.each (is_short es (let s = h.short in omega arith)) in
    rw (le-leb (length (map_text es)) 12288 h.short, map_again es form) refl

pub inc_short : (inc : LogInc) → length inc.text ≤ 1024 → length (inc_text inc) ≤ 1029
inc_short inc short = simp length-append (omega (arith, length-u32_bytes (length inc.text)))

pub record Steps (es : List LogInc) (inc : LogInc) : Type 0 where
  pub fine : IsFine (with_inc es inc)
  pub next : next_map service.Log (shown.Log es) (inc_text inc) ≡ Some (shown.Log (with_inc es inc))
  pub short : length (inc_text inc) ≤ 1029

pub steps : (es : List LogInc) (inc : LogInc) → IsFine es → IsEntry inc → length inc.text ≤ 1024 → Steps es inc
steps es inc h entry short =
    let fine : IsFine (with_inc es inc) = record { each = each-trimmed (es ++ inc ∷ []) (each-append es inc h.each entry); short = short_trimmed (es ++ inc ∷ []) } in
    record { fine = fine; short = inc_short inc short; next = rw (inc_again inc (entry.0, entry.1, omega arith), le-leb (length (map_text (with_inc es inc))) 12288 fine.short) refl }

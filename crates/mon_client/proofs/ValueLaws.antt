-- A value that a command makes is no longer than one with which a BEGIN may be sent.
use Rattle.std.proofs.Common.{◌≡◌, suc, ◌≤◌, ◌<◌, ◌^◌, Bool, true, false, ◌&&◌, cond, eqb, leb, List, length, Some, None, refl, arith}
use Rattle.std.proofs.lemmas.Bool.{leb-true, le-leb}
use Rattle.byteorder.specs.Endian.{little_number}
use Rattle.log_model.proofs.Older.{older_itself}
use Rattle.log_model.proofs.TextSizes.{value_short}
use Rattle.mon_msg.specs.Protocol.Readings.{readings_of}
use Rattle.mon_msg.specs.Protocol.Records.{may_begin, most_value}
use Rattle.mon_msg.specs.Protocol.Services.{service_first, service_last}
use Rattle.mon_msg.specs.Puts.{area_of}
use Rattle.mon_tx.specs.Decision.{Cell}
use Rattle.mon_tx.specs.Map.{Store, number_in}
use Rattle.mon_tx.specs.Text.{text}
use Rattle.mon_tx.specs.declared.op.Op.{Op}
use Rattle.mon_wire.specs.Message.Length.{message_length}
use Rattle.mon_wire.specs.declared.body.Body.TheVariants as body
use Rattle.mon_wire.specs.declared.request.Service.{Service}
use Rattle.svc_core.specs.Drafts.{IsShortValue}

number-short : (c : Cell) → number_in c ≤ 2 ^ 62
unfolding number_in
number-short None = omega arith
number-short (Some bytes) = by (eqb (length bytes) 8) (leb (little_number 8 bytes) (2 ^ 62)) refl
  where
    by : (eight fits : Bool) → leb (little_number 8 bytes) (2 ^ 62) ≡ fits → cond (eight && fits) (little_number 8 bytes) 0 ≤ 2 ^ 62
    by false fits e = omega arith
    by true false e = omega arith
    by true true e = leb-true (little_number 8 bytes) (2 ^ 62) e

last-short : (m : Store) → (readings_of m).last ≤ 2 ^ 62
unfolding readings_of
last-short m = number-short _

pub value-begins : (m : Store) (s : Service) (value : List Op) → IsShortValue (readings_of m) s value → service_last (readings_of m) s < 2 ^ 62 → may_begin value ≡ true
value-begins m s value v room =
    let w = readings_of m in
    let at = last-short m in
    let short : length (text value) ≤ most_value =
    value_short w.first w.last (area_of s) (suc (service_last w s)) (service_first w s) v.incremental v.text value v.is at (omega arith) v.short_incremental v.short_text value (older_itself value) in
    rw (le-leb (message_length 1 (body.Begin 0 0 value)) 1048576 (omega arith)) refl

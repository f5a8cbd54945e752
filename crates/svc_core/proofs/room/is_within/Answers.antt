use Rattle.std.proofs.Common.{◌≡◌, ◌+◌, ◌-◌, List, ℕ, Option, Some, None, Bor, is_some, false, sym, ◌∙◌, arith}
use Rattle.std.proofs.lemmas.Bool.{leb-true}
use Rattle.std.specs.Option.{option_copied}
use Rattle.mon_tx.specs.Decision.{Cell}
use Rattle.mon_msg.specs.Protocol.Readings.{readings_of}
use Rattle.svc_core.proofs.Rooms.{read_within}
use Rattle.svc_core.proofs.room.is_within.Goals as goal

not_there : (o : Option (Bor (List ℕ))) (c : Cell) → option_copied o ≡ c → is_some o ≡ false → c ≡ None
not_there None c e f = sym e
not_there (Some bytes) c e f = absurd cc

pub returns-in_ok-most_full-in-Some : goal.returns-in_ok-most_full-in-Some
returns-in_ok-most_full-in-Some c = λ sure.
    let last = c.last_version-last.result in
    let latest = c.full_latest-latest.result in
    read_within (readings_of c.args.kv.now) c.args.most last latest ((last + 1) - (latest + 1)) (latest + 1) c.in-Some.room c.in_ok-most_full-in-Some.field-0
    c.last_version-last.ensures.value c.full_latest-latest.ensures.value (omega arith) (omega arith)
    (not_there c.incremental.result _ c.incremental.ensures (sym c.is_some.ensures ∙ c.if-is_some.false))
    c.in-Some.ensures (leb-true _ _ sure) c.in_ok-most_full-in-Some.ensures.least c.in_ok-most_full-in-Some.ensures.full

use Rattle.std.proofs.Common.{sym, arith}
use Rattle.mon_stored.proofs.Reading.{room-none, room-kept}
use Rattle.mon_stored.proofs.records.value_fitting.Goals as goal

pub returns-then-room-lt4 : goal.returns-then-room-lt4
returns-then-room-lt4 c = sym (room-none c.args.room c.args.bytes.now (λ i. omega (arith, c.type_inv.bytes i)) (omega arith))

pub returns-then-bytes-room : goal.returns-then-bytes-room
returns-then-bytes-room c = sym (room-none c.args.room c.args.bytes.now (λ i. omega (arith, c.type_inv.bytes i)) (omega arith))

pub returns : goal.returns
returns c = room-kept c.args.room c.args.bytes.now (omega arith) c.value_in.result c.value_in.ensures.value c.value_in.ensures.bytes

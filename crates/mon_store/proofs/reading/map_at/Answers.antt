use Rattle.std.proofs.Common.{◌≡◌, eqb, true, [], arith}
use Rattle.std.proofs.lemmas.Bool.Decides.{nat_tests}
use Rattle.mon_store.specs.Decode.{entries_at, map_at}
use Rattle.mon_store.proofs.Again.{from_read}
use Rattle.mon_store.proofs.reading.map_at.Goals as goal

pub returns : goal.returns
unfolding map_at
returns c =
    let kind : eqb c.in_ok-take_u8.field-0 128 ≡ true = grind (arith, nat_tests, c.if-branch-ne-CHECKPOINT.false) in
    rw (c.in_ok-take_u8.ensures.step, kind, c.in_ok-count.ensures.step) (from_read c.entries_at.result c.entries_at.new.cursor (entries_at c.in_ok-count.count ([], []) c.take_u32.new.self) c.entries_at.ensures)

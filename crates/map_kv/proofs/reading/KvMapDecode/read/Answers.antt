use Rattle.std.proofs.Common.{[]}
use Rattle.map_kv.specs.Decode.{entries_at}
use Rattle.map_kv.proofs.Found.{from_read}
use Rattle.map_kv.proofs.reading.KvMapDecode.read.Goals as goal

pub returns-clause-value : goal.returns-clause-value
returns-clause-value c =
    rw c.in_ok-count.ensures.step (from_read c.entries_at.result c.entries_at.new.cursor (entries_at c.in_ok-count.count [] c.take_u32.new.self) c.entries_at.ensures)

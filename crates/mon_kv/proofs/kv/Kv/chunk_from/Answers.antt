use Rattle.std.proofs.Common.{eqb, map, length, sym, ap}
use Rattle.mon_kv.specs.Chunks.{shared_after, plain}
use Rattle.mon_kv.proofs.kv.Kv.chunk_from.Goals as goal

pub returns-in-Start : goal.returns-in-Start
unfolding shared_after
returns-in-Start c = rw (c.in-Start.is, ← c.allocator-alloc.ensures.start) c.run_from.ensures

pub returns-in-After : goal.returns-in-After
unfolding shared_after
returns-in-After c = rw (c.in-After.is, ← c.as_slice.ensures.value, ← c.as_slice-in-After.ensures.value) c.run_from-in-After.ensures

pub returns-in-Done : goal.returns-in-Done
unfolding shared_after
returns-in-Done c = rw c.in-Done.is (record { entries = ap (map plain) c.new.ensures.items; done = sym (ap (λ xs. eqb (length xs) 0) c.new.ensures.items) })

use Rattle.std.proofs.Common.{ap, arith, ◌∙◌, sym, drop}
use Rattle.map_log.specs.Map.{trimmed}
use Rattle.map_log.specs.Text.{size_of}
use Rattle.map_log.proofs.Lengths.{each-trimmed, size_of-trimmed}
use Rattle.map_log.proofs.map.LogMap.trim.Goals as goal

pub invariant_of-self : goal.invariant_of-self
invariant_of-self c =
    let es = c.self.inside.entries.items in
    let gone = c.surplus-gone.result.0 in
    let items = c.drop.ensures.items ∙ c.drain.ensures.kept ∙ ap (drop gone) (sym c.as_slice.ensures.value) ∙ c.surplus-gone.ensures.left ∙ ap trimmed c.as_slice.ensures.value in
    let size = ap (λ xs. size_of (trimmed xs)) c.as_slice.ensures.value in
    record {
      each = rw items (each-trimmed es c.self.invariant.each);
      sum = omega (arith, ap size_of items, size, c.surplus-gone.ensures.size);
      most = omega (arith, size, c.surplus-gone.ensures.size, size_of-trimmed es, c.self.invariant.sum, c.self.invariant.most);
    }

use Rattle.std.proofs.Common.{ap, sym, ◌∙◌, arith}
use Rattle.std.specs.FinMap.{remove}
use Rattle.map_kv.specs.Kept.{pairs, size_of}
use Rattle.map_kv.proofs.Pairs.{is_sorted-pairs, size_of-remove_entry, each-remove_entry}
use Rattle.map_kv.proofs.Kept.{removed}
use Rattle.map_kv.proofs.map.KvMap.take.Goals as goal

pub overflow_sub-self : goal.overflow_sub-self
overflow_sub-self c =
    let shrinks = size_of-remove_entry c.args.key.now c.in-Some.value c.self.inside.entries.entries (sym c.remove.ensures.value ∙ c.in-Some.is) in
    omega (arith, shrinks, c.self.invariant.sum, c.entry_size.ensures.size)

pub invariant_of-self : goal.invariant_of-self
invariant_of-self c =
    let shrinks = size_of-remove_entry c.args.key.now c.in-Some.value c.self.inside.entries.entries (sym c.remove.ensures.value ∙ c.in-Some.is) in
    let left = ap (λ es. size_of (pairs es)) c.remove.ensures.entries in
    record {
      sorted = is_sorted-pairs c.remove.new.self.entries c.remove.ensures.ordered;
      each = rw c.remove.ensures.entries (each-remove_entry _ c.self.inside.entries.entries c.self.invariant.each);
      sum = omega (arith, shrinks, left, c.self.invariant.sum, c.entry_size.ensures.size);
      most = omega (arith, c.self.invariant.most);
    }

pub returns-in-Some : goal.returns-in-Some
returns-in-Some c = removed c.args.key.now c.self.inside.entries c.remove.new.self c.self.invariant.sorted c.remove.ensures.ordered c.remove.ensures.updates ∙ ap (λ m. remove m c.args.key.now) c.self.view_is

pub returns-in_default : goal.returns-in_default
returns-in_default c = removed c.args.key.now c.self.inside.entries c.remove.new.self c.self.invariant.sorted c.remove.ensures.ordered c.remove.ensures.updates ∙ ap (λ m. remove m c.args.key.now) c.self.view_is

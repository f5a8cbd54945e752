use Rattle.std.proofs.Common.{ap, ◌∙◌, arith, string_bytes}
use Rattle.std.specs.FinMap.{insert}
use Rattle.map_kv.specs.Kept.{IsPair}
use Rattle.map_kv.proofs.Pairs.{is_sorted-pairs, each-insert_entry}
use Rattle.map_kv.proofs.Kept.{inserted, kept_size}
use Rattle.map_kv.proofs.map.KvMap.put.Goals as goal

pub returns-clause-ok : goal.returns-clause-ok
returns-clause-ok c =
    inserted (string_bytes c.into_string.result) c.args.value c.self.inside.entries c.insert.new.self c.self.invariant.sorted c.insert.ensures.ordered c.in_ok-insert.ensures.updates
    ∙ ap (λ m. insert m (string_bytes c.into_string.result) c.args.value) c.self.view_is ∙ ap (λ k. insert c.args.self.now k c.args.value) c.into_string.ensures.value

pub invariant_of-self-2 : goal.invariant_of-self-2
invariant_of-self-2 c =
    let sorted = is_sorted-pairs c.insert.new.self.entries c.insert.ensures.ordered in
    let is = inserted (string_bytes c.into_string.result) c.args.value c.self.inside.entries c.insert.new.self c.self.invariant.sorted c.insert.ensures.ordered c.in_ok-insert.ensures.updates
    ∙ ap (λ m. insert m (string_bytes c.into_string.result) c.args.value) c.self.view_is ∙ ap (λ k. insert c.args.self.now k c.args.value) c.into_string.ensures.value in
    let new : IsPair (string_bytes c.into_string.result, c.args.value) = rw c.into_string.ensures.value (c.size_with-size.ensures.name, c.size_with-size.ensures.text) in
    record {
      sorted = sorted;
      each = rw c.in_ok-insert.ensures.entries (each-insert_entry c.into_string.result c.args.value c.self.inside.entries.entries new c.self.invariant.each);
      sum = c.size_with-size.ensures.size ∙ kept_size c.insert.new.self.entries _ sorted is;
      most = omega (arith, c.if-size-gt-GREATEST.false);
    }

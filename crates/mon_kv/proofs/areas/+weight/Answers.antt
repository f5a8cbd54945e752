use Rattle.std.proofs.Common.{◌≡◌, ℕ, ◌+◌, List, length, ap, arith, rules}
use Rattle.mon_kv.specs.Tree.{entries}
use Rattle.mon_kv.proofs.Sums.{sum_by-fork}
use Rattle.mon_kv.proofs.areas.+weight.Goals as goal

pub returns-in-Fork : goal.returns-in-Fork
returns-in-Fork κs c =
    let all = sum_by-fork (λ (e : List ℕ × List ℕ). c.args.prefix_len + length e.0 + length e.1 + 16) _ _ _ _ (ap entries c.in-Fork.is) in
    let left = rw c.deref.ensures at c.weight.ensures in
    let right = rw c.deref-in-Fork-3.ensures at c.weight-in-Fork.ensures in
    let key : length c.as_slice.result.now ≡ length c.in-Fork.node.value.key = search rules in
    let value : length c.as_slice-in-Fork.result.now ≡ length c.in-Fork.node.value.value = search rules in
    omega (arith, all, left, right, key, value, c.saturating_add.ensures, c.saturating_add-in-Fork.ensures, c.saturating_add-in-Fork-2.ensures, c.saturating_add-in-Fork-3.ensures, c.saturating_add-in-Fork-4.ensures)

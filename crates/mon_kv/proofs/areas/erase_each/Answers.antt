use Rattle.std.proofs.Common.{◌≡◌, ℕ, List, not, ap, sym, subst, true, ◌∙◌, arith}
use Rattle.std.specs.Ordering.{eq_by_cmp}
use Rattle.std.specs.FinMap.Entries.{where_key, is_sorted, is_sorted-where_key}
use Rattle.mon_tx.specs.Map.{is_within}
use Rattle.mon_tx.specs.Keys.{decimal_text}
use Rattle.mon_kv.specs.Tree.{bytes_cmp, entries}
use Rattle.mon_kv.proofs.AreaLaws.{from_T, to_T}
use Rattle.mon_kv.proofs.RangeLaws.{range_none, range_more, range_end}
use Rattle.mon_kv.proofs.areas.erase_each.Goals as goal

pub loop-version-init : goal.loop-version-init
loop-version-init c = record {
  left = sym (range_none c.args.from _);
  freed = omega arith;
  low = omega arith;
  high = omega arith;
}

pub erase_version-freed-requires-clause-in_order : goal.erase_version-freed-requires-clause-in_order
erase_version-freed-requires-clause-in_order c =
    let kept = is_sorted-where_key bytes_cmp (λ x. not (is_within c.args.from c.loop-version.version x)) (entries c.args.records.now) (to_T _ c.requires.in_order) in
    subst (λ (es : List (List ℕ × List ℕ)). is_sorted bytes_cmp es ≡ true) (sym c.loop-version.invariant.left) (from_T _ kept)

pub loop-version-preserved : goal.loop-version-preserved
loop-version-preserved c =
    let i = c.loop-version.invariant in
    let h = c.loop-version-test.true in
    record {
      left = c.erase_version-freed.ensures.after ∙ ap (where_key bytes_cmp (λ x. not (eq_by_cmp bytes_cmp (decimal_text c.loop-version.version) x))) i.left ∙ range_more c.args.from c.loop-version.version _ i.low;
      freed = omega (arith, c.erase_version-freed.ensures.freed, i.freed);
      low = omega (arith, i.low);
      high = omega (arith, i.high, h);
    }

pub returns-clause-after : goal.returns-clause-after
returns-clause-after c =
    let i = c.loop-version.invariant in
    let h = c.loop-version-test.false in
    i.left ∙ range_end c.args.from c.loop-version.version c.args.to _ (omega (arith, i.low, i.high, h))

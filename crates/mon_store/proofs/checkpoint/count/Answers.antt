use Rattle.std.proofs.Common.{◌≡◌, ◌+◌, ◌<◌, length, Some, sym, subst, arith}
use Rattle.std.specs.FinMap.{len}
use Rattle.mon_store.proofs.Sizes.{few_entries}
use Rattle.mon_store.proofs.Walks.{left, count_first, fewer}
use Rattle.mon_store.proofs.checkpoint.count.Goals as goal

pub loop-next-init : goal.loop-next-init
loop-next-init c =
    let all = count_first c.args.kv.now c.next_entry-next.result c.next_entry-next.ensures.value c.next_entry-next.ensures.start in
    let h : 0 + length (left c.args.kv.now c.next_entry-next.result) ≡ len c.args.kv.now = omega (arith, all) in
    h

pub overflow_add-count : goal.overflow_add-count
overflow_add-count c =
    let so_far = subst (λ next. c.loop-next.count + length (left c.args.kv.now next) ≡ len c.args.kv.now) c.in-Some.is c.loop-next.invariant in
    omega (arith, so_far, few_entries c.args.kv.now, c.requires)

pub loop-next-smaller : goal.loop-next-smaller
loop-next-smaller c =
    let one = fewer c.args.kv.now c.in-Some.entry c.next_entry-next-in-Some.result c.next_entry-next-in-Some.ensures.value in
    let h : length (left c.args.kv.now c.next_entry-next-in-Some.result) < length (left c.args.kv.now (Some c.in-Some.entry)) = omega (arith, one) in
    subst (λ next. length (left c.args.kv.now c.next_entry-next-in-Some.result) < length (left c.args.kv.now next)) (sym c.in-Some.is) h

pub loop-next-preserved : goal.loop-next-preserved
loop-next-preserved c =
    let one = fewer c.args.kv.now c.in-Some.entry c.next_entry-next-in-Some.result c.next_entry-next-in-Some.ensures.value in
    let so_far = subst (λ next. c.loop-next.count + length (left c.args.kv.now next) ≡ len c.args.kv.now) c.in-Some.is c.loop-next.invariant in
    let h : c.loop-next.count + 1 + length (left c.args.kv.now c.next_entry-next-in-Some.result) ≡ len c.args.kv.now = omega (arith, one, so_far) in
    h

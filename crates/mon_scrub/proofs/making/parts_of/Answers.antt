use Rattle.std.proofs.Common.{◌<◌, length, Some, sym, subst, arith}
use Rattle.mon_store.proofs.Walks.{left, fewer}
use Rattle.mon_scrub.proofs.Walking.{Along, begins_along, has_room, goes_along}
use Rattle.mon_scrub.proofs.making.parts_of.Goals as goal

pub loop-next-init : goal.loop-next-init
loop-next-init c =
    let n = c.next_entry-next.ensures in
    begins_along c.args.kv.now c.last_committed-last.result c.last_committed-last.ensures.0 c.new-tallies.result c.next_entry-next.result c.new-tallies.ensures n.value n.start n.form

pub add_shared-requires-clause-few : goal.add_shared-requires-clause-few
add_shared-requires-clause-few c =
    has_room c.args.kv.now c.last_committed-last.result c.last_committed-last.ensures.0 c.loop-next.tallies c.loop-next.next c.loop-next.invariant c.requires

pub loop-next-smaller : goal.loop-next-smaller
loop-next-smaller c =
    let one = fewer c.args.kv.now c.in-Some.entry c.next_entry-next-in-Some.result c.next_entry-next-in-Some.ensures.value in
    let h : length (left c.args.kv.now c.next_entry-next-in-Some.result) < length (left c.args.kv.now (Some c.in-Some.entry)) = omega (arith, one) in
    subst (λ next. length (left c.args.kv.now c.next_entry-next-in-Some.result) < length (left c.args.kv.now next)) (sym c.in-Some.is) h

pub loop-next-preserved : goal.loop-next-preserved
loop-next-preserved c =
    let n = c.next_entry-next-in-Some.ensures in
    let a = subst (Along c.args.kv.now c.last_committed-last.result c.loop-next.tallies) c.in-Some.is c.loop-next.invariant in
    goes_along c.args.kv.now c.last_committed-last.result c.last_committed-last.ensures.0 c.loop-next.tallies _ c.in-Some.entry c.next_entry-next-in-Some.result a c.add_shared.ensures n.value c.requires n.form

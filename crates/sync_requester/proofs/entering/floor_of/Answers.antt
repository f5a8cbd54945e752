use Rattle.std.proofs.Common.{sym, ◌∙◌, arith}
use Rattle.sync_requester.proofs.EnterLaws.{floor-pending}
use Rattle.sync_requester.proofs.entering.floor_of.Goals as goal

pub returns-then-has_pending : goal.returns-then-has_pending
returns-then-has_pending c =
    let found = floor-pending c.args.stored.now (sym c.has_pending.ensures ∙ c.if-has_pending.true) in
    omega (arith, found.0, found.1, c.known.ensures, c.max.ensures, c.max-reached.ensures, c.floor.ensures, c.get.ensures.value, c.get-2.ensures.value, c.last-last.ensures.value, c.plus_one_saturating.ensures, c.get-then-has_pending.ensures.value)

use Rattle.std.proofs.Common.{Some, sym, ap, subst, ◌∙◌}
use Rattle.std.proofs.lemmas.Result.{err_from_is_err_and}
use Rattle.quorum_model.specs.Growth.{last_of}
use Rattle.mon_world.specs.Monitor.{Holds}
use Rattle.mon_world.proofs.Holding.{as_known, stands_after}
use Rattle.mon_site.specs.Times.{OpensEither}
use Rattle.mon_store.specs.Whole.{disk_a, disk_b}
use Rattle.mon_tx.specs.Map.{apply}
use Rattle.mon_world.specs.declared.monitor.Kept.{Kept}
use Rattle.mon_world.specs.Times.{Passes, a_of, b_of}
use Rattle.mon_world.proofs.monitor.Monitor.react.Goals as goal

pub react-requires-clause-up : goal.react-requires-clause-up
react-requires-clause-up c =
    let x = c.requires.up in (x.0, x.1, x.2, x.3, as_known x.0 x.1 x.2 x.3 c.args.self.now.kept c.in-Up.running c.in-Up.is x.4.holds)

pub unreachable-requires : goal.unreachable-requires
unreachable-requires c = let x = c.requires.up in subst (Holds x.0 x.1 (Some x.2) x.3) c.in-Down.is x.4.holds

pub returns-in_err-reaction-in-Up-clause-stands : goal.returns-in_err-reaction-in-Up-clause-stands
returns-in_err-reaction-in-Up-clause-stands c me m s f stands =
    let p = err_from_is_err_and c.from_residual.result c.from_residual.ensures.1 in
    rw (p.1, p.2) (c.in_err-reaction-in-Up.ensures.reacts me m s f (as_known me m s f c.args.self.now.kept c.in-Up.running c.in-Up.is stands.holds))

pub returns-clause-stands : goal.returns-clause-stands
returns-clause-stands c me m s f stands =
    let self = c.args.self.now in
    let up = as_known me m s f self.kept c.in-Up.running c.in-Up.is stands.holds in
    stands_after me c.args.now m s f c.args.input.now self c.react.new.self c.in_ok-reaction-in-Up.reaction c.last_of-self.result stands.me_is (c.in_ok-reaction-in-Up.ensures.reacts me m s f up) (c.last_of-self.ensures ∙ ap last_of c.kv.ensures)

pub returns-clause-passes : goal.returns-clause-passes
returns-clause-passes c me m s f stands =
    let self = c.args.self.now in
    let up = as_known me m s f self.kept c.in-Up.running c.in-Up.is stands.holds in
    let new = c.react.new.self in
    let tx = c.in_ok-reaction-in-Up.reaction.tx in
    subst (λ (k : Kept). Passes (OpensEither me.member m (apply tx m)) (a_of k) (b_of k) (disk_a new.store) (disk_b new.store)) (sym c.in-Up.is)
    (c.in_ok-reaction-in-Up.ensures.passes me m s f up)

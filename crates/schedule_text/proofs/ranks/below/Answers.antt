use Rattle.std.proofs.Common.{◌≡◌, ◌+◌, ◌-◌, ◌&&◌, ltb, sym, ap, subst, ◌∙◌}
use Rattle.mon_types.specs.Ranks.{has, with_rank}
use Rattle.schedule_text.proofs.RankLaws.{at_end, Keeping, keeping_begins, keeping_taken, keeping_left, keeping_ends}
use Rattle.schedule_text.proofs.ranks.below.Goals.{then-is_below, else-is_below}
use Rattle.schedule_text.proofs.ranks.below.Goals as goal

pub loop-n-init : goal.loop-n-init
loop-n-init c = rw c.empty-kept.ensures (keeping_begins c.args.monitors c.args.set)

pub loop-n-preserved : goal.loop-n-preserved
loop-n-preserved c =
    let n = c.args.monitors in
    let r = c.loop-n.n in
    let set = c.args.set in
    let test : c.is_below.result ≡ (ltb r n && has set r) = c.is_below.ensures ∙ ap (λ k. ltb k n && has set k) c.known-rank.ensures in
    elim c.if-is_below.branch [
      | then-is_below w ↦
          let kept = w.kept-is ∙ w.with-kept.ensures ∙ ap (with_rank c.loop-n.kept) c.known-rank.ensures in
          subst (λ s. Keeping n (r + 1) (15 - (r + 1)) s set) (sym kept) (keeping_taken n r c.loop-n.kept set c.loop-n-test.true (sym test ∙ w.if-is_below.true) c.loop-n.invariant)
      | else-is_below w ↦
          subst (λ s. Keeping n (r + 1) (15 - (r + 1)) s set) (sym w.kept-is) (keeping_left n r c.loop-n.kept set c.loop-n-test.true (sym test ∙ w.if-is_below.false) c.loop-n.invariant)
    ]

pub returns : goal.returns
returns c = keeping_ends c.args.monitors c.loop-n.kept c.args.set (at_end (λ k m. Keeping c.args.monitors k m c.loop-n.kept c.args.set) c.loop-n.n c.loop-n-test.false c.loop-n.auto.n-end c.loop-n.invariant)

use Rattle.std.proofs.Common.{◌≡◌, ℕ, Bool, not, ◌==◌, [], ◌∷◌, ◌++◌, filter, sym, ap, ◌∙◌, arith}
use Rattle.std.specs.List.{range_with_len}
use Rattle.mon_plan.proofs.Loops.{ranks-skips, ranks-takes}
use Rattle.mon_plan.proofs.sends.others.Goals as goal

pub loop-r-preserved-then-not-is_other : goal.loop-r-preserved-then-not-is_other
loop-r-preserved-then-not-is_other c =
    let p : ℕ → Bool = λ k. not (k == c.args.me.now.member.rank) in
    (c.loop-r.invariant.0 ∙ sym (ranks-skips p c.loop-r.r (sym (ap p c.known-rank.ensures) ∙ sym c.is_other.ensures ∙ c.if-not-is_other.true)), omega (arith, c.loop-r-test.true))

pub loop-r-preserved : goal.loop-r-preserved
loop-r-preserved c =
    let p : ℕ → Bool = λ k. not (k == c.args.me.now.member.rank) in
    (c.in_ok-push.ensures.items ∙ (λ i. c.loop-r.invariant.0 i ++ c.known-rank.ensures i ∷ []) ∙ sym (ranks-takes p c.loop-r.r (sym (ap p c.known-rank.ensures) ∙ sym c.is_other.ensures ∙ c.if-not-is_other.false)), omega (arith, c.loop-r-test.true))

pub returns : goal.returns
returns c =
    let p : ℕ → Bool = λ k. not (k == c.args.me.now.member.rank) in
    let end : c.loop-r.r ≡ c.args.me.now.member.monitors = omega (arith, c.loop-r.invariant.1, c.loop-r-test.false) in
    c.loop-r.invariant.0 ∙ ap (λ n. filter p (range_with_len 0 n)) end

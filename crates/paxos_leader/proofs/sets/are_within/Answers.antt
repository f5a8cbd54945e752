use Rattle.std.proofs.Common.{◌≡◌, ℕ, Bool, not, ◌||◌, add-one, sym, ap, ◌∙◌, arith}
use Rattle.std.specs.List.{range_with_len, list_all}
use Rattle.mon_types.specs.Ranks.{has}
use Rattle.paxos_leader.proofs.Within.{all-next, not-all}
use Rattle.paxos_leader.proofs.sets.are_within.Goals as goal

pub returns-then-not-is_kept : goal.returns-then-not-is_kept
returns-then-not-is_kept c =
    let p : ℕ → Bool = λ k. not (has c.args.these k) || has c.args.those k in
    sym (not-all p 0 c.args.me.now.member.monitors c.loop-r.r (omega arith) (omega (arith, c.loop-r-test.true)) (sym (ap p c.known.ensures) ∙ sym c.is_kept.ensures ∙ c.if-not-is_kept.true))

pub loop-r-preserved : goal.loop-r-preserved
loop-r-preserved c =
    let p : ℕ → Bool = λ k. not (has c.args.these k) || has c.args.those k in (
      ap (λ n. list_all p (range_with_len 0 n)) (add-one c.loop-r.r)
          ∙ all-next p 0 c.loop-r.r c.loop-r.r (omega arith) c.loop-r.invariant.0 (sym (ap p c.known.ensures) ∙ sym c.is_kept.ensures ∙ c.if-not-is_kept.false),
      omega (arith, c.loop-r-test.true),
    )

pub returns : goal.returns
returns c =
    let p : ℕ → Bool = λ k. not (has c.args.these k) || has c.args.those k in
    let end : c.loop-r.r ≡ c.args.me.now.member.monitors = omega (arith, c.loop-r.invariant.1, c.loop-r-test.false) in
    sym c.loop-r.invariant.0 ∙ ap (λ n. list_all p (range_with_len 0 n)) end

use Rattle.std.proofs.Common.{◌≡◌, length, decimal, sym, ap, ◌∙◌, arith}
use Rattle.schedule_text.specs.Ranks.{separated, ranks_text}
use Rattle.schedule_text.proofs.RankLaws.{named, named_text, one_counted, same_length, short_ranks}
use Rattle.schedule_text.proofs.length.ranks_len.Goals as goal

pub loop-rank-init : goal.loop-rank-init
loop-rank-init c =
    let ranks = ap (λ rs. length (separated 44 (named rs))) (c.into_iter-rank-iterator.ensures.into_iter_gives ∙ c.iter-rank-items.ensures) in
    let text = ap (λ t. length (separated 44 t)) (sym (named_text c.args.set)) in
    omega (arith, ranks, text, same_length (ranks_text c.args.set))

pub overflow_add-len-in-loop-rank : goal.overflow_add-len-in-loop-rank
overflow_add-len-in-loop-rank c = omega (arith, c.loop-rank.invariant, short_ranks c.args.set, c.decimal_len.ensures.most)

pub loop-rank-preserved : goal.loop-rank-preserved
loop-rank-preserved c =
    let digits : c.decimal_len.result ≡ length (decimal c.in-Some.rank) =
    c.decimal_len.ensures.value ∙ ap (λ r. length (decimal r)) (c.from.ensures ∙ c.get.ensures.value) in
    let step = one_counted c.in-Some.rank c.next.new.self c.loop-rank.len in
    let ranks = ap (λ rs. length (separated 44 (named rs))) c.in-Some.ensures.steps in
    omega (arith, digits, step, ranks, c.loop-rank.invariant)

pub returns-clause-value : goal.returns-clause-value
returns-clause-value c =
    let ranks = ap (λ rs. length (separated 44 (named rs))) c.in-None.ensures.steps.0 in
    omega (arith, ranks, c.loop-rank.invariant)

pub returns-clause-most : goal.returns-clause-most
returns-clause-most c = omega (arith, c.loop-rank.invariant, short_ranks c.args.set)

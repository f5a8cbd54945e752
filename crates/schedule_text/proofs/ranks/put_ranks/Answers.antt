use Rattle.std.proofs.Common.{◌++◌, append-nil, string_bytes, sym, ap, ◌∙◌}
use Rattle.schedule_text.specs.Ranks.{separated, separator}
use Rattle.schedule_text.proofs.RankLaws.{named, named_text, one_written}
use Rattle.schedule_text.proofs.ranks.put_ranks.Goals as goal

pub loop-rank-init : goal.loop-rank-init
loop-rank-init c =
    ap (λ rs. string_bytes c.args.out.now ++ separated 61 (named rs)) (c.into_iter-rank-iterator.ensures.into_iter_gives ∙ c.iter-rank-items.ensures)
    ∙ ap (λ text. string_bytes c.args.out.now ++ separated 61 text) (sym (named_text c.args.set))

pub loop-rank-preserved : goal.loop-rank-preserved
loop-rank-preserved c =
    let first = c.loop-rank.first in
    let before = string_bytes c.loop-rank.out in
    let others = c.next.new.self in
    ap (λ out. out ++ separated 44 (named others)) c.in_ok-put_rank.ensures
    ∙ one_written first c.in-Some.rank others before
    ∙ ap (λ rs. before ++ separated (separator first) (named rs)) (sym c.in-Some.ensures.steps)
    ∙ c.loop-rank.invariant

pub returns : goal.returns
returns c =
    let before = string_bytes c.loop-rank.out in
    sym (append-nil before)
    ∙ ap (λ rs. before ++ separated (separator c.loop-rank.first) (named rs)) (sym c.in-None.ensures.steps.0)
    ∙ c.loop-rank.invariant

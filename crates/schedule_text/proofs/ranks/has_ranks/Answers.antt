use Rattle.std.proofs.Common.{◌≡◌, ℕ, List, Option, Some, None, sym, ap, ◌∙◌}
use Rattle.std.specs.Prelude.{is_some}
use Rattle.std.specs.Iterator.{YieldsFirst}
use Rattle.schedule_text.proofs.RankLaws.{named, named_text}
use Rattle.schedule_text.proofs.ranks.has_ranks.Goals as goal

first_is : (ranks others : List ℕ) (first : Option ℕ) → YieldsFirst (λ r. r) ranks first others → is_some first ≡ is_some (named ranks)
first_is ranks others None e = ap (λ rs. is_some (named rs)) (sym e.0)
first_is ranks others (Some r) e = ap (λ rs. is_some (named rs)) (sym e)

pub returns : goal.returns
returns c =
    c.is_some.ensures ∙ first_is c.iter.result c.next.new.self c.next.result c.next.ensures.steps
    ∙ ap (λ rs. is_some (named rs)) c.iter.ensures ∙ ap is_some (sym (named_text c.args.set))

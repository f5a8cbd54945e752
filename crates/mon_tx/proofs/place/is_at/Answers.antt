use Rattle.std.proofs.Common.{◌&&◌, ◌∙◌}
use Rattle.std.specs.Cmp.{tied_then}
use Rattle.std.specs.Cmp.Lexicographic.{slice_cmp, texts_ties}
use Rattle.std.specs.Ordering.{nat_cmp}
use Rattle.mon_tx.proofs.place.is_at.Goals as goal

pub returns : goal.returns
returns c =
    rw (c.eq-same_prefix.ensures, c.eq-same_key.ensures)
    ((λ i. texts_ties c.args.prefix.now c.args.other_prefix.now i && texts_ties c.args.key.now c.args.other_key.now i)
    ∙ tied_then (slice_cmp nat_cmp c.args.prefix.now c.args.other_prefix.now) (slice_cmp nat_cmp c.args.key.now c.args.other_key.now))

use Rattle.std.proofs.Common.{◌&&◌, sym, ◌∙◌}
use Rattle.std.specs.Str.{bytes_eq}
use Rattle.mon_tx.specs.Keys.{covers}
use Rattle.mon_msg.specs.Joined.{takes_away}
use Rattle.mon_stored.proofs.Standing.{range_takes}
use Rattle.mon_stored.proofs.stored.takes_away.Goals as goal

pub returns-in-EraseRange : goal.returns-in-EraseRange
returns-in-EraseRange c =
    (λ i. c.eq-same_prefix.ensures i && c.covers.ensures i)
    ∙ (λ i. bytes_eq c.args.at.now.prefix.now (c.as_slice-in-EraseRange.ensures.value i) && covers (c.get.ensures.value i) (c.get-in-EraseRange.ensures.value i) c.args.at.now.key)
    ∙ range_takes c.args.at.now.prefix.now c.in-EraseRange.prefix c.in-EraseRange.from c.in-EraseRange.to c.args.at.now.key
    ∙ (λ i. takes_away (c.args.at.now.prefix.now, sym c.requires i) (sym c.in-EraseRange.is i))

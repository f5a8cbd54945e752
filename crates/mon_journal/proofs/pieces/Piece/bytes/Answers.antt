use Rattle.std.proofs.Common.{◌∙◌}
use Rattle.mon_journal.proofs.Looking.{cut_piece}
use Rattle.mon_journal.proofs.pieces.Piece.bytes.Goals as goal

pub returns-clause-bytes : goal.returns-clause-bytes
returns-clause-bytes g c =
    cut_piece (g.D.Disk.state c.reach.new.disk) c.reach.new.self (g.D.Disk.state c.args.disk.now).content.seen c.args.at c.args.count c.in_ok-copied.field-0.items c.in_ok-reach.ensures.on c.in_ok-reach.ensures.disk.seen c.in_ok-reach.ensures.from c.in_ok-reach.ensures.to
    (c.in_ok-copied.ensures ∙ c.get.ensures.bytes)

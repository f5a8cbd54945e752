use Rattle.std.proofs.Common.{◌+◌, refl, ◌∙◌, arith}
use Rattle.mon_journal.proofs.Heads.{past, shut, cut_in_length, cut_in_payload, whole}
use Rattle.mon_journal.proofs.Looking.{cut_piece}
use Rattle.mon_journal.proofs.records.length_at.Goals as goal

pub returns-then-at-end-clause-head : goal.returns-then-at-end-clause-head
returns-then-at-end-clause-head g c = past (g.D.Disk.state c.args.disk.now).content.seen c.args.piece.now.end c.args.at c.requires.on.long (omega (arith, c.end.ensures, c.if-at-end.true))

pub returns-then-get-ne1-clause-head : goal.returns-then-get-ne1-clause-head
returns-then-get-ne1-clause-head g c =
    let s = (g.D.Disk.state c.args.disk.now).content.seen in
    let first = c.in_ok-reach.ensures in
    let byte = cut_piece (g.D.Disk.state c.reach.new.disk) c.reach.new.self s c.args.at 1 c.get.result.now first.on first.disk.seen first.from first.to c.get.ensures.bytes in
    shut s c.args.piece.now.end c.args.at c.get.result.now _ refl c.get.ensures.length byte c.if-get-ne1.true

pub returns-then-left-lt4-clause-head : goal.returns-then-left-lt4-clause-head
returns-then-left-lt4-clause-head g c =
    let s = (g.D.Disk.state c.args.disk.now).content.seen in
    let first = c.in_ok-reach.ensures in
    let byte = cut_piece (g.D.Disk.state c.reach.new.disk) c.reach.new.self s c.args.at 1 c.get.result.now first.on first.disk.seen first.from first.to c.get.ensures.bytes in
    cut_in_length s c.args.piece.now.end c.args.at c.get.result.now _ refl c.get.ensures.length byte c.if-get-ne1.false c.requires.on.long
    (omega (arith, c.end.ensures, c.if-at-end.false, c.end-2.ensures, first.end, c.if-left-lt4.true))

pub returns-then-length-left-clause-head : goal.returns-then-length-left-clause-head
returns-then-length-left-clause-head g c =
    let s = (g.D.Disk.state c.args.disk.now).content.seen in
    let first = c.in_ok-reach.ensures in
    let second = c.in_ok-reach-2.ensures in
    let byte = cut_piece (g.D.Disk.state c.reach.new.disk) c.reach.new.self s c.args.at 1 c.get.result.now first.on first.disk.seen first.from first.to c.get.ensures.bytes in
    let four = cut_piece (g.D.Disk.state c.reach-2.new.disk) c.reach-2.new.self s (c.args.at + 1) 4 c.get-2.result.now second.on (second.disk.seen ∙ first.disk.seen) second.from second.to c.get-2.ensures.bytes in
    cut_in_payload s c.args.piece.now.end c.args.at c.get.result.now _ refl c.get.ensures.length byte c.if-get-ne1.false c.requires.on.long c.get-2.result.now four c.read_u32-length.result c.read_u32-length.ensures
    (omega (arith, c.end.ensures, c.if-at-end.false, c.end-2.ensures, first.end, c.if-left-lt4.false))
    (omega (arith, c.end.ensures, c.if-at-end.false, c.end-2.ensures, first.end, c.if-left-lt4.false, c.if-length-left.true))

pub returns-clause-head : goal.returns-clause-head
returns-clause-head g c =
    let s = (g.D.Disk.state c.args.disk.now).content.seen in
    let first = c.in_ok-reach.ensures in
    let second = c.in_ok-reach-2.ensures in
    let byte = cut_piece (g.D.Disk.state c.reach.new.disk) c.reach.new.self s c.args.at 1 c.get.result.now first.on first.disk.seen first.from first.to c.get.ensures.bytes in
    let four = cut_piece (g.D.Disk.state c.reach-2.new.disk) c.reach-2.new.self s (c.args.at + 1) 4 c.get-2.result.now second.on (second.disk.seen ∙ first.disk.seen) second.from second.to c.get-2.ensures.bytes in
    whole s c.args.piece.now.end c.args.at c.get.result.now _ refl c.get.ensures.length byte c.if-get-ne1.false c.requires.on.long c.get-2.result.now four c.read_u32-length.result c.read_u32-length.ensures
    (omega (arith, c.end.ensures, c.if-at-end.false, c.end-2.ensures, first.end, c.if-left-lt4.false))
    (omega (arith, c.end.ensures, c.if-at-end.false, c.end-2.ensures, first.end, c.if-left-lt4.false, c.if-length-left.false))

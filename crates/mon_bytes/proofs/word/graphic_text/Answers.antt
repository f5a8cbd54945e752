use Rattle.mon_bytes.proofs.Ascii.{IsUtf8-graphic}
use Rattle.mon_bytes.proofs.word.graphic_text.Goals as goal

pub unreachable-requires : goal.unreachable-requires
unreachable-requires c =
    let lost = c.in-Err.ensures.succeeds (IsUtf8-graphic c.args.bytes.items c.requires) in
    absurd cc

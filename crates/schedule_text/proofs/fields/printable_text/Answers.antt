use Rattle.schedule_text.proofs.FieldLaws.{is_utf8-printable}
use Rattle.schedule_text.proofs.fields.printable_text.Goals as goal

pub unreachable-requires : goal.unreachable-requires
unreachable-requires c =
    let utf8 = is_utf8-printable c.args.bytes.now c.requires in
    let lost = rw (c.in_ok-from_slice.ensures.items, utf8) at c.in-None.ensures.valid in
    absurd cc

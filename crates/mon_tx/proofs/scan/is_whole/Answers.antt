use Rattle.std.proofs.Common.{length, sym, ◌∙◌}
use Rattle.mon_tx.proofs.Over.{no_format, no_count, no_changes, all_read, left_over, of_first, of_second}
use Rattle.mon_tx.proofs.scan.is_whole.Goals as goal

pub returns-in_default : goal.returns-in_default
returns-in_default c = sym (no_format c.args.cursor.now c.in_default.field-0 c.in_default.ensures)

pub returns-in_default-take_u32 : goal.returns-in_default-take_u32
returns-in_default-take_u32 c = sym (no_count c.args.cursor.now (c.in-Ok.format, c.format_at.new.cursor) c.in_default-take_u32.field-0 c.in-Ok.ensures c.in_default-take_u32.ensures.step.0)

pub returns-in_default-ranges_at : goal.returns-in_default-ranges_at
returns-in_default-ranges_at c =
    sym (no_changes c.args.cursor.now (c.in-Ok.format, c.format_at.new.cursor) (c.in-Ok-take_u32.count, c.take_u32.new.self) c.in_default-ranges_at.field-0 c.in-Ok.ensures c.in-Ok-take_u32.ensures.step c.in_default-ranges_at.ensures)

pub returns-then-left-ne0 : goal.returns-then-left-ne0
returns-then-left-ne0 c =
    sym (all_read c.args.cursor.now (c.in-Ok.format, c.format_at.new.cursor) (c.in-Ok-take_u32.count, c.take_u32.new.self) (c.in-Ok-ranges_at.range, c.ranges_at.new.cursor) c.in-Ok.ensures c.in-Ok-take_u32.ensures.step c.in-Ok-ranges_at.ensures
    ∙ left_over (length c.ranges_at.new.cursor.rest) c.in-Ok.format c.in-Ok-ranges_at.range (λ none. c.if-left-ne0.true (c.left.ensures ∙ none)))

pub returns-then-format-ne2 : goal.returns-then-format-ne2
returns-then-format-ne2 c =
    sym (all_read c.args.cursor.now (c.in-Ok.format, c.format_at.new.cursor) (c.in-Ok-take_u32.count, c.take_u32.new.self) (c.in-Ok-ranges_at.range, c.ranges_at.new.cursor) c.in-Ok.ensures c.in-Ok-take_u32.ensures.step c.in-Ok-ranges_at.ensures
    ∙ of_first (length c.ranges_at.new.cursor.rest) c.in-Ok.format c.in-Ok-ranges_at.range (sym c.left.ensures ∙ c.if-left-ne0.false) c.if-format-ne2.true)

pub returns-else-format-ne2 : goal.returns-else-format-ne2
returns-else-format-ne2 c =
    sym (all_read c.args.cursor.now (c.in-Ok.format, c.format_at.new.cursor) (c.in-Ok-take_u32.count, c.take_u32.new.self) (c.in-Ok-ranges_at.range, c.ranges_at.new.cursor) c.in-Ok.ensures c.in-Ok-take_u32.ensures.step c.in-Ok-ranges_at.ensures
    ∙ of_second (length c.ranges_at.new.cursor.rest) c.in-Ok.format c.in-Ok-ranges_at.range (sym c.left.ensures ∙ c.if-left-ne0.false) c.if-format-ne2.false)

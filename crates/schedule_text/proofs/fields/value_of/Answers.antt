use Rattle.std.proofs.lemmas.Str.{IsUtf8-from_ascii}
use Rattle.schedule_text.specs.Fields.{digit}
use Rattle.mon_bytes.proofs.Ascii.{IsAscii-from_all}
use Rattle.schedule_text.proofs.Numerals.{digit_low, numeral_digits, too_great}
use Rattle.schedule_text.proofs.fields.value_of.Goals as goal

pub unreachable-requires : goal.unreachable-requires
unreachable-requires c =
    c.in_default.ensures.cases.0 (IsUtf8-from_ascii c.args.field.now (IsAscii-from_all digit digit_low c.args.field.now (numeral_digits c.args.field.now c.requires)))

pub returns-in-Err-clause-none : goal.returns-in-Err-clause-none
returns-in-Err-clause-none c =
    too_great c.args.field.now c.parse.result c.in-Err.field-0 c.requires (rw (← c.in-Ok.ensures.cases.0) c.parse.ensures.value.0) c.in-Err.is

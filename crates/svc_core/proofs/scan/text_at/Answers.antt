use Rattle.std.proofs.Common.{refl}
use Rattle.std.proofs.lemmas.Str.{is_utf8-from_IsUtf8}
use Rattle.mon_bytes.specs.Forms.{text_at}
use Rattle.svc_core.proofs.scan.text_at.Goals as goal

pub returns : goal.returns
unfolding text_at
returns c = rw (c.in-Ok.ensures.step, c.in-Ok-take_bytes.ensures.step, is_utf8-from_IsUtf8 c.in-Ok-take_bytes.text.now c.in-Ok-from_utf8.ensures.cases.1) refl

use Rattle.std.proofs.Common.{◌≡◌, ℕ, Vec, Global, true, false, ap, sym, ◌∙◌}
use Rattle.std.specs.Str.{is_utf8}
use Rattle.std.proofs.lemmas.Str.{is_utf8-from_IsUtf8}
use Rattle.schedule_made.proofs.events.text.Goals as goal

pub unreachable-requires : goal.unreachable-requires
unreachable-requires c =
    let bytes = ap (λ (v : Vec ℕ Global). v.items) c.into_bytes.ensures.value ∙ sym c.as_str-utf8.ensures.value in
    let lost : false ≡ true = c.in-None.ensures.valid ∙ ap is_utf8 bytes ∙ is_utf8-from_IsUtf8 c.as_str-utf8.result.now c.as_str-utf8.utf8 in
    absurd cc

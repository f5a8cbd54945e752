use Rattle.std.proofs.Common.{◌≡◌, Bool, true, false, refl, sym}
use Rattle.std.specs.Str.{is_utf8}
use Rattle.std.proofs.lemmas.Str.{is_utf8-from_IsUtf8, IsUtf8-from_is_utf8, IsUtf8-string_bytes}
use Rattle.mon_bytes.proofs.texts.Text.new.Goals as goal

pub returns-in-Ok-clause-valid : goal.returns-in-Ok-clause-valid
returns-in-Ok-clause-valid c = rw (← c.in-Ok.ensures.ok) (sym (is_utf8-from_IsUtf8 _ (IsUtf8-string_bytes c.in-Ok.text)))

pub returns-clause-valid : goal.returns-clause-valid
returns-clause-valid c =
    let by : (b : Bool) → is_utf8 c.args.bytes.items ≡ b → false ≡ b =
    λ b. elim b as (λ b. is_utf8 c.args.bytes.items ≡ b → false ≡ b) [
      | true ↦ λ e. let lost = c.in-Err.ensures.succeeds (IsUtf8-from_is_utf8 _ e) in absurd cc
      | false ↦ λ e. refl
    ] in
    by (is_utf8 c.args.bytes.items) refl

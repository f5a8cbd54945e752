use Rattle.std.proofs.Common.{◌≡◌, ℕ, Vec, Global, true, false, ap, ◌∙◌, arith}
use Rattle.mon_bytes.specs.Texts.{is_name}
use Rattle.schedule_made.proofs.EventLaws.{key_name}
use Rattle.schedule_made.proofs.events.key.Goals as goal

pub unreachable-requires : goal.unreachable-requires
unreachable-requires c =
    let bytes = ap (λ (v : Vec ℕ Global). v.items) c.into_bytes.ensures.value ∙ c.in_ok-text.ensures.ok in
    let lost : false ≡ true = c.in-None.ensures.valid ∙ ap is_name bytes ∙ key_name c.args.n (omega arith) in
    absurd cc

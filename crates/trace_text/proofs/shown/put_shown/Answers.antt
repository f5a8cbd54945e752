use Rattle.std.proofs.Common.{OnOk, string_bytes, ◌≡◌, ◌++◌, ℕ, List, subst, ◌∙◌}
use Rattle.trace_text.proofs.Printed.{pushed, text_is}
use Rattle.trace_text.proofs.shown.put_shown.Goals as goal

pub returns-in-Ok : goal.returns-in-Ok
returns-in-Ok c =
    let e = c.in-Ok.ensures.events in
    let is = text_is c.args.shown.now e.0 _ e.1 e.2 in
    subst (λ (t : List ℕ). OnOk c.push_str.result (string_bytes c.push_str.new.self ≡ string_bytes c.args.out.now ++ t)) (c.as_str.ensures.value ∙ is)
    (pushed c.push_str.result (string_bytes c.push_str.new.self) (string_bytes c.args.out.now) c.as_str.result.now c.push_str.ensures.bytes)

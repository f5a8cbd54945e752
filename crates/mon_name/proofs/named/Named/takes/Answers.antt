use Rattle.std.proofs.Common.{rules, ◌≡◌, [], ◌∷◌, Ok, Err, refl, ap}
use Rattle.mon_link.specs.Histories.Happened.{Received}
use Rattle.mon_link.proofs.Layers.{grows_one}
use Rattle.mon_name.proofs.named.Named.takes.Goals as goal

pub returns-in_err-got-clause-grows : goal.returns-in_err-got-clause-grows
returns-in_err-got-clause-grows g c =
    let is : c.next.result ≡ Err c.in_err-got.field-0.0 = search rules in
    let e : c.from_residual.result ≡ Err c.in_err-got.field-0.0 = search rules in
    grows_one _ _ _ (Received c.args.wait c.next.result) c.next.ensures.goes_on (Err c.in_err-got.field-0.0, ap (λ r. Received c.args.wait r ∷ []) is, e)

pub returns-in-Ok-clause-grows : goal.returns-in-Ok-clause-grows
returns-in-Ok-clause-grows g c =
    let is : c.next.result ≡ Ok c.in_ok-got.got = search rules in
    grows_one _ _ _ (Received c.args.wait c.next.result) c.next.ensures.goes_on (Ok c.in_ok-got.got, ap (λ r. Received c.args.wait r ∷ []) is, c.in-Ok.ensures)

pub returns-in-Err-clause-grows : goal.returns-in-Err-clause-grows
returns-in-Err-clause-grows g c =
    let is : c.next.result ≡ Ok c.in_ok-got.got = search rules in
    grows_one _ _ _ (Received c.args.wait c.next.result) c.next.ensures.goes_on (Ok c.in_ok-got.got, ap (λ r. Received c.args.wait r ∷ []) is, (c.in-Err.ensures, refl))

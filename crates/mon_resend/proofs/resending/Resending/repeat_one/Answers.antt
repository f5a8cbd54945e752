use Rattle.std.proofs.Common.{rules, ◌≡◌, [], ◌∷◌, Some, None, slice_get, length, refl, sym, ap, subst, ◌∙◌}
use Rattle.std.proofs.lemmas.Option.{slice_get_past, slice_get_read}
use Rattle.mon_link.specs.Histories.Happened.{WasSent}
use Rattle.mon_link.specs.Layers.{Grows, Sent}
use Rattle.mon_link.specs.Links.{CallsSend}
use Rattle.mon_link.proofs.Layers.{grows_none, grows_one}
use Rattle.mon_resend.specs.Sending.{SendsEach}
use Rattle.mon_resend.specs.Shelves.{due_copy_at}
use Rattle.mon_resend.specs.World.{box_of}
use Rattle.mon_resend.proofs.Histories.{none_due, one_due}
use Rattle.mon_resend.proofs.resending.Resending.repeat_one.Goals as goal

pub returns-in_default-clause-grows : goal.returns-in_default-clause-grows
returns-in_default-clause-grows g c =
    let none : slice_get (box_of c.args.place c.args.self.now.copies).shelf c.args.at ≡ None =
    ap (λ s. slice_get s c.args.at) (sym c.kept.ensures) ∙ slice_get_past c.kept.result.now c.args.at c.in_default.ensures.lookup.3 in
    subst (λ o. Grows (g.L.Link.history c.args.self.now.inner) (Sent (due_copy_at c.args.again c.args.now o)) (g.L.Link.history c.args.self.now.inner)) (sym none) (grows_none _ (Sent []) refl)

pub returns-then-not-is_due-clause-sends : goal.returns-then-not-is_due-clause-sends
returns-then-not-is_due-clause-sends g c =
    let k = c.in-Some.kept.now in
    let some : slice_get (box_of c.args.place c.args.self.now.copies).shelf c.args.at ≡ Some k =
    ap (λ s. slice_get s c.args.at) (sym c.kept.ensures)
    ∙ slice_get_read c.kept.result.now (length c.kept.result.now) c.args.at k refl c.in-Some.ensures.lookup.3.0 c.in-Some.ensures.lookup.1 in
    let none = none_due c.args.again c.args.now _ k some (sym c.is_due.ensures ∙ c.if-not-is_due.true) in
    subst (λ ds. SendsEach ds (g.L.Link.state c.args.self.now.inner) (g.L.Link.state c.args.self.now.inner)) (sym none) refl

pub returns-then-not-is_due-clause-grows : goal.returns-then-not-is_due-clause-grows
returns-then-not-is_due-clause-grows g c =
    let k = c.in-Some.kept.now in
    let some : slice_get (box_of c.args.place c.args.self.now.copies).shelf c.args.at ≡ Some k =
    ap (λ s. slice_get s c.args.at) (sym c.kept.ensures)
    ∙ slice_get_read c.kept.result.now (length c.kept.result.now) c.args.at k refl c.in-Some.ensures.lookup.3.0 c.in-Some.ensures.lookup.1 in
    let none = none_due c.args.again c.args.now _ k some (sym c.is_due.ensures ∙ c.if-not-is_due.true) in
    subst (λ ds. Grows (g.L.Link.history c.args.self.now.inner) (Sent ds) (g.L.Link.history c.args.self.now.inner)) (sym none) (grows_none _ (Sent []) refl)

pub returns-clause-sends : goal.returns-clause-sends
returns-clause-sends g c =
    let k = c.in-Some.kept.now in
    let some : slice_get (box_of c.args.place c.args.self.now.copies).shelf c.args.at ≡ Some k =
    ap (λ s. slice_get s c.args.at) (sym c.kept.ensures)
    ∙ slice_get_read c.kept.result.now (length c.kept.result.now) c.args.at k refl c.in-Some.ensures.lookup.3.0 c.in-Some.ensures.lookup.1 in
    let one = one_due c.args.again c.args.now _ k some (sym c.is_due.ensures ∙ c.if-not-is_due.false) in
    let bytes : c.as_slice.result.now ≡ k.out.bytes = search rules in
    let old = g.L.Link.state c.args.self.now.inner in
    let new = g.L.Link.state c.send.new.self in
    subst (λ ds. SendsEach ds old new) (sym one)
    (c.send.result, new, subst (λ bs. CallsSend k.out.to bs c.send.result old new) bytes c.send.ensures.calls, refl)

pub returns-clause-grows : goal.returns-clause-grows
returns-clause-grows g c =
    let k = c.in-Some.kept.now in
    let some : slice_get (box_of c.args.place c.args.self.now.copies).shelf c.args.at ≡ Some k =
    ap (λ s. slice_get s c.args.at) (sym c.kept.ensures)
    ∙ slice_get_read c.kept.result.now (length c.kept.result.now) c.args.at k refl c.in-Some.ensures.lookup.3.0 c.in-Some.ensures.lookup.1 in
    let one = one_due c.args.again c.args.now _ k some (sym c.is_due.ensures ∙ c.if-not-is_due.false) in
    let bytes : c.as_slice.result.now ≡ k.out.bytes = search rules in
    subst (λ ds. Grows (g.L.Link.history c.args.self.now.inner) (Sent ds) (g.L.Link.history c.send.new.self)) (sym one)
    (grows_one _ _ (Sent (k.out ∷ [])) (WasSent k.out.to c.as_slice.result.now c.send.result) c.send.ensures.goes_on
    (c.send.result, [], ap (λ bs. WasSent k.out.to bs c.send.result ∷ []) bytes, refl))

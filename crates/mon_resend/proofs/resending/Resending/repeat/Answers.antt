use Rattle.std.proofs.Common.{◌∙◌, ◌++◌, sym, subst, take}
use Rattle.std.specs.List.{flat_map}
use Rattle.mon_link.specs.Layers.{Grows, Sent}
use Rattle.mon_link.proofs.Layers.{grows_then, sent_then}
use Rattle.mon_resend.specs.Sending.{SendsEach}
use Rattle.mon_resend.specs.Shelves.{due_copies}
use Rattle.mon_resend.specs.World.{box_of}
use Rattle.mon_resend.proofs.Parts.{sends_then}
use Rattle.mon_resend.proofs.Releases.{all_next}
use Rattle.mon_resend.proofs.resending.Resending.repeat.Goals as goal

pub loop-place-preserved : goal.loop-place-preserved
loop-place-preserved g c =
    let boxes = c.args.self.now.copies.boxes in
    let place = c.loop-place.place in
    let one = subst (λ cs. SendsEach (due_copies c.args.again c.args.now (box_of place cs).shelf) (g.L.Link.state c.loop-place.self.inner) (g.L.Link.state c.repeat_at.new.self.inner)) c.loop-place.invariant.copies c.repeat_at.ensures.sends in
    let copied = subst (λ cs. Grows (g.L.Link.history c.loop-place.self.inner) (Sent (due_copies c.args.again c.args.now (box_of place cs).shelf)) (g.L.Link.history c.repeat_at.new.self.inner)) c.loop-place.invariant.copies c.repeat_at.ensures.grows in
    record {
      grows = subst (λ l. Grows (g.L.Link.history c.args.self.now.inner) (Sent l) (g.L.Link.history c.repeat_at.new.self.inner)) (sym (all_next c.args.again c.args.now boxes place))
          (grows_then _ _ _ _ _ (Sent (flat_map (λ b. due_copies c.args.again c.args.now b.shelf) (take place boxes) ++ due_copies c.args.again c.args.now (box_of place c.args.self.now.copies).shelf))
          (sent_then (flat_map (λ b. due_copies c.args.again c.args.now b.shelf) (take place boxes)) (due_copies c.args.again c.args.now (box_of place c.args.self.now.copies).shelf)) c.loop-place.invariant.grows copied);
      sends = subst (λ l. SendsEach l (g.L.Link.state c.args.self.now.inner) (g.L.Link.state c.repeat_at.new.self.inner)) (sym (all_next c.args.again c.args.now boxes place))
          (sends_then (flat_map (λ b. due_copies c.args.again c.args.now b.shelf) (take place boxes)) (due_copies c.args.again c.args.now (box_of place c.args.self.now.copies).shelf) _ _ _ c.loop-place.invariant.sends one);
      copies = c.repeat_at.ensures.others.0 ∙ c.loop-place.invariant.copies;
      run = c.repeat_at.ensures.others.1 ∙ c.loop-place.invariant.run;
    }

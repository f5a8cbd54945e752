use Rattle.std.proofs.Common.{◌∙◌, ◌++◌, sym, subst, ap, length, arith, slice_get, take}
use Rattle.mon_link.specs.Layers.{Grows, Sent}
use Rattle.mon_link.proofs.Layers.{grows_then, sent_then}
use Rattle.mon_resend.specs.Sending.{SendsEach}
use Rattle.mon_resend.specs.Shelves.{due_copies, due_copy_at}
use Rattle.mon_resend.specs.World.{box_of}
use Rattle.mon_resend.proofs.Parts.{sends_then}
use Rattle.mon_resend.proofs.Releases.{due_copies_next}
use Rattle.mon_resend.proofs.resending.Resending.repeat_at.Goals as goal

pub loop-at-preserved : goal.loop-at-preserved
loop-at-preserved g c =
    let shelf = (box_of c.args.place c.args.self.now.copies).shelf in
    let one = subst (λ cs. SendsEach (due_copy_at c.args.again c.args.now (slice_get (box_of c.args.place cs).shelf c.loop-at.at)) (g.L.Link.state c.loop-at.self.inner) (g.L.Link.state c.repeat_one.new.self.inner)) c.loop-at.invariant.copies c.repeat_one.ensures.sends in
    let copied = subst (λ cs. Grows (g.L.Link.history c.loop-at.self.inner) (Sent (due_copy_at c.args.again c.args.now (slice_get (box_of c.args.place cs).shelf c.loop-at.at))) (g.L.Link.history c.repeat_one.new.self.inner)) c.loop-at.invariant.copies c.repeat_one.ensures.grows in
    record {
      grows = subst (λ l. Grows (g.L.Link.history c.args.self.now.inner) (Sent l) (g.L.Link.history c.repeat_one.new.self.inner)) (sym (due_copies_next c.args.again c.args.now shelf c.loop-at.at (omega (arith, ap length c.kept-at-end.ensures))))
          (grows_then _ _ _ _ _ (Sent (due_copies c.args.again c.args.now (take c.loop-at.at shelf) ++ due_copy_at c.args.again c.args.now (slice_get shelf c.loop-at.at)))
          (sent_then (due_copies c.args.again c.args.now (take c.loop-at.at shelf)) (due_copy_at c.args.again c.args.now (slice_get shelf c.loop-at.at))) c.loop-at.invariant.grows copied);
      sends = subst (λ l. SendsEach l (g.L.Link.state c.args.self.now.inner) (g.L.Link.state c.repeat_one.new.self.inner)) (sym (due_copies_next c.args.again c.args.now shelf c.loop-at.at (omega (arith, ap length c.kept-at-end.ensures))))
          (sends_then (due_copies c.args.again c.args.now (take c.loop-at.at shelf)) (due_copy_at c.args.again c.args.now (slice_get shelf c.loop-at.at)) _ _ _ c.loop-at.invariant.sends one);
      copies = c.repeat_one.ensures.others.0 ∙ c.loop-at.invariant.copies;
      run = c.repeat_one.ensures.others.1 ∙ c.loop-at.invariant.run;
    }

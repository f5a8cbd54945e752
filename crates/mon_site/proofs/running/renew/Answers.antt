use Rattle.std.proofs.Common.{◌≡◌, Bool, true, false, Ok, refl, sym, ap, ◌∙◌}
use Rattle.std.specs.Prelude.{◌||◌}
use Rattle.quorum_model.specs.Cuts.{after_checkpoint}
use Rattle.mon_site.specs.Calm.{Runs}
use Rattle.mon_site.proofs.InUse.{idle, renewed}
use Rattle.mon_site.proofs.running.renew.Goals as goal

pub returns-in-Ok-clause-renews : goal.returns-in-Ok-clause-renews
returns-in-Ok-clause-renews c member m f runs = by c.in-Ok.field-0 refl
  where
    by : (b : Bool) → c.in-Ok.field-0 ≡ b → Runs member m (after_checkpoint m f) c.restart_if_due.new.self
    by false none =
        let e = c.in-Ok.ensures in
        idle member m f c.args.store.now c.restart_if_due.new.self runs (sym e.answer.1 ∙ none) (e.same (ap (λ (b : Bool). Ok b) none))
    by true due =
        let e = c.in-Ok.ensures in
        let done = ap (λ (b : Bool). Ok b) due in
        renewed member m f c.args.store.now c.restart_if_due.new.self runs (sym e.answer.1 ∙ due) (e.live done) (e.journal done) e.map e.untouched (e.broken ∙ ap (λ (b : Bool). b || false) runs.unbroken) e.sound e.call.made

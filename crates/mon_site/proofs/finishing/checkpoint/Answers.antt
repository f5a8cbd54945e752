use Rattle.std.proofs.Common.{◌≡◌, Bool, true, false, Ok, Err, refl, sym, ap, ◌∙◌, subst}
use Rattle.mon_disk.specs.Calls.{Called}
use Rattle.mon_disk.specs.MemoryDisk.{state_of}
use Rattle.mon_journal.specs.Steps.{Any}
use Rattle.mon_store.specs.declared.stop.StoreStop.{StoreStop}
use Rattle.mon_store.specs.Calls.{restart_calls, stop_in, unless_early}
use Rattle.mon_store.specs.Refusals.{Restarts}
use Rattle.mon_types.specs.Sides.{other as other_side}
use Rattle.mon_store.specs.Sound.{is_due}
use Rattle.mon_store.specs.Whole.{disk_of}
use Rattle.std.specs.Prelude.{◌||◌}
use Rattle.mon_site.proofs.OnStores.{not_due, made_whole, made_short}
use Rattle.mon_site.proofs.finishing.checkpoint.Goals as goal

pub returns-in-Ok : goal.returns-in-Ok
returns-in-Ok c live call image member m f is = by c.in-Ok.field-0 refl
  where
    by : (b : Bool) → c.in-Ok.field-0 ≡ b → Rattle.mon_site.specs.Ending.Checkpoints live call image member m f c.restart_if_due.new.self (Ok tt)
    by false none =
        let e = c.in-Ok.ensures in
        not_due live call image member m f c.args.store.now c.restart_if_due.new.self is (sym e.answer.1 ∙ none) (e.same (ap (λ (b : Bool). Ok b) none))
    by true due =
        let e = c.in-Ok.ensures in
        let new = c.restart_if_due.new.self in
        let done = ap (λ (b : Bool). Ok b) due in
        let unbroken = e.broken ∙ ap (λ (b : Bool). b || false) is.unbroken in
        made_whole live call image member m f c.args.store.now new is (sym e.answer.1 ∙ due) (e.live done) (e.journal done) e.map e.untouched (e.sound unbroken) e.call.made

pub returns-in-Err-DiskFault : goal.returns-in-Err-DiskFault
returns-in-Err-DiskFault c live call image member m f is =
    let old = c.args.store.now in
    let new = c.restart_if_due.new.self in
    let e = c.in-Err-DiskFault.ensures in
    let answer = subst (λ (s : StoreStop). Restarts old.broken (is_due old.journal old.kv) (Err s)) c.in-Err-DiskFault.field-0-is e.answer in
    let made = subst (λ (s : StoreStop). Called (unless_early {T = Bool} (Err s) (restart_calls old.journal old.kv)) Any (stop_in {T = Bool} (Err s)) (state_of old.other) (state_of (disk_of (other_side old.side) new))) c.in-Err-DiskFault.field-0-is e.call in
    made_short live call image member m f old new is answer.1 e.untouched made.made (e.settles is.unbroken)

use Rattle.std.proofs.Common.{Bool, false, Ok, Err, refl, sym, ap, ◌∙◌, subst}
use Rattle.std.specs.Prelude.{◌||◌}
use Rattle.mon_disk.specs.Calls.{Called}
use Rattle.mon_disk.specs.MemoryDisk.{state_of}
use Rattle.mon_journal.specs.Steps.{Any}
use Rattle.mon_store.specs.declared.stop.StoreStop.{StoreStop}
use Rattle.mon_store.specs.Calls.{apply_calls, stop_in, unless_early}
use Rattle.mon_store.specs.Refusals.{Answers}
use Rattle.mon_site.specs.declared.finishing.Kept.TheVariants.{Cut}
use Rattle.mon_site.specs.Ending.{Keeps}
use Rattle.mon_site.proofs.OnStores.{whole, cut}
use Rattle.mon_site.proofs.finishing.keep.Goals as goal

pub returns-in-Ok-clause-keeps : goal.returns-in-Ok-clause-keeps
returns-in-Ok-clause-keeps c member m f faulty =
    let e = c.in-Ok.ensures in
    let unbroken = e.broken ∙ ap (λ (b : Bool). b || false) faulty.unbroken in
    whole c.args.injected member m f c.args.tx.now c.args.store.now c.apply.new.self faulty e.side e.other unbroken (e.sound unbroken) e.journal e.answer.2 e.answer.3 e.call.made

pub returns-in-Err-DiskFault-clause-keeps : goal.returns-in-Err-DiskFault-clause-keeps
returns-in-Err-DiskFault-clause-keeps c member m f faulty =
    let old = c.args.store.now in
    let new = c.apply.new.self in
    let e = c.in-Err-DiskFault.ensures in
    let answer = subst (λ (s : StoreStop). Answers {T = Unit {0}} c.args.tx.now old.kv new.kv old.broken (Err s)) c.in-Err-DiskFault.field-0-is e.answer in
    let call = subst (λ (s : StoreStop). Called (unless_early {T = Unit {0}} (Err s) (apply_calls old.journal.next_gate c.args.tx.now)) Any (stop_in {T = Unit {0}} (Err s)) (state_of old.live) (state_of new.live)) c.in-Err-DiskFault.field-0-is e.call in
    subst (λ (k : Bool). Keeps c.args.injected member m f c.args.tx.now new (Ok (Cut k))) (sym c.opens_gate.ensures) (cut c.args.injected member m f c.args.tx.now old new faulty e.side e.other answer.1.1 call.made (e.settles faulty.unbroken refl))

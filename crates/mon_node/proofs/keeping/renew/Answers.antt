use Rattle.std.proofs.Common.{Ok, sym, ap}
use Rattle.mon_store.specs.Sound.{is_due}
use Rattle.mon_store.specs.declared.store.Store.{Store}
use Rattle.mon_node.specs.Nodes.{store_view_of}
use Rattle.mon_node.proofs.Renewing.{renews}
use Rattle.mon_node.proofs.Standing.{visible_other, renews_due, renews_if_due, was_due}
use Rattle.mon_node.proofs.keeping.renew.Goals as goal

pub returns-in-Ok-clause-stands : goal.returns-in-Ok-clause-stands
returns-in-Ok-clause-stands g c =
    let done = c.in-Ok.field-0 in
    let call = c.in-Ok.ensures in
    renews done (store_view_of c.args.store.now) (store_view_of c.restart_if_due.new.self) call.answer.1 call.map
    (λ e. call.live (ap Ok e)) (λ e. call.journal (ap Ok e)) (λ e. ap (λ (s : Store g.row.D.Denot). store_view_of s) (call.same (ap Ok e)))

pub returns-in-Ok-clause-visible : goal.returns-in-Ok-clause-visible
returns-in-Ok-clause-visible g c = visible_other g.D.Disk.state c.args.store.now c.restart_if_due.new.self c.restart_if_due.ensures.untouched c.restart_if_due.ensures.call.visible

pub returns-in-Err-DiskFault-clause-visible : goal.returns-in-Err-DiskFault-clause-visible
returns-in-Err-DiskFault-clause-visible g c = visible_other g.D.Disk.state c.args.store.now c.restart_if_due.new.self c.restart_if_due.ensures.untouched c.restart_if_due.ensures.call.visible

pub returns-in-Err-OutOfMemory-clause-visible : goal.returns-in-Err-OutOfMemory-clause-visible
returns-in-Err-OutOfMemory-clause-visible g c = visible_other g.D.Disk.state c.args.store.now c.restart_if_due.new.self c.restart_if_due.ensures.untouched c.restart_if_due.ensures.call.visible

pub returns-in-Ok-clause-meanwhile : goal.returns-in-Ok-clause-meanwhile
returns-in-Ok-clause-meanwhile g c =
    let done = c.in-Ok.field-0 in
    let call = c.in-Ok.ensures in
    renews_if_due g.D.Disk.state c.args.store.now c.restart_if_due.new.self done call.answer.1 (λ e. call.same (ap Ok e)) c.requires.unbroken c.requires.sound (c.restart_if_due.ensures.any_time c.requires.unbroken)

pub returns-in-Err-DiskFault-clause-meanwhile : goal.returns-in-Err-DiskFault-clause-meanwhile
returns-in-Err-DiskFault-clause-meanwhile g c =
    let s = c.args.store.now in
    renews_due g.D.Disk.state s c.restart_if_due.new.self (sym (was_due s.broken (is_due s.journal s.kv) c.in-Err-DiskFault.field-0 c.requires.unbroken c.in-Err-DiskFault.ensures.answer)) (c.restart_if_due.ensures.any_time c.requires.unbroken)

pub returns-in-Err-OutOfMemory-clause-meanwhile : goal.returns-in-Err-OutOfMemory-clause-meanwhile
returns-in-Err-OutOfMemory-clause-meanwhile g c =
    let s = c.args.store.now in
    renews_due g.D.Disk.state s c.restart_if_due.new.self (sym (was_due s.broken (is_due s.journal s.kv) c.in-Err-OutOfMemory.field-0 c.requires.unbroken c.in-Err-OutOfMemory.ensures.answer)) (c.restart_if_due.ensures.any_time c.requires.unbroken)

use Rattle.mon_node.proofs.Standing.{visible_live, records, same_disks}
use Rattle.mon_node.proofs.keeping.change.Goals as goal

pub returns-in-Ok-clause-stands : goal.returns-in-Ok-clause-stands
returns-in-Ok-clause-stands g c =
    let call = c.in-Ok.ensures in
    λ i. record { side = call.side i; journal = call.journal i; kv = call.answer.3 i }

pub returns-in-Ok-clause-visible : goal.returns-in-Ok-clause-visible
returns-in-Ok-clause-visible g c =
    let call = c.apply.ensures in
    visible_live g.D.Disk.state c.args.store.now c.apply.new.self call.side call.other call.call.visible

pub returns-in-Err-Full-clause-visible : goal.returns-in-Err-Full-clause-visible
returns-in-Err-Full-clause-visible g c =
    let call = c.apply.ensures in
    visible_live g.D.Disk.state c.args.store.now c.apply.new.self call.side call.other call.call.visible

pub returns-in-Err-DiskFault-clause-visible : goal.returns-in-Err-DiskFault-clause-visible
returns-in-Err-DiskFault-clause-visible g c =
    let call = c.apply.ensures in
    visible_live g.D.Disk.state c.args.store.now c.apply.new.self call.side call.other call.call.visible

pub returns-in-Err-OutOfMemory-clause-visible : goal.returns-in-Err-OutOfMemory-clause-visible
returns-in-Err-OutOfMemory-clause-visible g c =
    let call = c.apply.ensures in
    visible_live g.D.Disk.state c.args.store.now c.apply.new.self call.side call.other call.call.visible

pub returns-in-Ok-clause-meanwhile : goal.returns-in-Ok-clause-meanwhile
returns-in-Ok-clause-meanwhile g c = records g.D.Disk.state c.args.store.now c.apply.new.self c.args.tx.now (c.apply.ensures.any_time c.requires.unbroken)

pub returns-in-Err-Full-clause-meanwhile : goal.returns-in-Err-Full-clause-meanwhile
returns-in-Err-Full-clause-meanwhile g c = records g.D.Disk.state c.args.store.now c.apply.new.self c.args.tx.now (c.apply.ensures.any_time c.requires.unbroken)

pub returns-in-Err-DiskFault-clause-meanwhile : goal.returns-in-Err-DiskFault-clause-meanwhile
returns-in-Err-DiskFault-clause-meanwhile g c = records g.D.Disk.state c.args.store.now c.apply.new.self c.args.tx.now (c.apply.ensures.any_time c.requires.unbroken)

pub returns-in-Err-OutOfMemory-clause-meanwhile : goal.returns-in-Err-OutOfMemory-clause-meanwhile
returns-in-Err-OutOfMemory-clause-meanwhile g c = records g.D.Disk.state c.args.store.now c.apply.new.self c.args.tx.now (c.apply.ensures.any_time c.requires.unbroken)

pub returns-in-Ok-clause-large : goal.returns-in-Ok-clause-large
returns-in-Ok-clause-large g c = λ large.
    let call = c.apply.ensures in
    same_disks g.D.Disk.state c.args.store.now c.apply.new.self call.side call.other (call.large large)

pub returns-in-Err-Full-clause-large : goal.returns-in-Err-Full-clause-large
returns-in-Err-Full-clause-large g c = λ large.
    let call = c.apply.ensures in
    same_disks g.D.Disk.state c.args.store.now c.apply.new.self call.side call.other (call.large large)

pub returns-in-Err-DiskFault-clause-large : goal.returns-in-Err-DiskFault-clause-large
returns-in-Err-DiskFault-clause-large g c = λ large.
    let call = c.apply.ensures in
    same_disks g.D.Disk.state c.args.store.now c.apply.new.self call.side call.other (call.large large)

pub returns-in-Err-OutOfMemory-clause-large : goal.returns-in-Err-OutOfMemory-clause-large
returns-in-Err-OutOfMemory-clause-large g c = λ large.
    let call = c.apply.ensures in
    same_disks g.D.Disk.state c.args.store.now c.apply.new.self call.side call.other (call.large large)

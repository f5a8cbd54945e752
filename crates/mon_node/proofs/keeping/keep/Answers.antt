use Rattle.mon_node.specs.Lasting.{IsWithin}
use Rattle.mon_node.specs.Nodes.{disks_of, store_view_of}
use Rattle.mon_node.proofs.Standing.{IsRecording, IsRenewing, recording_within, renewing_within, one_step, two_steps, meanwhile_as}
use Rattle.mon_node.proofs.keeping.keep.Goals as goal

pub returns-in_err-change-clause-passes : goal.returns-in_err-change-clause-passes
returns-in_err-change-clause-passes g c = λ both.
    let state = g.D.Disk.state in
    let s = c.args.store.now in
    let tx = c.args.tx.now in
    let n = c.change.new.store in
    one_step (disks_of state s) (disks_of state n) (IsWithin tx (store_view_of s))
    (meanwhile_as (disks_of state s) (disks_of state n) (IsRecording tx (store_view_of s)) (IsWithin tx (store_view_of s)) (recording_within tx (store_view_of s)) (c.change.ensures.meanwhile both))
    (c.change.ensures.visible both)

pub returns-in_err-renew-clause-passes : goal.returns-in_err-renew-clause-passes
returns-in_err-renew-clause-passes g c = λ both.
    let state = g.D.Disk.state in
    let s = c.args.store.now in
    let tx = c.args.tx.now in
    let m = c.change.new.store in
    two_steps (disks_of state s) (disks_of state m) (disks_of state c.renew.new.store) (IsRecording tx (store_view_of s)) (IsRenewing (store_view_of m)) (IsWithin tx (store_view_of s))
    (recording_within tx (store_view_of s)) (λ x. renewing_within tx (store_view_of s) (store_view_of m) x c.in_ok-change.ensures.stands)
    (c.change.ensures.meanwhile both) c.renew.ensures.meanwhile (c.renew.ensures.visible (c.change.ensures.visible both))

pub returns-clause-passes : goal.returns-clause-passes
returns-clause-passes g c = λ both.
    let state = g.D.Disk.state in
    let s = c.args.store.now in
    let tx = c.args.tx.now in
    let m = c.change.new.store in
    two_steps (disks_of state s) (disks_of state m) (disks_of state c.renew.new.store) (IsRecording tx (store_view_of s)) (IsRenewing (store_view_of m)) (IsWithin tx (store_view_of s))
    (recording_within tx (store_view_of s)) (λ x. renewing_within tx (store_view_of s) (store_view_of m) x c.in_ok-change.ensures.stands)
    (c.change.ensures.meanwhile both) c.renew.ensures.meanwhile (c.renew.ensures.visible (c.change.ensures.visible both))

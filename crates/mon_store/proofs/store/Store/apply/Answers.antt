use Rattle.std.proofs.Common.{sym, ◌∙◌}
use Rattle.mon_journal.specs.Steps.{payloads_seen}
use Rattle.mon_store.specs.Sound.{of_a, of_b, WithChange, StandsOn, BeforeOrAfter}
use Rattle.mon_store.specs.Whole.{disk_a, disk_b}
use Rattle.mon_store.proofs.Times.{none_goes, now, settles_too}
use Rattle.mon_store.proofs.Applying.{Kept, stands_now, changes, changes_nothing, each_pair, live_goes, sound_then, safe_then}
use Rattle.mon_store.proofs.store.Store.apply.Goals as goal

pub returns-then-is_empty-clause-safe : goal.returns-then-is_empty-clause-safe
returns-then-is_empty-clause-safe g c =
    let s = c.args.self.now in
    let state = g.D.Disk.state in
    each_pair state s.side s.live s.other (StandsOn s.side s.journal s.kv) (stands_now s.journal s.kv (g.D.Disk.state s.live).known (state s.live).content (state s.other).content (c.requires c.if-self.false) s.side)

pub returns-clause-sound : goal.returns-clause-sound
returns-clause-sound g c = λ whole.
    let s = c.args.self.now in
    let k = c.keep-answer.ensures in
    let kept : Kept g.D.Disk.state s.journal s.kv s.live c.args.tx.now c.keep-answer.new.journal c.keep-answer.new.kv c.keep-answer.new.disk c.keep-answer.result =
    record { keeps = k.kept; appends = k.journal; stays = k.journal_err; form = k.form; map = k.map; size = k.size; refused = k.refused; disk = k.disk; visible = k.call.visible } in
    sound_then g.D.Disk.state s.journal s.kv s.live s.other (c.requires c.if-self.false) s.side c.args.tx.now c.keep-answer.new.journal c.keep-answer.new.kv c.keep-answer.new.disk c.keep-answer.result kept (sym c.breaks-self.ensures ∙ whole)

pub returns-clause-any_time : goal.returns-clause-any_time
returns-clause-any_time g c = λ whole observed.
    let s = c.args.self.now in
    let state = g.D.Disk.state in
    let tx = c.args.tx.now in
    live_goes state s.side s.live c.keep-answer.new.disk s.other (WithChange s.journal (payloads_seen (state s.live).content) s.kv tx) (BeforeOrAfter s.side s.journal s.kv tx) c.keep-answer.ensures.call.any_time
    (changes s.journal s.kv (g.D.Disk.state s.live).known (state s.live).content (state s.other).content (c.requires whole) s.side tx observed)

pub returns-clause-safe : goal.returns-clause-safe
returns-clause-safe g c =
    let s = c.args.self.now in
    let k = c.keep-answer.ensures in
    let kept : Kept g.D.Disk.state s.journal s.kv s.live c.args.tx.now c.keep-answer.new.journal c.keep-answer.new.kv c.keep-answer.new.disk c.keep-answer.result =
    record { keeps = k.kept; appends = k.journal; stays = k.journal_err; form = k.form; map = k.map; size = k.size; refused = k.refused; disk = k.disk; visible = k.call.visible } in
    safe_then g.D.Disk.state c.keep-answer.new.journal c.keep-answer.new.kv c.keep-answer.new.disk s.other s.side c.keep-answer.result
    (sound_then g.D.Disk.state s.journal s.kv s.live s.other (c.requires c.if-self.false) s.side c.args.tx.now c.keep-answer.new.journal c.keep-answer.new.kv c.keep-answer.new.disk c.keep-answer.result kept)

pub returns-then-is_empty-clause-any_time : goal.returns-then-is_empty-clause-any_time
returns-then-is_empty-clause-any_time g c = λ whole observed.
    let s = c.args.self.now in
    let state = g.D.Disk.state in
    let tx = c.args.tx.now in
    none_goes (state (disk_a s)).content (state (disk_b s)).content (BeforeOrAfter s.side s.journal s.kv tx)
    (each_pair state s.side s.live s.other (BeforeOrAfter s.side s.journal s.kv tx)
    (changes_nothing s.journal s.kv (g.D.Disk.state s.live).known (state s.live).content (state s.other).content (c.requires whole) s.side tx))

pub returns-then-is_empty-clause-settles : goal.returns-then-is_empty-clause-settles
returns-then-is_empty-clause-settles g c = λ whole observed.
    let s = c.args.self.now in
    let state = g.D.Disk.state in
    let tx = c.args.tx.now in
    settles_too (state (disk_a s)).content (state (disk_b s)).content (g.D.Disk.state (disk_a s)).observed (g.D.Disk.state (disk_b s)).observed (BeforeOrAfter s.side s.journal s.kv tx)
    (each_pair state s.side s.live s.other (BeforeOrAfter s.side s.journal s.kv tx)
    (changes_nothing s.journal s.kv (g.D.Disk.state s.live).known (state s.live).content (state s.other).content (c.requires whole) s.side tx))
    (g.met.D.Disk.settled (disk_a s)) (g.met.D.Disk.settled (disk_b s))

pub returns-clause-settles : goal.returns-clause-settles
returns-clause-settles g c = λ whole observed.
    let s = c.args.self.now in
    let state = g.D.Disk.state in
    let tx = c.args.tx.now in
    let new_a = of_a s.side c.keep-answer.new.disk s.other in
    let new_b = of_b s.side c.keep-answer.new.disk s.other in
    let P = BeforeOrAfter s.side s.journal s.kv tx in
    settles_too (state new_a).content (state new_b).content (g.D.Disk.state new_a).observed (g.D.Disk.state new_b).observed P
    (now (state (disk_a s)).content (state (disk_b s)).content (state new_a).content (state new_b).content P (live_goes state s.side s.live c.keep-answer.new.disk s.other (WithChange s.journal (payloads_seen (state s.live).content) s.kv tx) P c.keep-answer.ensures.call.any_time
    (changes s.journal s.kv (g.D.Disk.state s.live).known (state s.live).content (state s.other).content (c.requires whole) s.side tx observed)))
    (g.met.D.Disk.settled new_a) (g.met.D.Disk.settled new_b)

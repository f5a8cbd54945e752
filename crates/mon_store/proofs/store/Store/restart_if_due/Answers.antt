use Rattle.std.proofs.Common.{◌≡◌, ◌+◌, Bool, true, Some, inl, sym, ◌∙◌}
use Rattle.mon_journal.specs.declared.journal.Journal.{Journal}
use Rattle.mon_journal.specs.Written.{owner_of}
use Rattle.mon_journal.specs.Steps.{Any, create_calls}
use Rattle.mon_store.specs.Checkpoint.{checkpoint_text}
use Rattle.mon_store.specs.Sound.{Sound, StandsOn, ThisOrNext, Begins, is_due, next_journal}
use Rattle.mon_store.specs.Whole.{disk_a, disk_b}
use Rattle.mon_store.proofs.Times.{none_goes}
use Rattle.mon_store.proofs.OnPairs.{live_is, other_is}
use Rattle.mon_store.proofs.Applying.{stands_now, each_pair}
use Rattle.mon_store.proofs.Restarting.{begins, sound_next, not_begun, settled, other_goes, other_takes, turned_live, turned_other}
use Rattle.mon_store.proofs.Stops.{refuses, breaks_all, same_stop}
use Rattle.mon_store.proofs.store.Store.restart_if_due.Goals as goal

pub returns-then-not-is_due-clause-safe : goal.returns-then-not-is_due-clause-safe
returns-then-not-is_due-clause-safe g c =
    let s = c.args.self.now in
    let state = g.D.Disk.state in
    each_pair state s.side s.live s.other (StandsOn s.side s.journal s.kv) (stands_now s.journal s.kv (g.D.Disk.state s.live).known (state s.live).content (state s.other).content (c.requires c.if-self.false) s.side)

pub returns-in-Ok-clause-sound : goal.returns-in-Ok-clause-sound
returns-in-Ok-clause-sound g c = λ whole.
    let s = c.args.self.now in
    let state = g.D.Disk.state in
    let new = c.begin.new.disk in
    let after : Sound c.in-Ok.journal s.kv (state new).known (state new).content (state s.live).content =
    sound_next s.journal s.kv (state s.live).known (state s.live).content (state s.other).content (c.requires whole) s.side c.in-Ok.journal (state new).known (state new).content c.in-Ok.ensures.journal c.in-Ok.ensures.form c.in-Ok.ensures.kept in
    rw (c.swap.ensures.x_after, c.swap.ensures.y_after) after

pub returns-in-Ok-clause-any_time : goal.returns-in-Ok-clause-any_time
returns-in-Ok-clause-any_time g c = λ whole.
    let s = c.args.self.now in
    let state = g.D.Disk.state in
    other_takes state s.live s.other c.begin.new.disk (Begins (state s.other).content (next_journal s.journal s.kv) s.kv) (ThisOrNext s.side s.journal s.kv) c.in-Ok.ensures.call.any_time s.side c.other-self.result c.swap.new.x c.swap.new.y
    c.swap.ensures.x_after c.swap.ensures.y_after c.other-self.ensures (begins s.journal s.kv (g.D.Disk.state s.live).known (state s.live).content (state s.other).content (c.requires whole) s.side)

pub returns-in-Ok-clause-safe : goal.returns-in-Ok-clause-safe
returns-in-Ok-clause-safe g c =
    let s = c.args.self.now in
    let state = g.D.Disk.state in
    let new = c.begin.new.disk in
    let after : Sound c.in-Ok.journal s.kv (state new).known (state new).content (state s.live).content =
    sound_next s.journal s.kv (state s.live).known (state s.live).content (state s.other).content (c.requires c.if-self.false) s.side c.in-Ok.journal (state new).known (state new).content c.in-Ok.ensures.journal c.in-Ok.ensures.form c.in-Ok.ensures.kept in
    let turned : Sound c.in-Ok.journal s.kv (state c.swap.new.x).known (state c.swap.new.x).content (state c.swap.new.y).content = rw (c.swap.ensures.x_after, c.swap.ensures.y_after) after in
    each_pair state c.other-self.result c.swap.new.x c.swap.new.y (StandsOn c.other-self.result c.in-Ok.journal s.kv) (stands_now c.in-Ok.journal s.kv (state c.swap.new.x).known (state c.swap.new.x).content (state c.swap.new.y).content turned c.other-self.result)

pub returns-in-Err-clause-any_time : goal.returns-in-Err-clause-any_time
returns-in-Err-clause-any_time g c = λ whole.
    let s = c.args.self.now in
    let state = g.D.Disk.state in
    other_goes state s.live s.other c.begin.new.disk (Begins (state s.other).content (next_journal s.journal s.kv) s.kv) (ThisOrNext s.side s.journal s.kv) c.begin.ensures.call.any_time s.side
    (begins s.journal s.kv (g.D.Disk.state s.live).known (state s.live).content (state s.other).content (c.requires whole) s.side)

pub returns-then-not-is_due-clause-any_time : goal.returns-then-not-is_due-clause-any_time
returns-then-not-is_due-clause-any_time g c = λ whole.
    let s = c.args.self.now in
    let state = g.D.Disk.state in
    none_goes (state (disk_a s)).content (state (disk_b s)).content (ThisOrNext s.side s.journal s.kv) (each_pair state s.side s.live s.other (ThisOrNext s.side s.journal s.kv) (λ x y left there. inl (stands_now s.journal s.kv (g.D.Disk.state s.live).known (state s.live).content (state s.other).content (c.requires whole) s.side x y left there)))

pub returns-then-not-is_due-clause-settles : goal.returns-then-not-is_due-clause-settles
returns-then-not-is_due-clause-settles g c = λ whole.
    let s = c.args.self.now in
    let state = g.D.Disk.state in
    let live_observed = g.met.D.Disk.settled s.live in
    rw (live_is s.side s.live s.other, other_is s.side s.live s.other) (settled s.journal s.kv (g.D.Disk.state s.live).known (state s.live).content (state s.other).content (c.requires whole) s.side (state s.live).observed (state s.other).observed (state s.other).observed live_observed
    (not_begun (state s.other).content (next_journal s.journal s.kv) s.kv (state s.other).observed (g.met.D.Disk.settled s.other)))

pub returns-in-Err-clause-settles : goal.returns-in-Err-clause-settles
returns-in-Err-clause-settles g c = λ whole.
    let s = c.args.self.now in
    let state = g.D.Disk.state in
    let live_observed = g.met.D.Disk.settled s.live in
    rw (live_is s.side s.live c.begin.new.disk, other_is s.side s.live c.begin.new.disk) (settled s.journal s.kv (g.D.Disk.state s.live).known (state s.live).content (state s.other).content (c.requires whole) s.side (state s.live).observed (state s.other).observed (state c.begin.new.disk).observed live_observed
    (c.begin.ensures.settles))

pub returns-in-Ok-clause-settles : goal.returns-in-Ok-clause-settles
returns-in-Ok-clause-settles g c = λ whole.
    let s = c.args.self.now in
    let state = g.D.Disk.state in
    let live_observed = g.met.D.Disk.settled s.live in
    rw (c.swap.ensures.x_after, c.swap.ensures.y_after, c.other-self.ensures, turned_live s.side c.begin.new.disk s.live, turned_other s.side c.begin.new.disk s.live) (settled s.journal s.kv (g.D.Disk.state s.live).known (state s.live).content (state s.other).content (c.requires whole) s.side (state s.live).observed (state s.other).observed (state c.begin.new.disk).observed live_observed
    (c.begin.ensures.settles))

pub returns-in-Err-clause-answer : goal.returns-in-Err-clause-answer
returns-in-Err-clause-answer g c = refuses c.args.self.now.broken (is_due c.args.self.now.journal c.args.self.now.kv) c.in-Err.stop c.in-Err.ensures.outside c.if-self.false (sym c.is_due.ensures ∙ c.if-not-is_due.false)

pub returns-in-Err-clause-broken : goal.returns-in-Err-clause-broken
returns-in-Err-clause-broken g c = breaks_all c.args.self.now.broken c.in-Err.stop c.in-Err.ensures.outside

pub returns-in-Err-clause-call : goal.returns-in-Err-clause-call
returns-in-Err-clause-call g c =
    let j = c.args.self.now.journal in
    let m = c.args.self.now.kv in
    let old = g.D.Disk.state c.args.self.now.other in
    let new = g.D.Disk.state c.begin.new.disk in
    let due : is_due j m ≡ true = sym c.is_due.ensures ∙ c.if-not-is_due.false in
    rw (due, other_is c.args.self.now.side c.args.self.now.live c.begin.new.disk)
    (same_stop Bool Journal c.in-Err.stop (create_calls (owner_of j.member) (j.generation + 1) (Some (checkpoint_text m))) (Begins old.content (next_journal j m) m) Any old new c.in-Err.ensures.outside c.in-Err.ensures.call (λ d h. tt))

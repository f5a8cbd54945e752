use Rattle.std.proofs.Common.{◌≡◌, List, [], Ok, Err, sym, subst}
use Rattle.std.proofs.lemmas.Result.{err_from_is_err_and}
use Rattle.std.specs.List.{AllByRecursion}
use Rattle.mon_bounds.specs.Fitting.{MaySend}
use Rattle.mon_core.specs.Reacts.{Reacts}
use Rattle.mon_link.specs.declared.link.Outgoing.{Outgoing}
use Rattle.mon_msg.specs.declared.plan.Sent.{Sent}
use Rattle.mon_store.specs.Whole.{disk_a, disk_b}
use Rattle.mon_tx.specs.Map.{Store}
use Rattle.mon_node.specs.Hearing.{at_time}
use Rattle.mon_node.specs.Nodes.{store_view_of, disks_of}
use Rattle.mon_node.specs.Posting.{datagrams, letters, next_after, with_number, boot_in, SendsPrefix, SendsAll, IsSpent}
use Rattle.mon_node.specs.Sends.{Went, WentFirst}
use Rattle.mon_node.specs.Servers.{serving_of}
use Rattle.mon_node.proofs.Passing.{left_kept, unkept_pass, unsent_pass, taken_pass}
use Rattle.mon_node.proofs.Reacting.{reacts_so, may_go, core_ends, core_passes}
use Rattle.mon_node.proofs.Standing.{in_use_leaves}
use Rattle.mon_node.proofs.Sends.{no_call}
use Rattle.mon_node.proofs.Talking.{all_went, silent_end, some_went}
use Rattle.mon_node.proofs.Taking.{in_these, sent_as, not_kept, not_sent, all_sent}
use Rattle.mon_node.proofs.server.Server.take.Goals as goal

pub returns-in_err-reaction-clause-ends : goal.returns-in_err-reaction-clause-ends
returns-in_err-reaction-clause-ends g c = λ clock.
    let s = c.args.self.now in
    let e = c.in_err-reaction.field-0.0 in
    let p = err_from_is_err_and c.from_residual.result c.from_residual.ensures.1 in
    let h = subst (λ (m : Store). Reacts s.core c.react.new.self m c.args.now c.args.input.now (Err e)) c.kv.ensures c.in_err-reaction.ensures in
    rw (p.1, p.2) (core_ends s.core c.react.new.self (store_view_of s.store) c.args.now c.args.input.now s.me c.requires.in_use.own e s.next s.assembly clock (g.L.Link.state c.args.link.now).observed h)

pub returns-in_err-keep-clause-ends : goal.returns-in_err-keep-clause-ends
returns-in_err-keep-clause-ends g c = λ clock.
    let s = c.args.self.now in
    let r = c.in_ok-reaction.reaction in
    let observed = (g.L.Link.state c.args.link.now).observed in
    let p = err_from_is_err_and c.from_residual-in_err-keep.result c.from_residual-in_err-keep.ensures.1 in
    let h = subst (λ (m : Store). Reacts s.core c.react.new.self m c.args.now c.args.input.now (Ok r)) c.kv.ensures c.in_ok-reaction.ensures in
    let reacts = reacts_so s.core c.react.new.self (store_view_of s.store) c.args.now c.args.input.now s.me c.requires.in_use.own r s.next h in
    rw (p.1, p.2)
    (not_kept s.me (serving_of s clock observed) (at_time c.args.now c.args.input.now) _ reacts (Unit {0}) c.keep.new.store.kv c.in_err-keep.field-0.0 c.in_err-keep.ensures.keeps)

pub send_all-requires-clause-may : goal.send_all-requires-clause-may
send_all-requires-clause-may g c =
    let s = c.args.self.now in
    let r = c.in_ok-reaction.reaction in
    subst (λ (xs : List Sent). AllByRecursion (MaySend s.me) xs) (sym c.sent_by-out.ensures)
    (may_go s.core c.react.new.self (store_view_of s.store) c.args.now c.args.input.now s.me c.requires.in_use.own r (subst (λ (x : Store). Reacts s.core c.react.new.self x c.args.now c.args.input.now (Ok r)) c.kv.ensures c.in_ok-reaction.ensures))

pub returns-in_err-send_all-clause-ends : goal.returns-in_err-send_all-clause-ends
returns-in_err-send_all-clause-ends g c = λ clock.
    let s = c.args.self.now in
    let r = c.in_ok-reaction.reaction in
    let m = c.keep.new.store.kv in
    let e = c.in_err-send_all.field-0.0 in
    let observed = (g.L.Link.state c.args.link.now).observed in
    let now = (g.L.Link.state c.send_all.new.link).observed in
    let p = err_from_is_err_and c.from_residual-in_err-send_all.result c.from_residual-in_err-send_all.ensures.1 in
    let h = subst (λ (x : Store). Reacts s.core c.react.new.self x c.args.now c.args.input.now (Ok r)) c.kv.ensures c.in_ok-reaction.ensures in
    let reacts = reacts_so s.core c.react.new.self (store_view_of s.store) c.args.now c.args.input.now s.me c.requires.in_use.own r s.next h in
    let why = sent_as (λ (x : Store) (xs : List Sent). IsSpent (next_after s.next (letters s.me x xs)) e) c.kv-2.result.now m c.sent_by-out.result r.out c.kv-2.ensures c.sent_by-out.ensures c.in_err-send_all.ensures.spent in
    let front = sent_as (λ (x : Store) (xs : List Sent). SendsPrefix (datagrams (boot_in x) s.next (with_number s.next (letters s.me x xs))) observed now) c.kv-2.result.now m c.sent_by-out.result r.out c.kv-2.ensures c.sent_by-out.ensures c.in_err-send_all.ensures.posts.observed in
    rw (p.1, p.2)
    (not_sent s.me (serving_of s clock observed) (at_time c.args.now c.args.input.now) _ reacts m c.in_ok-keep.ensures.keeps.1 c.in_ok-keep.ensures.keeps.0 e now why front)

pub returns-clause-ends : goal.returns-clause-ends
returns-clause-ends g c = λ clock.
    let s = c.args.self.now in
    let r = c.in_ok-reaction.reaction in
    let m = c.keep.new.store.kv in
    let next = c.send_all.new.next in
    let observed = (g.L.Link.state c.args.link.now).observed in
    let now = (g.L.Link.state c.send_all.new.link).observed in
    let h = subst (λ (x : Store). Reacts s.core c.react.new.self x c.args.now c.args.input.now (Ok r)) c.kv.ensures c.in_ok-reaction.ensures in
    let reacts = reacts_so s.core c.react.new.self (store_view_of s.store) c.args.now c.args.input.now s.me c.requires.in_use.own r s.next h in
    let behind = sent_as (λ (x : Store) (xs : List Sent). next ≡ next_after s.next (letters s.me x xs)) c.kv-2.result.now m c.sent_by-out.result r.out c.kv-2.ensures c.sent_by-out.ensures c.in_ok-send_all.ensures.behind in
    let sent = sent_as (λ (x : Store) (xs : List Sent). SendsAll (datagrams (boot_in x) s.next (with_number s.next (letters s.me x xs))) observed now) c.kv-2.result.now m c.sent_by-out.result r.out c.kv-2.ensures c.sent_by-out.ensures c.in_ok-send_all.ensures.posts.observed in
    all_sent s.me (serving_of s clock observed) (at_time c.args.now c.args.input.now) _ reacts m c.in_ok-keep.ensures.keeps.1 c.in_ok-keep.ensures.keeps.0 (store_view_of c.keep.new.store) next now c.in_ok-keep.ensures.stands behind c.in_ok-send_all.ensures.most sent

pub returns-in_err-reaction-clause-passes : goal.returns-in_err-reaction-clause-passes
returns-in_err-reaction-clause-passes g c = λ clock both.
    let s = c.args.self.now in
    let state = g.D.Disk.state in
    let e = c.in_err-reaction.field-0.0 in
    let p = err_from_is_err_and c.from_residual.result c.from_residual.ensures.1 in
    let h = subst (λ (m : Store). Reacts s.core c.react.new.self m c.args.now c.args.input.now (Err e)) c.kv.ensures c.in_err-reaction.ensures in
    rw (p.1, p.2)
    (core_passes s.core c.react.new.self (store_view_of s.store) c.args.now c.args.input.now s.me c.requires.in_use.own (Unit {0}) e s.next s.assembly clock (g.L.Link.state c.args.link.now).observed
    (disks_of state s.store) h both (in_use_leaves state s.store c.requires.in_use.unbroken c.requires.in_use.sound))

pub returns-in_err-keep-clause-passes : goal.returns-in_err-keep-clause-passes
returns-in_err-keep-clause-passes g c = λ clock both.
    let s = c.args.self.now in
    let state = g.D.Disk.state in
    let r = c.in_ok-reaction.reaction in
    let n = c.keep.new.store in
    let observed = (g.L.Link.state c.args.link.now).observed in
    let p = err_from_is_err_and c.from_residual-in_err-keep.result c.from_residual-in_err-keep.ensures.1 in
    let h = subst (λ (m : Store). Reacts s.core c.react.new.self m c.args.now c.args.input.now (Ok r)) c.kv.ensures c.in_ok-reaction.ensures in
    let reacts = reacts_so s.core c.react.new.self (store_view_of s.store) c.args.now c.args.input.now s.me c.requires.in_use.own r s.next h in
    rw (p.1, p.2)
    (unkept_pass s.me (serving_of s clock observed) (at_time c.args.now c.args.input.now) _ reacts state (Unit {0}) (disk_a s.store) (disk_b s.store) (disk_a n) (disk_b n) n.kv
    both (in_use_leaves state s.store c.requires.in_use.unbroken c.requires.in_use.sound) (c.keep.ensures.passes both) c.in_err-keep.field-0.0 c.in_err-keep.ensures.keeps c.keep.ensures.large)

pub returns-in_err-send_all-clause-passes : goal.returns-in_err-send_all-clause-passes
returns-in_err-send_all-clause-passes g c = λ clock both.
    let s = c.args.self.now in
    let state = g.D.Disk.state in
    let r = c.in_ok-reaction.reaction in
    let n = c.keep.new.store in
    let e = c.in_err-send_all.field-0.0 in
    let observed = (g.L.Link.state c.args.link.now).observed in
    let p = err_from_is_err_and c.from_residual-in_err-send_all.result c.from_residual-in_err-send_all.ensures.1 in
    let h = subst (λ (x : Store). Reacts s.core c.react.new.self x c.args.now c.args.input.now (Ok r)) c.kv.ensures c.in_ok-reaction.ensures in
    let reacts = reacts_so s.core c.react.new.self (store_view_of s.store) c.args.now c.args.input.now s.me c.requires.in_use.own r s.next h in
    let now = (g.L.Link.state c.send_all.new.link).observed in
    let why = sent_as (λ (x : Store) (xs : List Sent). IsSpent (next_after s.next (letters s.me x xs)) e) c.kv-2.result.now n.kv c.sent_by-out.result r.out c.kv-2.ensures c.sent_by-out.ensures c.in_err-send_all.ensures.spent in
    let front = sent_as (λ (x : Store) (xs : List Sent). SendsPrefix (datagrams (boot_in x) s.next (with_number s.next (letters s.me x xs))) observed now) c.kv-2.result.now n.kv c.sent_by-out.result r.out c.kv-2.ensures c.sent_by-out.ensures c.in_err-send_all.ensures.posts.observed in
    rw (p.1, p.2)
    (unsent_pass s.me (serving_of s clock observed) (at_time c.args.now c.args.input.now) _ reacts c.in_ok-keep.ensures.keeps.0 (disks_of state s.store) (disks_of state n) (c.keep.ensures.passes both)
    (Unit {0}) _ e clock now (store_view_of n) c.in_err-send_all.ensures.spent
    (not_sent s.me (serving_of s clock observed) (at_time c.args.now c.args.input.now) _ reacts n.kv c.in_ok-keep.ensures.keeps.1 c.in_ok-keep.ensures.keeps.0 e now why front)
    c.in_ok-keep.ensures.stands (in_use_leaves state n c.in_ok-keep.ensures.unbroken c.keep.ensures.sound))

pub returns-clause-passes : goal.returns-clause-passes
returns-clause-passes g c = λ clock both.
    let s = c.args.self.now in
    let state = g.D.Disk.state in
    let r = c.in_ok-reaction.reaction in
    let observed = (g.L.Link.state c.args.link.now).observed in
    let h = subst (λ (x : Store). Reacts s.core c.react.new.self x c.args.now c.args.input.now (Ok r)) c.kv.ensures c.in_ok-reaction.ensures in
    let reacts = reacts_so s.core c.react.new.self (store_view_of s.store) c.args.now c.args.input.now s.me c.requires.in_use.own r s.next h in
    taken_pass s.me (serving_of s clock observed) (at_time c.args.now c.args.input.now) _ reacts c.in_ok-keep.ensures.keeps.0 (disks_of state s.store) (disks_of state c.keep.new.store) (c.keep.ensures.passes both) (Unit {0}) tt (g.L.Link.state c.send_all.new.link).observed

pub returns-in_err-reaction-clause-talks : goal.returns-in_err-reaction-clause-talks
returns-in_err-reaction-clause-talks g c = λ clock.
    let p = err_from_is_err_and c.from_residual.result c.from_residual.ensures.1 in
    rw (p.1, p.2) (silent_end (Unit {0}) _ _ _ _ _ _ _ [] (no_call _))

pub returns-in_err-keep-clause-talks : goal.returns-in_err-keep-clause-talks
returns-in_err-keep-clause-talks g c = λ clock.
    let p = err_from_is_err_and c.from_residual-in_err-keep.result c.from_residual-in_err-keep.ensures.1 in
    rw (p.1, p.2) (silent_end (Unit {0}) _ _ _ _ _ _ _ [] (no_call _))

pub returns-in_err-send_all-clause-talks : goal.returns-in_err-send_all-clause-talks
returns-in_err-send_all-clause-talks g c = λ clock.
    let s = c.args.self.now in
    let state = g.D.Disk.state in
    let r = c.in_ok-reaction.reaction in
    let n = c.keep.new.store in
    let before = g.L.Link.history c.args.link.now in
    let after = g.L.Link.history c.send_all.new.link in
    let observed = (g.L.Link.state c.args.link.now).observed in
    let p = err_from_is_err_and c.from_residual-in_err-send_all.result c.from_residual-in_err-send_all.ensures.1 in
    let h = subst (λ (x : Store). Reacts s.core c.react.new.self x c.args.now c.args.input.now (Ok r)) c.kv.ensures c.in_ok-reaction.ensures in
    let reacts = reacts_so s.core c.react.new.self (store_view_of s.store) c.args.now c.args.input.now s.me c.requires.in_use.own r s.next h in
    let at = at_time c.args.now c.args.input.now in
    let went = sent_as (λ (x : Store) (xs : List Sent). WentFirst (datagrams (boot_in x) s.next (with_number s.next (letters s.me x xs))) before after) c.kv-2.result.now n.kv c.sent_by-out.result r.out c.kv-2.ensures c.sent_by-out.ensures c.in_err-send_all.ensures.posts.went in
    rw (p.1, p.2)
    (some_went (Unit {0}) s.me _ before after _ (disks_of state n) _ c.in_err-send_all.field-0.0 c.in_err-send_all.ensures.spent
    (in_these s.me (serving_of s clock observed) at _ reacts n.kv c.in_ok-keep.ensures.keeps.1 c.in_ok-keep.ensures.keeps.0 (λ (ds : List Outgoing). WentFirst ds before after) went)
    (left_kept s.me (serving_of s clock observed) at _ reacts c.in_ok-keep.ensures.keeps.0 (disks_of state n) (store_view_of n) c.in_ok-keep.ensures.stands (in_use_leaves state n c.in_ok-keep.ensures.unbroken c.keep.ensures.sound)))

pub returns-clause-talks : goal.returns-clause-talks
returns-clause-talks g c = λ clock.
    let s = c.args.self.now in
    let r = c.in_ok-reaction.reaction in
    let n = c.keep.new.store in
    let before = g.L.Link.history c.args.link.now in
    let after = g.L.Link.history c.send_all.new.link in
    let observed = (g.L.Link.state c.args.link.now).observed in
    let h = subst (λ (x : Store). Reacts s.core c.react.new.self x c.args.now c.args.input.now (Ok r)) c.kv.ensures c.in_ok-reaction.ensures in
    let reacts = reacts_so s.core c.react.new.self (store_view_of s.store) c.args.now c.args.input.now s.me c.requires.in_use.own r s.next h in
    let at = at_time c.args.now c.args.input.now in
    let went = sent_as (λ (x : Store) (xs : List Sent). Went (datagrams (boot_in x) s.next (with_number s.next (letters s.me x xs))) before after) c.kv-2.result.now n.kv c.sent_by-out.result r.out c.kv-2.ensures c.sent_by-out.ensures c.in_ok-send_all.ensures.posts.went in
    all_went (Unit {0}) s.me _ before after _ _ tt
    (in_these s.me (serving_of s clock observed) at _ reacts n.kv c.in_ok-keep.ensures.keeps.1 c.in_ok-keep.ensures.keeps.0 (λ (ds : List Outgoing). Went ds before after) went)

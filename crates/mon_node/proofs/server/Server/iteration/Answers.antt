use Rattle.std.proofs.Common.{ℕ, Option, Some, None, Ok, Err, sym, subst}
use Rattle.std.proofs.lemmas.Result.{err_from_is_err_and}
use Rattle.mon_link.specs.Histories.{GoOn}
use Rattle.mon_msg.specs.Protocol.Timers.{due}
use Rattle.mon_wire.specs.declared.phase.Timer.{Timer}
use Rattle.mon_node.specs.Hearing.{Given, IsGiven, Hears, heard}
use Rattle.mon_node.specs.Lasting.{PassIteration}
use Rattle.mon_node.specs.Nodes.{outside_of, disks_of}
use Rattle.mon_node.specs.Servers.{serving_of}
use Rattle.mon_node.specs.Serving.{EndsIteration}
use Rattle.mon_node.specs.Iterations.{Iteration, iteration}
use Rattle.mon_node.specs.Talking.{TalkIteration, asked}
use Rattle.mon_node.proofs.Passing.{ends_pass, quiet_pass}
use Rattle.mon_node.proofs.Standing.{in_use_leaves}
use Rattle.mon_node.proofs.Iterating.{came_as, iteration_with, quiet, ends}
use Rattle.mon_node.proofs.Talking.{after_asking, quiet_talk, silent_end}
use Rattle.mon_node.proofs.server.Server.iteration.Goals as goal

pub returns-in_err-came-clause-iteration : goal.returns-in_err-came-clause-iteration
returns-in_err-came-clause-iteration g c =
    let s = c.args.self.now in
    let old = serving_of s (g.C.Clock.left c.args.clock.now) (g.L.Link.state c.args.link.now).observed in
    let left = outside_of c.hear.new.assembly (g.C.Clock.left c.hear.new.clock) (g.L.Link.state c.hear.new.link).observed in
    let e = c.in_err-came.field-0.0 in
    let P = g.L.Link.history c.args.link.now in
    let Q = g.L.Link.history c.hear.new.link in
    let h = subst (λ (next : Option (Timer × ℕ)). (x : Given) × IsGiven next x old.outside × Hears (heard s.me.member.monitors next x old.outside) (Err e) left × GoOn P (asked next x) Q) c.due-next.ensures c.in_err-came.ensures.heard in
    let p = err_from_is_err_and c.from_residual.result c.from_residual.ensures.1 in
    rw (p.1, p.2) (
      h.0,
      h.1,
      ends s.me h.0 old e left h.2,
      λ both. ends_pass s.me h.0 old (Unit {0}) (disks_of g.D.Disk.state s.store) both (in_use_leaves g.D.Disk.state s.store c.requires.in_use.unbroken c.requires.in_use.sound) e left h.2,
      silent_end (Unit {0}) s.me (iteration s.me h.0 old) P Q (disks_of g.D.Disk.state s.store) (disks_of g.D.Disk.state s.store) e (asked (due s.core.state.timers) h.0) h.3,
    )

pub returns-in-Some-clause-iteration : goal.returns-in-Some-clause-iteration
returns-in-Some-clause-iteration g c =
    let s = c.args.self.now in
    let timed = c.in-Some.timed in
    let clock = g.C.Clock.left c.hear.new.clock in
    let old = serving_of s (g.C.Clock.left c.args.clock.now) (g.L.Link.state c.args.link.now).observed in
    let left = outside_of c.hear.new.assembly clock (g.L.Link.state c.hear.new.link).observed in
    let P = g.L.Link.history c.args.link.now in
    let Q = g.L.Link.history c.hear.new.link in
    let h = subst (λ (next : Option (Timer × ℕ)). (x : Given) × IsGiven next x old.outside × Hears (heard s.me.member.monitors next x old.outside) (Ok c.in_ok-came.came) left × GoOn P (asked next x) Q) c.due-next.ensures c.in_ok-came.ensures.heard in
    let R = g.L.Link.history c.take-done.new.link in
    let is = came_as (heard s.me.member.monitors (due s.core.state.timers) h.0 old.outside) c.in_ok-came.came (Some timed) left h.2 c.in-Some.is in
    let so = sym (iteration_with s.me h.0 old (Ok (Some timed)) left is) in (
      h.0,
      h.1,
      subst (λ (t : Iteration). EndsIteration s.me t c.take-done.result (serving_of c.take-done.new.self clock (g.L.Link.state c.take-done.new.link).observed)) so (c.take-done.ensures.ends clock),
      λ both. subst (λ (t : Iteration). PassIteration s.me t c.take-done.result (g.L.Link.state c.take-done.new.link).observed (disks_of g.D.Disk.state s.store) (disks_of g.D.Disk.state c.take-done.new.self.store)) so (c.take-done.ensures.passes clock both),
      subst (λ (t : Iteration). TalkIteration s.me t (asked (due s.core.state.timers) h.0) c.take-done.result P R (disks_of g.D.Disk.state s.store) (disks_of g.D.Disk.state c.take-done.new.self.store)) so
          (after_asking (Unit {0}) s.me _ P Q R _ _ c.take-done.result (asked (due s.core.state.timers) h.0) h.3 (c.take-done.ensures.talks clock)),
    )

pub returns-in-None-clause-iteration : goal.returns-in-None-clause-iteration
returns-in-None-clause-iteration g c =
    let s = c.args.self.now in
    let old = serving_of s (g.C.Clock.left c.args.clock.now) (g.L.Link.state c.args.link.now).observed in
    let left = outside_of c.hear.new.assembly (g.C.Clock.left c.hear.new.clock) (g.L.Link.state c.hear.new.link).observed in
    let P = g.L.Link.history c.args.link.now in
    let Q = g.L.Link.history c.hear.new.link in
    let h = subst (λ (next : Option (Timer × ℕ)). (x : Given) × IsGiven next x old.outside × Hears (heard s.me.member.monitors next x old.outside) (Ok c.in_ok-came.came) left × GoOn P (asked next x) Q) c.due-next.ensures c.in_ok-came.ensures.heard in (
      h.0,
      h.1,
      quiet s.me h.0 old left (came_as (heard s.me.member.monitors (due s.core.state.timers) h.0 old.outside) c.in_ok-came.came None left h.2 c.in-None.is),
      λ both. quiet_pass s.me h.0 old (Unit {0}) (disks_of g.D.Disk.state s.store) both (in_use_leaves g.D.Disk.state s.store c.requires.in_use.unbroken c.requires.in_use.sound) tt left.link,
      subst (λ (t : Iteration). TalkIteration s.me t (asked (due s.core.state.timers) h.0) (Ok tt) P Q (disks_of g.D.Disk.state s.store) (disks_of g.D.Disk.state s.store))
          (sym (iteration_with s.me h.0 old (Ok None) left (came_as (heard s.me.member.monitors (due s.core.state.timers) h.0 old.outside) c.in_ok-came.came None left h.2 c.in-None.is)))
          (quiet_talk (Unit {0}) s.me (record old { outside = left }) P Q _ _ tt (asked (due s.core.state.timers) h.0) h.3),
    )

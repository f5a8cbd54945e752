use Rattle.std.proofs.Common.{◌≡◌, ◌-◌, arith, ap, ◌∙◌, drop, get_or}
use Rattle.mon_msg.specs.Protocol.Timers.{soonest, sooner}
use Rattle.mon_wire.specs.declared.phase.TheConstants.Timer.{ALL}
use Rattle.mon_wire.specs.declared.phase.Timer.TheVariants as timer
use Rattle.mon_event.proofs.Soonest.{soonest_before}
use Rattle.mon_event.proofs.timers.Timers.due.Goals as goal

pub loop-i-preserved : goal.loop-i-preserved
loop-i-preserved c =
    let kind = get_or ALL (c.loop-i.i - 1) timer.Probe in
    record {
      within = omega arith;
      next =
          c.sooner-next.ensures
          ∙ (λ j. sooner kind (c.end_of.ensures j) (c.loop-i.invariant.next j))
          ∙ soonest_before ALL c.args.self.now c.loop-i.i timer.Probe (omega arith) c.loop-i.invariant.within;
    }

pub returns : goal.returns
returns c =
    let first : c.loop-i.i ≡ 0 = omega arith in
    c.loop-i.invariant.next ∙ ap (λ i. soonest (drop i ALL) c.args.self.now) first

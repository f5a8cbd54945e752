use Rattle.std.proofs.Common.{◌≡◌, true, List, sym, subst}
use Rattle.mon_bytes.specs.declared.entry.Entry.{Entry}
use Rattle.mon_msg.specs.Protocol.Readings.{readings_of}
use Rattle.mon_msg.specs.declared.paxos.Leader.{Leader}
use Rattle.mon_plan.specs.Inputs.{row}
use Rattle.mon_plan.specs.Plans.{PlansRow, leads}
use Rattle.mon_plan.specs.Seen.{IsMet}
use Rattle.paxos_leader.specs.Inputs.{may_begin_all}
use Rattle.paxos_leader.proofs.inputs.step.Goals as goal

pub step_owned-requires-clause-input : goal.step_owned-requires-clause-input
step_owned-requires-clause-input c = c.requires.input

pub step_owned-requires-clause-fits : goal.step_owned-requires-clause-fits
step_owned-requires-clause-fits c = c.requires.fits

pub step_owned-requires-clause-held : goal.step_owned-requires-clause-held
step_owned-requires-clause-held c = subst (λ (l : Leader). may_begin_all l ≡ true) (sym c.in_ok-copy.ensures) c.requires.held

pub returns-clause-plans : goal.returns-clause-plans
returns-clause-plans c =
    let me = c.args.me.now in
    let w = readings_of c.args.kv.now in
    subst
    (λ (l : Leader). (shared : List Entry) → PlansRow me c.args.now leads (IsMet me c.args.now w c.args.view.now (λ s. s.leader) l) (row me shared c.args.now c.args.input.now) c.step_owned.result)
    c.in_ok-copy.ensures c.step_owned.ensures.plans

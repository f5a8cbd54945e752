use Rattle.std.proofs.Common.{List, subst}
use Rattle.mon_bytes.specs.declared.entry.Entry.{Entry}
use Rattle.mon_msg.specs.Protocol.Course.{clients_are}
use Rattle.mon_msg.specs.Protocol.Readings.{readings_of}
use Rattle.mon_msg.specs.declared.clients.Clients.{Clients}
use Rattle.mon_plan.specs.Inputs.{row}
use Rattle.mon_plan.specs.Plans.{PlansRow}
use Rattle.mon_plan.specs.Seen.{IsMet}
use Rattle.mon_client.proofs.inputs.step.Goals as goal

pub step_owned-requires-clause-input : goal.step_owned-requires-clause-input
step_owned-requires-clause-input c = c.requires.input

pub step_owned-requires-clause-fits : goal.step_owned-requires-clause-fits
step_owned-requires-clause-fits c = c.requires.fits

pub returns-clause-plans : goal.returns-clause-plans
returns-clause-plans c =
    let me = c.args.me.now in
    let w = readings_of c.args.kv.now in
    subst
    (λ (s : Clients). (shared : List Entry) → PlansRow me c.args.now clients_are (IsMet me c.args.now w c.args.view.now (λ st. st.clients) s) (row me shared c.args.now c.args.input.now) c.step_owned.result)
    c.in_ok-copy.ensures c.step_owned.ensures.plans

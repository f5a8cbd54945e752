use Rattle.std.proofs.Common.{Ok, sym, ap, ◌∙◌, ◌+◌}
use Rattle.mon_msg.specs.Protocol.Readings.{readings_of}
use Rattle.svc_core.proofs.Drafting.{value_made}
use Rattle.svc_core.proofs.ShortValues.{short_value}
use Rattle.svc_core.proofs.proposal.value.Goals as goal

pub returns : goal.returns
returns c = record {
  made = value_made (readings_of c.args.kv.now) c.args.command.now c.args.asked c.service_of-service.result (c.last_version-n.result + 1) c.has_full.result c.in_ok-made.made c.service_of-service.ensures (ap (λ n. n + 1) c.last_version-n.ensures.value) c.has_full.ensures c.in_ok-made.ensures.made
      ∙ ap Ok (sym c.in_ok-value_tx.ensures);
  short = short_value (readings_of c.args.kv.now) c.args.command.now c.service_of-service.result (c.last_version-n.result + 1) c.in_ok-made.made _ c.service_of-service.ensures (ap (λ n. n + 1) c.last_version-n.ensures.value) c.in_ok-made.ensures.short c.in_ok-value_tx.ensures;
}

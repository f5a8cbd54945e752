use Rattle.std.proofs.Common.{arith}
use Rattle.mon_msg.specs.Protocol.Readings.{readings_of}
use Rattle.mon_msg.specs.Protocol.Services.{read_map}
use Rattle.mon_wire.specs.declared.request.Service.TheVariants as service
use Rattle.svc_core.proofs.DraftSizes.{incremental_short}
use Rattle.svc_core.proofs.made.kv_made.Goals as goal

pub returns-clause-short : goal.returns-clause-short
returns-clause-short c = record {
  incremental = rw (c.bare.ensures.incremental, c.new.ensures, c.in_ok-incremental.ensures.text)
      (incremental_short (read_map (readings_of c.args.kv.now) service.Kv) c.args.command.now c.in_ok-inc.inc c.in_ok-inc.ensures.form c.in_ok-inc.ensures.made);
  text = rw c.bare.ensures.text (omega arith);
}

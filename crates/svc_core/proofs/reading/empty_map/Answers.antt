use Rattle.mon_wire.specs.declared.request.Service.TheVariants as service
use Rattle.svc_core.proofs.Steps.{empty_is}
use Rattle.svc_core.proofs.reading.empty_map.Goals as goal

pub returns-in-Kv-clause-form : goal.returns-in-Kv-clause-form
returns-in-Kv-clause-form c = rw (c.in-Kv.is, c.new.ensures) (empty_is service.Kv)

pub returns-in-Log-clause-form : goal.returns-in-Log-clause-form
returns-in-Log-clause-form c = rw (c.in-Log.is, c.new-in-Log.ensures) (empty_is service.Log)

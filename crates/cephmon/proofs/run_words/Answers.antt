use Rattle.std.proofs.Common.{inl}
use Rattle.cephmon.proofs.run_words.Goals as goal

pub returns-in-Ok : goal.returns-in-Ok
returns-in-Ok c = record { runs = inl (c.in-Ok.devices, c.in-Ok.ensures, c.run_on_devices.ensures.runs) }

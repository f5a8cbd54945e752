use Rattle.std.proofs.Common.{refl, sym, subst, inl}
use Rattle.cephmon.specs.Program.{IsLinkOf}
use Rattle.cephmon.proofs.run_on_devices.Goals as goal

pub returns-in-Monitor : goal.returns-in-Monitor
returns-in-Monitor c =
    record { runs = inl (c.in-Monitor.link, subst (λ channel. IsLinkOf channel c.in-Monitor.link) (sym c.in-Monitor.is) refl, c.run_as_monitor.ensures.lives) }

use Rattle.mon_link.proofs.Histories.{leads_on}
use Rattle.mon_link.proofs.memory_link.MemoryLinkLink.TheImpl.Goals as goal

pub next-tells : goal.next-tells
next-tells c = record { calls = c.ensures.calls; goes_on = λ h led. (led.0, led.1, leads_on h _ _ _ _ led.2 c.ensures.calls) }

pub send-tells : goal.send-tells
send-tells c = record { calls = c.ensures.calls; goes_on = λ h led. (led.0, led.1, leads_on h _ _ _ _ led.2 c.ensures.calls) }

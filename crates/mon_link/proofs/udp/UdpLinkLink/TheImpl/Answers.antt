use Rattle.mon_link.proofs.Histories.{leads_on}
use Rattle.mon_link.proofs.udp.UdpLinkLink.TheImpl.Goals as goal

pub next-tells : goal.next-tells
next-tells g c = record { calls = c.ensures.calls; goes_on = λ h led. (led.0, leads_on h _ _ _ _ led.1 c.ensures.calls) }

pub send-tells : goal.send-tells
send-tells g c = record { calls = c.ensures.calls; goes_on = λ h led. (led.0, leads_on h _ _ _ _ led.1 c.ensures.calls) }

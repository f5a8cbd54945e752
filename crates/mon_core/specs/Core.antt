-- What a core is: a monitor that remembers something, and what it keeps of the services' maps.
use Rattle.mon_msg.specs.Protocol.State.{State}
use Rattle.mon_msg.specs.declared.view.Me.{Me}
use Rattle.svc_core.specs.declared.cache.Cache.{Cache}

pub record Monitor : Type 0 where
  pub me : Me
  pub state : State
  pub cache : Cache

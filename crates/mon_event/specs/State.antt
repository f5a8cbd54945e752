-- What a core remembers of the protocol.
use Rattle.mon_msg.specs.Protocol.State.{State}
use Rattle.mon_event.specs.declared.state.State.{State as Held}

abbrev pub state_of : Held → State
state_of s = record {
  phase = s.phase;
  elector = s.elector;
  prober = s.prober;
  leader = s.leader;
  peon = s.peon;
  clients = s.clients;
  provider = s.provider;
  requester = s.requester;
  timers = s.timers;
}

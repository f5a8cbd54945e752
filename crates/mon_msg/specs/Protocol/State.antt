-- What a running monitor remembers and its store doesn't keep.
use Rattle.std.specs.Prelude.{ℕ, Bool, false, List, Option, None, if◌then◌else◌, [], replicate}
use Rattle.election_rules.specs.Table.{start_scores}
use Rattle.mon_bytes.specs.declared.entry.KeyPlace.TheVariants as key_place
use Rattle.mon_msg.specs.Protocol.Phases.{is_leading, is_peon}
use Rattle.mon_msg.specs.Protocol.Timers.{unarmed}
use Rattle.mon_msg.specs.declared.clients.Clients.{Clients}
use Rattle.mon_msg.specs.declared.election.Elector.{Elector}
use Rattle.mon_msg.specs.declared.election.Prober.{Prober}
use Rattle.mon_msg.specs.declared.paxos.Leader.{Leader}
use Rattle.mon_msg.specs.declared.paxos.LeaderStage.TheVariants as stage
use Rattle.mon_msg.specs.declared.paxos.Peon.{Peon}
use Rattle.mon_wire.specs.declared.phase.Phase.TheVariants as phase
use Rattle.mon_wire.specs.declared.phase.Phase.{Phase}
use Rattle.mon_msg.specs.declared.synchronization.Provider.{Provider}
use Rattle.mon_msg.specs.declared.synchronization.Requester.{Requester}
use Rattle.mon_msg.specs.declared.synchronization.SyncStage.TheVariants as sync
use Rattle.mon_types.specs.Ranks.{no_ranks}

-- The phase, what each role remembers, and for each kind of timer, in their order, the time for which it is set. The state of
-- a role outside its phases counts for nothing.
pub record State : Type 0 where
  pub phase : Phase
  pub elector : Elector
  pub prober : Prober
  pub leader : Leader
  pub peon : Peon
  pub clients : Clients
  pub provider : Provider
  pub requester : Requester
  pub timers : List (Option ℕ)

-- the quorum that the monitor is in, or the empty set
abbrev pub quorum_of : State → List Bool
quorum_of s = if is_peon s.phase then s.peon.quorum else (if is_leading s.phase then s.leader.quorum else no_ranks)

-- its lease, or none
abbrev pub lease_of : State → Option ℕ
lease_of s = if is_peon s.phase then s.peon.lease else (if is_leading s.phase then s.leader.lease else None)

-- ---- what is remembered at first

abbrev pub no_clients : Clients
no_clients = record { queue = []; sessions = []; next_seq = 1; taken = replicate 15 0 }

abbrev pub start_elector : ℕ → Elector
start_elector r = record { candidate = false; acked = no_ranks; deferred = None; scores = start_scores r 0; heard = no_ranks; pinged = 0 }

abbrev pub start_leader : Leader
start_leader = record {
  quorum = no_ranks;
  pn = 0;
  stage = stage.Collecting;
  answered = no_ranks;
  lasts = replicate 15 0;
  found = None;
  accepted = no_ranks;
  value = None;
  origin = None;
  lease = None;
  acks = no_ranks;
}

abbrev pub start_requester : ℕ → Bool → Requester
start_requester from full = record {
  provider = from;
  full = full;
  stage = sync.Cookie;
  cookie = None;
  start = 0;
  place = record { version = 0; key = key_place.Start };
}

-- a monitor of that rank before it starts
abbrev pub booting : ℕ → State
booting r = record {
  phase = phase.Booting;
  elector = start_elector r;
  prober = record { outside = no_ranks };
  leader = start_leader;
  peon = record { leader = r; quorum = no_ranks; lease = None };
  clients = no_clients;
  provider = record { cookies = replicate 15 None; next_cookie = 1 };
  requester = start_requester r false;
  timers = unarmed;
}

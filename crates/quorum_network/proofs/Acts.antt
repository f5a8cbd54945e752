-- What a process did in a step, and what the event of the run has of it.
use Rattle.law_names.proofs.Runs.{Monitors, Plain, PlainFits, World, arrival, map_after, me_of, messages_of, replies_of, state_at}
use Rattle.law_names.proofs.Table.{Input, Me, Reaction, reaction}
use Rattle.quorum_network.proofs.Names.{Iteration, Network, Node, NodeEnd, Step, TimedInput, Until, iteration_of, kept_by}
use Rattle.std.proofs.Common.{Err, None, Ok, Option, Result, Some, suc, ℕ, ◌++◌, ◌≡◌}

-- a node reacted to an input at a time, and kept the transaction
pub record Act : Type 0 where
  pub rank : ℕ
  pub me : Me
  pub node : Node
  pub at : ℕ
  pub input : Input
  pub reaction : Reaction

abbrev pub act_by : ℕ → Me → Node → TimedInput → Option Reaction → Option Act
act_by i me n it None = None
act_by i me n it (Some r) = Some (record { rank = i; me = me; node = n; at = it.at; input = it.input; reaction = r })

abbrev pub act_in : ℕ → Me → Node → Result (Option TimedInput) NodeEnd → Option Reaction → Option Act
act_in i me n (Ok (Some it)) o = act_by i me n it o
act_in i me n (Ok None) o = None
act_in i me n (Err e) o = None

abbrev pub act_in_iteration : ℕ → Me → Until → Option Iteration → Option Act
act_in_iteration i me u (Some t) = act_in i me t.serving.node t.came (kept_by me t u)
act_in_iteration i me u None = None

abbrev pub act_at : Network → Step → Option Me → Option Act
act_at net s (Some me) = act_in_iteration s.rank me s.up_to (iteration_of me (net.process s.rank) s.doing)
act_at net s None = None

-- The event between these worlds brings the act's input to a monitor with the same map and state, and replies and sends
-- what the reaction does.
pub record Does (ms : Monitors) (w next : World) (a : Act) : Type 0 where
  pub known : me_of ms a.rank ≡ Some a.me
  pub plain : Plain
  pub fits : PlainFits ms.count plain
  pub there : arrival w plain ≡ Some (record { rank = a.rank; at = a.at; input = a.input })
  pub up : state_at a.rank (w.state a.rank) a.input ≡ Some a.node.state
  pub kv : a.node.store.kv ≡ w.store a.rank
  pub reacts : reaction a.me a.at (w.store a.rank) a.node.state a.input ≡ Ok a.reaction
  pub replied : next.replied ≡ w.replied ++ replies_of (suc w.events) a.rank (map_after w a.rank a.reaction) a.reaction.sends
  pub messages : next.messages ≡ w.messages ++ messages_of a.reaction.sends

-- without an act, the event replies and sends nothing
abbrev pub DoesSo : Monitors → (w next : World) → Option Act → Type 0
DoesSo ms w next None = (next.replied ≡ w.replied) × (next.messages ≡ w.messages)
DoesSo ms w next (Some a) = Does ms w next a

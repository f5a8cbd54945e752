-- Which requests of clients came to processes, what processes acknowledged, and who led.
use Rattle.std.specs.Prelude.{ℕ, List, [], ◌∷◌, ◌++◌, Option, Some, None, Result, Ok, Err, if◌then◌else◌}
use Rattle.std.specs.List.{filter_map}
use Rattle.std.specs.Option.{option_map}
use Rattle.mon_msg.specs.Protocol.Reaction.{Reaction}
use Rattle.mon_msg.specs.Protocol.Readings.{readings_of, epoch_of}
use Rattle.mon_msg.specs.Protocol.State.{State}
use Rattle.mon_msg.specs.declared.input.Input.TheVariants as input
use Rattle.mon_msg.specs.declared.input.Input.{Input}
use Rattle.mon_msg.specs.declared.plan.Sent.{Sent}
use Rattle.mon_msg.specs.declared.view.Me.{Me}
use Rattle.mon_node.specs.Nodes.{Node}
use Rattle.mon_node.specs.Iterations.{Iteration, map_after}
use Rattle.mon_node.specs.declared.end.NodeEnd.{NodeEnd}
use Rattle.mon_node.specs.declared.hearing.TimedInput.{TimedInput}
use Rattle.mon_tx.specs.Map.{Store}
use Rattle.quorum_model.specs.Acknowledging.{acknowledges, done_by}
use Rattle.quorum_model.specs.Happens.{is_active}
use Rattle.quorum_model.specs.Monitors.{Monitors, me_of}
use Rattle.quorum_model.specs.World.{Acknowledgement, Asked}
use Rattle.quorum_network.specs.Network.{Network, Step, Until, Whole, Lost, Kept, kept_reaction, network, iteration_of}

-- ---- requests

-- what an input asks of monitor i
abbrev pub asks_in : ℕ → Input → List Asked
asks_in i (input.Client session r) = record { rank = i; session = session; request = r } ∷ []
asks_in i other = []

abbrev pub requests_in : ℕ → Result (Option TimedInput) NodeEnd → List Asked
requests_in i (Ok (Some it)) = asks_in i it.input
requests_in i (Ok None) = []
requests_in i (Err e) = []

abbrev pub asked_in_iteration : ℕ → Option Iteration → List Asked
asked_in_iteration i (Some t) = requests_in i t.came
asked_in_iteration i None = []

abbrev pub asked_by : Network → Step → Option Me → List Asked
asked_by net s (Some me) = asked_in_iteration s.rank (iteration_of me (net.process s.rank) s.doing)
asked_by net s None = []

-- the requests that came in these steps
unfoldable pub requests : Monitors → List Step → List Asked
requests ms [] = []
requests ms (s ∷ earlier) = requests ms earlier ++ asked_by (network ms earlier) s (me_of ms s.rank)

-- ---- acknowledgements

-- What the sends of a reaction acknowledge. After the reaction the monitor keeps m and remembers s.
abbrev pub acknowledged_in : Store → State → List Sent → List Acknowledgement
acknowledged_in m s sends = filter_map (λ x. option_map (acknowledges m s) (done_by s x)) sends

abbrev pub acknowledged_by : Node → Option Reaction → List Acknowledgement
acknowledged_by n (Some r) = acknowledged_in (map_after n r) r.state r.sends
acknowledged_by n None = []

-- the reaction whose transaction is kept by an iteration that gets this far
abbrev pub kept_by : Me → Iteration → Until → Option Reaction
kept_by me t Whole = kept_reaction me t
kept_by me t Lost = None
kept_by me t (Kept k) = kept_reaction me t

abbrev pub acknowledged_in_iteration : Me → Until → Option Iteration → List Acknowledgement
acknowledged_in_iteration me u (Some t) = acknowledged_by t.serving.node (kept_by me t u)
acknowledged_in_iteration me u None = []

abbrev pub acknowledged_at : Network → Step → Option Me → List Acknowledgement
acknowledged_at net s (Some me) = acknowledged_in_iteration me s.up_to (iteration_of me (net.process s.rank) s.doing)
acknowledged_at net s None = []

-- what was acknowledged in these steps, whether or not its datagrams were all sent
unfoldable pub acknowledgements : Monitors → List Step → List Acknowledgement
acknowledgements ms [] = []
acknowledgements ms (s ∷ earlier) =
    acknowledgements ms earlier ++ acknowledged_at (network ms earlier) s (me_of ms s.rank)

-- ---- leaders

-- a process is an active leader, in an epoch
pub record Leadership : Type 0 where
  pub rank : ℕ
  pub epoch : ℕ

-- Monitor i leads after a reaction, if it then is an active leader. It then keeps m and remembers s.
abbrev pub led_in : ℕ → Store → State → List Leadership
led_in i m s = if is_active s.phase then record { rank = i; epoch = epoch_of (readings_of m) } ∷ [] else []

abbrev pub led_by : ℕ → Node → Option Reaction → List Leadership
led_by i n (Some r) = led_in i (map_after n r) r.state
led_by i n None = []

abbrev pub led_in_iteration : ℕ → Me → Until → Option Iteration → List Leadership
led_in_iteration i me u (Some t) = led_by i t.serving.node (kept_by me t u)
led_in_iteration i me u None = []

abbrev pub led_at : Network → Step → Option Me → List Leadership
led_at net s (Some me) = led_in_iteration s.rank me s.up_to (iteration_of me (net.process s.rank) s.doing)
led_at net s None = []

-- Who led in these steps. A process that is killed in an iteration leads if the transaction of that iteration was kept.
unfoldable pub leaderships : Monitors → List Step → List Leadership
leaderships ms [] = []
leaderships ms (s ∷ earlier) = leaderships ms earlier ++ led_at (network ms earlier) s (me_of ms s.rank)

-- Why a process doesn't serve a request: what its phase, its lease, its last version or its queue is when it says so.
use Rattle.std.specs.Prelude.{◌≡◌, ◌⊎◌, ℕ, List, ◌∷◌, ◌++◌, Some, Ok}
use Rattle.std.specs.List.{Contains}
use Rattle.mon_msg.specs.Protocol.Reaction.{Reaction}
use Rattle.mon_msg.specs.Protocol.Readings.{readings_of}
use Rattle.mon_msg.specs.declared.plan.Sent.TheVariants as sent
use Rattle.mon_msg.specs.declared.view.Me.{Me}
use Rattle.mon_node.specs.Iterations.{Iteration, map_after}
use Rattle.mon_node.specs.declared.hearing.TimedInput.{TimedInput}
use Rattle.mon_wire.specs.declared.body.Body.TheVariants as body
use Rattle.mon_wire.specs.declared.message.Message.{Message}
use Rattle.mon_wire.specs.declared.reply.Reply.{Reply}
use Rattle.network_answers.specs.Answers.{Answer}
use Rattle.quorum_model.specs.Monitors.{Monitors, me_of}
use Rattle.quorum_network.specs.Network.{Network, Step, iteration_of, network}
use Rattle.quorum_network.specs.Requests.{kept_by}
use Rattle.quorum_replies.specs.Causes.{HasCause, HasCauseToRoute}

-- In this step a process took an input, and its transaction was kept.
pub record Reacted (ms : Monitors) (net : Network) (s : Step) : Type 0 where
  pub me : Me
  pub known : me_of ms s.rank ≡ Some me
  pub iteration : Iteration
  pub iterates : iteration_of me (net.process s.rank) s.doing ≡ Some iteration
  pub it : TimedInput
  pub came : iteration.came ≡ Ok (Some it)
  pub reaction : Reaction
  pub kept : kept_by me iteration s.up_to ≡ Some reaction

-- the reaction sends monitor i a ROUTE with this reply
pub record Routes (r : Reaction) (i : ℕ) (y : Reply) : Type 0 where
  pub message : Message
  pub among : Contains r.sends (sent.Message i message)
  pub seq : ℕ
  pub says : message.body ≡ body.Route seq y

-- In one of these steps the answer's process replied so, and had a cause. Or in one of them a leader sent it a ROUTE
-- with this reply, and had a cause. The state and the map are those after the reaction, when it says so.
pub record IsCaused (ms : Monitors) (steps : List Step) (a : Answer) : Type 0 where
  pub later : List Step
  pub step : Step
  pub earlier : List Step
  pub is : steps ≡ later ++ step ∷ earlier
  pub reacted : Reacted ms (network ms earlier) step
  pub cause : ((step.rank ≡ a.rank)
      × HasCause ms.count reacted.it.at (readings_of (map_after reacted.iteration.serving.node reacted.reaction))
      reacted.reaction.state a.reply)
      ⊎ (Routes reacted.reaction a.rank a.reply × HasCauseToRoute reacted.reaction.state a.reply)

-- What an event meets: a monitor that reacts, one that is down, or none.
use Rattle.std.specs.Prelude.{ℕ, zero, suc, List, Option, Some, None, Result}
use Rattle.std.specs.List.{slice_get}
use Rattle.std.specs.Option.{option_map}
use Rattle.mon_types.specs.declared.names.Which.{Which}
use Rattle.mon_tx.specs.Map.{Store}
use Rattle.mon_msg.specs.Protocol.Reaction.{Reaction, reaction}
use Rattle.mon_msg.specs.Protocol.State.{State, booting}
use Rattle.mon_msg.specs.declared.input.Input.{Input}
use Rattle.mon_msg.specs.declared.input.Input.TheVariants as input
use Rattle.mon_msg.specs.declared.view.Me.{Me}
use Rattle.quorum_model.specs.Monitors.{Monitors, me_of}
use Rattle.quorum_model.specs.World.{World, Plain, Start, Deliver, Ring, Client, Envelope}

-- an input that arrives at the monitor of a rank at a time
pub record Arrival : Type 0 where
  pub rank : ℕ
  pub at : ℕ
  pub input : Input

-- the message of that number, counted from 1, if this many were sent
abbrev pub message_at : List Envelope → ℕ → Option Envelope
message_at es zero = None
message_at es (suc k) = slice_get es k

-- what an event brings to a monitor: a message that wasn't sent doesn't come
abbrev pub arrival : World → Plain → Option Arrival
arrival w (Start rank at) = Some (record { rank = rank; at = at; input = input.Start })
arrival w (Deliver k at) =
    option_map (λ e. record { rank = e.to; at = at; input = input.Deliver e.message }) (message_at w.messages k)
arrival w (Ring rank timer at) = Some (record { rank = rank; at = at; input = input.Timer timer })
arrival w (Client rank at session r) = Some (record { rank = rank; at = at; input = input.Client session r })

-- what a monitor of this rank remembers when an input comes, unless it is down: one that starts has forgotten all
abbrev pub state_at : ℕ → Option State → Input → Option State
state_at rank s input.Start = Some (booting rank)
state_at rank s other = s

-- The message to deliver wasn't sent; or its monitor is down or not in the map; or the monitor reacts to the input,
-- with a reaction of which nothing is written or sent yet, or with the number that runs out.
pub data Meeting : Type 0 where
  NoMessage : Meeting
  Down : Meeting
  Reacts : (rank : ℕ) → (input : Input) → (result : Result Reaction Which) → Meeting

abbrev pub meeting : Arrival → Store → Option Me → Option State → Meeting
meeting a m (Some me) (Some s) = Reacts a.rank a.input (reaction me a.at m s a.input)
meeting a m me s = Down

abbrev pub meeting_at : Monitors → World → Option Arrival → Meeting
meeting_at ms w None = NoMessage
meeting_at ms w (Some a) = meeting a (w.store a.rank) (me_of ms a.rank) (state_at a.rank (w.state a.rank) a.input)

abbrev pub meets : Monitors → World → Plain → Meeting
meets ms w p = meeting_at ms w (arrival w p)

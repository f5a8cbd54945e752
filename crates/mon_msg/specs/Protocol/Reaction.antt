-- What a monitor does at an input, from its whole store: what it writes, sends and remembers.
use Rattle.std.specs.Prelude.{ℕ, List, Result, Ok, Err}
use Rattle.mon_msg.specs.Joined.{joined}
use Rattle.mon_msg.specs.Protocol.Changes.{encoded}
use Rattle.mon_msg.specs.Protocol.Course.{Course}
use Rattle.mon_msg.specs.Protocol.State.{State}
use Rattle.mon_msg.specs.Protocol.Table.{react}
use Rattle.mon_msg.specs.Protocol.Readings.{readings_of, shared_entries}
use Rattle.mon_msg.specs.declared.input.Input.{Input}
use Rattle.mon_msg.specs.declared.plan.Sent.{Sent}
use Rattle.mon_msg.specs.declared.view.Me.{Me}
use Rattle.mon_tx.specs.Map.{Store}
use Rattle.mon_tx.specs.declared.op.Op.{Op}
use Rattle.mon_types.specs.declared.names.Which.{Which}

pub record Reaction : Type 0 where
  -- what is written, each key once
  pub transaction : List Op
  -- what is sent once that is durable, in order
  pub sends : List Sent
  -- what is remembered from then on
  pub state : State

abbrev pub reaction_of : Course → Reaction
reaction_of x = record { transaction = joined (encoded x.changes); sends = x.out; state = x.state }

abbrev pub any_reaction : Result Course Which → Result Reaction Which
any_reaction (Ok x) = Ok (reaction_of x)
any_reaction (Err which) = Err which

-- What a monitor does at an input at a time, by its store and what it remembers; or the number that runs out.
abbrev pub reaction : Me → ℕ → Store → State → Input → Result Reaction Which
reaction me now m s came = any_reaction (react me (shared_entries m) now (readings_of m) s came)

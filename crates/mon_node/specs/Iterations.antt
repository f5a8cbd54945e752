-- The iterations of a node, as a function of what its clock shows and its link returns.
use Rattle.std.specs.Prelude.{ℕ, ◌+◌, ◌^◌, nat_lt, List, [], ◌∷◌, Option, Some, None, Result, Ok, Err, option_map, if◌then◌else◌}
use Rattle.mon_bytes.specs.Answers.{◌>>=◌}
use Rattle.mon_kv.specs.Readers.{size_of}
use Rattle.mon_link.specs.declared.link.Outgoing.{Outgoing}
use Rattle.mon_msg.specs.Protocol.Reaction.{Reaction, reaction}
use Rattle.mon_msg.specs.Protocol.Timers.{due}
use Rattle.mon_msg.specs.declared.input.Input.TheVariants as input
use Rattle.mon_msg.specs.declared.view.Me.{Me}
use Rattle.mon_store.specs.Checkpoint.{most_size}
use Rattle.mon_tx.specs.Map.{Store, apply}
use Rattle.mon_types.specs.declared.names.Which.TheVariants as which
use Rattle.mon_types.specs.declared.names.Which.{Which}
use Rattle.mon_node.specs.Hearing.{Given, at_time, clock_read, heard}
use Rattle.mon_node.specs.Keeping.{kept}
use Rattle.mon_node.specs.Nodes.{Node, Serving}
use Rattle.mon_node.specs.Posting.{datagrams, letters, next_after, with_number, boot_in, and_sent}
use Rattle.mon_node.specs.declared.end.NodeEnd.TheVariants as end
use Rattle.mon_node.specs.declared.end.NodeEnd.{NodeEnd}
use Rattle.mon_node.specs.declared.hearing.TimedInput.{TimedInput}

-- ---- an input

-- the map after the transaction of a reaction
abbrev pub map_after : Node → Reaction → Store
map_after n r = apply r.transaction n.store.kv

-- the datagrams of a reaction whose transaction is kept
abbrev pub sent_by : Me → Node → Reaction → List Outgoing
sent_by me n r = datagrams (boot_in (map_after n r)) n.next (letters me (map_after n r) r.sends)

-- those of its messages before the first for which no number is left
abbrev pub numbered_by : Me → Node → Reaction → List Outgoing
numbered_by me n r =
    datagrams (boot_in (map_after n r)) n.next (with_number n.next (letters me (map_after n r) r.sends))

abbrev pub next_number : Me → Node → Reaction → ℕ
next_number me n r = next_after n.next (letters me (map_after n r) r.sends)

abbrev pub done : Me → Serving → Reaction → Serving
done me s r = record {
  node = record { state = r.state; store = kept r.transaction s.node.store; next = next_number me s.node r };
  outside = record s.outside { link = option_map (and_sent (sent_by me s.node r)) s.outside.link };
}

-- The result of a reaction: the map has a bound, and so has the number of a message that is longer than a datagram.
abbrev pub done_within : Me → Serving → Reaction → Result Serving NodeEnd
done_within me s r =
    if nat_lt most_size (size_of (map_after s.node r)) then Err (end.Full (size_of (map_after s.node r)))
    else if nat_lt (2 ^ 62 + 1) (next_number me s.node r) then Err (end.Spent which.Seq)
    else Ok (done me s r)

-- the core's reaction to an input
abbrev pub reaction_to : Me → Node → TimedInput → Result Reaction Which
reaction_to me n it = reaction me it.at n.store.kv n.state it.input

abbrev pub reacted : Me → Serving → Result Reaction Which → Result Serving NodeEnd
reacted me s (Ok r) = done_within me s r
reacted me s (Err spent) = Err (end.Spent spent)

abbrev pub input_taken : Me → Serving → Option TimedInput → Result Serving NodeEnd
input_taken me s None = Ok s
input_taken me s (Some it) = reacted me s (reaction_to me s.node it)

-- ---- the iterations

-- an iteration that heard this, before the core takes it
pub record Iteration : Type 0 where
  pub came : Result (Option TimedInput) NodeEnd
  pub serving : Serving

-- the state after the iteration, or its end
unfoldable pub ended_iteration : Me → Iteration → Result Serving NodeEnd
ended_iteration me t = t.came >>= input_taken me t.serving

unfoldable pub iteration : Me → Given → Serving → Iteration
iteration me g s =
    let h = heard me.member.monitors (due s.node.state.timers) g s.outside in
    record { came = h.came; serving = record s { outside = h.outside } }

-- the start, before which the clock is read
abbrev pub start : (first : ℕ) → Serving → Iteration
start first s = record {
  came = Ok (Some (at_time first input.Start));
  serving = record s { outside = clock_read s.outside };
}

-- The last of these iterations, before the core takes what it heard. What each was given is listed newest first, and
-- the start comes before all of them.
abbrev pub last_iteration : Me → (first : ℕ) → Serving → List Given → Result Iteration NodeEnd
last_iteration me first s [] = Ok (start first s)
last_iteration me first s (g ∷ earlier) =
    (last_iteration me first s earlier >>= ended_iteration me) >>= λ now. Ok (iteration me g now)

-- the state after all of these iterations, or the end
abbrev pub served : Me → (first : ℕ) → Serving → List Given → Result Serving NodeEnd
served me first s given = last_iteration me first s given >>= ended_iteration me

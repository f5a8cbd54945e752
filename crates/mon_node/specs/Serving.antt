-- How a node ends, and what it leaves.
use Rattle.std.specs.Prelude.{◌≡◌, ℕ, ◌≤◌, nat_lt, if◌then◌else◌, List, [], ◌∷◌, length, Option, Some, None, Result, Ok, Err}
use Rattle.mon_kv.specs.Readers.{size_of}
use Rattle.mon_link.specs.Clocks.{Readings}
use Rattle.mon_link.specs.Links.{Observed}
use Rattle.mon_link.specs.declared.link.Outgoing.{Outgoing}
use Rattle.mon_msg.specs.Protocol.Reaction.{Reaction}
use Rattle.mon_msg.specs.Protocol.Timers.{due}
use Rattle.mon_msg.specs.declared.view.Me.{Me}
use Rattle.mon_store.specs.Checkpoint.{most_size}
use Rattle.mon_types.specs.declared.names.Which.{Which}
use Rattle.mon_node.specs.Hearing.{Given, IsGiven, IsReading}
use Rattle.mon_node.specs.Nodes.{Node, Serving}
use Rattle.mon_node.specs.Posting.{SendsPrefix}
use Rattle.mon_node.specs.Iterations.{Iteration, map_after, numbered_by, reaction_to, ended_iteration, last_iteration, served}
use Rattle.mon_node.specs.declared.end.NodeEnd.TheVariants as end
use Rattle.mon_node.specs.declared.end.NodeEnd.{NodeEnd}
use Rattle.mon_node.specs.declared.hearing.TimedInput.{TimedInput}

abbrev pub Has : {A E : Type 0} → Result A E → (A → Type 0) → Type 0
Has (Ok x) P = P x
Has (Err e) P = ⊥

-- ---- the input of an iteration, if it has one

-- `some` of the core's reaction, or `none` if a number is spent
abbrev pub of_input : {A : Type 0} → A → (Reaction → A) → Result Reaction Which → A
of_input none some (Ok r) = some r
of_input none some (Err spent) = none

abbrev pub of_arrival : {A : Type 0} → Me → Node → A → (Reaction → A) → Result (Option TimedInput) NodeEnd → A
of_arrival me n none some (Ok (Some it)) = of_input none some (reaction_to me n it)
of_arrival me n none some (Ok None) = none
of_arrival me n none some (Err e) = none

abbrev pub of_iteration : {A : Type 0} → Me → Iteration → A → (Reaction → A) → A
of_iteration me t none some = of_arrival me t.serving.node none some t.came

-- the same, but `none` also if the transaction would make the map too large: it is never kept
abbrev pub of_kept : {A : Type 0} → Me → Iteration → A → (Reaction → A) → A
of_kept me t none some =
    of_iteration me t none (λ r. if nat_lt most_size (size_of (map_after t.serving.node r)) then none else some r)

-- what an iteration sends after its transaction was kept: its messages before the first for which no number is left
abbrev pub sends_of : Me → Iteration → List Outgoing
sends_of me t = of_kept me t [] (numbered_by me t.serving.node)

-- the iteration has an input, and the core's reaction to it has P
abbrev pub OfInput : Me → Node → (Reaction → Type 0) → Result (Option TimedInput) NodeEnd → Type 0
OfInput me n P (Ok (Some it)) = Has (reaction_to me n it) P
OfInput me n P (Ok None) = ⊥
OfInput me n P (Err e) = ⊥

-- ---- ends

-- Why a node ends at an iteration, for all ends but that by the number of iterations. A disk may fail once the transaction of
-- an input was given to the store.
abbrev pub Causes : Me → Iteration → NodeEnd → Type 0
Causes me t end.TurnsUsed = ⊥
Causes me t end.OutOfMemory = Unit {0}
Causes me t end.DiskFault = OfInput me t.serving.node (λ r. size_of (map_after t.serving.node r) ≤ most_size) t.came
Causes me t end.Closed = ended_iteration me t ≡ Err end.Closed
Causes me t end.LinkFault = ended_iteration me t ≡ Err end.LinkFault
Causes me t (end.Full would_be) = ended_iteration me t ≡ Err (end.Full would_be)
Causes me t (end.Spent spent) = ended_iteration me t ≡ Err (end.Spent spent)

-- What the link was asked to send at the iteration at which the node ended: nothing, unless memory ran out or a number
-- was spent. Then it is a prefix of what the iteration sends.
abbrev pub SendsAtEnd : Me → Iteration → NodeEnd → Option Observed → Type 0
SendsAtEnd me t end.OutOfMemory link = SendsPrefix (sends_of me t) t.serving.outside.link link
SendsAtEnd me t (end.Spent spent) link = SendsPrefix (sends_of me t) t.serving.outside.link link
SendsAtEnd me t other link = link ≡ t.serving.outside.link

pub record EndsAt (me : Me) (t : Iteration) (e : NodeEnd) (clock : Option Readings)
    (link : Option Observed) : Type 0 where
  pub cause : Causes me t e
  pub clock_is : clock ≡ t.serving.outside.clock
  pub link_is : SendsAtEnd me t e link

-- an end that an input may have
abbrev pub IsOfInput : NodeEnd → Type 0
IsOfInput end.Closed = ⊥
IsOfInput end.TurnsUsed = ⊥
IsOfInput end.DiskFault = Unit {0}
IsOfInput end.LinkFault = ⊥
IsOfInput (end.Full would_be) = Unit {0}
IsOfInput (end.Spent spent) = Unit {0}
IsOfInput end.OutOfMemory = Unit {0}

-- an iteration is completed, or the node ends at it
abbrev pub EndsIteration : {T : Type 0} → Me → Iteration → Result T NodeEnd → Serving → Type 0
EndsIteration me t (Ok x) now = ended_iteration me t ≡ Ok now
EndsIteration me t (Err e) now = EndsAt me t e now.outside.clock now.outside.link

-- ---- all iterations

-- what each iteration was given is what clock and link reported then
abbrev pub AreGiven : Me → (first : ℕ) → Serving → List Given → Type 0
AreGiven me first s [] = IsReading s.outside.clock first
AreGiven me first s (g ∷ earlier) = AreGiven me first s earlier × Has (served me first s earlier)
    (λ now. IsGiven (due now.node.state.timers) g now.outside)

-- A node ends after these iterations, of which it was to make this many at most: after all of them were made, or at the last
-- of them.
abbrev pub EndsAfter : Me → (turns : ℕ) → (begun : ℕ) → Iteration → NodeEnd → Option Readings → Option Observed → Type 0
EndsAfter me turns begun t end.TurnsUsed clock link =
    (begun ≡ turns) × Has (ended_iteration me t) (λ now. (clock ≡ now.outside.clock) × (link ≡ now.outside.link))
EndsAfter me turns begun t other clock link = EndsAt me t other clock link

-- The iterations that a node made: what they were given, their results, and how the node ended.
pub record Serves (me : Me) (s : Serving) (turns : ℕ) (e : NodeEnd) (begun : ℕ) (clock : Option Readings)
    (link : Option Observed) (first : ℕ) (given : List Given) : Type 0 where
  pub given_are : AreGiven me first s given
  pub begun_are : begun ≡ length given
  pub most : length given ≤ turns
  pub ends : Has (last_iteration me first s given) (λ t. EndsAfter me turns begun t e clock link)

-- What the link of a node was asked, and what it returned.
use Rattle.std.specs.Prelude.{◌≡◌, ◌⊎◌, ℕ, List, [], ◌∷◌, ◌++◌, map, Option, Some, None, Result, Ok, Err, IfErr}
use Rattle.mon_link.specs.Histories.{Happened, GoOn}
use Rattle.mon_link.specs.Histories.Happened.{Received}
use Rattle.mon_link.specs.declared.link.Got.{Got}
use Rattle.mon_link.specs.declared.link.Outgoing.{Outgoing}
use Rattle.mon_msg.specs.Protocol.Timers.{due}
use Rattle.mon_msg.specs.declared.view.Me.{Me}
use Rattle.mon_types.specs.declared.names.Stop.{Stop}
use Rattle.mon_wire.specs.declared.phase.Timer.{Timer}
use Rattle.mon_node.specs.Hearing.{Given, due_by, wait_until}
use Rattle.mon_node.specs.Iterations.{Iteration, last_iteration, served, start}
use Rattle.mon_node.specs.Lasting.{BothVisible, Leave, store_view_kept}
use Rattle.mon_node.specs.Nodes.{Disks, Serving}
use Rattle.mon_node.specs.Sends.{AreFirstSent, AreSent, Send, call_of}
use Rattle.mon_node.specs.Serving.{Has, sends_of}
use Rattle.mon_node.specs.declared.end.NodeEnd.TheVariants as end
use Rattle.mon_node.specs.declared.end.NodeEnd.{NodeEnd}

-- ---- an iteration

-- the link is asked for what comes, unless a timer is due
abbrev pub asked_by : Option Timer → (wait : ℕ) → Result Got Stop → List Happened
asked_by (Some t) wait answer = []
asked_by None wait answer = Received wait answer ∷ []

abbrev pub asked : Option (Timer × ℕ) → Given → List Happened
asked next g = asked_by (due_by g.began next) (wait_until g.began next) g.answer

-- What was sent at the iteration at which the node ended: nothing, unless memory ran out or a number was spent.
abbrev pub SentAtEnd : NodeEnd → List Outgoing → List Send → Type 0
SentAtEnd end.OutOfMemory ds sends = AreFirstSent ds sends
SentAtEnd (end.Spent which) ds sends = AreFirstSent ds sends
SentAtEnd other ds sends = sends ≡ []

-- an iteration that is completed sends all of its datagrams
abbrev pub SentBy : {T : Type 0} → Result T NodeEnd → List Outgoing → List Send → Type 0
SentBy (Ok x) ds sends = AreSent ds sends
SentBy (Err e) ds sends = SentAtEnd e ds sends

-- nothing was sent at the iteration, or a crash leaves the store with its transaction
abbrev pub IsKeptFirst : Me → Iteration → List Send → Disks → Type 0
IsKeptFirst me t sends d = (sends ≡ []) ⊎ Leave d (λ s. s ≡ store_view_kept me t)

-- What happened on the link in an iteration: it was asked so, and then to send this. If the node ended at the iteration,
-- nothing was sent before the transaction was kept.
pub record TalkIteration {T : Type 0} (me : Me) (t : Iteration) (heard : List Happened) (result : Result T NodeEnd)
    (before after : List Happened → Type 0) (old new : Disks) : Type 0 where
  pub sends : List Send
  pub sent : SentBy result (sends_of me t) sends
  pub goes_on : GoOn before (heard ++ map call_of sends) after
  pub kept : BothVisible old → IfErr result (λ e. IsKeptFirst me t sends new)

-- ---- all iterations

-- an iteration asks the link if the node serves until then
abbrev pub asked_after : Result Serving NodeEnd → Given → List Happened
asked_after (Ok s) g = asked (due s.node.state.timers) g
asked_after (Err e) g = []

-- What happened on the link, oldest first, by what each iteration was given and what it sent. Both are listed newest
-- first, and what the start sent is listed last.
abbrev pub happened : Me → (first : ℕ) → Serving → List Given → List (List Send) → List Happened
happened me first s given [] = []
happened me first s [] (sends ∷ others) = map call_of sends
happened me first s (g ∷ earlier) (sends ∷ others) =
    happened me first s earlier others ++ (asked_after (served me first s earlier) g ++ map call_of sends)

-- the start and each of these iterations sent all of its datagrams
abbrev pub AllSent : Me → (first : ℕ) → Serving → List Given → List (List Send) → Type 0
AllSent me first s given [] = ⊥
AllSent me first s [] (sends ∷ others) = (others ≡ []) × AreSent (sends_of me (start first s)) sends
AllSent me first s (g ∷ earlier) (sends ∷ others) =
    AllSent me first s earlier others
    × Has (last_iteration me first s (g ∷ earlier)) (λ t. AreSent (sends_of me t) sends)

-- so did all before the last of these
abbrev pub AllSentBefore : Me → (first : ℕ) → Serving → List Given → List (List Send) → Type 0
AllSentBefore me first s [] others = others ≡ []
AllSentBefore me first s (g ∷ earlier) others = AllSent me first s earlier others

-- what was sent at the last iteration, by the end
abbrev pub SentAfter : NodeEnd → List Outgoing → List Send → Type 0
SentAfter end.TurnsUsed ds sends = AreSent ds sends
SentAfter other ds sends = SentAtEnd other ds sends

-- What a node sent that made these iterations and ended so.
pub record Said (me : Me) (first : ℕ) (s : Serving) (given : List Given) (e : NodeEnd) : Type 0 where
  pub last : List Send
  pub others : List (List Send)
  pub others_sent : AllSentBefore me first s given others
  pub last_sent : Has (last_iteration me first s given) (λ t. SentAfter e (sends_of me t) last)

-- What happened on the link while a node served: each history of the link goes on so. Nothing of the last iteration was
-- sent before its transaction was kept, if the contents of the disks can be seen.
pub record Talks (me : Me) (first : ℕ) (s : Serving) (given : List Given) (e : NodeEnd)
    (before after : List Happened → Type 0) (old new : Disks) : Type 0 where
  pub said : Said me first s given e
  pub goes_on : GoOn before (happened me first s given (said.last ∷ said.others)) after
  pub kept : BothVisible old → Has (last_iteration me first s given) (λ t. IsKeptFirst me t said.last new)

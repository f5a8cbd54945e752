-- What an iteration of a serving node does with its link: it asks the link in time, sends once the iteration's
-- transaction is kept, and sends the messages of its reaction.
use Rattle.std.specs.Prelude.{◌≡◌, ◌⊎◌, ℕ, ◌+◌, ◌≤◌, List, [], ◌∷◌, ◌++◌, Option, Some, None, Ok}
use Rattle.std.specs.List.{Contains}
use Rattle.std.specs.Option.{option_map}
use Rattle.mon_frag.specs.Pieces.{pieces_of}
use Rattle.mon_kv.specs.Readers.{epoch}
use Rattle.mon_link.specs.Links.{Observed}
use Rattle.mon_link.specs.declared.link.Outgoing.{Outgoing}
use Rattle.mon_msg.specs.Protocol.Reaction.{Reaction}
use Rattle.mon_msg.specs.declared.input.Input.TheVariants as input
use Rattle.mon_msg.specs.declared.plan.Sent.{Sent}
use Rattle.mon_msg.specs.declared.view.Me.{Me}
use Rattle.mon_node.specs.Hearing.{Given, at_time}
use Rattle.mon_node.specs.Lasting.{store_view_kept}
use Rattle.mon_node.specs.Nodes.{Node, Serving}
use Rattle.mon_node.specs.Posting.{boot_in, letter}
use Rattle.mon_node.specs.Iterations.{Iteration, map_after}
use Rattle.mon_store.specs.StoreView.{StoreView}
use Rattle.mon_wire.specs.declared.phase.Timer.{Timer}

-- ---- it never waits past a timer that is due

-- the iteration takes this timer, and doesn't ask the link
pub record Takes (g : Given) (old : Serving) (timer : Timer) (t : Iteration) : Type 0 where
  pub came : t.came ≡ Ok (Some (at_time g.began (input.Timer timer)))
  pub link : t.serving.outside.link ≡ old.outside.link

-- a wait of at most a second, which is over when the next timer is due
abbrev pub IsInTime : (began : ℕ) → Option (Timer × ℕ) → (wait : ℕ) → Type 0
IsInTime began None wait = wait ≤ 1000
IsInTime began (Some next) wait = (wait ≤ 1000) × (began + wait ≤ next.1)

abbrev pub waits_in : Option Observed → Option (List ℕ)
waits_in link = option_map (λ t. t.waits) link

-- The link wasn't asked again, or it was asked once more, for a wait that is in time.
abbrev pub IsAskedInTime : (began : ℕ) → Option (Timer × ℕ) → (old new : Option Observed) → Type 0
IsAskedInTime began next old new =
    (waits_in new ≡ waits_in old)
    ⊎ ((wait : ℕ) × IsInTime began next wait × (waits_in new ≡ option_map (λ waits. waits ++ wait ∷ []) (waits_in old)))

-- ---- it sends nothing before the state that this depends on is kept

-- nothing was sent at this iteration, or its transaction is kept
abbrev pub IsKeptFirst : Me → Iteration → Option Observed → StoreView → Type 0
IsKeptFirst me t link s = (link ≡ t.serving.outside.link) ⊎ (s ≡ store_view_kept me t)

-- ---- each datagram is a message of its reaction, or a piece of one

-- the datagram is a whole message or a piece of it, cut after the start of its monitor with this number
abbrev pub IsDatagramOf : (whole : Outgoing) → (boot : ℕ) → Outgoing → Type 0
IsDatagramOf whole boot d = (d.to ≡ whole.to) × ((seq : ℕ) × Contains (pieces_of whole.bytes boot seq) d.bytes)

abbrev pub IsOfReaction : Me → Node → Outgoing → Reaction → Type 0
IsOfReaction me n d r =
    (x : Sent) × Contains r.sends x × IsDatagramOf (letter me (epoch (map_after n r)) x) (boot_in (map_after n r)) d

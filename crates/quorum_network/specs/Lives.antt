-- One process alone: its own steps, and how they follow from what `serve` and `Store::open` promise.
use Rattle.std.specs.Prelude.{◌≡◌, ◌⊎◌, ℕ, ◌==◌, List, [], ◌∷◌, ◌++◌, map, Option, Some, None, Ok, if◌then◌else◌}
use Rattle.std.specs.FinMap.{empty}
use Rattle.std.specs.List.{Contains}
use Rattle.std.specs.Option.{option_map}
use Rattle.mon_link.specs.Clocks.{Readings}
use Rattle.mon_link.specs.Links.{Observed}
use Rattle.mon_link.specs.declared.link.Outgoing.{Outgoing}
use Rattle.mon_msg.specs.declared.view.Me.{Me}
use Rattle.mon_node.specs.Hearing.{Given}
use Rattle.mon_node.specs.Iterations.{Iteration}
use Rattle.mon_node.specs.Lasting.{On, store_view_kept}
use Rattle.mon_node.specs.Sends.{Send}
use Rattle.mon_store.specs.StoreView.{StoreView, opens_as}
use Rattle.mon_tx.specs.Map.{Store}
use Rattle.mon_types.specs.declared.member.Member.{Member}
use Rattle.quorum_network.specs.Network.{Process, Down, Doing, Begins, Iterates, Until, Whole, Lost, Kept, Posted, Step, map_of, newest, iteration_of, outcome_of, under}

-- the steps of monitor i
abbrev pub own_if : Step → ℕ → List Step → List Step
own_if s i earlier = if s.rank == i then s ∷ earlier else earlier

abbrev pub own : ℕ → List Step → List Step
own i [] = []
own i (s ∷ earlier) = own_if s i (own i earlier)

-- the datagrams that monitor i sent, in order
abbrev pub sent_if : Posted → ℕ → List Outgoing → List Outgoing
sent_if d i later = if d.by == i then d.datagram ∷ later else later

abbrev pub sent_of : ℕ → List Posted → List Outgoing
sent_of i [] = []
sent_of i (d ∷ later) = sent_if d i (sent_of i later)

-- A process after steps of its own; the numbers of its lives, the newest first; and all that it ever sent, each datagram
-- with the number of its life.
pub record Alone : Type 0 where
  pub process : Process
  pub lives : List ℕ
  pub sends : List Outgoing

abbrev pub lives_then : Doing → List ℕ → List ℕ
lives_then (Begins number store_view clock link first) lives = number ∷ lives
lives_then (Iterates g) lives = lives

abbrev pub outcome_at : Me → Step → Alone → Option Iteration → Alone
outcome_at me s a None = a
outcome_at me s a (Some t) = record {
  process = (outcome_of me t s.up_to).process;
  lives = lives_then s.doing a.lives;
  sends = a.sends ++ map (under (newest (lives_then s.doing a.lives))) (outcome_of me t s.up_to).sends;
}

unfoldable pub alone : Me → List Step → Alone
alone me [] = record { process = Down empty; lives = []; sends = [] }
alone me (s ∷ earlier) = outcome_at me s (alone me earlier) (iteration_of me (alone me earlier).process s.doing)

-- The steps of the life with this number: the process is started and makes these iterations, the newest first. `u` is how
-- far the last of them gets, or the start if there is none.
abbrev pub life : ℕ → (number : ℕ) → StoreView → Option Readings → Option Observed → (first : ℕ) → List Given → Until
    → List Step → List Step
life i number store_view clock link first [] u earlier =
    record { rank = i; doing = Begins number store_view clock link first; up_to = u } ∷ earlier
life i number store_view clock link first (g ∷ given) u earlier =
    record { rank = i; doing = Iterates g; up_to = u } ∷ life i number store_view clock link first given Whole earlier

-- ---- what a process leaves

-- The map is the one that this iteration leaves if it is lost, or the one that it leaves if it is kept, however many of
-- its datagrams were sent.
abbrev pub IsOutcomeOf : Me → Iteration → Store → Type 0
IsOutcomeOf me t m =
    (m ≡ map_of (outcome_of me t Lost).process) ⊎ ((k : ℕ) → m ≡ map_of (outcome_of me t (Kept k)).process)

-- if a store opens on these two images, its map is one of these
abbrev pub OpensWith : Member → List Store → List ℕ → List ℕ → Type 0
OpensWith member maps x y = (s : StoreView) → opens_as member x y ≡ Ok s → Contains maps s.kv

-- what a link was asked to send so far
abbrev pub sent_in : Option Observed → Option (List Outgoing)
sent_in link = option_map (λ t. t.sent) link

abbrev pub IsSent : List Outgoing → Option Observed → Option Observed → Type 0
IsSent ds old new = sent_in new ≡ option_map (λ sent. sent ++ ds) (sent_in old)

-- This map is left by a life with this number and these iterations, and its steps send these datagrams, with the number
-- of the life.
pub record IsLifeThatSends (i : ℕ) (me : Me) (number : ℕ) (store_view : StoreView) (clock : Option Readings)
    (link : Option Observed)
    (first : ℕ) (given : List Given) (earlier : List Step) (left_map : Store) (sends : List Outgoing) : Type 0 where
  pub up_to : Until
  pub map_is : left_map ≡ map_of (alone me (life i number store_view clock link first given up_to earlier)).process
  pub sends_are : (alone me (life i number store_view clock link first given up_to earlier)).sends
      ≡ (alone me earlier).sends ++ map (under number) sends

-- The same of a life whose steps send what its link was asked to send.
pub record IsLife (i : ℕ) (me : Me) (number : ℕ) (store_view : StoreView) (clock : Option Readings)
    (link : Option Observed)
    (first : ℕ) (given : List Given) (earlier : List Step) (left_map : Store)
    (observed : Option Observed) : Type 0 where
  pub sends : List Outgoing
  pub is_life : IsLifeThatSends i me number store_view clock link first given earlier left_map sends
  pub observed_is : IsSent sends link observed

-- An iteration leaves a store of which this holds. If anything was sent at it, the store has its transaction.
abbrev pub LeavesKept : Me → Iteration → List Send → (StoreView → Type 0) → List ℕ → List ℕ → Type 0
LeavesKept me t last P x y = On P x y × ((last ≡ []) ⊎ On (λ s. s ≡ store_view_kept me t) x y)

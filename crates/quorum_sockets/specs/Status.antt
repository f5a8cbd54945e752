-- What the status answers of a monitor show of its process.
use Rattle.std.specs.Prelude.{◌≡◌, ◌⊎◌, ℕ, List, [], ◌∷◌, ◌++◌, map, Option, Some, Ok, Err}
use Rattle.mon_link.specs.Clocks.{Readings}
use Rattle.mon_link.specs.Histories.Happened.{Received, WasSent}
use Rattle.mon_link.specs.Histories.{Happened, sent}
use Rattle.mon_link.specs.Links.{Observed}
use Rattle.mon_link.specs.declared.link.Outgoing.{Outgoing}
use Rattle.mon_link.specs.declared.link.Peer.TheVariants.{Client}
use Rattle.mon_msg.specs.declared.view.Me.{Me}
use Rattle.mon_node.specs.Hearing.{Given}
use Rattle.mon_node.specs.Nodes.{Serving}
use Rattle.mon_store.specs.StoreView.{StoreView}
use Rattle.mon_types.specs.declared.member.Member.{Member}
use Rattle.mon_watch.specs.Answering.{answer, passed}
use Rattle.mon_watch.specs.Traffic.{notes_got, notes_sent}
use Rattle.mon_watch.specs.declared.notes.Notes.{Notes}
use Rattle.mon_watch.specs.declared.times.DiskTimes.{DiskTimes}
use Rattle.quorum_model.specs.Monitors.{Monitors, me_of}
use Rattle.quorum_network.specs.Lives.{alone, life, own}
use Rattle.quorum_network.specs.Network.{Step, Up, Whole, network, under}
use Rattle.watch_laws.specs.Datagrams.{to_peer}

-- ---- what an answer shows

-- the status answer to a client, which shows these notes
pub record ShowsNotes (member : Member) (notes : Notes) (d : Outgoing) : Type 0 where
  pub client : ℕ
  pub id : ℕ
  pub a : DiskTimes
  pub b : DiskTimes
  pub unkept : ℕ
  pub is : d ≡ to_peer (Client client) (answer member notes id a b unkept)

-- What happened on the link below a watch, oldest first. What comes is noted, and a datagram of the watch as nothing. What
-- goes is the next datagram that the watch was given to send, or the status answer that shows the notes so far. It is
-- noted too.
abbrev pub Watches : Member → (given : List Outgoing) → (before : Notes) → (below : List Happened) → (after : Notes)
    → Type 0
Watches m given before [] after = (given ≡ []) × (after ≡ before)
Watches m given before (Received wait (Ok got) ∷ below) after =
    (now : ℕ) × Watches m given (notes_got now (passed got) before) below after
Watches m given before (Received wait (Err e) ∷ below) after = Watches m given before below after
Watches m given before (WasSent to bytes answer ∷ below) after =
    ((more : List Outgoing) × (given ≡ to_peer to bytes ∷ more)
    × Watches m more (notes_sent m.rank to bytes before) below after)
    ⊎ (ShowsNotes m before (to_peer to bytes) × Watches m given (notes_sent m.rank to bytes before) below after)

-- ---- whose link it is

-- The process of monitor i is up after these steps. Its life has this number, came after these earlier steps of its own,
-- and sent what its link was asked to send.
pub record IsLinkOf (ms : Monitors) (steps : List Step) (i : ℕ) (s : Serving) (above : List Happened) : Type 0 where
  pub me : Me
  pub known : me_of ms i ≡ Some me
  pub up : (network ms steps).process i ≡ Up s
  pub number : ℕ
  pub store_view : StoreView
  pub clock : Option Readings
  pub link : Option Observed
  pub first : ℕ
  pub given : List Given
  pub earlier : List Step
  pub life_is : own i steps ≡ life i number store_view clock link first given Whole earlier
  pub sends : (alone me (own i steps)).sends ≡ (alone me earlier).sends ++ map (under number) (sent above)

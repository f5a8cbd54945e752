-- A node between its inputs.
use Rattle.std.specs.Prelude.{ℕ, List, [], Option}
use Rattle.mon_disk.specs.Calls.{DiskState}
use Rattle.mon_disk.specs.Images.{Content}
use Rattle.mon_frag.specs.declared.partial.Partial.{Partial}
use Rattle.mon_link.specs.Clocks.{Readings}
use Rattle.mon_link.specs.Links.{Observed}
use Rattle.mon_msg.specs.Protocol.State.{State, booting}
use Rattle.mon_store.specs.StoreView.{StoreView}
use Rattle.mon_store.specs.Whole.{disk_a, disk_b}
use Rattle.mon_store.specs.declared.store.Store.{Store}

pub record Node : Type 0 where
  -- the state of its core
  pub state : State
  -- the live side, the journal and the map of its store
  pub store : StoreView
  -- the number of its next message that is longer than a datagram
  pub next : ℕ

-- The state of the outside: the incomplete messages; and what can be seen of the clock and the link, if anything.
pub record Outside : Type 0 where
  pub parts : List Partial
  pub clock : Option Readings
  pub link : Option Observed

pub record Serving : Type 0 where
  pub node : Node
  pub outside : Outside

-- the live side, the journal and the map of a store
abbrev pub store_view_of : {D : Type 0} → Store D → StoreView
store_view_of s = record { side = s.side; journal = s.journal; kv = s.kv }

-- a monitor with this store that isn't started yet
abbrev pub unstarted : (rank : ℕ) → StoreView → Option Readings → Option Observed → Serving
unstarted rank store_view clock link = record {
  node = record { state = booting rank; store = store_view; next = 1 };
  outside = record { parts = []; clock = clock; link = link };
}

abbrev pub outside_of : List Partial → Option Readings → Option Observed → Outside
outside_of parts clock link = record { parts = parts; clock = clock; link = link }

-- ---- the two disks

pub record Disks : Type 1 where
  pub a : Content
  pub b : Content

abbrev pub disks : {D : Type 0} → (D → DiskState) → (a b : D) → Disks
disks state a b = record { a = (state a).content; b = (state b).content }

-- those of a store
abbrev pub disks_of : {D : Type 0} → (D → DiskState) → Store D → Disks
disks_of state s = disks state (disk_a s) (disk_b s)

-- A node in use, as its code has it.
use Rattle.std.specs.Prelude.{◌≡◌, ◌+◌, ◌^◌, ◌≤◌, false, Option}
use Rattle.mon_disk.specs.Calls.{DiskState}
use Rattle.mon_link.specs.Clocks.{Readings}
use Rattle.mon_link.specs.Links.{Observed}
use Rattle.mon_msg.specs.Protocol.Readings.{readings_of}
use Rattle.mon_store.specs.Whole.{IsSound}
use Rattle.svc_core.specs.Cache.{Follows}
use Rattle.mon_node.specs.Nodes.{Serving, store_view_of, outside_of}
use Rattle.mon_node.specs.declared.server.Server.{Server}

abbrev pub serving_of : {D : Type 0} → Server D → Option Readings → Option Observed → Serving
serving_of s clock link = record {
  node = record { state = s.core.state; store = store_view_of s.store; next = s.next };
  outside = outside_of s.assembly clock link;
}

-- one that can take an input
pub record IsInUse {D : Type 0} (state : D → DiskState) (s : Server D) : Type 0 where
  pub unbroken : s.store.broken ≡ false
  pub sound : IsSound state s.store
  pub own : s.core.me ≡ s.me
  pub follows : Follows s.core.cache (readings_of s.store.kv)
  pub next : s.next ≤ 2 ^ 62 + 1

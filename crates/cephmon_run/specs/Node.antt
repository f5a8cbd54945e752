-- A node's run, and the cause of each of its statuses.
use Rattle.std.specs.Prelude.{◌≡◌, ℕ, ◌⊎◌, List, [], Option, IfSome, Result, Ok, Err, IsTrue, is_some}
use Rattle.mon_disk.specs.Calls.{DiskState}
use Rattle.mon_disk.specs.declared.node.NodeDisks.{NodeDisks}
use Rattle.mon_link.specs.Clocks.{Readings}
use Rattle.mon_link.specs.Histories.{Happened, GoOn}
use Rattle.mon_link.specs.Links.{LinkState}
use Rattle.mon_msg.specs.declared.view.Me.{Me}
use Rattle.mon_store.specs.Times.{WhileOpening}
use Rattle.mon_store.specs.Opening.{Alike, BothCount, IsStopOf, stop_in}
use Rattle.mon_store.specs.Pair.{Refusal}
use Rattle.mon_store.specs.StoreView.{StoreView, opens_as}
use Rattle.mon_store.specs.declared.stop.OpenStop.{OpenStop}
use Rattle.mon_store.specs.declared.stop.OpenStop.TheVariants as open_stop
use Rattle.mon_types.specs.declared.member.Member.{Member}
use Rattle.mon_node.specs.Hearing.{Given, faults_at}
use Rattle.mon_node.specs.Keeping.{DisksCountAt}
use Rattle.mon_node.specs.Lasting.{BothVisible, StandsThrough}
use Rattle.mon_node.specs.Nodes.{Disks, unstarted, disks as disks_held}
use Rattle.mon_node.specs.Serving.{Serves}
use Rattle.mon_node.specs.Talking.{Talks}
use Rattle.mon_node.specs.declared.end.NodeEnd.{NodeEnd}
use Rattle.mon_node.specs.declared.end.NodeEnd.TheVariants as end
use Rattle.run_status.specs.Status.{status_of_end, status_of_opening}
use Rattle.run_status.specs.declared.status.Status.{Status}
use Rattle.run_status.specs.declared.status.Status.TheVariants as status

-- The devices around a node: its two disks; its link; and what its clock shows, if that is known.
pub record Around (D : Type 0) : Type 0 where
  pub disks : NodeDisks D
  pub link : LinkState
  pub clock : Option Readings

module _ {D : Type 0} (state : D → DiskState) where
  -- What a member opens on two disks has this property, if the contents of both can be seen.
  abbrev pub OpensTo : Member → NodeDisks D → (Result StoreView Refusal → Type 0) → Type 0
  OpensTo member disks fact =
      IfSome (state disks.a).content.seen (λ a. IfSome (state disks.b).content.seen (λ b. fact (opens_as member a b)))

  -- A crash while the store was opened left disks that represent what they might have represented before.
  abbrev pub LeavesAlike : Member → NodeDisks D → NodeDisks D → Type 0
  LeavesAlike member old new =
      IsTrue (is_some (state old.a).content.seen) → IsTrue (is_some (state old.b).content.seen)
      → WhileOpening (state old.a).content (state old.b).content (state new.a).content (state new.b).content
      (Alike member (state old.a).content (state old.b).content)

  -- No store was opened, for this reason. What the disks represent is unchanged, and the link and the clock were left alone.
  pub record Unopened (member : Member) (before after : Around D) (why : OpenStop) : Type 0 where
    pub is_stop : OpensTo member before.disks (IsStopOf why)
    pub counts : BothCount (stop_in {T = StoreView} (Err why)) (state before.disks.a) (state before.disks.b)
        (state after.disks.a) (state after.disks.b)
    pub alike : LeavesAlike member before.disks after.disks
    pub link : after.link ≡ before.link
    pub clock : after.clock ≡ before.clock

  -- what two disks hold
  abbrev pub contents : NodeDisks D → Disks
  contents disks = disks_held state disks.a disks.b

  -- A store was opened, and the monitor served from it and ended so. What clock and link gave at each iteration decides what
  -- was kept, what was sent and how long was waited. If the contents of the disks can be seen: a crash while the store was
  -- opened left what they might have represented before, and from then on, at each iteration and at the end, it left what the
  -- store represented within that iteration.
  pub record Served (me : Me) (turns : ℕ) (before after : Around D) (e : NodeEnd) : Type 0 where
    pub store_view : StoreView
    pub opened : OpensTo me.member before.disks (λ read. read ≡ Ok store_view)
    pub open_disks : NodeDisks D
    pub alike : LeavesAlike me.member before.disks open_disks
    pub begun : ℕ
    pub first : ℕ
    pub given : List Given
    pub serves : Serves me (unstarted me.member.rank store_view before.clock before.link.observed) turns e begun after.clock after.link.observed first given
    pub stands : BothVisible (contents before.disks)
        → StandsThrough me first (unstarted me.member.rank store_view before.clock before.link.observed) given e
        after.link.observed
        (contents open_disks) (contents after.disks)
    pub link_counts : after.link.faults ≡ faults_at e before.link.faults
    pub disks_count : DisksCountAt e (state before.disks.a).faults (state before.disks.b).faults
        (state after.disks.a).faults (state after.disks.b).faults

  -- The calls of its link that a node's run made: none if no store was opened; or what a node asked and sent that served
  -- from one.
  abbrev pub NodeTalks : Me → (turns : ℕ) → Around D → Around D → Status → (old new : List Happened → Type 0) → Type 0
  NodeTalks me turns before after s old new =
      ((why : OpenStop) × Unopened me.member before after why × (s ≡ status_of_opening why) × GoOn old [] new)
      ⊎ ((e : NodeEnd) × (S : Served me turns before after e) × (s ≡ status_of_end e)
      × Talks me S.first (unstarted me.member.rank S.store_view before.clock before.link.observed) S.given e old new
      (contents S.open_disks) (contents after.disks))

  -- the cause of each status
  abbrev pub NodeCause : Me → (turns : ℕ) → Around D → Around D → Status → Type 0
  NodeCause me turns before after status.Done = Served me turns before after end.Closed
  NodeCause me turns before after status.DiskFault =
      Unopened me.member before after open_stop.DiskFault ⊎ Served me turns before after end.DiskFault
  NodeCause me turns before after status.LinkFault = Served me turns before after end.LinkFault
  NodeCause me turns before after (status.NotAStore disk at) =
      Unopened me.member before after (open_stop.NotAStore disk at)
  NodeCause me turns before after (status.Stranger kept asked) =
      Unopened me.member before after (open_stop.Stranger kept asked)
  NodeCause me turns before after (status.Spent which) = Served me turns before after (end.Spent which)
  NodeCause me turns before after status.TurnsUsed = Served me turns before after end.TurnsUsed
  NodeCause me turns before after status.OutOfMemory =
      (after ≡ before) ⊎ Unopened me.member before after open_stop.OutOfMemory ⊎
      Served me turns before after end.OutOfMemory
  NodeCause me turns before after (status.Full would_be) = Served me turns before after (end.Full would_be)
  NodeCause me turns before after status.Words = ⊥
  NodeCause me turns before after (status.Schedule line kind) = ⊥
  NodeCause me turns before after status.ReadFault = ⊥
  NodeCause me turns before after status.WriteFault = ⊥
  NodeCause me turns before after (status.Report line) = ⊥
  NodeCause me turns before after (status.NotEmpty disk) = ⊥
  NodeCause me turns before after (status.Export at) = ⊥

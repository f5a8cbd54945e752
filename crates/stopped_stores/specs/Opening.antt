-- What opening the store of a stopped monitor does on its two disks.
use Rattle.std.specs.Prelude.{Result, Ok, IfOk, IfSome, IsTrue, is_some}
use Rattle.mon_disk.specs.Calls.{DiskState}
use Rattle.mon_disk.specs.declared.node.NodeDisks.{NodeDisks}
use Rattle.mon_journal.specs.Written.{owner_of}
use Rattle.mon_store.specs.Times.{EachPair, WhileOpening}
use Rattle.mon_store.specs.Opening.{Alike, Answers, BothCount, stop_in}
use Rattle.mon_store.specs.OpeningCalls.{OpensWith, opening_calls}
use Rattle.mon_store.specs.Sound.{StandsOn}
use Rattle.mon_store.specs.StoreView.{StoreView}
use Rattle.mon_store.specs.declared.stop.OpenStop.{OpenStop}
use Rattle.mon_tx.specs.Map.{Store}
use Rattle.mon_types.specs.declared.member.Member.{Member}

module _ {D : Type 0} (state : D → DiskState) where
  -- A member opened its store on two disks, or was refused. The opened store is what the disks held, or a new one; a
  -- refusal has its cause there. A crash leaves disks that represent the same as before the call, and after Ok it
  -- leaves the store. Only the opening's writes and syncs were made, so a store of an earlier format stays as it is.
  pub record Opens (member : Member) (old new : NodeDisks D) (result : Result StoreView OpenStop) : Type 0 where
    pub answer : IfSome (state old.a).content.seen (λ a. IfSome (state old.b).content.seen (λ b. Answers member a b result))
    pub alike : IsTrue (is_some (state old.a).content.seen) → IsTrue (is_some (state old.b).content.seen)
        → WhileOpening (state old.a).content (state old.b).content (state new.a).content (state new.b).content
        (Alike member (state old.a).content (state old.b).content)
    pub safe : IfOk result (λ s. EachPair (state new.a).content (state new.b).content (StandsOn s.side s.journal s.kv))
    pub calls : OpensWith (opening_calls (owner_of member)) (state old.a).content.seen (state old.b).content.seen (state old.a).observed
        (state old.b).observed (state new.a).observed (state new.b).observed result
    pub counts : BothCount (stop_in result) (state old.a) (state old.b) (state new.a) (state new.b)

  -- a store was opened, and the fact holds of its map
  pub record Opened (member : Member) (old new : NodeDisks D) (fact : Store → Type 0) : Type 0 where
    pub store_view : StoreView
    pub opens : Opens member old new (Ok store_view)
    pub holds : fact store_view.kv

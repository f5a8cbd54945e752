-- What a crash leaves of a member's two disks, at each point of a call.
use Rattle.std.specs.Prelude.{◌⊎◌, List, ℕ}
use Rattle.mon_types.specs.declared.member.Member.{Member}
use Rattle.mon_disk.specs.MemoryDisk.{MemoryState}
use Rattle.mon_store.specs.Times as store
use Rattle.mon_tx.specs.Map.{Store}
use Rattle.mon_site.specs.Disks.{content}
use Rattle.mon_site.specs.Faults.{OpensMap}

-- A member opens a store on two images, with one map or with another: that from before a transaction or from after it.
abbrev pub OpensEither : Member → (before after : Store) → List ℕ → List ℕ → Type 0
OpensEither member before after a b = OpensMap member before a b ⊎ OpensMap member after a b

-- A crash at any point of a call leaves of the two disks a pair that has P, whichever points of the call they were at.
abbrev pub Meanwhile : (old_a old_b new_a new_b : MemoryState) → (List ℕ → List ℕ → Type 0) → Type 0
Meanwhile old_a old_b new_a new_b P = store.Meanwhile (content old_a) (content old_b) (content new_a) (content new_b) P

-- The same of the opening, which may end on disk A alone: then disk B was at its last point.
abbrev pub WhileOpening : (old_a old_b new_a new_b : MemoryState) → (List ℕ → List ℕ → Type 0) → Type 0
WhileOpening old_a old_b new_a new_b P =
    store.WhileOpening (content old_a) (content old_b) (content new_a) (content new_b) P

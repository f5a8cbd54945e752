-- Where a store is on the two disks of a node: at every time while it serves, and after it ended.
use Rattle.std.specs.Prelude.{◌≡◌, ℕ, ◌≤◌, ◌⊎◌, IsTrue, is_some, List, [], ◌∷◌, Option, Result, IfErr}
use Rattle.mon_journal.specs.Content.{appended}
use Rattle.mon_link.specs.Links.{Observed}
use Rattle.mon_msg.specs.declared.view.Me.{Me}
use Rattle.mon_store.specs.Times.{Lasts, EachPair}
use Rattle.mon_store.specs.Sound.{StandsOn}
use Rattle.mon_store.specs.StoreView.{StoreView}
use Rattle.mon_tx.specs.Map.{apply}
use Rattle.mon_tx.specs.Text.{text}
use Rattle.mon_tx.specs.declared.op.Op.{Op}
use Rattle.mon_node.specs.Hearing.{Given}
use Rattle.mon_node.specs.Keeping.{kept}
use Rattle.mon_node.specs.Nodes.{Serving, Disks}
use Rattle.mon_node.specs.Posting.{SendsPrefix}
use Rattle.mon_node.specs.Serving.{Has, of_kept, sends_of}
use Rattle.mon_node.specs.Iterations.{Iteration, start, last_iteration}
use Rattle.mon_node.specs.declared.end.NodeEnd.TheVariants as end
use Rattle.mon_node.specs.declared.end.NodeEnd.{NodeEnd}

-- the contents of both can be seen
abbrev pub BothVisible : Disks → Type 0
BothVisible d = IsTrue (is_some d.a.seen) × IsTrue (is_some d.b.seen)

-- two images hold a store that has P
abbrev pub On : (StoreView → Type 0) → List ℕ → List ℕ → Type 0
On P a b = (s : StoreView) × StandsOn s.side s.journal s.kv a b × P s

-- a crash now leaves two images that hold a store that has P
abbrev pub Leave : Disks → (StoreView → Type 0) → Type 0
Leave d P = EachPair d.a d.b (On P)

-- the present times of disk A and of disk B
abbrev pub times : Disks → ℕ × ℕ
times d = (d.a.time, d.b.time)

-- A crash leaves two images that hold a store that has P, whichever time disk A is at from `from.0` to `to.0`, and disk
-- B from `from.1` to `to.1`.
pub record Between (d : Disks) (P : StoreView → Type 0) (from to : ℕ × ℕ) : Type 0 where
  pub a_later : from.0 ≤ to.0
  pub b_later : from.1 ≤ to.1
  pub each : (s t : ℕ) (x y : List ℕ) → from.0 ≤ s → s ≤ to.0 → from.1 ≤ t → t ≤ to.1 → d.a.images_at s x →
      d.b.images_at t y → On P x y

-- The same in two steps: up to the times in between a record is written on the live disk, and after them a checkpoint
-- on the other one.
pub record Through (d : Disks) (P : StoreView → Type 0) (from to : ℕ × ℕ) : Type 0 where
  pub mid : ℕ × ℕ
  pub written : Between d P from mid
  pub renewed : Between d P mid to

-- What two disks go through: what a crash might have left before stays so, and at every time since then a crash leaves two
-- images that hold a store that has P.
pub record Pass (P : StoreView → Type 0) (old new : Disks) : Type 0 where
  pub a : Lasts old.a new.a
  pub b : Lasts old.b new.b
  pub both_visible : BothVisible new
  pub through : Through new P (times old) (times new)

-- ---- a transaction

-- where a store is after the record of a transaction was written
abbrev pub recorded : List Op → StoreView → StoreView
recorded ops s = record { side = s.side; journal = appended s.journal (text ops); kv = apply ops s.kv }

-- where a store may be during a transaction: before it, after its record, or after the checkpoint that is due then
abbrev pub IsWithin : List Op → StoreView → StoreView → Type 0
IsWithin ops old s = (s ≡ old) ⊎ (s ≡ recorded ops old) ⊎ (s ≡ kept ops old)

-- ---- an iteration

-- Where the store is after the record of an iteration's transaction was written, and below after the transaction was
-- kept. Without an input, or if the map would be too large, it stays where it was.
abbrev pub store_view_recorded : Me → Iteration → StoreView
store_view_recorded me t = of_kept me t t.serving.node.store (λ r. recorded r.transaction t.serving.node.store)

abbrev pub store_view_kept : Me → Iteration → StoreView
store_view_kept me t = of_kept me t t.serving.node.store (λ r. kept r.transaction t.serving.node.store)

abbrev pub IsWithinIteration : Me → Iteration → StoreView → Type 0
IsWithinIteration me t s = (s ≡ t.serving.node.store) ⊎ (s ≡ store_view_recorded me t) ⊎ (s ≡ store_view_kept me t)

-- Where the store is after the node ended at an iteration, by its end and what the link was asked to send. If anything
-- was sent, the transaction is kept.
abbrev pub RemainsAfter : Me → Iteration → NodeEnd → Option Observed → StoreView → Type 0
RemainsAfter me t end.OutOfMemory link s =
    ((link ≡ t.serving.outside.link) × IsWithinIteration me t s)
    ⊎ (SendsPrefix (sends_of me t) t.serving.outside.link link ×
    (s ≡ store_view_kept me t))
RemainsAfter me t end.DiskFault link s = IsWithinIteration me t s
RemainsAfter me t (end.Spent spent) link s = s ≡ store_view_kept me t
RemainsAfter me t end.TurnsUsed link s = s ≡ store_view_kept me t
RemainsAfter me t end.Closed link s = s ≡ t.serving.node.store
RemainsAfter me t end.LinkFault link s = s ≡ t.serving.node.store
RemainsAfter me t (end.Full would_be) link s = s ≡ t.serving.node.store

-- what the disks go through in an iteration, and what a crash after it leaves of them if the node ends at it
abbrev pub PassIteration : {T : Type 0} → Me → Iteration → Result T NodeEnd → Option Observed → (old new : Disks)
    → Type 0
PassIteration me t result link old new = Pass (IsWithinIteration me t) old new ×
    IfErr result (λ e. Leave new (RemainsAfter me t e link))

-- ---- all iterations

-- Iteration after iteration, newest first, from two times of the disks to two others.
abbrev pub InIterations : Me → (first : ℕ) → Serving → Disks → List Given → (from to : ℕ × ℕ) → Type 0
InIterations me first s d [] from to = Through d (IsWithinIteration me (start first s)) from to
InIterations me first s d (g ∷ earlier) from to =
    (mid : ℕ × ℕ) × InIterations me first s d earlier from mid × Has (last_iteration me first s (g ∷ earlier))
    (λ t. Through d (IsWithinIteration me t) mid to)

-- What the disks go through in these iterations.
pub record PassIterations (me : Me) (first : ℕ) (s : Serving) (given : List Given) (old new : Disks) : Type 0 where
  pub a : Lasts old.a new.a
  pub b : Lasts old.b new.b
  pub both_visible : BothVisible new
  pub turns : InIterations me first s new given (times old) (times new)

-- what a crash after these iterations leaves of the disks, if the node ended at the last one
abbrev pub RemainAfterAll : Me → (first : ℕ) → Serving → List Given → NodeEnd → Option Observed → Disks → Type 0
RemainAfterAll me first s given e link d =
    Has (last_iteration me first s given) (λ t. Leave d (RemainsAfter me t e link))

-- What two disks go through in these iterations, and what is left of them if the node ended so at the last one.
pub record StandsThrough (me : Me) (first : ℕ) (s : Serving) (given : List Given) (e : NodeEnd) (link : Option Observed)
    (old new : Disks) : Type 0 where
  pub turns : PassIterations me first s given old new
  pub left : RemainAfterAll me first s given e link new

-- Making a store of a map on two empty disks.
use Rattle.std.specs.Prelude.{◌≡◌, ◌⊎◌, ℕ, ◌≤◌, ◌==◌, true, List, [], ◌∷◌, length, Option, Some, None, IfSome, false, if◌then◌else◌}
use Rattle.mon_types.specs.declared.names.Side.{Side}
use Rattle.mon_types.specs.declared.names.Side.TheVariants.{A, B}
use Rattle.mon_types.specs.declared.names.Stop.{Stop}
use Rattle.mon_types.specs.declared.names.Stop.TheVariants as disk_stop
use Rattle.mon_types.specs.declared.member.Member.{Member}
use Rattle.mon_disk.specs.declared.disk.DiskCall.{DiskCall}
use Rattle.mon_disk.specs.declared.disk.DiskCall.TheVariants.{Sync}
use Rattle.mon_disk.specs.Images.{Content, images, LeavesOnly}
use Rattle.mon_disk.specs.Calls.{Observed, fails_next}
use Rattle.mon_tx.specs.Map.{Store}
use Rattle.mon_journal.specs.declared.journal.Journal.{Journal}
use Rattle.mon_journal.specs.Content.{content}
use Rattle.mon_journal.specs.Fields.{Owner}
use Rattle.mon_journal.specs.Written.{created}
use Rattle.mon_journal.specs.Steps.{create_calls, made_more}
use Rattle.mon_store.specs.Checkpoint.{checkpoint_text}
use Rattle.mon_store.specs.Times.{Lasts}
use Rattle.mon_store.specs.OpeningCalls.{calls_on, called_a, called_b}
use Rattle.mon_store.specs.Sound.{of_live, StandsOn}
use Rattle.store_tool.specs.declared.importing.ImportEnd.{ImportEnd}
use Rattle.store_tool.specs.declared.importing.ImportEnd.TheVariants.{Done, NotEmpty, DiskFault, OutOfMemory}

-- ---- which end is returned

-- the first disk that isn't empty
abbrev pub filled : List ℕ → List ℕ → Option Side
filled a b = if length a == 0 then (if length b == 0 then None else Some B) else Some A

-- Done is returned only if both disks were empty, and NotEmpty only if its disk is the first one that wasn't.
abbrev pub Answers : List ℕ → List ℕ → ImportEnd → Type 0
Answers a b Done = filled a b ≡ None
Answers a b (NotEmpty disk) = filled a b ≡ Some disk
Answers a b DiskFault = Unit {0}
Answers a b OutOfMemory = Unit {0}

-- the disk's stop in an import: none after Done, or if a disk isn't empty
abbrev pub stop_in : ImportEnd → Option Stop
stop_in Done = None
stop_in (NotEmpty disk) = None
stop_in DiskFault = Some disk_stop.Failed
stop_in OutOfMemory = Some disk_stop.OutOfMemory

-- ---- what a crash leaves

-- the journal that an import makes on disk A
abbrev pub imported : Member → Store → Journal
imported member m = created member 1 (Some (checkpoint_text m))

-- the store of the whole map
abbrev pub Whole : Member → Store → List ℕ → List ℕ → Type 0
Whole member m a b = StandsOn A (imported member m) m a b

abbrev pub ClosedOrWhole : Member → Store → List ℕ → List ℕ → Type 0
ClosedOrWhole member m a b = ((content a ≡ None) × (content b ≡ None)) ⊎ Whole member m a b

-- a crash leaves of each disk what it might have left before
pub record BothKeep (old_a old_b new_a new_b : Content) : Type 0 where
  pub a : LeavesOnly old_a new_a (images old_a)
  pub b : LeavesOnly old_b new_b (images old_b)

-- Both disks were synced at the point `synced` of disk A. Before that a crash leaves of each disk what it might have
-- left before the call. From then on it leaves two closed files, or the store of the whole map. Disk B keeps its images
-- throughout.
pub record KeepThenMake (member : Member) (m : Store) (old_a old_b new_a new_b : Content) : Type 0 where
  pub a : Lasts old_a new_a
  pub b : LeavesOnly old_b new_b (images old_b)
  pub synced : ℕ
  pub from : old_a.time ≤ synced
  pub to : synced ≤ new_a.time
  pub before : (t : ℕ) (c : List ℕ) → old_a.time ≤ t → t ≤ synced → new_a.images_at t c → images old_a c
  pub later : (t : ℕ) (c d : List ℕ) → synced ≤ t → t ≤ new_a.time → new_a.images_at t c → images new_b d → ClosedOrWhole member m c d

abbrev pub WhileImporting : Member → Store → Content → Content → Content → Content → Type 0
WhileImporting member m old_a old_b new_a new_b = BothKeep old_a old_b new_a new_b ⊎ KeepThenMake member m old_a old_b new_a new_b

-- P holds if disk A reports that more than one call was made on it, so a write was begun
abbrev pub IfWritten : Option Observed → Option Observed → Type 0 → Type 0
IfWritten old new P = IfSome old (λ s. IfSome new (λ t. made_more 1 s t ≡ true → P))

-- ---- which writes and syncs are made

-- both disks are synced, and a new store's file with a checkpoint is made on disk A
abbrev pub making_calls : Owner → Store → List (Side × DiskCall)
making_calls owner m = (A, Sync) ∷ (B, Sync) ∷ calls_on A (create_calls owner 1 (Some (checkpoint_text m)))

abbrev pub unless_filled : {X : Type 0} → Option Side → List X → List X
unless_filled None calls = calls
unless_filled (Some disk) calls = []

-- none, if a disk isn't empty
abbrev pub import_calls : Owner → Store → List ℕ → List ℕ → List (Side × DiskCall)
import_calls owner m a b = unless_filled (filled a b) (making_calls owner m)

-- Which of these calls were made, in this order, on two disks that report their calls: each of them, if none failed; or
-- those up to the first that failed, and then the stop is Failed; or those before memory ran out.
abbrev pub MakesOn : List (Side × DiskCall) → Option Observed → Option Observed → Option Observed → Option Observed → Option Stop → Type 0
MakesOn [] a b new_a new_b stop = (new_a ≡ a) × (new_b ≡ b) × (stop ≡ Some disk_stop.Failed → ⊥)
MakesOn ((side, call) ∷ calls) a b new_a new_b stop =
    ((stop ≡ Some disk_stop.OutOfMemory) × (new_a ≡ a) × (new_b ≡ b))
    ⊎ ((stop ≡ Some disk_stop.Failed) × (new_a ≡ called_a side call a) × (new_b ≡ called_b side call b) × IfSome (of_live side a b) (λ t. fails_next t ≡ true))
    ⊎ (IfSome (of_live side a b) (λ t. fails_next t ≡ false) × MakesOn calls (called_a side call a) (called_b side call b) new_a new_b stop)

-- the same, if both disks report their calls
abbrev pub MakesObserved : List (Side × DiskCall) → Option Observed → Option Observed → Option Observed → Option Observed → Option Stop → Type 0
MakesObserved calls a b new_a new_b stop = IfSome a (λ s. IfSome b (λ t. MakesOn calls a b new_a new_b stop))

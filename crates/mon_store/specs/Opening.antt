-- What opening two disks finds, and what they represent meanwhile.
use Rattle.std.specs.Prelude.{◌≡◌, ℕ, ◌⊎◌, Bool, true, ◌&&◌, ◌==◌, List, [], slice_index_or, Option, Some, None, Result, Ok, Err}
use Rattle.mon_types.specs.declared.names.Stop.{Stop}
use Rattle.mon_types.specs.declared.names.Stop.TheVariants as disk_stop
use Rattle.mon_types.specs.declared.member.Member.{Member}
use Rattle.mon_disk.specs.Images.{Content, images}
use Rattle.mon_disk.specs.Calls.{Observed, DiskState, faults_after, MayCountRefusal}
use Rattle.mon_journal.specs.declared.stop.JournalStop.{JournalStop}
use Rattle.mon_journal.specs.declared.stop.JournalStop.TheVariants as journal
use Rattle.mon_journal.specs.Written.{owner_of, created}
use Rattle.mon_journal.specs.Content.{Held, content, held_by}
use Rattle.mon_journal.specs.Steps.{OnDisk, made_more}
use Rattle.mon_journal.specs.Steps as disk
use Rattle.mon_journal.specs.Pieces.{OnlyReads}
use Rattle.mon_types.specs.declared.names.Side.{Side}
use Rattle.mon_types.specs.Sides.{other as other_side}
use Rattle.mon_store.specs.declared.opening.LiveStore.{LiveStore}
use Rattle.mon_store.specs.declared.stop.OpenStop.{OpenStop}
use Rattle.mon_store.specs.declared.stop.OpenStop.TheVariants.{DiskFault, OutOfMemory}
use Rattle.mon_store.specs.declared.stop.OpenStop.TheVariants as stop
use Rattle.mon_store.specs.declared.choice.Choice.{Choice}
use Rattle.mon_store.specs.declared.choice.Choice.TheVariants as choice
use Rattle.mon_store.specs.StoreView.{opens_as}
use Rattle.mon_store.specs.Sound.{of_live}
use Rattle.mon_store.specs.Pair.{Refusal, NotAStore, Stranger, Found, Create, Live, found, stands}

-- what a disk was found to hold: nothing if it is closed; and the length of a closed disk
abbrev pub held_in : OnDisk → Option Held
held_in (disk.Closed len) = None
held_in (disk.Live journal payloads) = Some (held_by journal payloads)

abbrev pub len_of : OnDisk → ℕ
len_of (disk.Closed len) = len
len_of (disk.Live journal payloads) = 0

-- what was chosen of two disks with these payloads
abbrev pub found_of : List (List ℕ) → List (List ℕ) → Choice → Found
found_of p q choice.New = Create
found_of p q (choice.Live side journal) = Live side (held_by journal (of_live side p q))

-- the store's stop for a journal's: NotAStore names the disk too
abbrev pub named : Side → JournalStop → OpenStop
named side journal.DiskFault = DiskFault
named side (journal.NotAStore at) = stop.NotAStore side at
named side journal.OutOfMemory = OutOfMemory

-- NotAStore and Stranger are what reading the bytes gives. DiskFault and OutOfMemory say nothing of the bytes.
abbrev pub IsStopOf : {X : Type 0} → OpenStop → Result X Refusal → Type 0
IsStopOf DiskFault read = Unit {0}
IsStopOf OutOfMemory read = Unit {0}
IsStopOf (stop.NotAStore disk at) read = read ≡ Err (NotAStore disk at)
IsStopOf (stop.Stranger kept asked) read = read ≡ Err (Stranger (owner_of kept) (owner_of asked))

abbrev pub Gives : {X Y : Type 0} → (X → Y) → Result X OpenStop → Result Y Refusal → Type 0
Gives view (Ok x) read = read ≡ Ok (view x)
Gives view (Err e) read = IsStopOf e read

-- the disks' stop that ended an opening: none if it succeeded, or if it refused the bytes
abbrev pub stop_in : {T : Type 0} → Result T OpenStop → Option Stop
stop_in (Ok x) = None
stop_in (Err DiskFault) = Some disk_stop.Failed
stop_in (Err OutOfMemory) = Some disk_stop.OutOfMemory
stop_in (Err (stop.NotAStore disk at)) = None
stop_in (Err (stop.Stranger kept asked)) = None

-- what a disk counted: a fault if that was the stop, perhaps a failed allocation if that was, and otherwise nothing
abbrev pub Counts : Option Stop → DiskState → DiskState → Type 0
Counts stop old new = (new.faults ≡ faults_after stop old.faults) × MayCountRefusal stop old.refusals new.refusals

-- what two disks counted, of which one was called last
abbrev pub BothCount : Option Stop → DiskState → DiskState → DiskState → DiskState → Type 0
BothCount stop a b new_a new_b = (Counts stop a new_a × Counts None b new_b) ⊎ (Counts None a new_a × Counts stop b new_b)

-- Opening returns what the member opens on these bytes, unless a disk failed or memory ran out.
abbrev pub Answers : Member → List ℕ → List ℕ → Result LiveStore OpenStop → Type 0
Answers member a b result = Gives (λ s. s) result (opens_as member a b)

-- what disk A holds after an opening, given its file before: a new store's first file if one is created and its gate is
-- open, and otherwise what it held
abbrev pub first_content : Member → Bool → List ℕ → Result Found Refusal → Option (Result Held JournalStop)
first_content member true file (Ok Create) = Some (Ok (held_by (created member 1 None) []))
first_content member opening file place = content file

-- Two images that represent what they might have represented after a crash before the call, and that a member opens with the
-- same result. Each holds what it held then, except the first file of a new store.
pub record AlikePair (member : Member) (a b : Content) (opening : Bool) (c d : List ℕ) : Type 0 where
  pub on_a : List ℕ
  pub on_b : List ℕ
  pub left_a : images a on_a
  pub left_b : images b on_b
  pub stand : stands c d ≡ stands on_a on_b
  pub opens : opens_as member c d ≡ opens_as member on_a on_b
  pub first : content c ≡ first_content member opening on_a (found on_a on_b)
  pub second : content d ≡ content on_b

abbrev pub Alike : Member → Content → Content → List ℕ → List ℕ → Type 0
Alike member a b c d = (opening : Bool) × AlikePair member a b opening c d

-- What two disks settle to after an opening. A new store's first file is there if its gate is open and more than five
-- calls were made on disk A: the sync with which opening begins, and more than four calls of the creation.
abbrev pub Settled : Member → Content → Content → Observed → Observed → Observed → Type 0
Settled member a b before now_a now_b =
    AlikePair member a b (slice_index_or (now_a.settles now_a.made) 0 0 == 1 && made_more 5 before now_a) (now_a.settles now_a.made) (now_b.settles now_b.made)

-- The live disk's file was read again, to its end or to a stop, and the other disk wasn't called.
pub record Rereads {D : Type 0} (state : D → DiskState) (side : Side) (stop : Option Stop) (a b new_a new_b : D) : Type 0 where
  pub live : OnlyReads stop (state (of_live side a b)) (state (of_live side new_a new_b))
  pub other : of_live (other_side side) new_a new_b ≡ of_live (other_side side) a b

-- a disk's fault, or out of memory
abbrev pub IsOutside : OpenStop → Type 0
IsOutside DiskFault = Unit {0}
IsOutside OutOfMemory = Unit {0}
IsOutside (stop.NotAStore disk at) = ⊥
IsOutside (stop.Stranger kept asked) = ⊥

-- a stop that the bytes alone cause
abbrev pub IsRefusal : OpenStop → Type 0
IsRefusal DiskFault = ⊥
IsRefusal OutOfMemory = ⊥
IsRefusal (stop.NotAStore disk at) = Unit {0}
IsRefusal (stop.Stranger kept asked) = Unit {0}

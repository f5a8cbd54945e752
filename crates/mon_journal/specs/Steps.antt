-- What the calls of a journal do on its disk.
use Rattle.std.specs.Prelude.{◌≡◌, ◌≢◌, ◌⊎◌, ℕ, ◌≤◌, ◌<◌, ◌+◌, ◌^◌, max, length, Bool, true, false, ◌&&◌, ◌==◌, nat_lt, List, [], ◌∷◌, ◌++◌, slice_index_or, Option, Some, None, Result, Ok, Err, IfSome}
use Rattle.mon_types.specs.declared.names.Stop.{Stop}
use Rattle.mon_types.specs.declared.names.Stop.TheVariants as stop
use Rattle.mon_types.specs.Faults.{risen}
use Rattle.mon_disk.specs.declared.disk.DiskCall.{DiskCall}
use Rattle.mon_disk.specs.declared.disk.DiskCall.TheVariants.{Write, Sync}
use Rattle.mon_disk.specs.Images.{Content, images, Only}
use Rattle.mon_disk.specs.Calls.{Observed, DiskState, Called}
use Rattle.mon_journal.specs.declared.stop.JournalStop.{JournalStop}
use Rattle.mon_journal.specs.declared.stop.JournalStop.TheVariants.{DiskFault, NotAStore, OutOfMemory}
use Rattle.mon_journal.specs.declared.journal.Journal.{Journal}
use Rattle.mon_journal.specs.declared.opening.Opened.{Opened}
use Rattle.mon_journal.specs.declared.opening.Opened.TheVariants as opening
use Rattle.mon_journal.specs.Content.{Held, content, payloads_of, Holds}
use Rattle.mon_journal.specs.Fields.{Owner}
use Rattle.mon_journal.specs.Written.{payload_bytes, head_bytes}

-- the journal's stop for a disk's
abbrev pub stopped : Stop → JournalStop
stopped stop.Failed = DiskFault
stopped stop.OutOfMemory = OutOfMemory

-- the disk's stop in a journal's call: none if the call succeeded, or if the file's form is at fault
abbrev pub stop_in : {T : Type 0} → Result T JournalStop → Option Stop
stop_in (Ok x) = None
stop_in (Err DiskFault) = Some stop.Failed
stop_in (Err OutOfMemory) = Some stop.OutOfMemory
stop_in (Err (NotAStore at)) = None

-- the disk's fault, or out of memory
abbrev pub IsOutside : JournalStop → Type 0
IsOutside DiskFault = Unit {0}
IsOutside OutOfMemory = Unit {0}
IsOutside (NotAStore at) = ⊥

-- A call that is built on a disk returned out of memory. Either its own allocation failed before its first call, and
-- the disk is unchanged; or an allocation of the disk failed, which the disk counted.
abbrev pub IsRefusedFirst : {D E T : Type 0} → (D → DiskState) → E → Result T E → D → D → Type 0
IsRefusedFirst state no_memory result old new = result ≡ Err no_memory → (new ≡ old) ⊎ ((state new).refusals ≡ risen (state old).refusals)

-- no condition on what a crash leaves, for contracts that state it in another clause
abbrev pub Any : List ℕ → Type 0
Any file = Unit {0}

-- an append: the record and the next gate, closed, are written after the record's gate; then that gate is opened; each
-- write is synced
abbrev pub append_calls : ℕ → List ℕ → List DiskCall
append_calls gate payload = Write (gate + 1) (payload_bytes payload ++ 0 ∷ []) ∷ Sync ∷ Write gate (1 ∷ []) ∷ Sync ∷ []

-- a new file: its gate is closed; the header, the first record and a closed gate are written after it; then its gate is
-- opened; each write is synced
abbrev pub create_calls : Owner → ℕ → Option (List ℕ) → List DiskCall
create_calls owner generation first = Write 0 (0 ∷ []) ∷ Sync ∷ Write 1 (head_bytes owner generation first) ∷ Sync ∷ Write 0 (1 ∷ []) ∷ Sync ∷ []

-- a closed file of at most `most` bytes, or no longer than one that a crash might have left before
abbrev pub ClosedFrom : Content → ℕ → List ℕ → Type 0
ClosedFrom x most file = (content file ≡ None) × ((d : List ℕ) × images x d × (length file ≤ max (length d) most))

-- what a crash may leave while a file is made: what it might have left before, a closed file, or the new one
abbrev pub CreatedFrom : Content → Journal → List (List ℕ) → List ℕ → Type 0
CreatedFrom x journal payloads file = images x file ⊎ ClosedFrom x (journal.next_gate + 1) file ⊎ Holds journal payloads file

-- whether more than n calls were made from `before` to `now`
abbrev pub made_more : ℕ → Observed → Observed → Bool
made_more n before now = nat_lt (length before.made + n) (length now.made)

-- P if a test is passed, and otherwise Q
abbrev pub ByTest : Bool → Type 0 → Type 0 → Type 0
ByTest true P Q = P
ByTest false P Q = Q

-- What a disk settles to on which a file is made: the new file if its gate is open and its last write was begun;
-- otherwise what a crash might have left before, or a closed file.
abbrev pub Made : Content → Journal → List (List ℕ) → Bool → List ℕ → Type 0
Made x journal payloads opening file =
    ByTest (slice_index_or file 0 0 == 1 && opening) (Holds journal payloads file) (images x file ⊎ ClosedFrom x (journal.next_gate + 1) file)

-- the payloads that the disk holds, or none if its contents can't be seen
abbrev pub payloads_observed : Option (List ℕ) → List (List ℕ)
payloads_observed None = []
payloads_observed (Some file) = payloads_of file

abbrev pub payloads_seen : Content → List (List ℕ)
payloads_seen x = payloads_observed x.seen

-- The journal's store is on the disk, if its contents can be seen, and a crash leaves nothing else. Its first closed gate is
-- closed there, and within the known length. The place after it is below 2^64.
pub record Stands (journal : Journal) (known : ℕ) (x : Content) : Type 0 where
  pub only : Only x
  pub holds : IfSome x.seen (λ file. Holds journal (payloads_of file) file)
  pub shut : IfSome x.seen (λ file. slice_index_or file journal.next_gate 0 ≢ 1)
  pub reach : journal.next_gate < known
  pub room : journal.next_gate + 1 < 2 ^ 64

-- and it has these payloads
pub record Keeps (journal : Journal) (payloads : List (List ℕ)) (known : ℕ) (x : Content) : Type 0 where
  pub stands : Stands journal known x
  pub payloads_are : IfSome x.seen (λ file. payloads_of file ≡ payloads)

-- ---- opening

-- a sync; of a store's file the first closed gate is then written as zero, and synced
abbrev pub open_calls : Option (Result Held JournalStop) → List DiskCall
open_calls (Some (Ok held)) = Sync ∷ Write held.next_gate (0 ∷ []) ∷ Sync ∷ []
open_calls (Some (Err e)) = Sync ∷ []
open_calls None = Sync ∷ []

-- a file with the content and the length of one that a crash might have left before
abbrev pub AlikeFrom : Content → List ℕ → Type 0
AlikeFrom x file = (d : List ℕ) × images x d × (content file ≡ content d) × (length file ≡ length d)

-- Opening made its calls. If the file can be seen, they are `open_calls` of its content.
abbrev pub OpensBy : Option Stop → DiskState → DiskState → Type 0
OpensBy stop old new =
    (calls : List DiskCall) × Called calls (AlikeFrom old.content) stop old new × IfSome old.content.seen (λ file. calls ≡ open_calls (content file))

-- what a disk was found to hold: a closed file of that length, or a store's file, whose payloads stay on the disk
pub data OnDisk : Type 0 where
  Closed : (len : ℕ) → OnDisk
  Live : (journal : Journal) (payloads : List (List ℕ)) → OnDisk

abbrev pub with_payloads : List (List ℕ) → Opened → OnDisk
with_payloads payloads (opening.Closed len) = Closed len
with_payloads payloads (opening.Live journal) = Live journal payloads

-- the result of opening a disk, with the payloads that its file holds if it can be seen
abbrev pub on_disk : Option (List ℕ) → Result Opened JournalStop → Result OnDisk JournalStop
on_disk seen (Ok opened) = Ok (with_payloads (payloads_observed seen) opened)
on_disk seen (Err e) = Err e

-- Opening returned what the disk held, if its contents can be seen, and a crash leaves the same.
abbrev pub Opens : Option (List ℕ) → ℕ → Content → Result OnDisk JournalStop → Type 0
Opens seen known new (Ok (Closed len)) = Only new × (new.seen ≡ seen) × (known ≡ len) × IfSome seen (λ file. (content file ≡ None) × (len ≡ length file))
Opens seen known new (Ok (Live journal payloads)) = Keeps journal payloads known new × IfSome seen (Holds journal payloads)
Opens seen known new (Err (NotAStore at)) = Only new × (new.seen ≡ seen) × IfSome seen (λ file. content file ≡ Some (Err (NotAStore at)))
Opens seen known new (Err DiskFault) = Unit {0}
Opens seen known new (Err OutOfMemory) = Unit {0}

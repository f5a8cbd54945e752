-- What a store's file holds.
use Rattle.std.specs.Prelude.{◌≡◌, ℕ, zero, suc, ◌+◌, Bool, true, not, List, [], ◌∷◌, ◌++◌, length, take, drop, slice_index_or, Option, Some, None, option_map, Result, Ok, Err, ◌==◌, if◌then◌else◌}
use Rattle.mon_bytes.specs.Reading.{Reading, number, moved}
use Rattle.mon_journal.specs.declared.stop.JournalStop.{JournalStop}
use Rattle.mon_journal.specs.declared.stop.JournalStop.TheVariants.{DiskFault, NotAStore, OutOfMemory}
use Rattle.mon_journal.specs.declared.journal.Form.{Form}
use Rattle.mon_journal.specs.declared.journal.Journal.{Journal}
use Rattle.mon_journal.specs.Fields.{◌>>=◌, whole, Owner, form_at, owner_at, zeros_at, generation_at, payload_at}

pub record Header : Type 0 where
  pub form : Form
  pub owner : Owner
  pub generation : ℕ

unfoldable pub header_at : Reading → Result (Header × Reading) JournalStop
header_at c = do
  form ← form_at c
  owner ← owner_at form.1
  zeros ← zeros_at 6 owner.1
  generation ← generation_at zeros.1
  Ok (record { form = form.0; owner = owner.0; generation = generation.0 }, generation.1)

-- the header after its gate
abbrev pub header_of_file : List ℕ → Result (Header × Reading) JournalStop
header_of_file file = whole (number 1 (record { at = 0; rest = file })) >>= λ gate. header_at gate.1

-- the payloads of at most this many records whose gates are open, and the place of the first closed gate
unfoldable pub records : ℕ → Reading → Result (List (List ℕ) × ℕ) JournalStop
records zero c = Err (NotAStore c.at)
records (suc n) c = do
  gate ← whole (number 1 c)
  if gate.0 == 1 then (do
    payload ← payload_at gate.1
    others ← records n payload.1
    Ok (payload.0 ∷ others.0, others.1)) else Ok ([], c.at)

-- these payloads, and then those that are found
abbrev pub payloads_then : List (List ℕ) → Result (List (List ℕ) × ℕ) JournalStop
    → Result (List (List ℕ) × ℕ) JournalStop
payloads_then payloads found = found >>= λ x. Ok (payloads ++ x.0, x.1)

-- the same for all records: each takes at least one byte, so a file has no more records than bytes
unfoldable pub records_at : Reading → Result (List (List ℕ) × ℕ) JournalStop
records_at c = records (length c.rest) c

-- the header, the payloads of the records whose gates are open, and the place of the first closed gate
pub record Held : Type 0 where
  pub header : Header
  pub payloads : List (List ℕ)
  pub next_gate : ℕ

unfoldable pub held_at : Reading → Result Held JournalStop
held_at c = do
  gate ← whole (number 1 c)
  header ← header_at gate.1
  found ← records_at header.1
  Ok (record { header = header.0; payloads = found.0; next_gate = found.1 })

-- at most one byte, or a header whose gate isn't open
abbrev pub is_closed : List ℕ → Bool
is_closed [] = true
is_closed (gate ∷ []) = true
is_closed (gate ∷ byte ∷ bytes) = not (gate == 1)

-- What a file holds: nothing if it is closed, and otherwise a store, or the first fault.
unfoldable pub content : List ℕ → Option (Result Held JournalStop)
content file = if is_closed file then None else Some (held_at (record { at = 0; rest = file }))

abbrev pub payloads_in : Option (Result Held JournalStop) → List (List ℕ)
payloads_in (Some (Ok held)) = held.payloads
payloads_in (Some (Err e)) = []
payloads_in None = []

-- the payloads that a file represents
abbrev pub payloads_of : List ℕ → List (List ℕ)
payloads_of file = payloads_in (content file)

abbrev pub header_of : Journal → Header
header_of journal = record { form = journal.form; owner = record { rank = journal.member.rank; monitors = journal.member.monitors }; generation = journal.generation }

abbrev pub held_by : Journal → List (List ℕ) → Held
held_by journal payloads = record { header = header_of journal; payloads = payloads; next_gate = journal.next_gate }

-- the file is the journal's, and holds these payloads
abbrev pub Holds : Journal → List (List ℕ) → List ℕ → Type 0
Holds journal payloads file = content file ≡ Some (Ok (held_by journal payloads))

-- the journal after one more record
abbrev pub appended : Journal → List ℕ → Journal
appended journal payload = record journal { next_gate = journal.next_gate + 5 + length payload }

-- A file with or without one more payload: with it if and only if the gate of its record is open.
abbrev pub WithOrWithout : Journal → List (List ℕ) → List ℕ → List ℕ → Type 0
WithOrWithout journal payloads payload file =
    content file ≡ Some (Ok (if slice_index_or file journal.next_gate 0 == 1 then held_by (appended journal payload) (payloads ++ payload ∷ []) else held_by journal payloads))

-- A fault that a call returned is what reading gives, unless the disk failed or memory ran out.
abbrev pub Fails : {Y : Type 0} → JournalStop → Result Y JournalStop → Type 0
Fails DiskFault read = Unit {0}
Fails (NotAStore at) read = read ≡ Err (NotAStore at)
Fails OutOfMemory read = Unit {0}

-- a fault of the file's form, or out of memory
abbrev pub IsOfForm : JournalStop → Type 0
IsOfForm DiskFault = ⊥
IsOfForm (NotAStore at) = Unit {0}
IsOfForm OutOfMemory = Unit {0}

abbrev pub Gives : {X Y : Type 0} → (X → Y) → Result X JournalStop → Result Y JournalStop → Type 0
Gives view (Ok x) read = read ≡ Ok (view x)
Gives view (Err e) read = Fails e read

-- What a call returned is what reading gives, except for the payloads.
abbrev pub Finds : {X Y : Type 0} → (X → List (List ℕ) → Y) → Result X JournalStop → Result Y JournalStop → Type 0
Finds view (Ok x) read = (payloads : List (List ℕ)) × (read ≡ Ok (view x payloads))
Finds view (Err e) read = Fails e read

-- What a call returned for a file's header is what reading gives.
abbrev pub HeaderIs : Result Journal JournalStop → Result (Header × Reading) JournalStop → Type 0
HeaderIs (Ok journal) read = (behind : Reading) × (read ≡ Ok (header_of journal, behind))
HeaderIs (Err e) read = Fails e read

-- What a call returned for a file is what the file holds, except for the payloads.
abbrev pub FoundIn : Result (Option Journal) JournalStop → List ℕ → Type 0
FoundIn (Ok None) file = content file ≡ None
FoundIn (Ok (Some journal)) file = (payloads : List (List ℕ)) × Holds journal payloads file
FoundIn (Err DiskFault) file = Unit {0}
FoundIn (Err (NotAStore at)) file = content file ≡ Some (Err (NotAStore at))
FoundIn (Err OutOfMemory) file = Unit {0}

-- What a call returned for a gate: that it is closed, or the length of its record's payload. The other records follow that
-- payload.
abbrev pub HeadAt : Result (Option ℕ) JournalStop → Reading → Type 0
HeadAt (Ok None) c = records_at c ≡ Ok ([], c.at)
HeadAt (Ok (Some n)) c = records_at c ≡ payloads_then (take n (drop 5 c.rest) ∷ []) (records_at (moved (5 + n) c))
HeadAt (Err e) c = Fails e (records_at c)

-- these payloads are left to be read
abbrev pub IsUnread : List (List ℕ) → Reading → Type 0
IsUnread payloads c = (gate : ℕ) × (records_at c ≡ Ok (payloads, gate))

-- the first of them, and the others are left
abbrev pub IsNext : Option (List ℕ) → List (List ℕ) → Reading → Type 0
IsNext None payloads c = payloads ≡ []
IsNext (Some payload) payloads c = (others : List (List ℕ)) × (payloads ≡ payload ∷ others) × IsUnread others c

-- A call that reads the next payload from the disk returned it, or None after the last one, unless the disk failed or
-- memory ran out.
abbrev pub NextIs : {V : Type 0} → (V → List ℕ) → List (List ℕ) → Reading → Result (Option V) JournalStop → Type 0
NextIs view payloads c (Ok found) = IsNext (option_map view found) payloads c
NextIs view payloads c (Err DiskFault) = Unit {0}
NextIs view payloads c (Err (NotAStore at)) = ⊥
NextIs view payloads c (Err OutOfMemory) = Unit {0}

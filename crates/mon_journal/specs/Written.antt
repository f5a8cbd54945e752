-- How a store's file is written.
use Rattle.std.specs.Prelude.{ℕ, List, [], ◌∷◌, ◌++◌, ◌+◌, ◌<◌, ◌≤◌, ◌^◌, length, replicate, Option, Some, None}
use Rattle.std.specs.List.{flat_map, AllByRecursion}
use Rattle.byteorder.specs.Endian.{little_bytes}
use Rattle.mon_bytes.specs.Forms.{u32_bytes}
use Rattle.mon_types.specs.declared.member.Member.{Member}
use Rattle.mon_journal.specs.declared.journal.Form.{Form}
use Rattle.mon_journal.specs.declared.journal.Form.TheVariants.{First, Second}
use Rattle.mon_journal.specs.declared.journal.Journal.{Journal}
use Rattle.mon_journal.specs.declared.journal.TheConstants.{HEADER}
use Rattle.mon_journal.specs.Fields.{Owner, first_word, second_word}
use Rattle.mon_journal.specs.Content.{Header}

unfoldable pub generation_bytes : ℕ → List ℕ
generation_bytes generation = little_bytes 8 generation

abbrev pub word_of : Form → List ℕ
word_of First = first_word
word_of Second = second_word

-- either header
abbrev pub header_text : Header → List ℕ
header_text header = word_of header.form ++ header.owner.rank ∷ header.owner.monitors ∷ replicate 6 0 ++ generation_bytes header.generation

-- the second header, which is written
abbrev pub header_bytes : Owner → ℕ → List ℕ
header_bytes owner generation = header_text (record { form = Second; owner = owner; generation = generation })

-- what follows a record's gate
abbrev pub payload_bytes : List ℕ → List ℕ
payload_bytes payload = u32_bytes (length payload) ++ payload

-- a record whose gate is open
abbrev pub record_bytes : List ℕ → List ℕ
record_bytes payload = 1 ∷ payload_bytes payload

-- no record, or one
abbrev pub first_record : Option (List ℕ) → List ℕ
first_record None = []
first_record (Some payload) = record_bytes payload

abbrev pub first_payloads : Option (List ℕ) → List (List ℕ)
first_payloads None = []
first_payloads (Some payload) = payload ∷ []

-- what follows the gate of a new file's header: the header, no record or one, and a closed gate
abbrev pub head_bytes : Owner → ℕ → Option (List ℕ) → List ℕ
head_bytes owner generation first = header_bytes owner generation ++ first_record first ++ 0 ∷ []

abbrev pub owner_of : Member → Owner
owner_of member = record { rank = member.rank; monitors = member.monitors }

-- the journal of a new file
abbrev pub created : Member → ℕ → Option (List ℕ) → Journal
created member generation first = record { member = member; generation = generation; next_gate = HEADER + length (first_record first); form = Second }

-- ---- a whole file

pub record IsHeader (header : Header) : Type 0 where
  pub below : header.owner.rank < header.owner.monitors
  pub most_monitors : header.owner.monitors ≤ 15
  pub from_one : 1 ≤ header.generation
  pub most : header.generation ≤ 2 ^ 62

abbrev pub AreShort : List (List ℕ) → Type 0
AreShort payloads = AllByRecursion (λ payload. length payload < 2 ^ 32) payloads

-- an open gate and a header, records whose gates are open, another gate, and whatever follows it
abbrev pub file_bytes : Header → List (List ℕ) → ℕ → List ℕ → List ℕ
file_bytes header payloads gate behind = 1 ∷ (header_text header ++ (flat_map record_bytes payloads ++ gate ∷ behind))

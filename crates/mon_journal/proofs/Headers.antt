-- A header as it is written is read, and the file that is made is read as it was made.
use Rattle.std.proofs.Common.{◌≡◌, ◌≢◌, ℕ, ◌+◌, ◌≤◌, ◌<◌, ◌^◌, true, ltb, leb, List, [], ◌∷◌, ◌++◌, length, Option, Some, None, Ok, refl, ap, ◌∙◌, append_assoc, length-append, arith}
use Rattle.std.specs.Prelude.{replicate}
use Rattle.std.specs.List.{flat_map}
use Rattle.std.proofs.lemmas.Bool.Decides.{nat_tests}
use Rattle.byteorder.specs.Endian.{little_bytes}
use Rattle.byteorder.specs.Numbers.{little_number-reads_back}
use Rattle.mon_bytes.specs.Forms.{u32_bytes}
use Rattle.mon_bytes.proofs.Forms.{length-u32_bytes}
use Rattle.mon_journal.specs.declared.journal.Form.{Form}
use Rattle.mon_journal.specs.declared.journal.Form.TheVariants.{First, Second}
use Rattle.mon_journal.specs.Fields.{Owner, first_word, second_word, form_at, owner_at, zeros_at, generation_at}
use Rattle.mon_journal.specs.Content.{Header, header_at, records_at, content}
use Rattle.mon_journal.specs.Written.{generation_bytes, header_text, header_bytes, payload_bytes, record_bytes, first_record, first_payloads, head_bytes, IsHeader, AreShort, file_bytes}
use Rattle.mon_journal.proofs.Local.{from}
use Rattle.mon_journal.proofs.RecordParts.{Found, payloads_then, gate_read, at_shut, at_open, payload_again, one_record, number_again, front_again}
use Rattle.mon_journal.proofs.Files.{held_with, content_behind}

form_again : (at : ℕ) (others : List ℕ) → form_at (from at (second_word ++ others)) ≡ Ok (Second, from (at + 8) others)
unfolding form_at
form_again at others = rw (front_again 8 at second_word others refl) refl

pub owner_again : (at : ℕ) (owner : Owner) (others : List ℕ) → owner.rank < owner.monitors → owner.monitors ≤ 15 → owner_at (from at (owner.rank ∷ owner.monitors ∷ others)) ≡ Ok (owner, from (at + 1 + 1) others)
unfolding owner_at
owner_again at owner others below most =
    let one : ltb owner.rank owner.monitors ≡ true = grind (arith, nat_tests) in
    let two : leb owner.monitors 15 ≡ true = grind (arith, nat_tests) in
    rw (gate_read at owner.rank (owner.monitors ∷ others), gate_read (at + 1) owner.monitors others, one, two) refl

zeros_again : (at : ℕ) (others : List ℕ) → zeros_at 6 (from at (replicate 6 0 ++ others)) ≡ Ok (replicate 6 0, from (at + 6) others)
unfolding zeros_at
zeros_again at others = rw (front_again 6 at (replicate 6 0) others refl) refl

generation_again : (at generation : ℕ) (others : List ℕ) → 1 ≤ generation → generation ≤ 2 ^ 62 → generation_at (from at (generation_bytes generation ++ others)) ≡ Ok (generation, from (at + 8) others)
unfolding generation_at generation_bytes
generation_again at generation others from_one most =
    let one : leb 1 generation ≡ true = grind (arith, nat_tests) in
    let two : leb generation (2 ^ 62) ≡ true = grind (arith, nat_tests) in
    rw (number_again 8 at (little_bytes 8 generation) others generation refl (little_number-reads_back 8 generation [] (omega arith)), one, two) refl

pub header_again : (owner : Owner) (generation : ℕ) (others : List ℕ) → owner.rank < owner.monitors → owner.monitors ≤ 15 → 1 ≤ generation → generation ≤ 2 ^ 62
    → header_at (from 1 (header_bytes owner generation ++ others)) ≡ Ok (record { form = Second; owner = owner; generation = generation }, from 25 others)
unfolding header_at
header_again owner generation others below most from_one most_generation =
    let tail = generation_bytes generation ++ others in
    rw (form_again 1 (owner.rank ∷ owner.monitors ∷ (replicate 6 0 ++ tail)), owner_again 9 owner (replicate 6 0 ++ tail) below most, zeros_again 11 tail, generation_again 17 generation others from_one most_generation) refl

-- no record, or one whose payload's length has four bytes
abbrev pub IsShort : Option (List ℕ) → Type 0
IsShort first = (payload : List ℕ) → first ≡ Some payload → length payload < 2 ^ 32

records_again : (first : Option (List ℕ)) (tail : List ℕ) → IsShort first → records_at (from 25 (first_record first ++ 0 ∷ tail)) ≡ Ok (first_payloads first, 25 + length (first_record first))
records_again None tail short = at_shut 25 0 tail (omega arith)
records_again (Some payload) tail short =
    one_record 25 payload 0 tail (short payload refl) (omega arith)
    ∙ ap (λ (n : ℕ). Ok (payload ∷ [], n)) (omega (arith, length-append (u32_bytes (length payload)) payload, length-u32_bytes (length payload)))

pub length-header : (owner : Owner) (generation : ℕ) → length (header_bytes owner generation) ≡ 24
unfolding generation_bytes
length-header owner generation = refl

-- the file that is made
pub made : (owner : Owner) (generation : ℕ) (first : Option (List ℕ)) (tail : List ℕ) → owner.rank < owner.monitors → owner.monitors ≤ 15 → 1 ≤ generation → generation ≤ 2 ^ 62 → IsShort first
    → content (1 ∷ (head_bytes owner generation first ++ tail))
    ≡ Some (Ok (record { header = record { form = Second; owner = owner; generation = generation }; payloads = first_payloads first; next_gate = 25 + length (first_record first) }))
made owner generation first tail below most from_one most_generation short =
    let header = header_bytes owner generation in
    let others = first_record first ++ 0 ∷ tail in
    let parts : head_bytes owner generation first ++ tail ≡ header ++ others = append_assoc (header ++ first_record first) (0 ∷ []) tail ∙ append_assoc header (first_record first) (0 ∷ tail) in
    ap (λ (bytes : List ℕ). content (1 ∷ bytes)) parts
    ∙ content_behind header (record { form = Second; owner = owner; generation = generation }) 25 others (header_again owner generation others below most from_one most_generation) (omega (arith, length-header owner generation))
    ∙ ap (λ (found : Found). Some (held_with (record { form = Second; owner = owner; generation = generation }) found)) (records_again first tail short)

-- ---- a whole file, as it is written

first_again : (at : ℕ) (others : List ℕ) → form_at (from at (first_word ++ others)) ≡ Ok (First, from (at + 8) others)
unfolding form_at
first_again at others = rw (front_again 8 at first_word others refl) refl

first_header_again : (owner : Owner) (generation : ℕ) (others : List ℕ) → owner.rank < owner.monitors → owner.monitors ≤ 15 → 1 ≤ generation → generation ≤ 2 ^ 62
    → header_at (from 1 (header_text (record { form = First; owner = owner; generation = generation }) ++ others)) ≡ Ok (record { form = First; owner = owner; generation = generation }, from 25 others)
unfolding header_at
first_header_again owner generation others below most from_one most_generation =
    let tail = generation_bytes generation ++ others in
    rw (first_again 1 (owner.rank ∷ owner.monitors ∷ (replicate 6 0 ++ tail)), owner_again 9 owner (replicate 6 0 ++ tail) below most, zeros_again 11 tail, generation_again 17 generation others from_one most_generation) refl

-- a header and others after it
behind_header : (header : Header) (others : List ℕ) → IsHeader header → content (1 ∷ (header_text header ++ others)) ≡ Some (held_with header (records_at (from 25 others)))
behind_header header others is = each header.form is
  where
    each : (form : Form) → IsHeader header → content (1 ∷ (header_text (record { form = form; owner = header.owner; generation = header.generation }) ++ others)) ≡ Some (held_with (record { form = form; owner = header.owner; generation = header.generation }) (records_at (from 25 others)))
    each First is =
        content_behind (header_text (record { form = First; owner = header.owner; generation = header.generation })) (record { form = First; owner = header.owner; generation = header.generation }) 25 others
        (first_header_again header.owner header.generation others is.below is.most_monitors is.from_one is.most) (omega arith)
    each Second is =
        content_behind (header_bytes header.owner header.generation) (record { form = Second; owner = header.owner; generation = header.generation }) 25 others
        (header_again header.owner header.generation others is.below is.most_monitors is.from_one is.most) (omega arith)

all_records : (payloads : List (List ℕ)) (at gate : ℕ) (behind : List ℕ) → AreShort payloads → gate ≢ 1
    → records_at (from at (flat_map record_bytes payloads ++ gate ∷ behind)) ≡ Ok (payloads, at + length (flat_map record_bytes payloads))
all_records [] at gate behind short shut = at_shut at gate behind shut ∙ ap (λ (n : ℕ). Ok ([], n)) (omega arith)
all_records (payload ∷ payloads) at gate behind short shut =
    let others = flat_map record_bytes payloads ++ gate ∷ behind in
    ap (λ (bytes : List ℕ). records_at (from at (1 ∷ bytes))) (append_assoc (payload_bytes payload) (flat_map record_bytes payloads) (gate ∷ behind))
    ∙ at_open at (payload_bytes payload ++ others) (payload, from (at + 1 + 4 + length payload) others) (payload_again (at + 1) payload others short.0)
    ∙ ap (λ (found : Found). payloads_then (payload ∷ []) found) (all_records payloads (at + 1 + 4 + length payload) gate behind short.1 shut)
    ∙ ap (λ (n : ℕ). Ok (payload ∷ payloads, n)) (omega (arith, length-append (payload_bytes payload) (flat_map record_bytes payloads), length-append (u32_bytes (length payload)) payload, length-u32_bytes (length payload)))

pub file_again : (header : Header) (payloads : List (List ℕ)) (gate : ℕ) (behind : List ℕ) → IsHeader header → AreShort payloads → gate ≢ 1
    → content (file_bytes header payloads gate behind) ≡ Some (Ok (record { header = header; payloads = payloads; next_gate = 25 + length (flat_map record_bytes payloads) }))
file_again header payloads gate behind is short shut =
    behind_header header (flat_map record_bytes payloads ++ gate ∷ behind) is
    ∙ ap (λ (found : Found). Some (held_with header found)) (all_records payloads 25 gate behind short shut)

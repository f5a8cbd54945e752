-- A file that holds a store, and other files with the same bytes before the first closed gate.
use Rattle.std.proofs.Common.{◌≡◌, ◌≢◌, ℕ, ◌+◌, ◌<◌, ◌^◌, false, eqb, List, [], ◌∷◌, ◌++◌, length, Some, Result, Ok, Err, refl, sym, ap, subst, ◌∙◌, append_assoc, length-append, arith, inl, inr}
use Rattle.std.proofs.lemmas.Bool.{cases_eq}
use Rattle.std.proofs.lemmas.Bool.Decides.{nat_tests}
use Rattle.std.proofs.lemmas.List.{append-nil}
use Rattle.mon_bytes.specs.Reading.{Reading}
use Rattle.mon_bytes.proofs.Fields.{ok_is}
use Rattle.mon_journal.specs.declared.stop.JournalStop.{JournalStop}
use Rattle.mon_journal.specs.Fields.{◌>>=◌, form_at}
use Rattle.mon_journal.specs.Content.{Header, Held, header_at, records_at, held_at, content}
use Rattle.mon_journal.specs.Written.{record_bytes}
use Rattle.mon_journal.proofs.Local.{from, bind_ok}
use Rattle.mon_journal.proofs.Parts.{header_local}
use Rattle.mon_journal.proofs.RecordParts.{Found, payloads_then, gate_read, at_shut, one_record, parts_of}

-- what a file holds by its header, its payloads and the place of its first closed gate
abbrev pub held_with : Header → Found → Result Held JournalStop
held_with header found = found >>= λ x. Ok (record { header = header; payloads = x.0; next_gate = x.1 })

pub record FileParts (file : List ℕ) (held : Held) : Type 0 where
  pub before : List ℕ
  pub gate : ℕ
  pub behind : List ℕ
  pub shut : gate ≢ 1
  pub parts : file ≡ before ++ gate ∷ behind
  pub place : length before ≡ held.next_gate
  pub again : (others : List ℕ) → content (before ++ others) ≡ Some (held_with held.header (payloads_then held.payloads (records_at (from held.next_gate others))))

no_header : (at : ℕ) (x : Header × Reading) → header_at (from at []) ≡ Ok x → ⊥
unfolding header_at form_at
no_header at x e = cc

some_taken : (taken : List ℕ) (header : Header) (at : ℕ) → ((others : List ℕ) → header_at (from 1 (taken ++ others)) ≡ Ok (header, from at others)) → 0 < length taken
some_taken [] header at again = absurd (no_header 1 (header, from at []) (again []))
some_taken (byte ∷ taken) header at again = omega arith

pub held_open : (bytes : List ℕ) → held_at (from 0 (1 ∷ bytes)) ≡ (header_at (from 1 bytes) >>= λ header. held_with header.0 (records_at header.1))
unfolding held_at
held_open bytes = rw (gate_read 0 1 bytes) refl

content_open : (byte : ℕ) (bytes : List ℕ) → content (1 ∷ byte ∷ bytes) ≡ Some (header_at (from 1 (byte ∷ bytes)) >>= λ header. held_with header.0 (records_at header.1))
unfolding content
content_open byte bytes = ap (λ (r : Result Held JournalStop). Some r) (held_open (byte ∷ bytes))

-- if the header isn't empty, it decides what is read after it
pub content_behind : (taken : List ℕ) (header : Header) (at : ℕ) (others : List ℕ) → header_at (from 1 (taken ++ others)) ≡ Ok (header, from at others) → 0 < length taken
    → content (1 ∷ (taken ++ others)) ≡ Some (held_with header (records_at (from at others)))
content_behind [] header at others e some = absurd (omega arith)
content_behind (byte ∷ bytes) header at others e some =
    content_open byte (bytes ++ others) ∙ ap (λ (r : Result (Header × Reading) JournalStop). Some (r >>= λ h. held_with h.0 (records_at h.1))) e

pub held_found : (header : Header) (found : Found) (held : Held) → held_with header found ≡ Ok held → found ≡ Ok (held.payloads, held.next_gate) × (held.header ≡ header)
held_found header (Ok x) held e =
    let is : record { header = header; payloads = x.0; next_gate = x.1 } ≡ held = ok_is (record { header = header; payloads = x.0; next_gate = x.1 }) held e in
    (ap (λ (h : Held). Ok (h.payloads, h.next_gate)) is, sym (ap (λ (h : Held). h.header) is))
held_found header (Err d) held e = absurd cc

open_parts : (bytes : List ℕ) (held : Held) → held_at (from 0 (1 ∷ bytes)) ≡ Ok held → FileParts (1 ∷ bytes) held
unfolding records_at
open_parts bytes held e =
    let b = bind_ok (header_at (from 1 bytes)) (λ h. held_with h.0 (records_at h.1)) held (sym (held_open bytes) ∙ e) in
    let header = b.0.0 in
    let after = b.0.1 in
    let l = header_local (from 1 bytes) b.0 b.1 in
    let f = held_found header (records_at after) held b.2 in
    let q = parts_of (length after.rest) after.at after.rest (held.payloads, held.next_gate) f.0 in
    let some : 0 < length l.taken = some_taken l.taken header after.at l.again in
    record {
      before = 1 ∷ (l.taken ++ q.before);
      gate = q.gate;
      behind = q.behind;
      shut = q.shut;
      parts = ap (λ (bs : List ℕ). 1 ∷ bs) (l.parts ∙ ap (λ (bs : List ℕ). l.taken ++ bs) q.parts ∙ sym (append_assoc l.taken q.before (q.gate ∷ q.behind)));
      place = omega (arith, l.place, q.place, length-append l.taken q.before);
      again = λ others.
          ap (λ (bs : List ℕ). content (1 ∷ bs)) (append_assoc l.taken q.before others)
          ∙ content_behind l.taken header after.at (q.before ++ others) (l.again (q.before ++ others)) some
          ∙ ap (λ (found : Found). Some (held_with header found)) (q.again others)
          ∙ ap (λ (h : Header). Some (held_with h (payloads_then held.payloads (records_at (from held.next_gate others))))) (sym f.1);
    }

-- an open file
pub opened_file : (file : List ℕ) (held : Held) → content file ≡ Some (Ok held) → (bytes : List ℕ) × (file ≡ 1 ∷ bytes) × (held_at (from 0 (1 ∷ bytes)) ≡ Ok held)
unfolding content
opened_file [] held e = absurd cc
opened_file (gate ∷ []) held e = absurd cc
opened_file (gate ∷ byte ∷ bytes) held e = elim (cases_eq gate 1) [
  | inl is_open ↦
      let e1 : content (1 ∷ byte ∷ bytes) ≡ Some (Ok held) = subst (λ (g : ℕ). content (g ∷ byte ∷ bytes) ≡ Some (Ok held)) is_open e in
      let e2 : held_at (from 0 (1 ∷ byte ∷ bytes)) ≡ Ok held = cc in
      (byte ∷ bytes, ap (λ (g : ℕ). g ∷ byte ∷ bytes) is_open, e2)
  | inr shut ↦ let test : eqb gate 1 ≡ false = grind (arith, nat_tests) in absurd (cc (rw test at e))
]

pub parts_of_file : (file : List ℕ) (held : Held) → content file ≡ Some (Ok held) → FileParts file held
parts_of_file file held e = let o = opened_file file held e in subst (λ (l : List ℕ). FileParts l held) (sym o.1) (open_parts o.0 held o.2)

module _ (file : List ℕ) (held : Held) (holds : content file ≡ Some (Ok held)) where
  abbrev parts : FileParts file held
  parts = parts_of_file file held holds

  -- the same payloads, whatever follows a closed gate
  pub same_shut : (gate : ℕ) (behind : List ℕ) → gate ≢ 1 → content (parts.before ++ gate ∷ behind) ≡ Some (Ok held)
  same_shut gate behind shut =
      parts.again (gate ∷ behind)
      ∙ ap (λ (found : Found). Some (held_with held.header (payloads_then held.payloads found))) (at_shut held.next_gate gate behind shut)
      ∙ ap (λ (payloads : List (List ℕ)). Some (Ok (record held { payloads = payloads }))) (append-nil held.payloads)

  -- and one more after an open gate
  pub one_opened : (payload : List ℕ) (gate : ℕ) (behind : List ℕ) → length payload < 2 ^ 32 → gate ≢ 1
      → content (parts.before ++ (record_bytes payload ++ gate ∷ behind)) ≡ Some (Ok (record { header = held.header; payloads = held.payloads ++ payload ∷ []; next_gate = held.next_gate + 5 + length payload }))
  one_opened payload gate behind lt shut =
      parts.again (record_bytes payload ++ gate ∷ behind)
      ∙ ap (λ (found : Found). Some (held_with held.header (payloads_then held.payloads found))) (one_record held.next_gate payload gate behind lt shut)

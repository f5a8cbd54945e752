-- What is at a gate of a file, by the bytes that are read there.
use Rattle.std.proofs.Common.{◌≡◌, ◌≢◌, ℕ, ◌+◌, ◌≤◌, ◌<◌, true, false, ltb, List, [], ◌∷◌, length, take, drop, get_or, Option, Some, None, Result, Ok, Err, refl, sym, ap, ◌∙◌, arith}
use Rattle.std.specs.Prelude.{IfSome}
use Rattle.std.proofs.lemmas.Bool.{le-ltb, lt-ltb}
use Rattle.std.proofs.lemmas.List.{drop_all, drop-drop, length-drop}
use Rattle.byteorder.specs.Endian.{little_number}
use Rattle.mon_bytes.specs.Reading.{moved}
use Rattle.mon_journal.specs.declared.stop.JournalStop.{JournalStop}
use Rattle.mon_journal.specs.declared.stop.JournalStop.TheVariants.{DiskFault, NotAStore, OutOfMemory}
use Rattle.mon_journal.specs.Fields.{payload_at}
use Rattle.mon_journal.specs.Content.{payloads_then, records_at, Fails, HeadAt}
use Rattle.mon_journal.specs.Steps.{IsOutside}
use Rattle.mon_journal.specs.Pieces.{left_at}
use Rattle.mon_journal.proofs.Local.{from}
use Rattle.mon_journal.proofs.RecordParts.{nothing_at, at_shut, at_open, at_fault}

-- facts about a file, if one can be seen
pub each_file : {X : Type 0} (s : Option X) (P R : X → Type 0) → ((x : X) → P x → R x) → IfSome s P → IfSome s R
each_file None P R h p = tt
each_file (Some x) P R h p = h x p

pub both_files : {X : Type 0} (s : Option X) (P Q R : X → Type 0) → ((x : X) → P x → Q x → R x) → IfSome s P → IfSome s Q → IfSome s R
both_files None P Q R h p q = tt
both_files (Some x) P Q R h p q = h x p q

pub three_files : {X : Type 0} (s : Option X) (P Q O R : X → Type 0) → ((x : X) → P x → Q x → O x → R x) → IfSome s P → IfSome s Q → IfSome s O → IfSome s R
three_files None P Q O R h p q o = tt
three_files (Some x) P Q O R h p q o = h x p q o

pub past_end : (at : ℕ) (file : List ℕ) → length file ≤ at → records_at (left_at at file) ≡ Err (NotAStore at)
past_end at file le = ap (λ (bytes : List ℕ). records_at (from at bytes)) (drop_all at file le) ∙ nothing_at at

-- the first of the bytes from a place on
pub first_byte : (at gate : ℕ) (file bytes : List ℕ) → bytes ≡ take 1 (drop at file) → length bytes ≡ 1 → gate ≡ get_or bytes 0 0 → drop at file ≡ gate ∷ drop (at + 1) file
first_byte at gate file bytes is one value = by (drop at file) refl
  where
    by : (rest : List ℕ) → drop at file ≡ rest → drop at file ≡ gate ∷ drop (at + 1) file
    by [] same = absurd (omega (arith, one, ap length is, ap (λ (l : List ℕ). length (take 1 l)) same))
    by (byte ∷ rest) same =
        let only : bytes ≡ byte ∷ [] = is ∙ ap (λ (l : List ℕ). take 1 l) same in
        let gate_is : gate ≡ byte = value ∙ ap (λ (l : List ℕ). get_or l 0 0) only in
        let behind : drop (at + 1) file ≡ rest = sym (drop-drop 1 at file) ∙ ap (λ (l : List ℕ). drop 1 l) same in
        same ∙ ap (λ (g : ℕ). g ∷ rest) (sym gate_is) ∙ ap (λ (l : List ℕ). gate ∷ l) (sym behind)

module _ (at gate : ℕ) (file : List ℕ) (first : drop at file ≡ gate ∷ drop (at + 1) file) where
  pub shut_at : gate ≢ 1 → records_at (left_at at file) ≡ Ok ([], at)
  shut_at shut = ap (λ (bytes : List ℕ). records_at (from at bytes)) first ∙ at_shut at gate (drop (at + 1) file) shut

  module _ (is_open : gate ≡ 1) where
    abbrev rest : List ℕ
    rest = drop (at + 1) file

    there : drop at file ≡ 1 ∷ rest
    there = first ∙ ap (λ (g : ℕ). g ∷ rest) is_open

    faulty : (e : JournalStop) → payload_at (from (at + 1) rest) ≡ Err e → records_at (left_at at file) ≡ Err e
    faulty e is = ap (λ (bytes : List ℕ). records_at (from at bytes)) there ∙ at_fault at rest e is

    -- too few bytes for a length
    pub no_length : length rest < 4 → records_at (left_at at file) ≡ Err (NotAStore (at + 1))
    unfolding payload_at
    no_length few = let cut : ltb (length rest) 4 ≡ true = lt-ltb _ _ few in faulty (NotAStore (at + 1)) (rw cut refl)

    module _ (n : ℕ) (enough : 4 ≤ length rest) (number : n ≡ little_number 4 (take 4 rest)) where
      -- too few bytes for a payload of this length
      pub no_payload : length rest < n + 4 → records_at (left_at at file) ≡ Err (NotAStore (at + 5))
      unfolding payload_at
      no_payload few =
          let whole : ltb (length rest) 4 ≡ false = le-ltb _ _ enough in
          let cut : ltb (length (drop 4 rest)) n ≡ true = lt-ltb _ _ (omega (arith, few, enough, length-drop 4 rest)) in
          let place : at + 1 + 4 ≡ at + 5 = omega arith in
          faulty (NotAStore (at + 5)) (rw (whole, sym number, cut, place) refl)

      payload_there : n + 4 ≤ length rest → payload_at (from (at + 1) rest) ≡ Ok (take n (drop 4 rest), from (at + 1 + 4 + n) (drop n (drop 4 rest)))
      unfolding payload_at
      payload_there long =
          let whole : ltb (length rest) 4 ≡ false = le-ltb _ _ enough in
          let all : ltb (length (drop 4 rest)) n ≡ false = le-ltb _ _ (omega (arith, long, enough, length-drop 4 rest)) in
          rw (whole, sym number, all) refl

      -- a payload, and the records after it
      pub one_there : n + 4 ≤ length rest → records_at (left_at at file) ≡ payloads_then (take n (drop 5 (drop at file)) ∷ []) (records_at (moved (5 + n) (left_at at file)))
      one_there long =
          let front : drop 4 rest ≡ drop 5 (drop at file) = sym (ap (λ (l : List ℕ). drop 5 l) there) in
          let behind : drop n (drop 4 rest) ≡ drop (5 + n) (drop at file) = ap (λ (l : List ℕ). drop n l) front ∙ drop-drop n 5 (drop at file) in
          let place : at + 1 + 4 + n ≡ at + (5 + n) = omega arith in
          ap (λ (bytes : List ℕ). records_at (from at bytes)) there
          ∙ at_open at rest (take n (drop 4 rest), from (at + 1 + 4 + n) (drop n (drop 4 rest))) (payload_there long)
          ∙ ap (λ (l : List ℕ). payloads_then (take n l ∷ []) (records_at (from (at + 1 + 4 + n) (drop n (drop 4 rest))))) front
          ∙ ap (λ (l : List ℕ). payloads_then (take n (drop 5 (drop at file)) ∷ []) (records_at (from (at + 1 + 4 + n) l))) behind
          ∙ ap (λ (p : ℕ). payloads_then (take n (drop 5 (drop at file)) ∷ []) (records_at (from p (drop (5 + n) (drop at file))))) place

-- ---- what is returned for a gate, if the file may be seen

module _ (s : Option (List ℕ)) (end at : ℕ) where
  abbrev Answers : Result (Option ℕ) JournalStop → Type 0
  Answers result = IfSome s (λ file. HeadAt result (left_at at file))

  abbrev Long : Type 0
  Long = IfSome s (λ file. end ≡ length file)

  pub outside : (e : JournalStop) → IsOutside e → Answers (Err e)
  outside e is = each_file s (λ file. IsOutside e) (λ file. HeadAt (Err e) (left_at at file)) (λ file h. by e h (records_at (left_at at file))) (any s)
    where
      by : (e : JournalStop) → IsOutside e → (found : Result (List (List ℕ) × ℕ) JournalStop) → Fails e found
      by DiskFault h found = tt
      by OutOfMemory h found = tt
      by (NotAStore place) h found = absurd h

      any : (t : Option (List ℕ)) → IfSome t (λ file. IsOutside e)
      any None = tt
      any (Some file) = is

  pub past : Long → end ≤ at → Answers (Err (NotAStore at))
  past long le = each_file s (λ file. end ≡ length file) (λ file. HeadAt (Err (NotAStore at)) (left_at at file)) (λ file is. past_end at file (omega (arith, is, le))) long

  module _ (bytes : List ℕ) (gate : ℕ) (value : gate ≡ get_or bytes 0 0) (one : length bytes ≡ 1) (read : IfSome s (λ file. bytes ≡ take 1 (drop at file))) where
    pub shut : gate ≢ 1 → Answers (Ok None)
    shut closed = each_file s (λ file. bytes ≡ take 1 (drop at file)) (λ file. HeadAt (Ok None) (left_at at file)) (λ file is. shut_at at gate file (first_byte at gate file bytes is one value) closed) read

    module _ (is_open : gate ≡ 1) (long : Long) where
      pub cut_in_length : end < at + 5 → Answers (Err (NotAStore (at + 1)))
      cut_in_length few = both_files s (λ file. bytes ≡ take 1 (drop at file)) (λ file. end ≡ length file) (λ file. HeadAt (Err (NotAStore (at + 1))) (left_at at file))
          (λ file is len. no_length at gate file (first_byte at gate file bytes is one value) is_open (omega (arith, few, len, length-drop (at + 1) file))) read long

      module _ (number : List ℕ) (four : IfSome s (λ file. number ≡ take 4 (drop (at + 1) file))) (n : ℕ) (is_n : n ≡ little_number 4 number) (enough : at + 5 ≤ end) where
        pub cut_in_payload : end < at + 5 + n → Answers (Err (NotAStore (at + 5)))
        cut_in_payload few = three_files s (λ file. bytes ≡ take 1 (drop at file)) (λ file. end ≡ length file) (λ file. number ≡ take 4 (drop (at + 1) file)) (λ file. HeadAt (Err (NotAStore (at + 5))) (left_at at file))
            (λ file is len num. no_payload at gate file (first_byte at gate file bytes is one value) is_open n (omega (arith, enough, len, length-drop (at + 1) file)) (is_n ∙ ap (little_number 4) num)
            (omega (arith, few, enough, len, length-drop (at + 1) file))) read long four

        pub whole : at + 5 + n ≤ end → Answers (Ok (Some n))
        whole all = three_files s (λ file. bytes ≡ take 1 (drop at file)) (λ file. end ≡ length file) (λ file. number ≡ take 4 (drop (at + 1) file)) (λ file. HeadAt (Ok (Some n)) (left_at at file))
            (λ file is len num. one_there at gate file (first_byte at gate file bytes is one value) is_open n (omega (arith, enough, len, length-drop (at + 1) file)) (is_n ∙ ap (little_number 4) num)
            (omega (arith, all, enough, len, length-drop (at + 1) file))) read long four

-- What is taken of a run is what messages have room for.
use Rattle.std.proofs.Common.{◌≡◌, ℕ, suc, ◌+◌, Bool, true, false, not, ◌&&◌, ◌||◌, cond, leb, List, [], ◌∷◌, length, None, refl, ap, ◌∙◌, arith}
use Rattle.std.specs.Prelude.{nat_lt, sum_by}
use Rattle.mon_bytes.specs.declared.entry.Entry.{Entry}
use Rattle.mon_tx.specs.Decision.{Cell}
use Rattle.mon_tx.specs.declared.op.Op.{Op}
use Rattle.mon_wire.specs.declared.body.Body.TheVariants as body
use Rattle.mon_wire.specs.declared.parts.Cookie.{Cookie}
use Rattle.mon_wire.specs.declared.parts.Place.{Place}
use Rattle.mon_msg.specs.Protocol.Answers.{sent_values}
use Rattle.mon_msg.specs.Protocol.Collecting.{missed}
use Rattle.mon_msg.specs.Protocol.Length.{fits, short_list}
use Rattle.mon_msg.specs.Protocol.Parts.{value_length, entry_length, place_length}
use Rattle.mon_msg.specs.Protocol.Places.{is_done}
use Rattle.mon_msg.specs.Protocol.Providing.{reach, is_finished, chunk_with, given_values, given_entries}
use Rattle.mon_msg.specs.Protocol.Records.{run_from, longest}
use Rattle.mon_msg.specs.Protocol.Services.{fits_reply}
use Rattle.mon_msg.proofs.Runs.{have_room}

same_test : {A : Type 0} (a b : List A → Bool) (whole : List A) → ((items : List A) → a items ≡ b items) → longest a whole ≡ longest b whole
same_test a b whole h = λ i. longest (λ items. h items i) whole

and_true : (a : Bool) → (a && true) ≡ a
and_true true = refl
and_true false = refl

and_swap : (a b : Bool) → (a && b) ≡ (b && a)
and_swap true true = refl
and_swap true false = refl
and_swap false true = refl
and_swap false false = refl

-- ---- COMMIT and LAST

commit_fits : (n from : ℕ) (values : List (List Op)) → fits n (body.Commit from values) ≡ have_room value_length (λ _. 22) 1048576 values
commit_fits n from values =
    let k : 12 + (8 + (2 + sum_by value_length values)) ≡ 22 + sum_by value_length values = omega arith in
    ap (λ l. leb l 1048576 && leb (length values) 65535) k

pub missed-is : (n : ℕ) (records : ℕ → Cell) (last told : ℕ)
    → missed n records last told ≡ longest (have_room value_length (λ _. 22) 1048576) (run_from records last (suc told))
unfolding missed
missed-is n records last told =
    same_test (λ values. fits n (body.Commit (suc told) values)) (have_room value_length (λ _. 22) 1048576) (run_from records last (suc told))
    (commit_fits n (suc told))

last_fits : (n promise first last from : ℕ) (values : List (List Op))
    → fits n (body.Last promise first last false from values None) ≡ have_room value_length (λ _. 48) 1048576 values
last_fits n promise first last from values =
    let k : 12 + (33 + (2 + sum_by value_length values) + 1) ≡ 48 + sum_by value_length values = omega arith in
    ap (λ l. leb l 1048576 && leb (length values) 65535) k

pub sent_values-is : (n promise first last : ℕ) (records : ℕ → Cell) (from : ℕ) → (nat_lt last from || nat_lt from first) ≡ false
    → sent_values n promise first last records from ≡ longest (have_room value_length (λ _. 48) 1048576) (run_from records last from)
sent_values-is n promise first last records from h =
    ap (λ b. cond b [] (longest (λ values. fits n (body.Last promise first last false from values None)) (run_from records last from))) h
    ∙ same_test (λ values. fits n (body.Last promise first last false from values None)) (have_room value_length (λ _. 48) 1048576)
    (run_from records last from) (last_fits n promise first last from)

-- ---- chunks

module _ (last : ℕ) (c : Cookie) (p : Place) (left : List Entry) where
  -- a last chunk takes seven bytes more
  abbrev pub besides_records : List (List Op) → ℕ
  besides_records values = cond (reach last p values && is_finished p left []) 40 33 + place_length p

  records_fit : (n : ℕ) (values : List (List Op)) → fits n (chunk_with last c p left values []) ≡ have_room value_length besides_records 1048576 values
  records_fit n values = by (reach last p values && is_finished p left [])
    where
      by : (b : Bool)
          → fits n (cond b (body.LastChunk c p values [] last) (body.Chunk c p values [] (is_finished p left [])))
          ≡ (leb ((cond b 40 33 + place_length p) + sum_by value_length values) 1048576 && leb (length values) 65535)
      by true =
          let k : 12 + (24 + place_length p + (2 + sum_by value_length values) + (2 + 0)) ≡ (40 + place_length p) + sum_by value_length values = omega arith in
          λ i. leb (k i) 1048576 && and_true (leb (length values) 65535) i
      by false =
          let k : 12 + (17 + place_length p + (2 + sum_by value_length values) + (2 + 0)) ≡ (33 + place_length p) + sum_by value_length values = omega arith in
          λ i. leb (k i) 1048576 && and_true (leb (length values) 65535) i

  pub given_values-is : (n : ℕ) (records : ℕ → Cell)
      → given_values last c p left n records ≡ longest (have_room value_length besides_records 1048576) (run_from records last (suc p.version))
  given_values-is n records =
      same_test (λ values. fits n (chunk_with last c p left values [])) (have_room value_length besides_records 1048576)
      (run_from records last (suc p.version)) (records_fit n)

  abbrev pub besides_entries : List (List Op) → List Entry → ℕ
  besides_entries values entries = cond (reach last p values && is_finished p left entries) 40 33 + place_length p + sum_by value_length values

  entries_fit : (n : ℕ) (values : List (List Op)) (entries : List Entry) → short_list values ≡ true
      → fits n (chunk_with last c p left values entries) ≡ have_room entry_length (besides_entries values) 1048576 entries
  entries_fit n values entries short = by (reach last p values && is_finished p left entries)
    where
      by : (b : Bool)
          → fits n (cond b (body.LastChunk c p values entries last) (body.Chunk c p values entries (is_finished p left entries)))
          ≡ (leb ((cond b 40 33 + place_length p + sum_by value_length values) + sum_by entry_length entries) 1048576 && leb (length entries) 65535)
      by true =
          let k : 12 + (24 + place_length p + (2 + sum_by value_length values) + (2 + sum_by entry_length entries))
          ≡ (40 + place_length p + sum_by value_length values) + sum_by entry_length entries = omega arith in
          λ i. leb (k i) 1048576 && (short i && leb (length entries) 65535)
      by false =
          let k : 12 + (17 + place_length p + (2 + sum_by value_length values) + (2 + sum_by entry_length entries))
          ≡ (33 + place_length p + sum_by value_length values) + sum_by entry_length entries = omega arith in
          λ i. leb (k i) 1048576 && (short i && leb (length entries) 65535)

  pub given_entries-is : (n : ℕ) (values : List (List Op)) → short_list values ≡ true → (reach last p values && not (is_done p.key)) ≡ true
      → given_entries last c p left n values ≡ longest (have_room entry_length (besides_entries values) 1048576) left
  given_entries-is n values short h =
      ap (λ b. cond b (longest (λ entries. fits n (chunk_with last c p left values entries)) left) []) h
      ∙ same_test (λ entries. fits n (chunk_with last c p left values entries)) (have_room entry_length (besides_entries values) 1048576) left
      (λ entries. entries_fit n values entries short)

-- ---- since

pub fits_reply-is : (incrementals : List (List ℕ)) → fits_reply incrementals ≡ have_room (λ bytes. length bytes + 4) (λ _. 0) 524288 incrementals
fits_reply-is incrementals =
    let k : sum_by (λ (bytes : List ℕ). length bytes + 4) incrementals ≡ 0 + sum_by (λ (bytes : List ℕ). length bytes + 4) incrementals = omega arith in
    and_swap (leb (length incrementals) 65535) (leb (sum_by (λ (bytes : List ℕ). length bytes + 4) incrementals) 524288)
    ∙ ap (λ l. leb l 524288 && leb (length incrementals) 65535) k

pub told-since : (kept : List (List ℕ)) → longest fits_reply kept ≡ longest (have_room (λ bytes. length bytes + 4) (λ _. 0) 524288) kept
told-since kept = same_test fits_reply (have_room (λ bytes. length bytes + 4) (λ _. 0) 524288) kept fits_reply-is

-- What is read of a store's records may be sent and proposed, whatever the store keeps.
use Rattle.std.proofs.Common.{◌≡◌, ℕ, zero, suc, ◌+◌, ◌-◌, ◌*◌, ◌≤◌, min, Bool, true, eqb, leb, List, [], ◌∷◌, ◌++◌, length, Option, Some, None, Result, Ok, Err, IfSome, refl, arith}
use Rattle.std.proofs.lemmas.Bool.{cond_both, leb-true}
use Rattle.std.specs.List.{AllByRecursion}
use Rattle.std.specs.Option.{option_map}
use Rattle.std.specs.Prelude.{if◌then◌else◌}
use Rattle.mon_msg.specs.Protocol.Records.{found_as, longest, longest_onto, may_begin, most_value, pending_of, record_at, run_from, run_of, transaction_in, if_it_may_begin}
use Rattle.mon_msg.specs.Protocol.Replay.{more_of, most_bytes, most_versions, step_of}
use Rattle.mon_msg.specs.declared.paxos.Found.{Found}
use Rattle.mon_tx.specs.Decision.{Cell}
use Rattle.mon_tx.specs.Decode.{HasText, transaction_of}
use Rattle.mon_tx.specs.Text.{text}
use Rattle.mon_tx.specs.declared.op.Op.{Op}
use Rattle.mon_tx.specs.declared.refusal.TxRefused.{TxRefused}
use Rattle.mon_wire.specs.declared.body.Body.TheVariants as body
use Rattle.mon_bounds.proofs.Messages.{fits_length}
use Rattle.mon_bounds.proofs.Sizes.{load, load-cons}
use Rattle.mon_bounds.proofs.Values.{encoded_value}
use Rattle.mon_bounds.specs.Remembered.{MayPropose}

-- a value that a record encodes
pub record IsRecord (value : List Op) : Type 0 where
  pub form : HasText value
  pub short : length (text value) ≤ 1048544

abbrev IfRecord : Option (List Op) → Type 0
IfRecord o = IfSome o IsRecord

in_cell : (c : Cell) → IfRecord (transaction_in c)
in_cell None = tt
in_cell (Some bytes) = by (transaction_of bytes) refl
  where
    by : (r : Result (List Op) TxRefused) → transaction_of bytes ≡ r → IfRecord (if_it_may_begin r)
    by (Err f) e = tt
    by (Ok value) e = cond_both (may_begin value) (Some value) None IfRecord
        (λ t. record { form = encoded_value bytes value e; short = let l = fits_length 1 (body.Begin 0 0 value) t in omega arith }) (λ _. tt)

-- ---- lists that are picked from the front

longest_onto_passes : {A : Type 0} (test : List A → Bool) (front xs : List A) → test front ≡ true → test (longest_onto test front xs) ≡ true
longest_onto_passes test front [] h = h
longest_onto_passes test front (x ∷ xs) h = cond_both (test (front ++ x ∷ [])) (longest_onto test (front ++ x ∷ []) xs) front (λ ys. test ys ≡ true)
    (λ t. longest_onto_passes test (front ++ x ∷ []) xs t) (λ _. h)

pub longest_passes : {A : Type 0} (test : List A → Bool) (xs : List A) → test [] ≡ true → test (longest test xs) ≡ true
longest_passes test xs h = longest_onto_passes test [] xs h

-- this many values at most, that take this many bytes at most
pub record AreFew (c b : ℕ) (values : List (List Op)) : Type 0 where
  pub count : length values ≤ c
  pub bytes : load values ≤ 4 * length values + b

abbrev pub IfFew : ℕ → ℕ → Option (List (List Op)) → Type 0
IfFew c b None = Unit {0}
IfFew c b (Some values) = AreFew c b values

-- a value that may be proposed under that number
abbrev pub FoundUnder : ℕ → Option Found → Type 0
FoundUnder pn found = IfSome found (λ f. MayPropose f.value × (f.pn ≡ pn))

-- ---- records

module _ (records : ℕ → Cell) where
  record_is : (v : ℕ) → IfRecord (record_at records v)
  unfolding record_at
  record_is v = in_cell (records v)

  run_of_texts : (count v : ℕ) → AllByRecursion HasText (run_of records count v)
  unfolding run_of
  run_of_texts zero v = tt
  run_of_texts (suc count) v = by (record_at records v) (record_is v) (run_of_texts count (suc v))
    where
      by : (r : Option (List Op)) → IfRecord r → AllByRecursion HasText (run_of records count (suc v)) → AllByRecursion HasText (elim r as (λ _. List (List Op)) [ None ↦ [] | Some value ↦ value ∷ run_of records count (suc v) ])
      by None e k = tt
      by (Some x) e k = (e.form, k)

  pub run_texts : (last v : ℕ) → AllByRecursion HasText (run_from records last v)
  run_texts last v = run_of_texts (suc last - v) v

  found_is : (v pn : ℕ) (r : Option (List Op)) → IfRecord r → FoundUnder pn (found_as v pn r)
  found_is v pn None e = tt
  found_is v pn (Some x) e = cond_both (leb (length (text x)) most_value) (Some x) None (λ (o : Option (List Op)). FoundUnder pn (option_map (λ short. record { version = v; pn = pn; value = short }) o))
      (λ t. (record { form = e.form; short = leb-true (length (text x)) most_value t }, refl)) (λ _. tt)

  pub pending_is : (v pn last : ℕ) → FoundUnder pn (pending_of v pn last records)
  unfolding pending_of
  pending_is v pn last = cond_both (eqb v (suc last)) (found_as v pn (record_at records (suc last))) None (FoundUnder pn) (λ _. found_is v pn (record_at records (suc last)) (record_is (suc last))) (λ _. tt)

  -- ---- the versions of a step of a replay

  with_value : (c b : ℕ) (x : List Op) (values : Option (List (List Op))) → IfFew c b values → IfFew (suc c) (b + length (text x)) (option_map (λ vs. x ∷ vs) values)
  with_value c b x None k = tt
  with_value c b x (Some vs) k = record { count = let l = k.count in omega arith; bytes = let l = k.bytes in omega (arith, load-cons x vs) }

  widen : (c b c' b' : ℕ) (values : Option (List (List Op))) → c ≤ c' → b ≤ b' → IfFew c b values → IfFew c' b' values
  widen c b c' b' None h l k = tt
  widen c b c' b' (Some vs) h l k = record { count = let m = k.count in omega arith; bytes = let m = k.bytes in omega arith }

  more_few : (count room v : ℕ) → IfFew count room (more_of records count room v)
  unfolding more_of
  more_few zero room v = record { count = omega arith; bytes = omega arith }
  more_few (suc count) room v = by (record_at records v) (λ (r : ℕ). more_few count r (suc v))
    where
      by : (r : Option (List Op)) → ((room : ℕ) → IfFew count room (more_of records count room (suc v))) → IfFew (suc count) room (elim r as (λ _. Option (List (List Op))) [
        | None ↦ None
        | Some value ↦ if leb (length (text value)) room then option_map (λ values. value ∷ values) (more_of records count (room - length (text value)) (suc v)) else Some []
      ])
      by None k = tt
      by (Some x) k = cond_both (leb (length (text x)) room) (option_map (λ values. x ∷ values) (more_of records count (room - length (text x)) (suc v))) (Some []) (IfFew (suc count) room)
          (λ t. let l = leb-true (length (text x)) room t in
          widen (suc count) (room - length (text x) + length (text x)) (suc count) room (option_map (λ values. x ∷ values) (more_of records count (room - length (text x)) (suc v))) (omega arith) (omega arith)
          (with_value count (room - length (text x)) x (more_of records count (room - length (text x)) (suc v)) (k (room - length (text x)))))
          (λ _. record { count = omega arith; bytes = omega arith })

  pub step_few : (left v : ℕ) → IfFew (min left 64) 1048544 (step_of records left v)
  unfolding step_of
  step_few zero v = record { count = omega arith; bytes = omega arith }
  step_few (suc left) v = by (record_at records v) (record_is v)
    where
      by : (r : Option (List Op)) → IfRecord r → IfFew (min (suc left) 64) 1048544 (elim r as (λ _. Option (List (List Op))) [
        | None ↦ None
        | Some value ↦ option_map (λ values. value ∷ values) (more_of records (min left (most_versions - 1)) (most_bytes - length (text value)) (suc v))
      ])
      by None e = tt
      by (Some x) e =
          let short = e.short in
          let count = min left (most_versions - 1) in
          let room = most_bytes - length (text x) in
          widen (suc count) (room + length (text x)) (min (suc left) 64) 1048544 (option_map (λ values. x ∷ values) (more_of records count room (suc v))) (omega arith) (omega arith)
          (with_value count room x (more_of records count room (suc v)) (more_few count room (suc v)))

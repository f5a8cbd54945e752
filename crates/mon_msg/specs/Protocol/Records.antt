-- The records of versions, the pending value, and runs of records.
use Rattle.std.specs.Option.{option_map, option_and_then}
use Rattle.std.specs.Prelude.{◌≡◌, ℕ, suc, ◌<◌, Bool, true, false, ◌==◌, nat_le, List, Option, Some, None, Result, Ok, if◌then◌else◌, [], ◌∷◌, ◌++◌, Err, zero, ◌-◌, length, take}
use Rattle.mon_msg.specs.declared.limits.TheConstants.{MOST_PROPOSED}
use Rattle.mon_msg.specs.Protocol.Length.{fits}
use Rattle.mon_msg.specs.Protocol.Readings.{Readings}
use Rattle.mon_wire.specs.declared.body.Body.TheVariants as body
use Rattle.mon_msg.specs.declared.paxos.Found.{Found}
use Rattle.mon_tx.specs.Decision.{Cell}
use Rattle.mon_tx.specs.Decode.{transaction_of}
use Rattle.mon_tx.specs.Text.{text}
use Rattle.mon_tx.specs.declared.op.Op.{Op}
use Rattle.mon_tx.specs.declared.refusal.TxRefused.{TxRefused}

-- the longest value that is proposed, in bytes
abbrev pub most_value : ℕ
most_value = MOST_PROPOSED

-- whether a BEGIN with the value may be sent
abbrev pub may_begin : List Op → Bool
may_begin value = fits 1 (body.Begin 0 0 value)

abbrev pub if_it_may_begin : Result (List Op) TxRefused → Option (List Op)
if_it_may_begin (Ok value) = if may_begin value then Some value else None
if_it_may_begin (Err e) = None

abbrev pub transaction_in : Cell → Option (List Op)
transaction_in None = None
transaction_in (Some bytes) = if_it_may_begin (transaction_of bytes)

-- The value that the record of a version encodes, of the records that a store keeps. A record that is no transaction counts
-- as none, and so does one with which a BEGIN could not be sent.
unfoldable pub record_at : (records : ℕ → Cell) → ℕ → Option (List Op)
record_at records v = transaction_in (records v)

-- ---- the pending value

-- a value that is too long to be proposed counts as none
abbrev pub if_short_value : List Op → Option (List Op)
if_short_value value = if nat_le (length (text value)) most_value then Some value else None

abbrev pub found_as : (v pn : ℕ) → Option (List Op) → Option Found
found_as v pn value =
    option_map (λ short. record { version = v; pn = pn; value = short }) (option_and_then if_short_value value)

-- the value that was accepted last, for that version and under that number, if it is for the version after the last one
unfoldable pub pending_of : (v pn last : ℕ) → (records : ℕ → Cell) → Option Found
pending_of v pn last records = if v == suc last then found_as v pn (record_at records (suc last)) else None

abbrev pub pending : Readings → Option Found
pending w = pending_of w.pending_v w.pending_pn w.last w.record_of

-- ---- runs

-- the values of this many versions from v on, up to the first without one
unfoldable pub run_of : (records : ℕ → Cell) → (count v : ℕ) → List (List Op)
run_of records zero v = []
run_of records (suc count) v = elim (record_at records v) as (λ _. List (List Op)) [
  | None ↦ []
  | Some value ↦ value ∷ run_of records count (suc v)
]

-- the values from version v on, up to the last version or the first that has none
abbrev pub run_from : (records : ℕ → Cell) → (last v : ℕ) → List (List Op)
run_from records last v = run_of records (suc last - v) v

-- the longest prefix of a list of which each prefix but the empty one passes a test
abbrev pub longest_onto : {A : Type 0} → (List A → Bool) → List A → List A → List A
longest_onto test done [] = done
longest_onto test done (x ∷ xs) = if test (done ++ x ∷ []) then longest_onto test (done ++ x ∷ []) xs else done

abbrev pub longest : {A : Type 0} → (List A → Bool) → List A → List A
longest test xs = longest_onto test [] xs

-- `found` is a prefix of `whole`; each prefix of it but the empty one passes the test, and the next longer one doesn't
pub record IsLongest {A : Type 0} (test : List A → Bool) (whole found : List A) : Type 0 where
  pub rest : List A
  pub begins : found ++ rest ≡ whole
  pub passes : (k : ℕ) → k < length found → test (take (suc k) found) ≡ true
  pub ends : (x : A) (more : List A) → rest ≡ x ∷ more → test (found ++ x ∷ []) ≡ false

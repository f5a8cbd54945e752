-- Values that wait may be begun, and are short.
use Rattle.std.proofs.Common.{◌≡◌, ℕ, suc, ◌+◌, ◌≤◌, Bool, true, false, cond, eqb, leb, length, List, Option, Some, None, Result, Ok, Err, refl, arith}
use Rattle.std.proofs.lemmas.Bool.{and_parts, leb-true}
use Rattle.std.specs.Option.{option_map}
use Rattle.mon_msg.specs.Protocol.Readings.{Readings}
use Rattle.mon_msg.specs.Protocol.Records.{transaction_in, record_at, if_it_may_begin, found_as, pending, pending_of, may_begin, most_value}
use Rattle.mon_msg.specs.declared.paxos.Leader.{Leader}
use Rattle.mon_tx.specs.Decision.{Cell}
use Rattle.mon_tx.specs.Decode.{transaction_of}
use Rattle.mon_tx.specs.Text.{text, most}
use Rattle.mon_tx.specs.declared.op.Op.{Op}
use Rattle.mon_tx.specs.declared.refusal.TxRefused.{TxRefused}
use Rattle.paxos_leader.specs.Inputs.{may_begin_all, may_begin_any, may_begin_found}

read : (r : Result (List Op) TxRefused) → may_begin_any (if_it_may_begin r) ≡ true
read (Err e) = refl
read (Ok value) = by (may_begin value) refl
  where
    by : (b : Bool) → may_begin value ≡ b → may_begin_any (cond b (Some value) None) ≡ true
    by true h = h
    by false h = refl

encoded : (c : Cell) → may_begin_any (transaction_in c) ≡ true
encoded None = refl
encoded (Some bytes) = read (transaction_of bytes)

found : (v pn : ℕ) (value : Option (List Op)) → may_begin_any value ≡ true → may_begin_found (found_as v pn value) ≡ true
found v pn None h = refl
found v pn (Some value) h = by (leb (length (text value)) most_value)
  where
    by : (b : Bool) → may_begin_found (option_map (λ short. record { version = v; pn = pn; value = short }) (cond b (Some value) None)) ≡ true
    by true = h
    by false = refl

pub pending-begins : (w : Readings) → may_begin_found (pending w) ≡ true
unfolding pending_of record_at
pending-begins w = by (eqb w.pending_v (suc w.last))
  where
    by : (b : Bool) → may_begin_found (cond b (found_as w.pending_v w.pending_pn (transaction_in (w.record_of (suc w.last)))) None) ≡ true
    by true = found w.pending_v w.pending_pn (transaction_in (w.record_of (suc w.last))) (encoded (w.record_of (suc w.last)))
    by false = refl

-- a value that may be begun is short
pub begun-short : (value : List Op) → may_begin value ≡ true → length (text value) ≤ most
begun-short value h =
    let le = leb-true (12 + (16 + (4 + length (text value)))) 1048576 (and_parts (leb (12 + (16 + (4 + length (text value)))) 1048576) true h).0 in
    omega (arith, le)

pub all-begun : (l : Leader) → may_begin_all l ≡ true → (may_begin_any l.value ≡ true) × (may_begin_found l.found ≡ true)
all-begun l h = and_parts (may_begin_any l.value) (may_begin_found l.found) h

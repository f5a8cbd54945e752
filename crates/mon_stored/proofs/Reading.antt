-- What the records of a store encode, and which of them counts as pending.
use Rattle.std.proofs.Common.{◌≡◌, ◌≢◌, ℕ, suc, ◌+◌, ◌≤◌, ◌<◌, Bool, true, false, cond, eqb, leb, is_some, is_ok, List, length, Option, Some, None, Result, Ok, Err, refl, sym, ap, ◌∙◌, arith, inl, inr, IfSome, IfOk}
use Rattle.std.proofs.lemmas.Bool.{cases_Bool, le-leb, lt-leb, eq-eqb, ne_eqb}
use Rattle.mon_bytes.specs.Reading.{IsBytes}
use Rattle.mon_tx.specs.Decision.{Cell}
use Rattle.mon_tx.specs.Decode.{is_text, transaction_of}
use Rattle.mon_tx.specs.Text.{text}
use Rattle.mon_tx.specs.declared.op.Op.{Op}
use Rattle.mon_tx.specs.declared.refusal.TxRefused.{TxRefused}
use Rattle.mon_tx.proofs.Takes.{takes_all}
use Rattle.mon_msg.specs.Protocol.Records.{may_begin, if_it_may_begin, transaction_in, record_at, found_as, pending_of}
use Rattle.mon_msg.specs.declared.paxos.Found.{Found}
use Rattle.mon_stored.specs.Runs.{if_room}

-- ---- values

-- bytes that are too long encode no value that may be begun
pub value-long : (bytes : List ℕ) → IsBytes bytes → 1048544 < length bytes → transaction_in (Some bytes) ≡ None
value-long bytes all long = by (transaction_of bytes) refl
  where
    by : (read : Result (List Op) TxRefused) → transaction_of bytes ≡ read → if_it_may_begin read ≡ None
    by (Ok ops) e =
        let same : bytes ≡ text ops = (takes_all bytes ops all e).1 in
        let t : leb (12 + (16 + (4 + length (text ops)))) 1048576 ≡ false = lt-leb _ _ (omega (arith, long, ap length same)) in
        rw t refl
    by (Err e) h = refl

pub value-some : (bytes : List ℕ) (ops : List Op) → transaction_of bytes ≡ Ok ops → bytes ≡ text ops → length bytes ≤ 1048544 → transaction_in (Some bytes) ≡ Some ops
value-some bytes ops e same short =
    let t : leb (12 + (16 + (4 + length (text ops)))) 1048576 ≡ true = le-leb _ _ (omega (arith, short, ap length same)) in
    rw (e, t) refl

pub value-none : (bytes : List ℕ) (e : TxRefused) → transaction_of bytes ≡ Err e → transaction_in (Some bytes) ≡ None
value-none bytes e h = rw h refl

-- ---- whether a value counts

-- one that is too long to be proposed doesn't
pub counts-long : (bytes : List ℕ) → IsBytes bytes → 524288 < length bytes → (v pn : ℕ) → false ≡ is_some (found_as v pn (transaction_in (Some bytes)))
counts-long bytes all long v pn = by (transaction_of bytes) refl
  where
    by_begin : (ops : List Op) → leb (length (text ops)) 524288 ≡ false → (t : Bool) → false ≡ is_some (found_as v pn (cond t (Some ops) None))
    by_begin ops d true = rw d refl
    by_begin ops d false = refl

    by : (read : Result (List Op) TxRefused) → transaction_of bytes ≡ read → false ≡ is_some (found_as v pn (if_it_may_begin read))
    by (Ok ops) e = by_begin ops (lt-leb _ _ (omega (arith, long, ap length (takes_all bytes ops all e).1))) (may_begin ops)
    by (Err e) h = refl

-- another counts if it is a transaction
pub counts-short : (bytes : List ℕ) → IsBytes bytes → length bytes ≤ 524288 → (v pn : ℕ) → is_text bytes ≡ is_some (found_as v pn (transaction_in (Some bytes)))
counts-short bytes all short v pn = by (transaction_of bytes) refl
  where
    by : (read : Result (List Op) TxRefused) → transaction_of bytes ≡ read → is_ok read ≡ is_some (found_as v pn (if_it_may_begin read))
    by (Ok ops) e =
        let same : bytes ≡ text ops = (takes_all bytes ops all e).1 in
        let b : leb (12 + (16 + (4 + length (text ops)))) 1048576 ≡ true = le-leb _ _ (omega (arith, short, ap length same)) in
        let d : leb (length (text ops)) 524288 ≡ true = le-leb _ _ (omega (arith, short, ap length same)) in
        rw (b, d) refl
    by (Err e) h = refl

-- ---- the pending value

module _ (v pn last : ℕ) (records : ℕ → Cell) where
  pub has-other : v ≢ suc last → false ≡ is_some (pending_of v pn last records)
  unfolding pending_of
  has-other h = let t = ne_eqb v (suc last) h in rw t refl

  has-cell : v ≡ suc last → is_some (pending_of v pn last records) ≡ is_some (found_as v pn (transaction_in (records (suc last))))
  unfolding pending_of record_at
  has-cell h = ap (λ t. is_some (cond t (found_as v pn (transaction_in (records (suc last)))) None)) (eq-eqb v (suc last) h)

  pub has-none : v ≡ suc last → None ≡ records (suc last) → false ≡ is_some (pending_of v pn last records)
  has-none h e = ap (λ c. is_some (found_as v pn (transaction_in c))) e ∙ sym (has-cell h)

  pub has-bytes : (bytes : List ℕ) (b : Bool) → v ≡ suc last → Some bytes ≡ records (suc last) → ((v pn : ℕ) → b ≡ is_some (found_as v pn (transaction_in (Some bytes))))
      → b ≡ is_some (pending_of v pn last records)
  has-bytes bytes b h e counts = counts v pn ∙ ap (λ c. is_some (found_as v pn (transaction_in c))) e ∙ sym (has-cell h)

  pub pending-lost : is_some (pending_of v pn last records) ≡ false → None ≡ pending_of v pn last records
  pending-lost h = by (pending_of v pn last records) h
    where
      by : (o : Option Found) → is_some o ≡ false → None ≡ o
      by None h = refl
      by (Some found) h = cc

  pub pending-empty : None ≡ record_at records (suc last) → None ≡ pending_of v pn last records
  unfolding pending_of
  pending-empty h = rw (← h) (by (eqb v (suc last)))
    where
      by : (t : Bool) → None ≡ cond t (found_as v pn None) None
      by true = refl
      by false = refl

  pub pending-there : (value : List Op) → is_some (pending_of v pn last records) ≡ true → record_at records (suc last) ≡ Some value
      → Some (record { version = v; pn = pn; value = value }) ≡ pending_of v pn last records
  unfolding pending_of
  pending-there value is there =
      elim (cases_Bool (eqb v (suc last))) [
        | inl p ↦ elim (cases_Bool (leb (length (text value)) 524288)) [
          | inl q ↦ rw (p, there, q) refl
          | inr q ↦ let lost = rw (p, there, q) at is in absurd cc
        ]
        | inr p ↦ let lost = rw p at is in absurd cc
      ]

-- ---- room

pub room-none : (room : ℕ) (bytes : List ℕ) → IsBytes bytes → room < length bytes + 4 → if_room room (transaction_in (Some bytes)) ≡ None
room-none room bytes all short = by (transaction_of bytes) refl
  where
    by_begin : (ops : List Op) → bytes ≡ text ops → (t : Bool) → if_room room (cond t (Some ops) None) ≡ None
    by_begin ops same true = let t : leb (4 + length (text ops)) room ≡ false = lt-leb _ _ (omega (arith, short, ap length same)) in rw t refl
    by_begin ops same false = refl

    by : (read : Result (List Op) TxRefused) → transaction_of bytes ≡ read → if_room room (if_it_may_begin read) ≡ None
    by (Ok ops) e = by_begin ops (takes_all bytes ops all e).1 (may_begin ops)
    by (Err e) h = refl

room-some : (room : ℕ) (bytes : List ℕ) (o : Option (List Op)) → o ≡ transaction_in (Some bytes) → IfSome o (λ ops. bytes ≡ text ops) → length bytes + 4 ≤ room → o ≡ if_room room (transaction_in (Some bytes))
room-some room bytes o e same short = by o same ∙ ap (if_room room) e
  where
    by : (o : Option (List Op)) → IfSome o (λ ops. bytes ≡ text ops) → o ≡ if_room room o
    by None h = refl
    by (Some ops) h = let t : leb (4 + length (text ops)) room ≡ true = le-leb _ _ (omega (arith, short, ap length h)) in rw t refl

pub room-kept : {E : Type 0} (room : ℕ) (bytes : List ℕ) → length bytes + 4 ≤ room → (r : Result (Option (List Op)) E) → IfOk r (λ o. o ≡ transaction_in (Some bytes)) → IfOk r (λ o. IfSome o (λ ops. bytes ≡ text ops))
    → IfOk r (λ o. o ≡ if_room room (transaction_in (Some bytes)))
room-kept room bytes short (Ok o) e same = room-some room bytes o e same short
room-kept room bytes short (Err e) h same = tt

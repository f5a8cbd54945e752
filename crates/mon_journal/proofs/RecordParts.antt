-- The records of a store's file, up to its first closed gate.
use Rattle.std.proofs.Common.{◌≡◌, ◌≢◌, ℕ, zero, suc, ◌+◌, ◌≤◌, ◌<◌, ◌^◌, false, eqb, ltb, List, [], ◌∷◌, ◌++◌, length, take, drop, Result, Ok, Err, refl, sym, ap, subst, ◌∙◌, append_assoc, length-append, arith, inl, inr}
use Rattle.std.proofs.lemmas.Bool.{cases_eq, le-ltb}
use Rattle.std.proofs.lemmas.Bool.Decides.{nat_tests}
use Rattle.std.proofs.lemmas.List.{take_at, drop_at, append-nil}
use Rattle.byteorder.specs.Endian.{little_bytes, little_number}
use Rattle.byteorder.specs.Numbers.{little_number-reads_back}
use Rattle.mon_bytes.specs.declared.cursor.Short.{Short}
use Rattle.mon_bytes.specs.Reading.{Reading, number, next_bytes}
use Rattle.mon_bytes.specs.Forms.{u32_bytes}
use Rattle.mon_bytes.proofs.Fields.{ok_is}
use Rattle.mon_journal.specs.declared.stop.JournalStop.{JournalStop}
use Rattle.mon_journal.specs.declared.stop.JournalStop.TheVariants.{NotAStore}
use Rattle.mon_journal.specs.Fields.{◌>>=◌, whole, payload_at}
pub use Rattle.mon_journal.specs.Content.{payloads_then}
use Rattle.mon_journal.specs.Content.{records, records_at}
use Rattle.mon_journal.specs.Written.{payload_bytes, record_bytes}
use Rattle.mon_journal.proofs.Local.{from, bind_ok}
use Rattle.mon_journal.proofs.Parts.{payload_local}

abbrev pub Found : Type 0
Found = Result (List (List ℕ) × ℕ) JournalStop

pub gate_read : (at gate : ℕ) (rest : List ℕ) → whole (number 1 (from at (gate ∷ rest))) ≡ Ok (gate, from (at + 1) rest)
gate_read at gate rest =
    let there : ltb (suc (length rest)) 1 ≡ false = le-ltb _ _ (omega arith) in
    let same : gate + 0 ≡ gate = omega arith in
    rw (there, same) refl

pub records_none : (n at : ℕ) → records n (from at []) ≡ Err (NotAStore at)
unfolding records
records_none zero at = refl
records_none (suc n) at = refl

pub nothing_at : (at : ℕ) → records_at (from at []) ≡ Err (NotAStore at)
unfolding records_at
nothing_at at = records_none 0 at

pub records_shut : (n at gate : ℕ) (rest : List ℕ) → gate ≢ 1 → records (suc n) (from at (gate ∷ rest)) ≡ Ok ([], at)
unfolding records
records_shut n at gate rest shut = let test : eqb gate 1 ≡ false = grind (arith, nat_tests) in rw (gate_read at gate rest, test) refl

pub records_open : (n at : ℕ) (rest : List ℕ) → records (suc n) (from at (1 ∷ rest)) ≡ (payload_at (from (at + 1) rest) >>= λ p. payloads_then (p.0 ∷ []) (records n p.1))
unfolding records
records_open n at rest = rw (gate_read at 1 rest) refl

shorter : (c : Reading) (x : List ℕ × Reading) → payload_at c ≡ Ok x → length x.1.rest ≤ length c.rest
shorter c x e = let p = payload_local c x e in omega (arith, ap length p.parts, length-append p.taken x.1.rest)

same_payloads : (n m : ℕ) (payload : Result (List ℕ × Reading) JournalStop) → ((x : List ℕ × Reading) → payload ≡ Ok x → records n x.1 ≡ records m x.1)
    → (payload >>= λ p. payloads_then (p.0 ∷ []) (records n p.1)) ≡ (payload >>= λ p. payloads_then (p.0 ∷ []) (records m p.1))
same_payloads n m (Ok x) same = ap (λ (r : Found). payloads_then (x.0 ∷ []) r) (same x refl)
same_payloads n m (Err e) same = refl

-- each record takes a byte, so that more of them are never found
pub enough : (n m at : ℕ) (rest : List ℕ) → length rest ≤ n → length rest ≤ m → records n (from at rest) ≡ records m (from at rest)
enough n m at [] le le' = records_none n at ∙ sym (records_none m at)
enough zero m at (gate ∷ rest) le le' = absurd (omega arith)
enough (suc n) zero at (gate ∷ rest) le le' = absurd (omega arith)
enough (suc n) (suc m) at (gate ∷ rest) le le' = elim (cases_eq gate 1) [
  | inl is_open ↦
      let one : records (suc n) (from at (1 ∷ rest)) ≡ records (suc m) (from at (1 ∷ rest)) =
      records_open n at rest
      ∙ same_payloads n m (payload_at (from (at + 1) rest)) (λ x e. let less = shorter (from (at + 1) rest) x e in enough n m x.1.at x.1.rest (omega arith) (omega arith))
      ∙ sym (records_open m at rest) in
      subst (λ (g : ℕ). records (suc n) (from at (g ∷ rest)) ≡ records (suc m) (from at (g ∷ rest))) (sym is_open) one
  | inr shut ↦ records_shut n at gate rest shut ∙ sym (records_shut m at gate rest shut)
]

pub at_shut : (at gate : ℕ) (rest : List ℕ) → gate ≢ 1 → records_at (from at (gate ∷ rest)) ≡ Ok ([], at)
unfolding records_at
at_shut at gate rest shut = records_shut (length rest) at gate rest shut

-- after an open gate stand a payload and the others
pub at_open : (at : ℕ) (rest : List ℕ) (x : List ℕ × Reading) → payload_at (from (at + 1) rest) ≡ Ok x → records_at (from at (1 ∷ rest)) ≡ payloads_then (x.0 ∷ []) (records_at x.1)
unfolding records_at
at_open at rest x e =
    let less = shorter (from (at + 1) rest) x e in
    records_open (length rest) at rest
    ∙ ap (λ (r : Result (List ℕ × Reading) JournalStop). r >>= λ p. payloads_then (p.0 ∷ []) (records (length rest) p.1)) e
    ∙ ap (λ (r : Found). payloads_then (x.0 ∷ []) r) (enough (length rest) (length x.1.rest) x.1.at x.1.rest less (omega arith))

-- The records before the first closed gate, that gate, and what follows it. After the same records other bytes are read
-- in the same way.
pub record Parts (c : Reading) (x : List (List ℕ) × ℕ) : Type 0 where
  pub before : List ℕ
  pub gate : ℕ
  pub behind : List ℕ
  pub shut : gate ≢ 1
  pub parts : c.rest ≡ before ++ gate ∷ behind
  pub place : x.1 ≡ c.at + length before
  pub again : (others : List ℕ) → records_at (from c.at (before ++ others)) ≡ payloads_then x.0 (records_at (from x.1 others))

regroup : (payload : List ℕ) (payloads : List (List ℕ)) (found : Found) → payloads_then (payload ∷ []) (payloads_then payloads found) ≡ payloads_then (payload ∷ payloads) found
regroup payload payloads (Ok x) = refl
regroup payload payloads (Err e) = refl

pub none_before : (found : Found) → payloads_then [] found ≡ found
none_before (Ok x) = refl
none_before (Err e) = refl

pub one_found : (payload : List ℕ) (found : Found) (x : List (List ℕ) × ℕ) → payloads_then (payload ∷ []) found ≡ Ok x → (y : List (List ℕ) × ℕ) × (found ≡ Ok y) × (x ≡ (payload ∷ y.0, y.1))
one_found payload (Ok y) x e = (y, refl, cc)
one_found payload (Err d) x e = absurd cc

pub no_records : (at : ℕ) (rest : List ℕ) (x : List (List ℕ) × ℕ) → records zero (from at rest) ≡ Ok x → ⊥
unfolding records
no_records at rest x e = cc

-- with one more record before them
one_more : (at : ℕ) (rest : List ℕ) (p : List ℕ × Reading) (y : List (List ℕ) × ℕ) → payload_at (from (at + 1) rest) ≡ Ok p → Parts p.1 y → Parts (from at (1 ∷ rest)) (p.0 ∷ y.0, y.1)
one_more at rest p y e q =
    let l = payload_local (from (at + 1) rest) p e in
    record {
      before = 1 ∷ (l.taken ++ q.before);
      gate = q.gate;
      behind = q.behind;
      shut = q.shut;
      parts = ap (λ (bytes : List ℕ). 1 ∷ bytes) (l.parts ∙ ap (λ (bytes : List ℕ). l.taken ++ bytes) q.parts ∙ sym (append_assoc l.taken q.before (q.gate ∷ q.behind)));
      place = omega (arith, l.place, q.place, length-append l.taken q.before);
      again = λ others.
          ap (λ (bytes : List ℕ). records_at (from at (1 ∷ bytes))) (append_assoc l.taken q.before others)
          ∙ at_open at (l.taken ++ (q.before ++ others)) (p.0, from p.1.at (q.before ++ others)) (l.again (q.before ++ others))
          ∙ ap (λ (found : Found). payloads_then (p.0 ∷ []) found) (q.again others)
          ∙ regroup p.0 y.0 (records_at (from y.1 others));
    }

pub parts_of : (n at : ℕ) (rest : List ℕ) (x : List (List ℕ) × ℕ) → records n (from at rest) ≡ Ok x → Parts (from at rest) x
parts_of zero at rest x e = absurd (no_records at rest x e)
parts_of (suc n) at [] x e = absurd (cc (records_none (suc n) at, e))
parts_of (suc n) at (gate ∷ rest) x e = elim (cases_eq gate 1) [
  | inl is_open ↦
      let e1 : records (suc n) (from at (1 ∷ rest)) ≡ Ok x = subst (λ (g : ℕ). records (suc n) (from at (g ∷ rest)) ≡ Ok x) is_open e in
      let b = bind_ok (payload_at (from (at + 1) rest)) (λ p. payloads_then (p.0 ∷ []) (records n p.1)) x (sym (records_open n at rest) ∙ e1) in
      let y = one_found b.0.0 (records n b.0.1) x b.2 in
      let q = parts_of n b.0.1.at b.0.1.rest y.0 y.1 in
      subst (λ (z : List (List ℕ) × ℕ). Parts (from at (gate ∷ rest)) z) (sym y.2)
      (subst (λ (g : ℕ). Parts (from at (g ∷ rest)) (b.0.0 ∷ y.0.0, y.0.1)) (sym is_open) (one_more at rest b.0 y.0 b.1 q))
  | inr shut ↦
      let is : ([], at) ≡ x = ok_is ([], at) x (sym (records_shut n at gate rest shut) ∙ e) in
      subst (λ (z : List (List ℕ) × ℕ). Parts (from at (gate ∷ rest)) z) is
      (record { before = []; gate = gate; behind = rest; shut = shut; parts = refl; place = omega arith; again = λ others. sym (none_before (records_at (from at others))) })
]

pub number_again : (k at : ℕ) (bytes others : List ℕ) (n : ℕ) → length bytes ≡ k → little_number k bytes ≡ n → whole (number k (from at (bytes ++ others))) ≡ Ok (n, from (at + k) others)
number_again k at bytes others n len is =
    let first : take k (bytes ++ others) ≡ bytes = take_at bytes others k len in
    let behind : drop k (bytes ++ others) ≡ others = drop_at bytes others k len in
    let there : ltb (length (bytes ++ others)) k ≡ false = le-ltb _ _ (omega (arith, len, length-append bytes others)) in
    rw (there, first, behind, is) refl

pub front_again : (k at : ℕ) (bytes others : List ℕ) → length bytes ≡ k → whole (next_bytes k (from at (bytes ++ others))) ≡ Ok (bytes, from (at + k) others)
front_again k at bytes others len =
    let first : take k (bytes ++ others) ≡ bytes = take_at bytes others k len in
    let behind : drop k (bytes ++ others) ≡ others = drop_at bytes others k len in
    let there : ltb (length (bytes ++ others)) k ≡ false = le-ltb _ _ (omega (arith, len, length-append bytes others)) in
    rw (there, first, behind) refl

u32_again : (at n : ℕ) (others : List ℕ) → n < 2 ^ 32 → whole (number 4 (from at (u32_bytes n ++ others))) ≡ Ok (n, from (at + 4) others)
unfolding u32_bytes
u32_again at n others lt = number_again 4 at (little_bytes 4 n) others n refl (little_number-reads_back 4 n [] (omega arith))

-- a payload as it is written is read
pub payload_again : (at : ℕ) (payload others : List ℕ) → length payload < 2 ^ 32 → payload_at (from at (payload_bytes payload ++ others)) ≡ Ok (payload, from (at + 4 + length payload) others)
unfolding payload_at
payload_again at payload others lt =
    ap (λ (r : Result (ℕ × Reading) JournalStop). r >>= λ n. whole (next_bytes n.0 n.1)) (ap (λ (bytes : List ℕ). whole (number 4 (from at bytes))) (append_assoc (u32_bytes (length payload)) payload others) ∙ u32_again at (length payload) (payload ++ others) lt)
    ∙ front_again (length payload) (at + 4) payload others refl

-- an open record before a closed gate
pub one_record : (at : ℕ) (payload : List ℕ) (gate : ℕ) (behind : List ℕ) → length payload < 2 ^ 32 → gate ≢ 1
    → records_at (from at (record_bytes payload ++ gate ∷ behind)) ≡ Ok (payload ∷ [], at + 5 + length payload)
one_record at payload gate behind lt shut =
    at_open at (payload_bytes payload ++ gate ∷ behind) (payload, from (at + 1 + 4 + length payload) (gate ∷ behind)) (payload_again (at + 1) payload (gate ∷ behind) lt)
    ∙ ap (λ (found : Found). payloads_then (payload ∷ []) found) (at_shut (at + 1 + 4 + length payload) gate behind shut)
    ∙ ap (λ (n : ℕ). Ok (payload ∷ [], n)) (omega arith)

-- ---- reading the records one after the other, as a loop does

pub at_fault : (at : ℕ) (rest : List ℕ) (e : JournalStop) → payload_at (from (at + 1) rest) ≡ Err e → records_at (from at (1 ∷ rest)) ≡ Err e
unfolding records_at
at_fault at rest e is = records_open (length rest) at rest ∙ ap (λ (r : Result (List ℕ × Reading) JournalStop). r >>= λ p. payloads_then (p.0 ∷ []) (records (length rest) p.1)) is

gate_found : (at : ℕ) (bytes : List ℕ) (x : ℕ × Reading) → number 1 (from at bytes) ≡ Ok x → (rest : List ℕ) × (bytes ≡ x.0 ∷ rest) × (x.1 ≡ from (at + 1) rest)
gate_found at [] x e = absurd cc
gate_found at (gate ∷ rest) x e =
    let is : (gate, from (at + 1) rest) ≡ x = ok_is (gate, from (at + 1) rest) x (sym (gate_read at gate rest) ∙ ap (λ (r : Result (ℕ × Reading) Short). whole r) e) in
    (rest, ap (λ (n : ℕ). n ∷ rest) (ap (λ (p : ℕ × Reading). p.0) is), sym (ap (λ (p : ℕ × Reading). p.1) is))

pub added : (before : List (List ℕ)) (payload : List ℕ) (found : Found) → payloads_then before (payloads_then (payload ∷ []) found) ≡ payloads_then (before ++ payload ∷ []) found
added before payload (Ok x) = ap (λ (payloads : List (List ℕ)). Ok (payloads, x.1)) (simp append_assoc)
added before payload (Err e) = refl

pub gate_missing : (before : List (List ℕ)) (c : Reading) (s : Short) (total : Found) → number 1 c ≡ Err s → payloads_then before (records_at c) ≡ total → total ≡ Err (NotAStore s.at)
gate_missing before c s total e so_far = none c.rest e so_far
  where
    none : (bytes : List ℕ) → number 1 (from c.at bytes) ≡ Err s → payloads_then before (records_at (from c.at bytes)) ≡ total → total ≡ Err (NotAStore s.at)
    none [] e so_far = let is : s.at ≡ c.at = cc in sym so_far ∙ ap (λ (found : Found). payloads_then before found) (nothing_at c.at) ∙ ap (λ (n : ℕ). Err (NotAStore n)) (sym is)
    none (gate ∷ rest) e so_far = absurd (cc (gate_read c.at gate rest, ap (λ (r : Result (ℕ × Reading) Short). whole r) e))

pub gate_shut : (before : List (List ℕ)) (c : Reading) (x : ℕ × Reading) (total : Found) → number 1 c ≡ Ok x → x.0 ≢ 1 → payloads_then before (records_at c) ≡ total → total ≡ Ok (before, c.at)
gate_shut before c x total e shut so_far =
    let g = gate_found c.at c.rest x e in
    let one : records_at c ≡ Ok ([], c.at) = ap (λ (bytes : List ℕ). records_at (from c.at bytes)) g.1 ∙ at_shut c.at x.0 g.0 shut in
    sym so_far ∙ ap (λ (found : Found). payloads_then before found) one ∙ ap (λ (payloads : List (List ℕ)). Ok (payloads, c.at)) (append-nil before)

opened : (c : Reading) (x : ℕ × Reading) → number 1 c ≡ Ok x → x.0 ≡ 1 → (rest : List ℕ) × (c.rest ≡ 1 ∷ rest) × (x.1 ≡ from (c.at + 1) rest)
opened c x e is_open = let g = gate_found c.at c.rest x e in (g.0, g.1 ∙ ap (λ (n : ℕ). n ∷ g.0) is_open, g.2)

pub payload_faulty : (before : List (List ℕ)) (c : Reading) (x : ℕ × Reading) (e : JournalStop) (total : Found) → number 1 c ≡ Ok x → x.0 ≡ 1 → payload_at x.1 ≡ Err e → payloads_then before (records_at c) ≡ total → total ≡ Err e
payload_faulty before c x e total gate is_open fault so_far =
    let g = opened c x gate is_open in
    let one : records_at c ≡ Err e = ap (λ (bytes : List ℕ). records_at (from c.at bytes)) g.1 ∙ at_fault c.at g.0 e (ap payload_at (sym g.2) ∙ fault) in
    sym so_far ∙ ap (λ (found : Found). payloads_then before found) one

pub payload_more : (before : List (List ℕ)) (c : Reading) (x : ℕ × Reading) (p : List ℕ × Reading) (total : Found) → number 1 c ≡ Ok x → x.0 ≡ 1 → payload_at x.1 ≡ Ok p → payloads_then before (records_at c) ≡ total
    → payloads_then (before ++ p.0 ∷ []) (records_at p.1) ≡ total
payload_more before c x p total gate is_open read so_far =
    let g = opened c x gate is_open in
    let one : records_at c ≡ payloads_then (p.0 ∷ []) (records_at p.1) = ap (λ (bytes : List ℕ). records_at (from c.at bytes)) g.1 ∙ at_open c.at g.0 p (ap payload_at (sym g.2) ∙ read) in
    sym (added before p.0 (records_at p.1)) ∙ ap (λ (found : Found). payloads_then before found) (sym one) ∙ so_far

pub less_left : (c : Reading) (x : ℕ × Reading) (p : List ℕ × Reading) → number 1 c ≡ Ok x → x.0 ≡ 1 → payload_at x.1 ≡ Ok p → length p.1.rest < length c.rest
less_left c x p gate is_open read =
    let g = opened c x gate is_open in
    omega (arith, ap length g.1, ap (λ (r : Reading). length r.rest) g.2, shorter x.1 p read)

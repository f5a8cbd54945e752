-- The formats of single fields read what they encode.
use Rattle.std.proofs.Common.{◌≡◌, ℕ, zero, suc, ◌^◌, ◌≤◌, ◌<◌, Bool, true, false, cond, eqb, ltb, List, [], ◌∷◌, ◌++◌, length, Result, Ok, Err, IsTrue, refl, sym, ap, subst, ◌∙◌, append_assoc, arith, inl, inr}
use Rattle.std.specs.Str.{is_utf8}
use Rattle.std.proofs.lemmas.Bool.{ltb-false, le-ltb, eqb-true}
use Rattle.byteorder.specs.Endian.{little_bytes}
use Rattle.byteorder.specs.Numbers.{little_number-reads_back}
use Rattle.mon_bytes.specs.Reading.{IsBytes, Reading, number, next_bytes}
use Rattle.mon_bytes.specs.Forms.{u32_bytes, text_bytes}
use Rattle.mon_bytes.specs.Texts.{is_word}
use Rattle.mon_bytes.proofs.Fields.{guard_ok, chosen_ok, ok_is, Takes, Takes-then, front_takes, number_takes, byte_takes, Found, number_found, byte_found, front_found}
use Rattle.mon_bytes.proofs.Forms.{u32_takes, u32_found}
use Rattle.mon_wire.specs.declared.refusal.MsgKind.TheVariants as fault
use Rattle.mon_wire.specs.declared.refusal.MsgRefused.TheVariants as refused
use Rattle.mon_tx.specs.declared.op.Op.{Op}
use Rattle.mon_tx.specs.declared.refusal.TxRefused.{TxRefused}
use Rattle.mon_tx.specs.Text.{text as transaction_text}
use Rattle.mon_tx.specs.Decode.{transaction_of, HasText}
use Rattle.mon_tx.proofs.Again.{transaction_again}
use Rattle.mon_tx.proofs.Takes.{is_found}
use Rattle.mon_tx.proofs.Words.{word_parts}
use Rattle.mon_wire.specs.declared.request.Service.{Service}
use Rattle.mon_wire.specs.declared.request.Service.TheVariants.{Kv, Log}
use Rattle.mon_wire.specs.Message.Format.{faults, ◌>>=◌, cut}
use Rattle.mon_wire.specs.Message.Fields.{number_bytes, number_at, numeral, flag_byte, flag_at, flag, blob_at, blob, text_at, utf8, word_at, word, decoded_at, value_at, value, service_byte, service_at, service}
use Rattle.mon_bytes.proofs.Formats.{bind_ok, at_fault_ok, tested, above_zero, IsLawful}

number_is_taken : (c : Reading) (x : ℕ × Reading) → IsBytes c.rest → number_at c ≡ Ok x → Takes c (number_bytes x.0) x.1 × (x.0 ≤ 2 ^ 62)
unfolding number_at number_bytes
number_is_taken c x fits e =
    let a = bind_ok (cut (number 8 c)) (λ n. cond (ltb (2 ^ 62) n.0) (Err (refused.At c.at fault.Number)) (Ok n)) x e in
    let g = guard_ok (ltb (2 ^ 62) a.0.0) (refused.At c.at fault.Number) (Ok a.0) x a.2 in
    let t = number_takes 8 c a.0 fits (at_fault_ok faults.cut (number 8 c) a.0 a.1) in
    subst (λ (p : ℕ × Reading). Takes c (little_bytes 8 p.0) p.1 × (p.0 ≤ 2 ^ 62)) (ok_is a.0 x g.1) (t.0, ltb-false _ _ g.0)

number_is_found : (c : Reading) (n : ℕ) (rest : List ℕ) → c.rest ≡ number_bytes n ++ rest → n ≤ 2 ^ 62 → Found (number_at c) n rest
unfolding number_at number_bytes
number_is_found c n rest e le =
    let a = number_found 8 c (little_bytes 8 n) rest n e refl (little_number-reads_back 8 n [] (omega arith)) in
    let low : ltb (2 ^ 62) n ≡ false = le-ltb _ _ le in
    (a.0, a.1, rw (a.2, low) refl)

pub numeral-lawful : IsLawful numeral
numeral-lawful = record { takes = number_is_taken; found = number_is_found }

pub flag_back : (n : ℕ) → n ≤ 1 → flag_byte (eqb n 1) ≡ n
flag_back zero le = refl
flag_back (suc zero) le = refl
flag_back (suc (suc n)) le = absurd (omega arith)

flag_is_taken : (c : Reading) (x : Bool × Reading) → IsBytes c.rest → flag_at c ≡ Ok x → Takes c (flag_byte x.0 ∷ []) x.1 × Unit {0}
unfolding flag_at
flag_is_taken c x fits e =
    let a = bind_ok (cut (number 1 c)) (λ n. cond (ltb 1 n.0) (Err (refused.At c.at fault.Value)) (Ok (eqb n.0 1, n.1))) x e in
    let g = guard_ok (ltb 1 a.0.0) (refused.At c.at fault.Value) (Ok (eqb a.0.0 1, a.0.1)) x a.2 in
    let t = byte_takes c a.0 fits (at_fault_ok faults.cut (number 1 c) a.0 a.1) in
    subst (λ (p : Bool × Reading). Takes c (flag_byte p.0 ∷ []) p.1 × Unit {0}) (ok_is (eqb a.0.0 1, a.0.1) x g.1)
    (subst (λ (n : ℕ). Takes c (n ∷ []) a.0.1) (sym (flag_back a.0.0 (ltb-false _ _ g.0))) t.0, tt)

flag_is_found : (c : Reading) (b : Bool) (rest : List ℕ) → c.rest ≡ flag_byte b ∷ rest → Unit {0} → Found (flag_at c) b rest
unfolding flag_at
flag_is_found c true rest e form = let a = byte_found c 1 rest e in (a.0, a.1, rw a.2 refl)
flag_is_found c false rest e form = let a = byte_found c 0 rest e in (a.0, a.1, rw a.2 refl)

pub flag-lawful : IsLawful flag
flag-lawful = record { takes = flag_is_taken; found = flag_is_found }

-- ---- bytes with their length

-- a length in four bytes, and this many bytes
pub length_takes : (c : Reading) (n : ℕ × Reading) (bytes : List ℕ × Reading) → IsBytes c.rest → cut (number 4 c) ≡ Ok n → cut (next_bytes n.0 n.1) ≡ Ok bytes → Takes c (text_bytes bytes.0) bytes.1 × (length bytes.0 < 2 ^ 32)
length_takes c n bytes fits first others =
    let t0 = u32_takes c n fits (at_fault_ok faults.cut (number 4 c) n first) in
    let t1 = front_takes n.0 n.1 bytes t0.0.bytes (at_fault_ok faults.cut (next_bytes n.0 n.1) bytes others) in
    let all = Takes-then c n.1 bytes.1 (u32_bytes n.0) bytes.0 t0.0 t1.0 in
    (subst (λ (k : ℕ). Takes c (u32_bytes k ++ bytes.0) bytes.1) (sym t1.1) all, omega (arith, t0.1, t1.1))

pub record IsEncoded (c : Reading) (bytes rest : List ℕ) : Type 0 where
  pub behind : Reading
  pub after : Reading
  pub ends : after.rest ≡ rest
  pub first : cut (number 4 c) ≡ Ok (length bytes, behind)
  pub others : cut (next_bytes (length bytes) behind) ≡ Ok (bytes, after)

pub length_found : (c : Reading) (bytes rest : List ℕ) → c.rest ≡ text_bytes bytes ++ rest → length bytes < 2 ^ 32 → IsEncoded c bytes rest
length_found c bytes rest e lt =
    let a = u32_found c (length bytes) (bytes ++ rest) (e ∙ append_assoc (u32_bytes (length bytes)) bytes rest) lt in
    let b = front_found (length bytes) a.0 bytes rest a.1 refl in
    record { behind = a.0; after = b.0; ends = b.1; first = ap cut a.2; others = ap cut b.2 }

blob_is_taken : (c : Reading) (x : List ℕ × Reading) → IsBytes c.rest → blob_at c ≡ Ok x → Takes c (text_bytes x.0) x.1 × (length x.0 < 2 ^ 32)
unfolding blob_at
blob_is_taken c x fits e =
    let a = bind_ok (cut (number 4 c)) (λ n. cut (next_bytes n.0 n.1)) x e in
    length_takes c a.0 x fits a.1 a.2

blob_is_found : (c : Reading) (bytes rest : List ℕ) → c.rest ≡ text_bytes bytes ++ rest → length bytes < 2 ^ 32 → Found (blob_at c) bytes rest
unfolding blob_at
blob_is_found c bytes rest e lt = let s = length_found c bytes rest e lt in (s.after, s.ends, rw s.first s.others)

pub blob-lawful : IsLawful blob
blob-lawful = record { takes = blob_is_taken; found = blob_is_found }

utf8_is_taken : (c : Reading) (x : List ℕ × Reading) → IsBytes c.rest → text_at c ≡ Ok x → Takes c (text_bytes x.0) x.1 × (IsTrue (is_utf8 x.0) × (length x.0 < 2 ^ 32))
unfolding text_at
utf8_is_taken c x fits e =
    let a = bind_ok (cut (number 4 c)) (λ n. cut (next_bytes n.0 n.1) >>= λ bytes. cond (is_utf8 bytes.0) (Ok bytes) (Err (refused.At n.1.at fault.Value))) x e in
    let b = bind_ok (cut (next_bytes a.0.0 a.0.1)) (λ bytes. cond (is_utf8 bytes.0) (Ok bytes) (Err (refused.At a.0.1.at fault.Value))) x a.2 in
    let g = chosen_ok (is_utf8 b.0.0) (refused.At a.0.1.at fault.Value) (Ok b.0) x b.2 in
    let t = length_takes c a.0 b.0 fits a.1 b.1 in
    subst (λ (p : List ℕ × Reading). Takes c (text_bytes p.0) p.1 × (IsTrue (is_utf8 p.0) × (length p.0 < 2 ^ 32))) (ok_is b.0 x g.1) (t.0, (g.0, t.1))

utf8_is_found : (c : Reading) (bytes rest : List ℕ) → c.rest ≡ text_bytes bytes ++ rest → IsTrue (is_utf8 bytes) × (length bytes < 2 ^ 32) → Found (text_at c) bytes rest
unfolding text_at
utf8_is_found c bytes rest e form = let s = length_found c bytes rest e form.1 in (s.after, s.ends, rw (s.first, s.others, form.0) refl)

pub utf8-lawful : IsLawful utf8
utf8-lawful = record { takes = utf8_is_taken; found = utf8_is_found }

-- ---- words, transactions and services

word_is_taken : (most : ℕ) (c : Reading) (x : List ℕ × Reading) → IsBytes c.rest → word_at most c ≡ Ok x → Takes c (length x.0 ∷ x.0) x.1 × IsTrue (is_word most x.0)
unfolding word_at
word_is_taken most c x fits e =
    let none = refused.At c.at fault.Value in
    let a = bind_ok (cut (number 1 c)) (λ n. cond (eqb n.0 0) (Err none) (cond (ltb most n.0) (Err none) (cut (next_bytes n.0 n.1) >>= λ bytes. cond (is_word most bytes.0) (Ok bytes) (Err (refused.At n.1.at fault.Value))))) x e in
    let n = a.0 in
    let low = guard_ok (eqb n.0 0) none (cond (ltb most n.0) (Err none) (cut (next_bytes n.0 n.1) >>= λ bytes. cond (is_word most bytes.0) (Ok bytes) (Err (refused.At n.1.at fault.Value)))) x a.2 in
    let high = guard_ok (ltb most n.0) none (cut (next_bytes n.0 n.1) >>= λ bytes. cond (is_word most bytes.0) (Ok bytes) (Err (refused.At n.1.at fault.Value))) x low.1 in
    let b = bind_ok (cut (next_bytes n.0 n.1)) (λ bytes. cond (is_word most bytes.0) (Ok bytes) (Err (refused.At n.1.at fault.Value))) x high.1 in
    let g = chosen_ok (is_word most b.0.0) (refused.At n.1.at fault.Value) (Ok b.0) x b.2 in
    let t0 = byte_takes c n fits (at_fault_ok faults.cut (number 1 c) n a.1) in
    let t1 = front_takes n.0 n.1 b.0 t0.0.bytes (at_fault_ok faults.cut (next_bytes n.0 n.1) b.0 b.1) in
    let all = Takes-then c n.1 b.0.1 (n.0 ∷ []) b.0.0 t0.0 t1.0 in
    subst (λ (p : List ℕ × Reading). Takes c (length p.0 ∷ p.0) p.1 × IsTrue (is_word most p.0)) (ok_is b.0 x g.1)
    (subst (λ (k : ℕ). Takes c (k ∷ b.0.0) b.0.1) (sym t1.1) all, g.0)

word_is_found : (most : ℕ) (c : Reading) (bytes rest : List ℕ) → c.rest ≡ length bytes ∷ (bytes ++ rest) → IsTrue (is_word most bytes) → Found (word_at most c) bytes rest
unfolding word_at
word_is_found most c bytes rest e form =
    let parts = word_parts most bytes form in
    let low : eqb (length bytes) 0 ≡ false = above_zero (length bytes) parts.low in
    let high : ltb most (length bytes) ≡ false = le-ltb _ _ parts.high in
    let a = byte_found c (length bytes) (bytes ++ rest) e in
    let b = front_found (length bytes) a.0 bytes rest a.1 refl in
    (b.0, b.1, rw (a.2, low, high, b.2, form) refl)

pub word-lawful : (most : ℕ) → IsLawful (word most)
word-lawful most = record { takes = word_is_taken most; found = word_is_found most }

IsBytes-next_bytes : (xs ys : List ℕ) → IsBytes (xs ++ ys) → IsBytes xs
IsBytes-next_bytes [] ys h i = omega arith
IsBytes-next_bytes (x ∷ xs) ys h zero = h 0
IsBytes-next_bytes (x ∷ xs) ys h (suc i) = IsBytes-next_bytes xs ys (λ j. h (suc j)) i

-- the bytes after a length are bytes
pub counted_bytes : (c after : Reading) (bytes : List ℕ) → IsBytes c.rest → Takes c (text_bytes bytes) after → IsBytes bytes
counted_bytes c after bytes fits t =
    let whole : IsBytes (text_bytes bytes ++ after.rest) = subst IsBytes t.parts fits in
    IsBytes-behind (u32_bytes (length bytes)) bytes after.rest (subst IsBytes (append_assoc (u32_bytes (length bytes)) bytes after.rest) whole)
  where
    IsBytes-behind : (xs ys zs : List ℕ) → IsBytes (xs ++ (ys ++ zs)) → IsBytes ys
    IsBytes-behind [] ys zs h = IsBytes-next_bytes ys zs h
    IsBytes-behind (x ∷ xs) ys zs h = IsBytes-behind xs ys zs (λ j. h (suc j))

decoded_ok : (at : ℕ) (after : Reading) (r : Result (List Op) TxRefused) (x : List Op × Reading) → decoded_at at after r ≡ Ok x → (r ≡ Ok x.0) × (after ≡ x.1)
decoded_ok at after (Ok ops) x e = let same = ok_is (ops, after) x e in (ap (λ (p : List Op × Reading). Ok p.0) same, ap (λ (p : List Op × Reading). p.1) same)
decoded_ok at after (Err d) x e = absurd cc

value_is_taken : (c : Reading) (x : List Op × Reading) → IsBytes c.rest → value_at c ≡ Ok x → Takes c (text_bytes (transaction_text x.0)) x.1 × HasText x.0
unfolding value_at
value_is_taken c x fits e =
    let a = bind_ok (cut (number 4 c)) (λ n. cut (next_bytes n.0 n.1) >>= λ bytes. decoded_at n.1.at bytes.1 (transaction_of bytes.0)) x e in
    let b = bind_ok (cut (next_bytes a.0.0 a.0.1)) (λ bytes. decoded_at a.0.1.at bytes.1 (transaction_of bytes.0)) x a.2 in
    let t = length_takes c a.0 b.0 fits a.1 b.1 in
    let s = decoded_ok a.0.1.at b.0.1 (transaction_of b.0.0) x b.2 in
    let is : HasText x.0 × (b.0.0 ≡ transaction_text x.0) = is_found b.0.0 (Ok x.0) (counted_bytes c b.0.1 b.0.0 fits t.0) s.0 in
    (subst (λ (bytes : List ℕ). Takes c (text_bytes bytes) x.1) is.1 (subst (λ (after : Reading). Takes c (text_bytes b.0.0) after) s.1 t.0), is.0)

value_is_found : (c : Reading) (ops : List Op) (rest : List ℕ) → c.rest ≡ text_bytes (transaction_text ops) ++ rest → HasText ops → Found (value_at c) ops rest
unfolding value_at
value_is_found c ops rest e form =
    let s = length_found c (transaction_text ops) rest e (omega (arith, form.short)) in
    (s.after, s.ends, rw (s.first, s.others, transaction_again ops form) refl)

pub value-lawful : IsLawful value
value-lawful = record { takes = value_is_taken; found = value_is_found }

service_is_taken : (c : Reading) (x : Service × Reading) → IsBytes c.rest → service_at c ≡ Ok x → Takes c (service_byte x.0 ∷ []) x.1 × Unit {0}
unfolding service_at
service_is_taken c x fits e =
    let a = bind_ok (cut (number 1 c)) (λ n. cond (eqb n.0 1) (Ok (Kv, n.1)) (cond (eqb n.0 2) (Ok (Log, n.1)) (Err (refused.At c.at fault.Value)))) x e in
    let t = byte_takes c a.0 fits (at_fault_ok faults.cut (number 1 c) a.0 a.1) in
    elim (tested a.0.0 1 (Ok (Kv, a.0.1)) (cond (eqb a.0.0 2) (Ok (Log, a.0.1)) (Err (refused.At c.at fault.Value))) x a.2) [
      | inl h ↦ subst (λ (p : Service × Reading). Takes c (service_byte p.0 ∷ []) p.1 × Unit {0}) (ok_is (Kv, a.0.1) x h.1) (subst (λ (n : ℕ). Takes c (n ∷ []) a.0.1) h.0 t.0, tt)
      | inr h ↦
          let g = chosen_ok (eqb a.0.0 2) (refused.At c.at fault.Value) (Ok (Log, a.0.1)) x h in
          subst (λ (p : Service × Reading). Takes c (service_byte p.0 ∷ []) p.1 × Unit {0}) (ok_is (Log, a.0.1) x g.1) (subst (λ (n : ℕ). Takes c (n ∷ []) a.0.1) (eqb-true _ _ g.0) t.0, tt)
    ]

service_is_found : (c : Reading) (s : Service) (rest : List ℕ) → c.rest ≡ service_byte s ∷ rest → Unit {0} → Found (service_at c) s rest
unfolding service_at
service_is_found c Kv rest e form = let a = byte_found c 1 rest e in (a.0, a.1, rw a.2 refl)
service_is_found c Log rest e form = let a = byte_found c 2 rest e in (a.0, a.1, rw a.2 refl)

pub service-lawful : IsLawful service
service-lawful = record { takes = service_is_taken; found = service_is_found }

-- What is read of a renumbered piece: the number of the life.
use Rattle.std.proofs.Common.{◌≡◌, ℕ, ◌^◌, ◌≤◌, ◌<◌, Bool, true, false, cond, ltb, List, [], ◌∷◌, ◌++◌, length, take, drop, Result, Ok, Err, refl, sym, ap, ◌∙◌, arith}
use Rattle.std.proofs.lemmas.Bool.{ltb-false, false≢true}
use Rattle.std.proofs.lemmas.Bool.Decides.{nat_tests}
use Rattle.byteorder.specs.Endian.{little_number}
use Rattle.byteorder.specs.Numbers.{little_number-reads_back}
use Rattle.mon_bytes.specs.Reading.{Reading, moved, number}
use Rattle.mon_bytes.specs.Answers.{◌>>=◌}
use Rattle.mon_bytes.proofs.Fields.{ok_is}
use Rattle.mon_bytes.proofs.Formats.{bind_ok}
use Rattle.mon_frag.specs.declared.header.Header.{Header}
use Rattle.mon_frag.specs.declared.refused.FragRefused.{FragRefused}
use Rattle.mon_frag.specs.Headers.{is_piece, fitted, fields_at, fields_of, formed, header_of}
use Rattle.mon_frag.specs.Pieces.{u64_bytes}
use Rattle.mon_name.specs.Laws.{IsPiece}
use Rattle.mon_name.specs.Numbers.{renumbered}

-- ---- a header's fields, from the last one back

abbrev Fields : Type 0
Fields = Result Header FragRefused

abbrev from_place : (z1 z2 z3 boot seq total : ℕ) → Reading → Fields
from_place z1 z2 z3 boot seq total c = fitted (number 4 c) >>= λ place. Ok (record { zero_1 = z1; zero_2 = z2; zero_3 = z3; boot = boot; seq = seq; total = total; place = place.0 })

abbrev from_total : (z1 z2 z3 boot seq : ℕ) → Reading → Fields
from_total z1 z2 z3 boot seq c = fitted (number 4 c) >>= λ total. from_place z1 z2 z3 boot seq total.0 total.1

abbrev from_seq : (z1 z2 z3 boot : ℕ) → Reading → Fields
from_seq z1 z2 z3 boot c = fitted (number 8 c) >>= λ seq. from_total z1 z2 z3 boot seq.0 seq.1

abbrev from_boot : (z1 z2 z3 : ℕ) → Reading → Fields
from_boot z1 z2 z3 c = fitted (number 8 c) >>= λ boot. from_seq z1 z2 z3 boot.0 boot.1

abbrev from_third : (z1 z2 : ℕ) → Reading → Fields
from_third z1 z2 c = fitted (number 1 c) >>= λ z3. from_boot z1 z2 z3.0 z3.1

abbrev from_second : (z1 : ℕ) → Reading → Fields
from_second z1 c = fitted (number 1 c) >>= λ z2. from_third z1 z2.0 z2.1

abbrev from_first : Reading → Fields
from_first c = fitted (number 1 c) >>= λ z1. from_second z1.0 z1.1

-- one field was read
field_read : {B : Type 0} (k : ℕ) (c : Reading) (f : ℕ × Reading → Result B FragRefused) (y : B) → (fitted (number k c) >>= f) ≡ Ok y
    → (k ≤ length c.rest) × (f (little_number k (take k c.rest), moved k c) ≡ Ok y)
field_read k c f y e = by (ltb (length c.rest) k) refl e
  where
    by : (b : Bool) → ltb (length c.rest) k ≡ b
        → (fitted (cond b (Err (record { at = c.at })) (Ok (little_number k (take k c.rest), moved k c))) >>= f) ≡ Ok y
        → (k ≤ length c.rest) × (f (little_number k (take k c.rest), moved k c) ≡ Ok y)
    by true lt e = absurd cc
    by false lt e = (ltb-false _ _ lt, e)

boot_kept : (z1 z2 z3 boot : ℕ) (c : Reading) (h : Header) → from_seq z1 z2 z3 boot c ≡ Ok h → h.boot ≡ boot
boot_kept z1 z2 z3 boot c h e =
    let seq = bind_ok (fitted (number 8 c)) (λ seq. from_total z1 z2 z3 boot seq.0 seq.1) h e in
    let total = bind_ok (fitted (number 4 seq.0.1)) (λ total. from_place z1 z2 z3 boot seq.0.0 total.0 total.1) h seq.2 in
    let place = bind_ok (fitted (number 4 total.0.1)) (λ place. Ok (record { zero_1 = z1; zero_2 = z2; zero_3 = z3; boot = boot; seq = seq.0.0; total = total.0.0; place = place.0 })) h total.2 in
    sym (ap (λ (x : Header). x.boot) (ok_is _ _ place.2))

abbrev fourth : List ℕ → List ℕ
fourth bytes = drop 1 (drop 1 (drop 1 (drop 1 bytes)))

boot_read : (bytes : List ℕ) (h : Header) → fields_of bytes ≡ Ok h → (8 ≤ length (fourth bytes)) × (h.boot ≡ little_number 8 (take 8 (fourth bytes)))
unfolding fields_at
boot_read bytes h e =
    let c1 : Reading = moved 1 (record { at = 0; rest = bytes }) in
    let c2 = moved 1 c1 in
    let c3 = moved 1 c2 in
    let c4 = moved 1 c3 in
    let first = little_number 1 (take 1 c1.rest) in
    let second = little_number 1 (take 1 c2.rest) in
    let third = little_number 1 (take 1 c3.rest) in
    let mark = field_read 1 (record { at = 0; rest = bytes }) (λ mark. from_first mark.1) h e in
    let z1 = field_read 1 c1 (λ z1. from_second z1.0 z1.1) h mark.1 in
    let z2 = field_read 1 c2 (λ z2. from_third first z2.0 z2.1) h z1.1 in
    let z3 = field_read 1 c3 (λ z3. from_boot first second z3.0 z3.1) h z2.1 in
    let boot = field_read 8 c4 (λ boot. from_seq first second third boot.0 boot.1) h z3.1 in
    (boot.0, boot_kept first second third (little_number 8 (take 8 c4.rest)) (moved 8 c4) h boot.1)

-- ---- a piece under the number of a life

number_read : (life : ℕ) (rest : List ℕ) → life < 2 ^ 64 → little_number 8 (take 8 (u64_bytes life ++ rest)) ≡ life
unfolding u64_bytes
number_read life rest lt = little_number-reads_back 8 life [] (omega arith)

spliced_read : (life : ℕ) (a : List ℕ) (h : Header) → life < 2 ^ 64 → fields_of (take 4 a ++ u64_bytes life ++ drop 12 a) ≡ Ok h → h.boot ≡ life
unfolding u64_bytes
spliced_read life [] h lt e = let long = (boot_read (u64_bytes life) h e).0 in absurd (omega (arith, long))
spliced_read life (x ∷ []) h lt e = let long = (boot_read (x ∷ u64_bytes life) h e).0 in absurd (omega (arith, long))
spliced_read life (x ∷ y ∷ []) h lt e = let long = (boot_read (x ∷ y ∷ u64_bytes life) h e).0 in absurd (omega (arith, long))
spliced_read life (x ∷ y ∷ z ∷ []) h lt e = let long = (boot_read (x ∷ y ∷ z ∷ u64_bytes life) h e).0 in absurd (omega (arith, long))
spliced_read life (x ∷ y ∷ z ∷ w ∷ rest) h lt e =
    (boot_read (x ∷ y ∷ z ∷ w ∷ (u64_bytes life ++ drop 8 rest)) h e).1 ∙ number_read life (drop 8 rest) lt

formed_same : (n : ℕ) (f h : Header) → formed n f ≡ Ok h → f ≡ h
formed_same n f h e = grind (arith, nat_tests)

bears : (life : ℕ) (a : List ℕ) (h : Header) → life < 2 ^ 64 → IsPiece (renumbered life a) h → h.boot ≡ life
bears life a h lt is = by (is_piece a) refl is.0 is.1
  where
    by : (b : Bool) → is_piece a ≡ b → is_piece (cond b (take 4 a ++ u64_bytes life ++ drop 12 a) a) ≡ true
        → header_of (cond b (take 4 a ++ u64_bytes life ++ drop 12 a) a) ≡ Ok h → h.boot ≡ life
    by true _ _ e =
        let spliced = take 4 a ++ u64_bytes life ++ drop 12 a in
        let found = bind_ok (fields_of spliced) (formed (length (drop 28 spliced))) h e in
        ap (λ (x : Header). x.boot) (sym (formed_same _ found.0 h found.2)) ∙ spliced_read life a found.0 lt found.1
    by false other same e = absurd (false≢true (sym other ∙ same))

pub lives_apart : (life other : ℕ) (a b : List ℕ) (h k : Header) → life < 2 ^ 64 → other < 2 ^ 64 → (life ≡ other → ⊥)
    → IsPiece (renumbered life a) h → IsPiece (renumbered other b) k → h.boot ≡ k.boot → h.seq ≡ k.seq → ⊥
lives_apart life other a b h k lt lt_other apart of_life of_other same _ =
    apart (sym (bears life a h lt of_life) ∙ same ∙ bears other b k lt_other of_other)

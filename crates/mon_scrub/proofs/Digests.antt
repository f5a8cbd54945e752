-- What is decoded from hexadecimal digits is bytes.
use Rattle.std.proofs.Common.{◌≡◌, ◌⊎◌, ℕ, zero, suc, ◌<◌, ◌+◌, ◌*◌, ◌-◌, Bool, true, false, cond, leb, List, [], ◌∷◌, Option, Some, None, Result, Ok, Err, refl, sym, ap, subst, ◌∙◌, arith, inl, inr}
use Rattle.std.specs.Prelude.{IsTrue, ◌&&◌}
use Rattle.std.proofs.lemmas.Bool.Decides.{nat_tests}
use Rattle.hex.proofs.HexLemmas.{decode_sized-ok, decode_sized-twice, decode_of-even}
use Rattle.hex.specs.Hex.{decode_pairs, decode_sized, digit_or_error, hex_digit_value, pair_value, value_at, ◌>>=◌}
use Rattle.hex.specs.declared.error.FromHexError.{FromHexError}
use Rattle.mon_bytes.specs.Reading.{IsBytes}
use Rattle.mon_bytes.proofs.Ascii.{both}
use Rattle.mon_bytes.proofs.Fields.{ok_is}

bind_ok : {A B : Type 0} (r : Result A FromHexError) (f : A → Result B FromHexError) (y : B) → (r >>= f) ≡ Ok y → (x : A) × (r ≡ Ok x) × (f x ≡ Ok y)
bind_ok (Ok x) f y e = (x, refl, e)
bind_ok (Err d) f y e = absurd cc

chosen : (b : Bool) (w v : ℕ) (others : Option ℕ) → cond b (Some w) others ≡ Some v → ((b ≡ true) × (w ≡ v)) ⊎ (others ≡ Some v)
chosen true w v others e = inl (refl, cc)
chosen false w v others e = inr e

low_digit : (least most base c v : ℕ) → IsTrue (leb least c && leb c most) → c - base ≡ v → most < base + 16 → v < 16
low_digit least most base c v h e few =
    let t = (both (leb least c) (leb c most) h).1 in
    grind (arith, nat_tests)

digit_low : (c v : ℕ) → hex_digit_value c ≡ Some v → v < 16
digit_low c v e =
    elim (chosen (leb 65 c && leb c 70) (c - 55) v _ e) [
      | inl h ↦ low_digit 65 70 55 c v h.0 h.1 (omega arith)
      | inr e ↦ elim (chosen (leb 97 c && leb c 102) (c - 87) v _ e) [
        | inl h ↦ low_digit 97 102 87 c v h.0 h.1 (omega arith)
        | inr e ↦ elim (chosen (leb 48 c && leb c 57) (c - 48) v None e) [
          | inl h ↦ low_digit 48 57 48 c v h.0 h.1 (omega arith)
          | inr e ↦ absurd cc
        ]
      ]
    ]

digit_found : (c i : ℕ) (o : Option ℕ) (v : ℕ) → digit_or_error c i o ≡ Ok v → o ≡ Some v
digit_found c i (Some w) v e = ap (λ x. Some x) (ok_is w v e)
digit_found c i None v e = absurd cc

pair_is_byte : (high low i byte : ℕ) → pair_value high low i ≡ Ok byte → byte < 256
pair_is_byte high low i byte e =
    let a = bind_ok (value_at high i) (λ h. value_at low (i + 1) >>= λ l. Ok (h * 16 + l)) byte e in
    let b = bind_ok (value_at low (i + 1)) (λ l. Ok (a.0 * 16 + l)) byte a.2 in
    let h = digit_low high a.0 (digit_found high i (hex_digit_value high) a.0 a.1) in
    let l = digit_low low b.0 (digit_found low (i + 1) (hex_digit_value low) b.0 b.1) in
    let sum = ok_is (a.0 * 16 + b.0) byte b.2 in
    omega (arith, h, l, sum)

IsBytes-cons : (b : ℕ) (bs : List ℕ) → b < 256 → IsBytes bs → IsBytes (b ∷ bs)
IsBytes-cons b bs low h zero = low
IsBytes-cons b bs low h (suc i) = h i

pairs_are_bytes : (i : ℕ) (text bytes : List ℕ) → decode_pairs i text ≡ Ok bytes → IsBytes bytes
unfolding decode_pairs
pairs_are_bytes i [] bytes e = subst IsBytes (ok_is [] bytes e) (λ k. omega arith)
pairs_are_bytes i (digit ∷ []) bytes e = absurd cc
pairs_are_bytes i (high ∷ low ∷ rest) bytes e =
    let a = bind_ok (pair_value high low i) (λ byte. decode_pairs (i + 2) rest >>= λ bs. Ok (byte ∷ bs)) bytes e in
    let b = bind_ok (decode_pairs (i + 2) rest) (λ bs. Ok (a.0 ∷ bs)) bytes a.2 in
    subst IsBytes (ok_is (a.0 ∷ b.0) bytes b.2) (IsBytes-cons a.0 b.0 (pair_is_byte high low i a.0 a.1) (pairs_are_bytes (i + 2) rest b.0 b.1))

pub sized_are_bytes : (text : List ℕ) (n : ℕ) (bytes : List ℕ) → decode_sized text n ≡ Ok bytes → IsBytes bytes
sized_are_bytes text n bytes e =
    let long = decode_sized-ok text n bytes e in
    pairs_are_bytes 0 text bytes (sym (decode_sized-twice text n long ∙ decode_of-even text (omega (arith, long))) ∙ e)

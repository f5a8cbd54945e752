-- The header of a piece that a message was cut into is read as it was written.
use Rattle.std.proofs.Common.{◌≡◌, ℕ, ◌^◌, ◌<◌, List, [], ◌∷◌, ◌++◌, length, Ok, refl, append_assoc, length-append, arith}
use Rattle.byteorder.specs.Endian.{little_bytes}
use Rattle.byteorder.specs.Numbers.{little_number-reads_back}
use Rattle.mon_bytes.specs.Reading.{Reading, number}
use Rattle.mon_bytes.specs.Forms.{u32_bytes}
use Rattle.mon_bytes.proofs.Fields.{Found, number_found, byte_found}
use Rattle.mon_bytes.proofs.Forms.{u32_found, length-u32_bytes}
use Rattle.mon_frag.specs.declared.header.Header.{Header}
use Rattle.mon_frag.specs.Pieces.{u64_bytes, header}
use Rattle.mon_frag.specs.Headers.{fields_at, fields_of}

pub u64_found : (c : Reading) (n : ℕ) (rest : List ℕ) → c.rest ≡ u64_bytes n ++ rest → n < 2 ^ 64 → Found (number 8 c) n rest
unfolding u64_bytes
u64_found c n rest e lt = number_found 8 c (little_bytes 8 n) rest n e refl (little_number-reads_back 8 n [] (omega arith))

pub length-u64_bytes : (n : ℕ) → length (u64_bytes n) ≡ 8
unfolding u64_bytes
length-u64_bytes n = refl

header_parts : (a b c d rest : List ℕ) → ((2 ∷ 0 ∷ 0 ∷ 0 ∷ a) ++ b ++ c ++ d) ++ rest ≡ 2 ∷ 0 ∷ 0 ∷ 0 ∷ (a ++ (b ++ (c ++ (d ++ rest))))
header_parts a b c d rest = simp append_assoc

abbrev pub header_as : ℕ → ℕ → ℕ → ℕ → Header
header_as boot seq total place = record { zero_1 = 0; zero_2 = 0; zero_3 = 0; boot = boot; seq = seq; total = total; place = place }

fields_from : (c : Reading) (boot seq total place : ℕ) (rest : List ℕ) → c.rest ≡ 2 ∷ 0 ∷ 0 ∷ 0 ∷ (u64_bytes boot ++ (u64_bytes seq ++ (u32_bytes total ++ (u32_bytes place ++ rest))))
    → boot < 2 ^ 64 → seq < 2 ^ 64 → total < 2 ^ 32 → place < 2 ^ 32 → fields_at c ≡ Ok (header_as boot seq total place)
unfolding fields_at
fields_from c boot seq total place rest e fits_boot fits_seq fits_total fits_place =
    let r4 = u32_bytes place ++ rest in
    let r3 = u32_bytes total ++ r4 in
    let r2 = u64_bytes seq ++ r3 in
    let r1 = u64_bytes boot ++ r2 in
    let mark = byte_found c 2 (0 ∷ 0 ∷ 0 ∷ r1) e in
    let zero_1 = byte_found mark.0 0 (0 ∷ 0 ∷ r1) mark.1 in
    let zero_2 = byte_found zero_1.0 0 (0 ∷ r1) zero_1.1 in
    let zero_3 = byte_found zero_2.0 0 r1 zero_2.1 in
    let b = u64_found zero_3.0 boot r2 zero_3.1 fits_boot in
    let s = u64_found b.0 seq r3 b.1 fits_seq in
    let t = u32_found s.0 total r4 s.1 fits_total in
    let p = u32_found t.0 place rest t.1 fits_place in
    rw (mark.2, zero_1.2, zero_2.2, zero_3.2, b.2, s.2, t.2, p.2) refl

pub fields_found : (boot seq total place : ℕ) (rest : List ℕ) → boot < 2 ^ 64 → seq < 2 ^ 64 → total < 2 ^ 32 → place < 2 ^ 32
    → fields_of (header boot seq total place ++ rest) ≡ Ok (header_as boot seq total place)
fields_found boot seq total place rest =
    fields_from (record { at = 0; rest = header boot seq total place ++ rest }) boot seq total place rest (header_parts (u64_bytes boot) (u64_bytes seq) (u32_bytes total) (u32_bytes place) rest)

pub length-header : (boot seq total place : ℕ) → length (header boot seq total place) ≡ 28
length-header boot seq total place =
    omega (
      arith,
      length-append (2 ∷ 0 ∷ 0 ∷ 0 ∷ u64_bytes boot ++ u64_bytes seq ++ u32_bytes total) (u32_bytes place),
      length-append (2 ∷ 0 ∷ 0 ∷ 0 ∷ u64_bytes boot ++ u64_bytes seq) (u32_bytes total),
      length-append (2 ∷ 0 ∷ 0 ∷ 0 ∷ u64_bytes boot) (u64_bytes seq),
      length-u64_bytes boot,
      length-u64_bytes seq,
      length-u32_bytes total,
      length-u32_bytes place,
    )

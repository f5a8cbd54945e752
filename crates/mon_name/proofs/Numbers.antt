-- Pieces under another number.
use Rattle.std.proofs.Common.{◌≡◌, ℕ, ◌*◌, leb, Bool, true, false, cond, List, [], ◌∷◌, ◌++◌, length, map, take, drop, refl, sym, ap, ◌∙◌, append_assoc}
use Rattle.std.specs.List.{range_with_len}
use Rattle.mon_bytes.specs.Forms.{u32_bytes}
use Rattle.mon_frag.specs.Headers.{is_piece}
use Rattle.mon_frag.specs.Pieces.{u64_bytes, part_at, piece, piece_count, pieces_of, header}
use Rattle.mon_name.specs.Numbers.{renumbered}

-- the eight bytes after the first four are removed
taken_out : (boot : ℕ) (rest : List ℕ) → drop 8 (u64_bytes boot ++ rest) ≡ rest
unfolding u64_bytes
taken_out boot rest = refl

header_is : (boot seq total place : ℕ) (rest : List ℕ) → header boot seq total place ++ rest ≡ 2 ∷ 0 ∷ 0 ∷ 0 ∷ (u64_bytes boot ++ (u64_bytes seq ++ (u32_bytes total ++ (u32_bytes place ++ rest))))
header_is boot seq total place rest = parts (u64_bytes boot) (u64_bytes seq) (u32_bytes total) (u32_bytes place) rest
  where
    parts : (a b c d rest : List ℕ) → ((2 ∷ 0 ∷ 0 ∷ 0 ∷ a) ++ b ++ c ++ d) ++ rest ≡ 2 ∷ 0 ∷ 0 ∷ 0 ∷ (a ++ (b ++ (c ++ (d ++ rest))))
    parts a b c d rest = simp append_assoc

spliced : (life boot : ℕ) (rest : List ℕ) → renumbered life (2 ∷ 0 ∷ 0 ∷ 0 ∷ (u64_bytes boot ++ rest)) ≡ 2 ∷ 0 ∷ 0 ∷ 0 ∷ (u64_bytes life ++ rest)
spliced life boot rest = ap (λ (xs : List ℕ). 2 ∷ 0 ∷ 0 ∷ 0 ∷ (u64_bytes life ++ xs)) (taken_out boot rest)

one : (message : List ℕ) (boot life seq place : ℕ) → renumbered life (piece message boot seq place) ≡ piece message life seq place
one message boot life seq place =
    let part = part_at message place in
    let more = u64_bytes seq ++ (u32_bytes (length message) ++ (u32_bytes place ++ part)) in
    ap (renumbered life) (header_is boot seq (length message) place part) ∙ spliced life boot more ∙ sym (header_is life seq (length message) place part)

all : (f g h : ℕ → List ℕ) (r : List ℕ → List ℕ) → ((k : ℕ) → r (f k) ≡ g k) → (ks : List ℕ) → map r (map f ks) ≡ map g ks
all f g h r each [] = refl
all f g h r each (k ∷ ks) = ap (λ (x : List ℕ). x ∷ map r (map f ks)) (each k) ∙ ap (λ (xs : List (List ℕ)). g k ∷ xs) (all f g h r each ks)

pub plain : (life : ℕ) (message : List ℕ) → is_piece message ≡ false → renumbered life message ≡ message
plain life message e = ap (λ (b : Bool). cond b (take 4 message ++ u64_bytes life ++ drop 12 message) message) e

pub renumbered_pieces : (message : List ℕ) (boot life seq : ℕ) → is_piece message ≡ false → map (renumbered life) (pieces_of message boot seq) ≡ pieces_of message life seq
renumbered_pieces message boot life seq plain_one = by (leb (length message) 60000)
  where
    ks : List ℕ
    ks = range_with_len 0 (piece_count (length message))

    by : (b : Bool) → map (renumbered life) (cond b (message ∷ []) (map (λ k. piece message boot seq (59000 * k)) ks)) ≡ cond b (message ∷ []) (map (λ k. piece message life seq (59000 * k)) ks)
    by true = ap (λ (x : List ℕ). x ∷ []) (plain life message plain_one)
    by false = all (λ k. piece message boot seq (59000 * k)) (λ k. piece message life seq (59000 * k)) (λ k. []) (renumbered life) (λ k. one message boot life seq (59000 * k)) ks

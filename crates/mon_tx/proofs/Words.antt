-- Bytes that are all graphic are a word.
use Rattle.std.proofs.Common.{◌≡◌, ℕ, suc, ◌+◌, ◌≤◌, Bool, true, false, ◌&&◌, cond, leb, List, [], ◌∷◌, length, IsTrue, refl, arith}
use Rattle.std.specs.List.{list_all}
use Rattle.std.proofs.lemmas.Bool.{le-leb, leb-true}
use Rattle.mon_bytes.specs.Texts.{graphic, is_word}
use Rattle.mon_tx.specs.Fields.{graphic_prefix_len}

front_le : (bs : List ℕ) → graphic_prefix_len bs ≤ length bs
front_le [] = omega arith
front_le (b ∷ bs) =
    let at : (t : Bool) → cond t (1 + graphic_prefix_len bs) 0 ≤ suc (length bs) = λ t. elim t as (λ t. cond t (1 + graphic_prefix_len bs) 0 ≤ suc (length bs)) [ true ↦ omega (arith, front_le bs) | false ↦ omega arith ] in
    at (graphic b)

pub all_graphic : (bs : List ℕ) → length bs ≤ graphic_prefix_len bs → IsTrue (list_all graphic bs)
all_graphic [] h = refl
all_graphic (b ∷ bs) h =
    let at : (t : Bool) → graphic b ≡ t → suc (length bs) ≤ cond t (1 + graphic_prefix_len bs) 0 → IsTrue (t && list_all graphic bs) =
    λ t. elim t as (λ t. graphic b ≡ t → suc (length bs) ≤ cond t (1 + graphic_prefix_len bs) 0 → IsTrue (t && list_all graphic bs)) [
      | true ↦ λ e le. all_graphic bs (omega arith)
      | false ↦ λ e le. absurd (omega arith)
    ] in
    at (graphic b) refl h

pub is_word_by : (limit : ℕ) (bs : List ℕ) → 1 ≤ length bs → length bs ≤ limit → length bs ≤ graphic_prefix_len bs → IsTrue (is_word limit bs)
is_word_by limit bs low high front =
    let a : leb 1 (length bs) ≡ true = le-leb _ _ low in
    let b : leb (length bs) limit ≡ true = le-leb _ _ high in
    rw (a, b, all_graphic bs front) refl

pub front_all : (bs : List ℕ) → IsTrue (list_all graphic bs) → length bs ≤ graphic_prefix_len bs
front_all [] h = omega arith
front_all (b ∷ bs) h =
    let at : (t : Bool) → graphic b ≡ t → IsTrue (t && list_all graphic bs) → suc (length bs) ≤ cond t (1 + graphic_prefix_len bs) 0 =
    λ t. elim t as (λ t. graphic b ≡ t → IsTrue (t && list_all graphic bs) → suc (length bs) ≤ cond t (1 + graphic_prefix_len bs) 0) [
      | true ↦ λ e all. omega (arith, front_all bs all)
      | false ↦ λ e all. absurd cc
    ] in
    at (graphic b) refl h

both : (a b : Bool) → IsTrue (a && b) → IsTrue a × IsTrue b
both true b h = (refl, h)
both false b h = absurd cc

pub record WordParts (limit : ℕ) (bs : List ℕ) : Type 0 where
  pub low : 1 ≤ length bs
  pub high : length bs ≤ limit
  pub good : length bs ≤ graphic_prefix_len bs

pub word_parts : (limit : ℕ) (bs : List ℕ) → IsTrue (is_word limit bs) → WordParts limit bs
word_parts limit bs h =
    let a = both (leb 1 (length bs) && leb (length bs) limit) (list_all graphic bs) h in
    let b = both (leb 1 (length bs)) (leb (length bs) limit) a.0 in
    record { low = leb-true _ _ b.0; high = leb-true _ _ b.1; good = front_all bs a.1 }

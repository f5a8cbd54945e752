-- What a write leaves is one of the things that it may leave when a crash cuts it short.
use Rattle.std.proofs.Common.{inl, inr, Bool, true, false, cond, ◌==◌, ◌/◌, ◌≡◌, ◌≢◌, ◌⊎◌, ⊎_elim, ℕ, ◌+◌, ◌-◌, ◌<◌, ◌≤◌, min, max, List, [], ◌∷◌, ◌++◌, length, take, drop, replicate, refl, sym, ap, ◌∙◌, arith}
use Rattle.std.proofs.lemmas.List.{drop_at, take_all, drop_all, take-take, take-append-le, take_min, length-take, length-drop, length-append, length-replicate, drop-drop, append-nil}
use Rattle.mon_disk.specs.Images.{overwritten, Torn, TornByte}
use Rattle.mon_disk.specs.Memory.{part, placed}

pub le_or_ge : (m n : ℕ) → (m ≤ n) ⊎ (n ≤ m)
le_or_ge m n = grind arith

pub length-overwritten : (at : ℕ) (bytes file : List ℕ) → at ≤ length file → length (overwritten at bytes file) ≡ max (length file) (at + length bytes)
length-overwritten at bytes file le =
    omega (arith, length-append (take at file ++ bytes) (drop (at + length bytes) file), length-append (take at file) bytes, length-take at file, length-drop (at + length bytes) file)

pub take-overwritten : (m at : ℕ) (bytes file : List ℕ) → m ≤ at → at ≤ length file → take m (overwritten at bytes file) ≡ take m file
take-overwritten m at bytes file le within =
    let front : length (take at file) ≡ at = omega (arith, length-take at file) in
    let both = length-append (take at file) bytes in
    take-append-le m (take at file ++ bytes) (drop (at + length bytes) file) (omega (arith, front, both, le))
    ∙ take-append-le m (take at file) bytes (omega (arith, front, le))
    ∙ take-take m at file le

pub drop-overwritten : (n at : ℕ) (bytes file : List ℕ) → at + length bytes ≤ n → at ≤ length file → drop n (overwritten at bytes file) ≡ drop n file
drop-overwritten n at bytes file le within =
    let k = n - (at + length bytes) in
    let split : at + length bytes + k ≡ n = omega (arith, le) in
    let front : length (take at file ++ bytes) ≡ at + length bytes = omega (arith, length-take at file, length-append (take at file) bytes) in
    let whole = overwritten at bytes file in
    ap (λ (i : ℕ). drop i whole) (sym split)
    ∙ sym (drop-drop k (at + length bytes) whole)
    ∙ ap (λ (l : List ℕ). drop k l) (drop_at (take at file ++ bytes) (drop (at + length bytes) file) (at + length bytes) front)
    ∙ drop-drop k (at + length bytes) file
    ∙ ap (λ (i : ℕ). drop i file) split

-- a crash may leave what was there
pub torn_not : (at : ℕ) (bytes file : List ℕ) → Torn at bytes file file
torn_not at bytes file = record {
  before = take_min at file;
  after = refl;
  no_shorter = omega arith;
  no_longer = omega arith;
  narrow = λ byte one inside. inl refl;
}

abbrev Padded : ℕ → List ℕ → List ℕ
Padded at file = file ++ replicate (at - length file) 0

length-padded : (at : ℕ) (file : List ℕ) → length (Padded at file) ≡ max (length file) at
length-padded at file = omega (arith, length-append file (replicate (at - length file) 0), length-replicate {A = ℕ} (at - length file) 0)

padded_not : (at : ℕ) (file : List ℕ) → at ≤ length file → Padded at file ≡ file
padded_not at file le =
    let none : at - length file ≡ 0 = omega (arith, le) in
    ap (λ (n : ℕ). file ++ replicate n 0) none ∙ append-nil file

drop-padded : (n at : ℕ) (file : List ℕ) → at ≤ n → drop n (Padded at file) ≡ drop n file
drop-padded n at file le =
    ⊎_elim
    (λ (inside : at ≤ length file). ap (λ (l : List ℕ). drop n l) (padded_not at file inside))
    (λ (past : length file ≤ at). drop_all n (Padded at file) (omega (arith, length-padded at file, le, past)) ∙ sym (drop_all n file (omega (arith, le, past))))
    (le_or_ge at (length file))

-- whether a byte is what a crash may leave of a write of one byte
abbrev OneByte : List ℕ → List ℕ → Type 0
OneByte bytes kept = (byte : ℕ) → bytes ≡ byte ∷ [] → (kept ≡ []) ⊎ (kept ≡ byte ∷ []) ⊎ ((other : ℕ) × (other ≢ 1) × (kept ≡ other ∷ []))

torn_byte : (at : ℕ) (bytes kept file : List ℕ) → OneByte bytes kept → (byte : ℕ) → bytes ≡ byte ∷ [] → at < length file → TornByte at byte file (placed at kept file)
torn_byte at bytes kept file one byte is inside =
    let whole : (b : ℕ) → placed at (b ∷ []) file ≡ overwritten at (b ∷ []) file =
    λ b. ap (λ (l : List ℕ). overwritten at (b ∷ []) l) (padded_not at file (omega (arith, inside))) in
    ⊎_elim
    (λ (none : kept ≡ []). inl (ap (λ (l : List ℕ). placed at l file) none))
    (λ (some : (kept ≡ byte ∷ []) ⊎ ((other : ℕ) × (other ≢ 1) × (kept ≡ other ∷ []))).
    ⊎_elim
    (λ (all : kept ≡ byte ∷ []). inr (inl (ap (λ (l : List ℕ). placed at l file) all ∙ whole byte)))
    (λ (torn : (other : ℕ) × (other ≢ 1) × (kept ≡ other ∷ [])).
    inr (inr (torn.0, torn.1, ap (λ (l : List ℕ). placed at l file) torn.2 ∙ whole torn.0)))
    some)
    (one byte is)

-- a crash may leave a part of a write, in its place
pub torn_part : (at : ℕ) (bytes kept file : List ℕ) → length kept ≤ length bytes → OneByte bytes kept → Torn at bytes file (placed at kept file)
torn_part at bytes [] file le one = torn_not at bytes file
torn_part at bytes (b ∷ kept) file le one =
    let part = b ∷ kept in
    let pad = Padded at file in
    let long = length-padded at file in
    let total = length-overwritten at part pad (omega (arith, long)) in
    record {
      before =
          take-overwritten (min at (length file)) at part pad (omega arith) (omega (arith, long))
          ∙ take-append-le (min at (length file)) file (replicate (at - length file) 0) (omega arith)
          ∙ take_min at file;
      after =
          drop-overwritten (at + length bytes) at part pad (omega (arith, le)) (omega (arith, long))
          ∙ drop-padded (at + length bytes) at file (omega arith);
      no_shorter = omega (arith, total, long);
      no_longer = omega (arith, total, long, le);
      narrow = torn_byte at bytes part file one;
    }

-- a crash may leave the whole of a write
pub torn_whole : (at : ℕ) (bytes file : List ℕ) → Torn at bytes file (overwritten at bytes file)
torn_whole at bytes file =
    ⊎_elim
    (λ (inside : at ≤ length file).
    let total = length-overwritten at bytes file inside in
    record {
      before = take-overwritten (min at (length file)) at bytes file (omega arith) inside ∙ take_min at file;
      after = drop-overwritten (at + length bytes) at bytes file (omega arith) inside;
      no_shorter = omega (arith, total);
      no_longer = omega (arith, total);
      narrow = λ byte one within. inr (inl (ap (λ (l : List ℕ). overwritten at l file) one));
    })
    (λ (past : length file ≤ at).
    let all = take_all at file past in
    let nothing = drop_all (at + length bytes) file (omega (arith, past)) in
    let whole : overwritten at bytes file ≡ file ++ bytes =
    ap (λ (l : List ℕ). l ++ bytes ++ drop (at + length bytes) file) all ∙ ap (λ (l : List ℕ). file ++ bytes ++ l) nothing ∙ append-nil (file ++ bytes) in
    let total = ap length whole ∙ length-append file bytes in
    record {
      before =
          ap (λ (l : List ℕ). take (min at (length file)) l) whole ∙ take-append-le (min at (length file)) file bytes (omega arith) ∙ take_min at file;
      after = drop_all (at + length bytes) (overwritten at bytes file) (omega (arith, total, past)) ∙ sym nothing;
      no_shorter = omega (arith, total);
      no_longer = omega (arith, total, past);
      narrow = λ byte one within. inr (inl (ap (λ (l : List ℕ). overwritten at l file) one));
    })
    (le_or_ge at (length file))

-- each of the four images keeps such a part
either : (P : List ℕ → Type 0) (b : Bool) (xs ys : List ℕ) → P xs → P ys → P (cond b xs ys)
either P true xs ys p q = p
either P false xs ys p q = q

parts : (P : List ℕ → Type 0) (image : ℕ) (bytes : List ℕ) → P [] → P bytes → P (take (length bytes / 2) bytes) → P (replicate (length bytes) 165) → P (part image bytes)
parts P image bytes none all half other =
    either P (image == 0) [] _ none (either P (image == 1) bytes _ all (either P (image == 2) (take (length bytes / 2) bytes) (replicate (length bytes) 165) half other))

pub length-part : (image : ℕ) (bytes : List ℕ) → length (part image bytes) ≤ length bytes
length-part image bytes =
    parts (λ kept. length kept ≤ length bytes) image bytes (omega arith) (omega arith) (omega (arith, length-take (length bytes / 2) bytes)) (omega (arith, length-replicate {A = ℕ} (length bytes) 165))

pub one_byte : (image : ℕ) (bytes : List ℕ) → OneByte bytes (part image bytes)
one_byte image bytes byte is =
    parts
    (λ kept. (kept ≡ []) ⊎ (kept ≡ byte ∷ []) ⊎ ((other : ℕ) × (other ≢ 1) × (kept ≡ other ∷ [])))
    image
    bytes
    (inl refl)
    (inr (inl is))
    (inl (ap (λ (l : List ℕ). take (length l / 2) l) is))
    (inr (inr (165, omega arith, ap (λ (l : List ℕ). replicate (length l) 165) is)))

-- What a search for the separator finds of the bytes before it and after it.
use Rattle.std.proofs.Common.{◌≡◌, ℕ, zero, suc, ◌<◌, Bool, true, false, List, [], ◌∷◌, Some, None, eqb, length, take, drop, get_or, refl, arith}
use Rattle.memchr.specs.Find.{Nowhere, NoneBefore, Passes, is_byte}
use Rattle.schedule_text.specs.Fields.{cut}

fails : (b : Bool) → ¬ (b ≡ true) → b ≡ false
fails true h = absurd (h refl)
fails false h = refl

whole : (c : ℕ) (bs : List ℕ) → ((j : ℕ) → j < length bs → ¬ (eqb (get_or bs j 0) c ≡ true)) → cut c bs ≡ (bs, None)
whole c [] none = refl
whole c (b ∷ bs) none =
    let first = fails (eqb b c) (none 0 (omega arith)) in
    let others = whole c bs (λ j low. none (suc j) (omega arith)) in
    rw (first, others) refl

parted : (c : ℕ) (bs : List ℕ) (k : ℕ) → k < length bs → ((j : ℕ) → j < k → ¬ (eqb (get_or bs j 0) c ≡ true)) → eqb (get_or bs k 0) c ≡ true → cut c bs ≡ (take k bs, Some (drop (suc k) bs))
parted c [] k low none here = absurd (omega arith)
parted c (b ∷ bs) zero low none here = rw here refl
parted c (b ∷ bs) (suc k) low none here =
    let first = fails (eqb b c) (none 0 (omega arith)) in
    let others = parted c bs k (omega arith) (λ j lower. none (suc j) (omega arith)) here in
    rw (first, others) refl

-- if there is no separator
pub cut_nowhere : (c : ℕ) (bs : List ℕ) → Nowhere (Passes (is_byte c) bs) 0 (length bs) → cut c bs ≡ (bs, None)
cut_nowhere c bs none = whole c bs (λ j low. none j (omega arith) low)

-- if k is the first place of a separator
pub cut_first : (c : ℕ) (bs : List ℕ) (k : ℕ) → NoneBefore (Passes (is_byte c) bs) 0 (length bs) k → Passes (is_byte c) bs k → cut c bs ≡ (take k bs, Some (drop (suc k) bs))
cut_first c bs k none here = parted c bs k none.high (λ j low. none.before j (omega arith) low) here

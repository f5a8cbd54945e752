-- Sets of ranks.
use Rattle.mon_msg.specs.Protocol.Sets.{are_within, is_empty, only}
use Rattle.mon_types.specs.Ranks.{count_of, has, no_ranks, with_rank, is_majority}
use Rattle.std.proofs.Common.{Bool, List, [], arith, cond, eqb, false, inl, inr, length, ltb, not, refl, subst, suc, sym, true, zero, ℕ, ◌&&◌, ◌*◌, ◌+◌, ◌<◌, ◌||◌, ◌∙◌, ◌∷◌, ◌≡◌, ◌≤◌, ◌⊎◌}
use Rattle.std.proofs.lemmas.Bool.{and_cases, and_from, and_parts, cases_eq, cases_lt, eqb-true, false≢true, lt-ltb, ltb-false, ltb-true, not-false, not-true, not_from_false, or_cases, or_left, or_right}
use Rattle.std.proofs.lemmas.Grind.{get_or-set_at}
use Rattle.std.proofs.lemmas.List.Sums.{sum_by-cons}
use Rattle.std.proofs.lemmas.List.{get_or-replicate, get_or-set_other, get_or-set_same, get_or_past}
use Rattle.std.specs.List.{filter, list_all, range_with_len}

pub has_only : (r : ℕ) → r < 15 → has (only r) r ≡ true
has_only r lt = get_or-set_same no_ranks r true false lt

pub has_with : (s : List Bool) (f r : ℕ) → has s r ≡ true → has (with_rank s f) r ≡ true
has_with s f r h = by (cases_eq r f) (cases_lt r (length s))
  where
    by : (r ≡ f) ⊎ (r ≡ f → ⊥) → (r < length s) ⊎ (length s ≤ r) → has (with_rank s f) r ≡ true
    by (inr ne) k = get_or-set_other s f r true false ne ∙ h
    by (inl e) (inl lt) = get_or-set_at s f r true false e (omega arith)
    by (inl e) (inr ge) = absurd (false≢true (sym (get_or_past s r false ge) ∙ h))

pub whole_major : (n : ℕ) (q : List Bool) → 0 < n → eqb (count_of q) n ≡ true → is_majority n q ≡ true
whole_major n q h e = let s = eqb-true (count_of q) n e in lt-ltb _ _ (omega arith)

pub alone_major : (n r : ℕ) → r < n → ltb 1 n ≡ false → is_majority n (only r) ≡ true
alone_major n r lt h = let le : n ≤ 1 = ltb-false 1 n h in let a : n ≡ 1 = omega arith in let b : r ≡ 0 = omega arith in rw (a, b) refl

pub nobody : (m : ℕ) → has no_ranks m ≡ false
nobody m = by (cases_lt m 15)
  where
    by : (m < 15) ⊎ (15 ≤ m) → has no_ranks m ≡ false
    by (inl lt) = get_or-replicate 15 m false false lt
    by (inr ge) = get_or_past no_ranks m false ge

pub has_with_is : (s : List Bool) (f m : ℕ) → has (with_rank s f) m ≡ true → (m ≡ f) ⊎ (has s m ≡ true)
has_with_is s f m h = by (cases_eq m f)
  where
    by : (m ≡ f) ⊎ (m ≡ f → ⊥) → (m ≡ f) ⊎ (has s m ≡ true)
    by (inl e) = inl e
    by (inr ne) = inr (sym (get_or-set_other s f m true false ne) ∙ h)

pub has_only_is : (f m : ℕ) → has (only f) m ≡ true → m ≡ f
has_only_is f m h = elim (has_with_is no_ranks f m h) [ inl e ↦ e | inr k ↦ absurd (false≢true (sym (nobody m) ∙ k)) ]

all_where_empty : (p t : ℕ → Bool) → ((k : ℕ) → p k ≡ false → t k ≡ true) → (ks : List ℕ) → is_empty (filter p ks) ≡ true → list_all t ks ≡ true
all_where_empty p t f [] e = refl
all_where_empty p t f (k ∷ ks) e = by (p k) refl e (all_where_empty p t f ks)
  where
    by : (b : Bool) → p k ≡ b → is_empty (cond b (k ∷ filter p ks) (filter p ks)) ≡ true → (is_empty (filter p ks) ≡ true → list_all t ks ≡ true) → (t k && list_all t ks) ≡ true
    by true q e ih = absurd (false≢true e)
    by false q e ih = and_from (t k) (list_all t ks) (f k q) (ih e)

-- a quorum in which there is nobody else
pub alone_within : (n r : ℕ) (q : List Bool) → r < 15 → is_empty (filter (λ k. has q k && not (eqb k r)) (range_with_len 0 n)) ≡ true → are_within n q (only r) ≡ true
alone_within n r q lt e = all_where_empty (λ k. has q k && not (eqb k r)) (λ k. not (has q k) || has (only r) k) (λ k h. by k (and_cases (has q k) (not (eqb k r)) h)) (range_with_len 0 n) e
  where
    by : (k : ℕ) → (has q k ≡ false) ⊎ (not (eqb k r) ≡ false) → (not (has q k) || has (only r) k) ≡ true
    by k (inl o) = or_left (not (has q k)) (has (only r) k) (not_from_false (has q k) o)
    by k (inr o) = or_right (not (has q k)) (has (only r) k) (subst (λ (z : ℕ). has (only r) z ≡ true) (sym (eqb-true k r (not-false (eqb k r) o))) (has_only r lt))

all_at : (t : ℕ → Bool) (a n m : ℕ) → list_all t (range_with_len a n) ≡ true → a ≤ m → m < a + n → t m ≡ true
all_at t a zero m e le lt = absurd (omega arith)
all_at t a (suc n) m e le lt = by (cases_eq m a) (all_at t (a + 1) n m)
  where
    parts : (t a ≡ true) × (list_all t (range_with_len (a + 1) n) ≡ true)
    parts = and_parts (t a) _ e

    by : (m ≡ a) ⊎ (m ≡ a → ⊥) → (list_all t (range_with_len (a + 1) n) ≡ true → a + 1 ≤ m → m < a + 1 + n → t m ≡ true) → t m ≡ true
    by (inl q) ih = subst (λ (z : ℕ). t z ≡ true) (sym q) parts.0
    by (inr ne) ih = ih parts.1 (omega arith) (omega arith)

pub within_at : (n : ℕ) (q s : List Bool) (m : ℕ) → are_within n q s ≡ true → m < n → has q m ≡ true → has s m ≡ true
within_at n q s m e lt h = by (or_cases (not (has q m)) (has s m) (all_at (λ k. not (has q k) || has s k) 0 n m e (omega arith) (omega arith)))
  where
    by : (not (has q m) ≡ true) ⊎ (has s m ≡ true) → has s m ≡ true
    by (inl o) = absurd (false≢true (sym (not-true (has q m) o) ∙ h))
    by (inr o) = o

-- ---- two majorities share a rank

abbrev pub Below : ℕ → List Bool → Type 0
Below n A = (m : ℕ) → has A m ≡ true → m < n

count_cons : (a : Bool) (A : List Bool) → count_of (a ∷ A) ≡ cond a 1 0 + count_of A
count_cons a A = sum_by-cons (λ (b : Bool). cond b 1 0) a A

tail_below : (n : ℕ) (a : Bool) (A : List Bool) → Below (suc n) (a ∷ A) → Below n A
tail_below n a A h m k = let s = h (suc m) k in omega arith

none_below : (a : Bool) (A : List Bool) → Below 0 (a ∷ A) → (a ≡ false) × Below 0 A
none_below true A h = absurd (let s = h 0 refl in omega arith)
none_below false A h = (refl, λ m k. let s = h (suc m) k in absurd (omega arith))

count_below : (A : List Bool) (n : ℕ) → Below n A → count_of A ≤ n
count_below [] n h = omega arith
count_below (true ∷ A) zero h = absurd (let s = h 0 refl in omega arith)
count_below (false ∷ A) zero h = let s = count_below A zero (none_below false A h).1 in omega (arith, count_cons false A)
count_below (true ∷ A) (suc n) h = let s = count_below A n (tail_below n true A h) in omega (arith, count_cons true A)
count_below (false ∷ A) (suc n) h = let s = count_below A n (tail_below n false A h) in omega (arith, count_cons false A)

abbrev pub Shared : List Bool → List Bool → Type 0
Shared A B = (m : ℕ) × (has A m ≡ true) × (has B m ≡ true)

later : (a b : Bool) (A B : List Bool) → Shared A B → Shared (a ∷ A) (b ∷ B)
later a b A B s = (suc s.0, s.1, s.2)

meet : (A B : List Bool) (n : ℕ) → Below n A → Below n B → n < count_of A + count_of B → Shared A B
meet [] B n a b lt = let s = count_below B n b in absurd (omega arith)
meet (x ∷ A) [] n a b lt = let s = count_below (x ∷ A) n a in absurd (omega arith)
meet (x ∷ A) (y ∷ B) zero a b lt = let s = count_below (x ∷ A) zero a in let t = count_below (y ∷ B) zero b in absurd (omega arith)
meet (true ∷ A) (true ∷ B) (suc n) a b lt = (0, refl, refl)
meet (true ∷ A) (false ∷ B) (suc n) a b lt = later true false A B (meet A B n (tail_below n true A a) (tail_below n false B b) (omega (arith, count_cons true A, count_cons false B)))
meet (false ∷ A) (true ∷ B) (suc n) a b lt = later false true A B (meet A B n (tail_below n false A a) (tail_below n true B b) (omega (arith, count_cons false A, count_cons true B)))
meet (false ∷ A) (false ∷ B) (suc n) a b lt = later false false A B (meet A B n (tail_below n false A a) (tail_below n false B b) (omega (arith, count_cons false A, count_cons false B)))

pub majorities : (n : ℕ) (A B : List Bool) → is_majority n A ≡ true → is_majority n B ≡ true → ((m : ℕ) → has A m ≡ true → m < n) → ((m : ℕ) → has B m ≡ true → m < n) → Shared A B
majorities n A B p q a b = let s = ltb-true n (2 * count_of A) p in let t = ltb-true n (2 * count_of B) q in meet A B n a b (omega arith)

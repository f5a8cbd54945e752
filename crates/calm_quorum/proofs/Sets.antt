-- Sets that grow by one rank at a time.
use Rattle.calm_quorum.proofs.Rounds.{Rises}
use Rattle.law_names.proofs.Table.{are_within, count_of, has, is_empty, is_majority, list_all, no_ranks, only, range_with_len, with_rank}
use Rattle.quorum_walk.proofs.Ranks.{has_with, nobody}
use Rattle.std.proofs.Common.{Bool, List, ap, arith, cond, eqb, false, filter, inl, inr, length, nat_lt, not, refl, subst, suc, sym, true, zero, ℕ, ◌&&◌, ◌*◌, ◌+◌, ◌<◌, ◌||◌, ◌∙◌, ◌≡◌, ◌≤◌, ◌⊎◌}
use Rattle.std.proofs.lemmas.Bool.{and_left, and_right, cases_eq, cases_lt, false≢true, le-ltb, lt-ltb}
use Rattle.std.proofs.lemmas.Grind.{get_or-set_at}
use Rattle.std.proofs.lemmas.List.Sums.{sum_by-set}
use Rattle.std.proofs.lemmas.List.{get_or-set_other, get_or-set_same, length-set, set-get_or}

-- i, and the first k; one more rank is one more step
abbrev pub met : ℕ → ℕ → List Bool
met i zero = only i
met i (suc k) = with_rank (met i k) k

pub length_met : (i k : ℕ) → length (met i k) ≡ 15
length_met i zero = length-set no_ranks i true
length_met i (suc k) = length-set (met i k) k true ∙ length_met i k

pub self_in : (i k : ℕ) → i < 15 → has (met i k) i ≡ true
self_in i zero lt = get_or-set_same no_ranks i true false lt
self_in i (suc k) lt = has_with (met i k) k i (self_in i k lt)

pub in_met : (i k j : ℕ) → j < k → k ≤ 15 → has (met i k) j ≡ true
in_met i zero j lt le = absurd (omega arith)
in_met i (suc k) j lt le = by (cases_eq j k) (in_met i k j)
  where
    by : (j ≡ k) ⊎ (j ≡ k → ⊥) → (j < k → k ≤ 15 → has (met i k) j ≡ true) → has (with_rank (met i k) k) j ≡ true
    by (inl e) ih = get_or-set_at (met i k) k j true false e (let l = length_met i k in omega arith)
    by (inr ne) ih = has_with (met i k) k j (ih (omega arith) (omega arith))

pub not_in_met : (i k j : ℕ) → k ≤ j → (j ≡ i → ⊥) → has (met i k) j ≡ false
not_in_met i zero j le ne = get_or-set_other no_ranks i j true false ne ∙ nobody j
not_in_met i (suc k) j le ne =
    get_or-set_other (met i k) k j true false (λ e. omega arith) ∙ not_in_met i k j (omega arith) ne

-- a rank that is in it already
pub joins : (s : List Bool) (i : ℕ) → has s i ≡ true → with_rank s i ≡ s
joins s i h =
    subst (λ (b : Bool). with_rank s i ≡ s → with_rank s i ≡ s) h (λ e. e)
    (ap (λ (b : Bool). Rattle.std.specs.Prelude.slice_set s i b) (sym h) ∙ set-get_or s i false)

pub met_self : (i k : ℕ) → i < 15 → k ≡ i → met i (suc k) ≡ met i k
met_self i k lt e = joins (met i k) k (subst (λ (z : ℕ). has (met i k) z ≡ true) (sym e) (self_in i k lt))

-- ---- counts

count_with : (s : List Bool) (r : ℕ) → r < length s → count_of (with_rank s r) + cond (has s r) 1 0 ≡ count_of s + 1
count_with s r lt = sum_by-set (λ (b : Bool). cond b 1 0) s r true false lt

pub count_more : (s : List Bool) (r : ℕ) → r < length s → has s r ≡ false → count_of (with_rank s r) ≡ suc (count_of s)
count_more s r lt h = let e = rw h at (count_with s r lt) in omega arith

pub count_only : (i : ℕ) → i < 15 → count_of (only i) ≡ 1
count_only i lt = count_more no_ranks i lt (nobody i)

-- i itself is counted before it is passed
pub count_before : (i k : ℕ) → i < 15 → k ≤ i → count_of (met i k) ≡ suc k
count_before i zero lt le = count_only i lt
count_before i (suc k) lt le =
    count_more (met i k) k (let l = length_met i k in omega arith)
    (not_in_met i k k (omega arith) (λ e. omega arith))
    ∙ ap suc (count_before i k lt (omega arith))

pub count_after : (i k : ℕ) → i < 15 → k ≤ 15 → i < k → count_of (met i k) ≡ k
count_after i zero lt le h = absurd (omega arith)
count_after i (suc k) lt le h = by (cases_eq k i) (count_after i k lt (omega arith))
  where
    by : (k ≡ i) ⊎ (k ≡ i → ⊥) → (i < k → count_of (met i k) ≡ k) → count_of (with_rank (met i k) k) ≡ suc k
    by (inl e) ih = ap count_of (met_self i k lt e) ∙ count_before i k lt (omega arith)
    by (inr ne) ih =
        count_more (met i k) k (let l = length_met i k in omega arith) (not_in_met i k k (omega arith) ne)
        ∙ ap suc (ih (omega arith))

-- ---- sets within others

list_all_range : (t : ℕ → Bool) (a n : ℕ) → ((j : ℕ) → a ≤ j → j < a + n → t j ≡ true)
    → list_all t (range_with_len a n) ≡ true
list_all_range t a zero h = refl
list_all_range t a (suc n) h =
    rw (h a (omega arith) (omega arith)) (list_all_range t (a + 1) n (λ j le lt. h j (omega arith) (omega arith)))

list_all_not : (t : ℕ → Bool) (a n j : ℕ) → a ≤ j → j < a + n → t j ≡ false → list_all t (range_with_len a n) ≡ false
list_all_not t a zero j le lt e = absurd (omega arith)
list_all_not t a (suc n) j le lt e = by (cases_eq j a) (list_all_not t (a + 1) n j)
  where
    by : (j ≡ a) ⊎ (j ≡ a → ⊥)
        → (a + 1 ≤ j → j < a + 1 + n → t j ≡ false → list_all t (range_with_len (a + 1) n) ≡ false)
        → (t a && list_all t (range_with_len (a + 1) n)) ≡ false
    by (inl q) ih = and_left (t a) _ (subst (λ (z : ℕ). t z ≡ false) q e)
    by (inr ne) ih = and_right (t a) _ (ih (omega arith) (omega arith) e)

or_true : (c : Bool) → (c || true) ≡ true
or_true true = refl
or_true false = refl

pub within_all : (n : ℕ) (q s : List Bool) → ((j : ℕ) → j < n → has s j ≡ true) → are_within n q s ≡ true
within_all n q s h =
    list_all_range (λ k. not (has q k) || has s k) 0 n (λ j le lt. rw (h j (omega arith)) (or_true (not (has q j))))

pub within_not : (n : ℕ) (q s : List Bool) (j : ℕ) → j < n → has q j ≡ true → has s j ≡ false → are_within n q s ≡ false
within_not n q s j lt a b =
    list_all_not (λ k. not (has q k) || has s k) 0 n j (omega arith) (omega arith) (rw (a, b) refl)

not_empty : (p : ℕ → Bool) (f a k : ℕ) → p f ≡ true → a ≤ f → f < a + k
    → is_empty (filter p (range_with_len a k)) ≡ false
not_empty p f a zero t le lt = absurd (omega arith)
not_empty p f a (suc k) t le lt =
    by (cases_eq f a) (p a) refl (λ (h : a + 1 ≤ f). not_empty p f (a + 1) k t h (omega arith))
  where
    by : (f ≡ a) ⊎ (f ≡ a → ⊥) → (b : Bool) → p a ≡ b
        → (a + 1 ≤ f → is_empty (filter p (range_with_len (a + 1) k)) ≡ false)
        → is_empty (filter p (range_with_len a (suc k))) ≡ false
    by c true e rest = rw e refl
    by (inl same) false e rest = absurd (false≢true (sym e ∙ ap p (sym same) ∙ t))
    by (inr ne) false e rest = rw e (rest (omega arith))

-- ---- all n

abbrev pub chosen : ℕ → List Bool
chosen n = met 0 n

pub all_in : (n k : ℕ) → 1 ≤ n → n ≤ 15 → has (chosen n) k ≡ nat_lt k n
all_in n k some most = by (cases_lt k n)
  where
    by : (k < n) ⊎ (n ≤ k) → has (chosen n) k ≡ nat_lt k n
    by (inl lt) = in_met 0 n k lt most ∙ sym (lt-ltb k n lt)
    by (inr ge) = not_in_met 0 n k ge (λ e. omega arith) ∙ sym (le-ltb k n ge)

pub not_alone : (n : ℕ) → 1 < n → n ≤ 15
    → is_empty (filter (λ k. has (chosen n) k && not (eqb k 0)) (range_with_len 0 n)) ≡ false
not_alone n two most =
    not_empty (λ k. has (chosen n) k && not (eqb k 0)) 1 0 n (rw (in_met 0 n 1 two most) refl) (omega arith)
    (omega arith)

pub is_most : (n : ℕ) → 1 ≤ n → n ≤ 15 → is_majority n (chosen n) ≡ true
is_most n some most =
    let c = count_after 0 n (omega arith) most (omega arith) in lt-ltb n (2 * count_of (chosen n)) (omega arith)

-- ---- who was heard when a majority was

-- one more rank that answers a monitor of n, unless a majority did
abbrev pub outside : (n i : ℕ) → ℕ → List Bool
outside n i zero = only i
outside n i (suc k) = cond (is_majority n (outside n i k)) (outside n i k) (with_rank (outside n i k) k)

abbrev pub is_enough : (n i : ℕ) → ℕ → Bool
is_enough n i k = is_majority n (outside n i k)

enough_stays : (n i k : ℕ) → is_enough n i k ≡ true → outside n i (suc k) ≡ outside n i k
enough_stays n i k e = rw e refl

pub few_met : (n i k : ℕ) → is_enough n i k ≡ false → outside n i k ≡ met i k
few_met n i zero e = refl
few_met n i (suc k) e = by (is_enough n i k) refl (few_met n i k)
  where
    by : (b : Bool) → is_enough n i k ≡ b → (is_enough n i k ≡ false → outside n i k ≡ met i k)
        → outside n i (suc k) ≡ met i (suc k)
    by true h ih = absurd (false≢true (sym e ∙ ap (is_majority n) (enough_stays n i k h) ∙ h))
    by false h ih = rw h (ap (λ (s : List Bool). with_rank s k) (ih h))

pub rises : (n i : ℕ) → 1 < n → n ≤ 15 → i < n → Rises n (is_enough n i)
rises n i two most lt = record {
  low = let c = count_only i (omega arith) in le-ltb n (2 * count_of (only i)) (omega arith);
  up = λ k le e. ap (is_majority n) (enough_stays n i k e) ∙ e;
  high = by (is_enough n i n) refl;
}
  where
    by : (b : Bool) → is_enough n i n ≡ b → is_enough n i n ≡ true
    by true e = e
    by false e =
        let s = few_met n i n e in
        let c = count_after i n (omega arith) most lt in
        let h : is_enough n i n ≡ true = ap (is_majority n) s ∙ lt-ltb n (2 * count_of (met i n)) (omega arith) in
        h

-- once there are enough it is what it is in the end
settled_by : (n i d k : ℕ) → is_enough n i k ≡ true → outside n i (d + k) ≡ outside n i k
settled_by n i zero k e = let z : 0 + k ≡ k = omega arith in rw z refl
settled_by n i (suc d) k e =
    let z : suc d + k ≡ suc (d + k) = omega arith in
    let ih = settled_by n i d k e in
    rw z (enough_stays n i (d + k) (ap (is_majority n) ih ∙ e) ∙ ih)

pub settled : (n i k : ℕ) → k ≤ n → is_enough n i k ≡ true → outside n i k ≡ outside n i n
settled n i k le e =
    let z : n ≡ (Rattle.std.proofs.Common.◌-◌ n k) + k = omega arith in
    sym (subst (λ (m : ℕ). outside n i m ≡ outside n i k) (sym z) (settled_by n i _ k e))

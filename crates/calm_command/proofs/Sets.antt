-- The set of the first n ranks.
unfoldable pub use Rattle.calm_command.specs.Resting.{firsts}
use Rattle.calm_quorum.proofs.Sets.{within_all, within_not}
use Rattle.law_names.proofs.Table.{are_within, has, only, range_with_len, with_rank}
use Rattle.quorum_walk.proofs.Ranks.{nobody}
use Rattle.std.proofs.Common.{Bool, arith, eqb, false, filter, inl, inr, length, ltb, not, refl, suc, sym, true, zero, ℕ, ◌&&◌, ◌+◌, ◌-◌, ◌<◌, ◌∙◌, ◌≡◌, ◌≤◌, ◌⊎◌}
use Rattle.std.proofs.Math.ListN.{length-set}
use Rattle.std.proofs.lemmas.Bool.{cases_order, le-ltb, lt-ltb, ne_eqb}
use Rattle.std.proofs.lemmas.Grind.{get_or-set_at}
use Rattle.std.proofs.lemmas.List.{get_or-set_other}

pub one_more : (k : ℕ) → with_rank (firsts k) k ≡ firsts (suc k)
unfolding firsts
one_more k = refl

pub only_first : only 0 ≡ firsts 1
unfolding firsts
only_first = refl

pub firsts_length : (n : ℕ) → length (firsts n) ≡ 15
unfolding firsts
firsts_length zero = refl
firsts_length (suc n) = length-set (firsts n) n true ∙ firsts_length n

pub has_firsts : (n : ℕ) → n ≤ 15 → (k : ℕ) → has (firsts n) k ≡ ltb k n
unfolding firsts
has_firsts zero le k = nobody k ∙ sym (le-ltb k 0 (omega arith))
has_firsts (suc n) le k = by (cases_order k n) (has_firsts n (omega arith) k)
  where
    by : (k ≡ n) ⊎ ((k < n) ⊎ (n < k)) → has (firsts n) k ≡ ltb k n → has (with_rank (firsts n) n) k ≡ ltb k (suc n)
    by (inl e) ih =
        get_or-set_at (firsts n) n k true false e (let l = firsts_length n in omega arith)
        ∙ sym (lt-ltb k (suc n) (omega arith))
    by (inr (inl lt)) ih =
        get_or-set_other (firsts n) n k true false (λ e. omega arith)
        ∙ ih
        ∙ lt-ltb k n lt
        ∙ sym (lt-ltb k (suc n) (omega arith))
    by (inr (inr gt)) ih =
        get_or-set_other (firsts n) n k true false (λ e. omega arith)
        ∙ ih
        ∙ le-ltb k n (omega arith)
        ∙ sym (le-ltb k (suc n) (omega arith))

pub covers_all : (n : ℕ) → n ≤ 15 → are_within n (firsts n) (firsts n) ≡ true
covers_all n le = within_all n (firsts n) (firsts n) (λ k lt. has_firsts n le k ∙ lt-ltb k n lt)

pub covers_not : (n j : ℕ) → n ≤ 15 → j < n → are_within n (firsts n) (firsts j) ≡ false
covers_not n j le lt =
    within_not n (firsts n) (firsts j) j lt (has_firsts n le j ∙ lt-ltb j n lt)
    (has_firsts j (omega arith) j ∙ le-ltb j j (omega arith))

filter_all : (t : ℕ → Bool) (a n : ℕ) → ((k : ℕ) → a ≤ k → k < a + n → t k ≡ true)
    → filter t (range_with_len a n) ≡ range_with_len a n
filter_all t a zero h = refl
filter_all t a (suc n) h =
    let one = h a (omega arith) (omega arith) in
    let rest = filter_all t (a + 1) n (λ k lo hi. h k (omega arith) (omega arith)) in
    rw (one, rest) refl

-- the others of a leader of rank 0
pub others_are : (n : ℕ) → n ≤ 15 → 0 < n
    → filter (λ k. has (firsts n) k && not (eqb k 0)) (range_with_len 0 n) ≡ range_with_len 1 (n - 1)
others_are n le pos = by n refl
  where
    by : (c : ℕ) → c ≡ n
        → filter (λ k. has (firsts n) k && not (eqb k 0)) (range_with_len 0 c) ≡ range_with_len 1 (c - 1)
    by zero e = absurd (omega arith)
    by (suc c) e =
        let here : has (firsts n) 0 ≡ true = has_firsts n le 0 ∙ lt-ltb 0 n pos in
        let same : suc c - 1 ≡ c = omega arith in
        rw (here, same) (filter_all (λ k. has (firsts n) k && not (eqb k 0)) 1 c
        (λ k lo hi. let there = has_firsts n le k ∙ lt-ltb k n (omega arith) in
        let no = ne_eqb k 0 (λ z. omega arith) in
        rw (there, no) refl))

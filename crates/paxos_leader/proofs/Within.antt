-- What holds of each rank in a range.
use Rattle.std.proofs.Common.{◌≡◌, ◌≢◌, ℕ, zero, suc, ◌+◌, ◌≤◌, ◌<◌, Bool, true, false, not, ◌&&◌, ◌||◌, ◌==◌, List, filter, refl, sym, ap, ◌∙◌, arith, inl, inr}
use Rattle.std.specs.List.{range_with_len, list_all}
use Rattle.std.proofs.lemmas.Bool.{and_parts, cases_lt, cases_Bool}
use Rattle.std.proofs.lemmas.Bool.Decides.{nat_tests}
use Rattle.std.proofs.lemmas.List.{get_or-set_same, get_or-set_other, get_or-replicate}
use Rattle.mon_msg.specs.Protocol.Sets.{are_within, is_empty, only}
use Rattle.mon_types.specs.Ranks.{no_ranks, has}

pub all-next : (p : ℕ → Bool) (a n j : ℕ) → a + n ≡ j → list_all p (range_with_len a n) ≡ true → p j ≡ true → list_all p (range_with_len a (suc n)) ≡ true
all-next p a zero j e each last = let same : a ≡ j = omega arith in ap (λ k. p k && true) same ∙ ap (λ b. b && true) last
all-next p a (suc n) j e each last =
    let both = and_parts (p a) (list_all p (range_with_len (a + 1) n)) each in
    λ i. both.0 i && all-next p (a + 1) n j (omega arith) both.1 last i

and_false : (b c : Bool) → c ≡ false → (b && c) ≡ false
and_false true c h = h
and_false false c h = refl

pub not-all : (p : ℕ → Bool) (a n j : ℕ) → a ≤ j → j < a + n → p j ≡ false → list_all p (range_with_len a n) ≡ false
not-all p a zero j low high h = absurd (omega arith)
not-all p a (suc n) j low high h = elim (cases_lt a j) [
  | inl lt ↦ and_false (p a) (list_all p (range_with_len (a + 1) n)) (not-all p (a + 1) n j (omega arith) (omega arith) h)
  | inr le ↦ let same : a ≡ j = omega arith in ap (λ b. b && list_all p (range_with_len (a + 1) n)) (ap p same ∙ h)
]

-- all pass one test if and only if the opposite test keeps none
none-left : (p q : ℕ → Bool) (a n : ℕ) → ((k : ℕ) → k < a + n → p k ≡ not (q k)) → list_all p (range_with_len a n) ≡ is_empty (filter q (range_with_len a n))
none-left p q a zero same = refl
none-left p q a (suc n) same =
    elim (cases_Bool (q a)) [
      | inl t ↦ (let no : p a ≡ false = same a (omega arith) ∙ ap not t in rw (no, t) refl)
      | inr f ↦ (let yes : p a ≡ true = same a (omega arith) ∙ ap not f in rw (yes, f) (none-left p q (a + 1) n (λ k lt. same k (omega arith))))
    ]

has-only : (r k : ℕ) → r < 15 → k < 15 → has (only r) k ≡ (k == r)
has-only r k below small = elim (cases_Bool (k == r)) [
  | inl t ↦ (let same : k ≡ r = search (arith, nat_tests) in ap (has (only r)) same ∙ get_or-set_same no_ranks r true false below ∙ sym t)
  | inr f ↦ (let other : k ≢ r = search (arith, nat_tests) in get_or-set_other no_ranks r k true false other ∙ get_or-replicate 15 k false false small ∙ sym f)
]

-- a set is within the set of rank r alone if and only if it has no other rank
pub are-none : (r n : ℕ) (q : List Bool) → r < 15 → n ≤ 15 → are_within n q (only r) ≡ is_empty (filter (λ k. has q k && not (k == r)) (range_with_len 0 n))
are-none r n q below small =
    none-left (λ k. not (has q k) || has (only r) k) (λ k. has q k && not (k == r)) 0 n
    (λ k lt. ap (λ b. not (has q k) || b) (has-only r k below (omega arith)) ∙ left (has q k) (k == r))
  where
    left : (a b : Bool) → (not a || b) ≡ not (a && not b)
    left true true = refl
    left true false = refl
    left false b = refl

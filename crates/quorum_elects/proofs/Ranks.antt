-- Ranks and sets of ranks.
use Rattle.law_names.proofs.Table.{count_of, has, with_rank}
use Rattle.quorum_elects.specs.Electing.{highest, lowest}
use Rattle.std.proofs.Common.{Bool, List, [], ap, arith, cond, false, inl, inr, length, ltb, refl, subst, suc, sym, true, zero, ℕ, ◌&&◌, ◌<◌, ◌∙◌, ◌∷◌, ◌≡◌, ◌≤◌, ◌⊎◌}
use Rattle.std.proofs.lemmas.Bool.{and_parts, cases_lt, cases_order, cond_both, false≢true, ltb-false, ltb-true}
use Rattle.std.proofs.lemmas.List.Sums.{sum_by-cons}

-- a rank up to k is k or lower
pub up_to : (f k : ℕ) → f < suc k → (f ≡ k) ⊎ (f < k)
up_to f k lt = elim (cases_lt f k) [ inl less ↦ inr less | inr ge ↦ inl (omega arith) ]

-- one from k on is k or higher
pub from_on : (f k : ℕ) → k ≤ f → (f ≡ k) ⊎ (suc k ≤ f)
from_on f k le = elim (cases_lt k f) [ inl less ↦ inr (omega arith) | inr ge ↦ inl (omega arith) ]

pub same_or_not : (f k : ℕ) → (f ≡ k) ⊎ (f ≡ k → ⊥)
same_or_not f k = elim (cases_order f k) [
  | inl e ↦ inl e
  | inr o ↦ elim o [ inl less ↦ inr (λ e. omega arith) | inr more ↦ inr (λ e. omega arith) ]
]

pub in_or_out : (b : Bool) → (b ≡ true) ⊎ (b ≡ false)
in_or_out true = inl refl
in_or_out false = inr refl

-- a set of fifteen has the rank that is put into it
pub has_self : (o : List Bool) (j : ℕ) → j < length o → has (with_rank o j) j ≡ true
has_self [] j lt = absurd (omega arith)
has_self (b ∷ o) zero lt = refl
has_self (b ∷ o) (suc j) lt = has_self o j (omega arith)

-- a larger set counts no less
pub count_more : (a b : List Bool) → ((f : ℕ) → has a f ≡ true → has b f ≡ true) → count_of a ≤ count_of b
count_more [] b h = omega arith
count_more (true ∷ a) [] h = absurd (false≢true (h 0 refl))
count_more (false ∷ a) [] h = let s = count_more a [] (λ f k. h (suc f) k) in omega (arith, sum_by-cons (λ (b : Bool). cond b 1 0) false a)
count_more (true ∷ a) (true ∷ b) h = let s = count_more a b (λ f k. h (suc f) k) in omega (arith, sum_by-cons (λ (b : Bool). cond b 1 0) true a, sum_by-cons (λ (b : Bool). cond b 1 0) true b)
count_more (true ∷ a) (false ∷ b) h = absurd (false≢true (h 0 refl))
count_more (false ∷ a) (true ∷ b) h = let s = count_more a b (λ f k. h (suc f) k) in omega (arith, sum_by-cons (λ (b : Bool). cond b 1 0) false a, sum_by-cons (λ (b : Bool). cond b 1 0) true b)
count_more (false ∷ a) (false ∷ b) h = let s = count_more a b (λ f k. h (suc f) k) in omega (arith, sum_by-cons (λ (b : Bool). cond b 1 0) false a, sum_by-cons (λ (b : Bool). cond b 1 0) false b)

nobody_counts : (A : List Bool) → ((m : ℕ) → has A m ≡ true → ⊥) → count_of A ≤ 0
nobody_counts [] h = omega arith
nobody_counts (true ∷ A) h = absurd (h 0 refl)
nobody_counts (false ∷ A) h = let s = nobody_counts A (λ m k. h (suc m) k) in omega (arith, sum_by-cons (λ (b : Bool). cond b 1 0) false A)

pub one_counts : (A : List Bool) (r : ℕ) → ((m : ℕ) → has A m ≡ true → m ≡ r) → count_of A ≤ 1
one_counts [] r h = omega arith
one_counts (true ∷ A) r h = let z = h 0 refl in let s = nobody_counts A (λ m k. let t = h (suc m) k in absurd (omega arith)) in omega (arith, sum_by-cons (λ (b : Bool). cond b 1 0) true A)
one_counts (false ∷ A) zero h = let s = nobody_counts A (λ m k. let t = h (suc m) k in absurd (omega arith)) in omega (arith, sum_by-cons (λ (b : Bool). cond b 1 0) false A)
one_counts (false ∷ A) (suc r) h = let s = one_counts A r (λ m k. let t = h (suc m) k in omega arith) in omega (arith, sum_by-cons (λ (b : Bool). cond b 1 0) false A)

-- ---- the least and the greatest of a set

-- the least rank of a set that a test lets through
pub record Least (q : List Bool) (test : ℕ → Bool) : Type 0 where
  pub rank : ℕ
  pub within : has q rank ≡ true
  pub passes : test rank ≡ true
  pub least : (f : ℕ) → has q f ≡ true → test f ≡ true → rank ≤ f

pub least_of : (q : List Bool) (test : ℕ → Bool) (m : ℕ) → has q m ≡ true → test m ≡ true → Least q test
least_of [] test m h t = absurd (false≢true h)
least_of (b ∷ q) test zero h t = record { rank = 0; within = h; passes = t; least = λ f k u. omega arith }
least_of (b ∷ q) test (suc m) h t = by (least_of q (λ k. test (suc k)) m h t) (in_or_out (b && test 0))
  where
    later : (L : Least q (λ k. test (suc k))) → (b && test 0) ≡ false → (f : ℕ) → has (b ∷ q) f ≡ true → test f ≡ true → suc L.rank ≤ f
    later L out zero k u = absurd (false≢true (sym out ∙ (λ j. k j && u j)))
    later L out (suc f) k u = let z = L.least f k u in omega arith

    by : Least q (λ k. test (suc k)) → ((b && test 0) ≡ true) ⊎ ((b && test 0) ≡ false) → Least (b ∷ q) test
    by L (inl both) = let p = and_parts b (test 0) both in record { rank = 0; within = p.0; passes = p.1; least = λ f k u. omega arith }
    by L (inr out) = record { rank = suc L.rank; within = L.within; passes = L.passes; least = later L out }

pub record Greatest (q : List Bool) (of : ℕ → ℕ) (k : ℕ) : Type 0 where
  pub rank : ℕ
  pub within : has q rank ≡ true
  pub greatest : (f : ℕ) → f < k → has q f ≡ true → of f ≤ of rank

-- of the ranks below k, and one that is known
pub greatest_of : (q : List Bool) (of : ℕ → ℕ) (m : ℕ) → has q m ≡ true → (k : ℕ) → Greatest q of k
greatest_of q of m h zero = record { rank = m; within = h; greatest = λ f lt k. absurd (omega arith) }
greatest_of q of m h (suc k) = by (greatest_of q of m h k) (in_or_out (has q k))
  where
    by : Greatest q of k → (has q k ≡ true) ⊎ (has q k ≡ false) → Greatest q of (suc k)
    by G (inr out) = record { rank = G.rank; within = G.within; greatest = λ f lt z. elim (up_to f k lt) [ inl e ↦ absurd (false≢true (sym out ∙ subst (λ (x : ℕ). has q x ≡ true) e z)) | inr low ↦ G.greatest f low z ] }
    by G (inl there) = elim (cases_lt (of G.rank) (of k)) [
      | inl less ↦ record { rank = k; within = there; greatest = λ f lt z. elim (up_to f k lt) [ inl e ↦ (let s = ap of e in omega arith) | inr low ↦ (let g = G.greatest f low z in omega arith) ] }
      | inr ge ↦ record { rank = G.rank; within = G.within; greatest = λ f lt z. elim (up_to f k lt) [ inl e ↦ (let s = ap of e in omega arith) | inr low ↦ G.greatest f low z ] }
    ]

-- ---- those that a plan names

pub record IsLowest (q : List Bool) (test : ℕ → Bool) (rank : ℕ) : Type 0 where
  pub within : has q rank ≡ true
  pub passes : test rank ≡ true
  pub least : (f : ℕ) → has q f ≡ true → test f ≡ true → rank ≤ f

pub lowest_of : (q : List Bool) (test : ℕ → Bool) (m : ℕ) → has q m ≡ true → test m ≡ true → IsLowest q test (lowest test q)
unfolding lowest
lowest_of [] test m h t = absurd (false≢true h)
lowest_of (b ∷ q) test m h t = by (b && test 0) refl m h t (λ m h t. lowest_of q (λ k. test (suc k)) m h t)
  where
    after : (L : IsLowest q (λ k. test (suc k)) (lowest (λ k. test (suc k)) q)) → (b && test 0) ≡ false → (f : ℕ) → has (b ∷ q) f ≡ true → test f ≡ true → suc (lowest (λ k. test (suc k)) q) ≤ f
    after L out zero k u = absurd (false≢true (sym out ∙ (λ j. k j && u j)))
    after L out (suc f) k u = let z = L.least f k u in omega arith

    by : (c : Bool) → (b && test 0) ≡ c → (m : ℕ) → has (b ∷ q) m ≡ true → test m ≡ true → ((m : ℕ) → has q m ≡ true → test (suc m) ≡ true → IsLowest q (λ k. test (suc k)) (lowest (λ k. test (suc k)) q)) → IsLowest (b ∷ q) test (cond c 0 (suc (lowest (λ k. test (suc k)) q)))
    by true both m h t below = let p = and_parts b (test 0) both in record { within = p.0; passes = p.1; least = λ f k u. omega arith }
    by false out zero h t below = absurd (false≢true (sym out ∙ (λ j. h j && t j)))
    by false out (suc m) h t below = let L = below m h t in record { within = L.within; passes = L.passes; least = after L out }

pub record IsHighest (number : ℕ → ℕ) (q : List Bool) (k top : ℕ) : Type 0 where
  pub within : has q top ≡ true
  pub greatest : (f : ℕ) → f < k → has q f ≡ true → number f ≤ number top

pub highest_of : (number : ℕ → ℕ) (q : List Bool) (r : ℕ) → has q r ≡ true → (k : ℕ) → IsHighest number q k (highest number q r k)
unfolding highest
highest_of number q r h zero = record { within = h; greatest = λ f lt z. absurd (omega arith) }
highest_of number q r h (suc k) = by (highest number q r k) (highest_of number q r h k)
  where
    by : (top : ℕ) → IsHighest number q k top → IsHighest number q (suc k) (cond (has q k && ltb (number top) (number k)) k top)
    by top G = cond_both (has q k && ltb (number top) (number k)) k top (IsHighest number q (suc k))
        (λ t. let p = and_parts (has q k) (ltb (number top) (number k)) t in record {
          within = p.0;
          greatest = λ f lt z. elim (up_to f k lt) [ inl e ↦ (let s = ap number e in omega arith) | inr low ↦ (let g = G.greatest f low z in let y = ltb-true (number top) (number k) p.1 in omega arith) ];
        })
        (λ t. record {
          within = G.within;
          greatest = λ f lt z. elim (up_to f k lt) [
            | inl e ↦ (let h = subst (λ (x : ℕ). has q x ≡ true) e z in let y = ltb-false (number top) (number k) (sym (λ i. h i && ltb (number top) (number k)) ∙ t) in let s = ap number e in omega arith)
            | inr low ↦ G.greatest f low z
          ];
        })

-- A majority of several monitors has others in it.
use Rattle.law_names.proofs.Table.{Me, count_of, has, is_empty, is_majority, members, only}
use Rattle.log_copies.proofs.Rows.{HasOthers}
use Rattle.quorum_walk.proofs.Ranks.{Below, alone_within, has_only_is, within_at}
use Rattle.std.proofs.Common.{Bool, List, [], arith, cond, false, refl, suc, true, zero, ℕ, ◌*◌, ◌+◌, ◌<◌, ◌∷◌, ◌≡◌, ◌≤◌}
use Rattle.std.proofs.lemmas.Bool.{ltb-true}
use Rattle.std.proofs.lemmas.List.Sums.{sum_by-cons}

count_cons : (a : Bool) (A : List Bool) → count_of (a ∷ A) ≡ cond a 1 0 + count_of A
count_cons a A = sum_by-cons (λ (b : Bool). cond b 1 0) a A

nobody_counts : (A : List Bool) → ((m : ℕ) → has A m ≡ true → ⊥) → count_of A ≤ 0
nobody_counts [] h = omega arith
nobody_counts (true ∷ A) h = absurd (h 0 refl)
nobody_counts (false ∷ A) h = let s = nobody_counts A (λ m k. h (suc m) k) in omega (arith, count_cons false A)

one_counts : (A : List Bool) (r : ℕ) → ((m : ℕ) → has A m ≡ true → m ≡ r) → count_of A ≤ 1
one_counts [] r h = omega arith
one_counts (true ∷ A) r h = let z = h 0 refl in let s = nobody_counts A (λ m k. let t = h (suc m) k in absurd (omega arith)) in omega (arith, count_cons true A)
one_counts (false ∷ A) zero h = let s = nobody_counts A (λ m k. let t = h (suc m) k in absurd (omega arith)) in omega (arith, count_cons false A)
one_counts (false ∷ A) (suc r) h = let s = one_counts A r (λ m k. let t = h (suc m) k in omega arith) in omega (arith, count_cons false A)

-- if there is nobody else, it is alone
pub others : (me : Me) (q : List Bool) → 1 < me.member.monitors → is_majority me.member.monitors q ≡ true → Below me.member.monitors q → HasOthers me q
others me q several major below = by (is_empty (members me q)) refl
  where
    alone : is_empty (members me q) ≡ true → count_of q ≤ 1
    alone e =
        let low : me.member.rank < 15 = (let a = me.member.in_map in let b = me.member.most in omega arith) in
        let W = alone_within me.member.monitors me.member.rank q low e in
        one_counts q me.member.rank (λ m k. has_only_is me.member.rank m (within_at me.member.monitors q (only me.member.rank) m W (below m k) k))

    by : (b : Bool) → is_empty (members me q) ≡ b → b ≡ false
    by false e = refl
    by true e = let s = alone e in let t = ltb-true me.member.monitors (2 * count_of q) major in absurd (omega arith)

-- Sets of ranks below n stay such, and so do the ranks that are distinguished in them.
use Rattle.std.proofs.Common.{◌≡◌, ℕ, zero, suc, ◌+◌, ◌<◌, ◌≤◌, ◌^◌, ◌⊎◌, Bool, true, false, not, ◌&&◌, eqb, List, [], ◌∷◌, inl, inr, refl, sym, ap, ◌∙◌, arith}
use Rattle.std.proofs.Math.Nat.{pow-suc}
use Rattle.std.proofs.lemmas.Bool.{false≢true, cases_eq}
use Rattle.std.proofs.lemmas.List.{length-set}
use Rattle.std.specs.List.{AllByRecursion, filter, range_with_len}
use Rattle.std.specs.Prelude.{slice_set}
use Rattle.quorum_walk.proofs.Lists.{all_filter}
use Rattle.mon_bounds.specs.Remembered.{IsSet}
use Rattle.mon_msg.specs.Protocol.Sending.{members, others}
use Rattle.mon_msg.specs.Protocol.Sets.{is_empty, only}
use Rattle.mon_msg.specs.declared.view.Me.{Me}
use Rattle.mon_types.specs.Ranks.{has, no_ranks, to_bits, with_rank}

-- a rank below n keeps the bits below n
bits_with : (s : List Bool) (f n : ℕ) → to_bits s < 2 ^ n → f < n → to_bits (slice_set s f true) < 2 ^ n
bits_with [] f n h lt = h
bits_with (b ∷ s) f zero h lt = absurd (omega arith)
bits_with (true ∷ s) zero (suc n) h lt = h
bits_with (false ∷ s) zero (suc n) h lt = let p = pow-suc 2 n in omega (arith, h, p)
bits_with (true ∷ s) (suc f) (suc n) h lt =
    let p = pow-suc 2 n in
    let rest = bits_with s f n (omega (arith, h, p)) (omega arith) in
    omega (arith, rest, p)
bits_with (false ∷ s) (suc f) (suc n) h lt =
    let p = pow-suc 2 n in
    let rest = bits_with s f n (omega (arith, h, p)) (omega arith) in
    omega (arith, rest, p)

pub set_with : (n f : ℕ) (s : List Bool) → IsSet n s → f < n → IsSet n (with_rank s f)
set_with n f s h lt = (length-set s f true ∙ h.0, bits_with s f n h.1 lt)

positive : (n : ℕ) → 0 < 2 ^ n
positive zero = omega arith
positive (suc n) = let p = pow-suc 2 n in let rest = positive n in omega (arith, p, rest)

pub set_none : (n : ℕ) → IsSet n no_ranks
set_none n = (refl, positive n)

pub set_only : (n r : ℕ) → r < n → IsSet n (only r)
set_only n r lt = set_with n r no_ranks (set_none n) lt

-- ---- ranks below n

all_range : (n a k : ℕ) → a + k ≤ n → AllByRecursion (λ (i : ℕ). i < n) (range_with_len a k)
all_range n a zero h = tt
all_range n a (suc k) h = (omega arith, all_range n (a + 1) k (omega arith))

pub members_below : (me : Me) (q : List Bool) → AllByRecursion (λ (k : ℕ). k < me.member.monitors) (members me q)
members_below me q = all_filter (λ (k : ℕ). k < me.member.monitors) _ (range_with_len 0 me.member.monitors) (all_range me.member.monitors 0 me.member.monitors (omega arith))

pub others_below : (me : Me) → AllByRecursion (λ (k : ℕ). k < me.member.monitors) (others me)
others_below me = all_filter (λ (k : ℕ). k < me.member.monitors) _ (range_with_len 0 me.member.monitors) (all_range me.member.monitors 0 me.member.monitors (omega arith))

-- ---- a quorum in which another is

not_empty : (p : ℕ → Bool) (f a k : ℕ) → p f ≡ true → a ≤ f → f < a + k → is_empty (filter p (range_with_len a k)) ≡ false
not_empty p f a zero t le lt = absurd (omega arith)
not_empty p f a (suc k) t le lt = by (cases_eq f a) (p a) refl (λ (h : a + 1 ≤ f). not_empty p f (a + 1) k t h (omega arith))
  where
    by : (f ≡ a) ⊎ (f ≡ a → ⊥) → (b : Bool) → p a ≡ b → (a + 1 ≤ f → is_empty (filter p (range_with_len (a + 1) k)) ≡ false) → is_empty (filter p (range_with_len a (suc k))) ≡ false
    by c true e rest = rw e refl
    by (inl same) false e rest = absurd (false≢true (sym e ∙ ap p (sym same) ∙ t))
    by (inr ne) false e rest = rw e (rest (omega arith))

pub not_alone : (me : Me) (q : List Bool) (f : ℕ) → has q f ≡ true → eqb f me.member.rank ≡ false → f < me.member.monitors → is_empty (members me q) ≡ false
not_alone me q f t ne lt = not_empty (λ k. has q k && not (eqb k me.member.rank)) f 0 me.member.monitors (rw (t, ne) refl) (omega arith) (omega arith)

-- Filling an array of fifteen from the front, as a loop does.
use Rattle.std.proofs.Common.{◌≡◌, ℕ, ◌-◌, ◌+◌, ◌≤◌, ◌<◌, List, [], ◌∷◌, ◌++◌, length, replicate, set, Result, Ok, Err, refl, sym, ap, ◌∙◌, arith}
use Rattle.std.proofs.lemmas.List.{length-append}
use Rattle.mon_types.proofs.Bits.{filled_one}
use Rattle.mon_bytes.specs.Reading.{Reading}
use Rattle.mon_bytes.proofs.Formats.{fails_on}
use Rattle.mon_wire.specs.declared.refusal.MsgRefused.{MsgRefused}
use Rattle.mon_wire.specs.Message.Format.{no_memory, Fails, Reader, items}
use Rattle.mon_wire.specs.Message.Scores.{padded_at}
use Rattle.mon_bytes.proofs.ItemsLoop.{with_front, goes_on, ends, is_done}

with_front-nil : {A : Type 0} (r : Result (List A × Reading) MsgRefused) → with_front [] r ≡ r
with_front-nil (Ok x) = refl
with_front-nil (Err e) = refl

-- the first i were read, and the others are as at first
pub record SoFar {A : Type 0} (read : Reader A) (n i : ℕ) (d : A) (c : Reading) (xs : List A) (total : Result (List A × Reading) MsgRefused) : Type 0 where
  pub front : List A
  pub count : length front ≡ i
  pub whole : xs ≡ front ++ replicate (15 - i) d
  pub more : with_front front (items read (n - i) c) ≡ total

pub so_far_first : {A : Type 0} (read : Reader A) (n : ℕ) (d : A) (c : Reading) (xs : List A) → xs ≡ replicate 15 d → SoFar read n 0 d c xs (items read n c)
so_far_first {A} read n d c xs e =
    let none : n - 0 ≡ n = omega arith in
    let all : with_front [] (items read (n - 0) c) ≡ items read n c = ap (λ (k : ℕ). with_front [] (items read k c)) none ∙ with_front-nil (items read n c) in
    record { front = []; count = refl; whole = e; more = all }

pub so_far_next : {A : Type 0} (read : Reader A) (n i : ℕ) (d : A) (c after : Reading) (x : A) (xs : List A) (total : Result (List A × Reading) MsgRefused) → n ≤ 15 → i < n → SoFar read n i d c xs total → read c ≡ Ok (x, after) → SoFar read n (i + 1) d after (set xs i x) total
so_far_next read n i d c after x xs total few lt s h = record {
  front = s.front ++ x ∷ [];
  count = omega (arith, length-append s.front (x ∷ []), s.count);
  whole = filled_one i d x s.front xs (omega (arith, lt, few)) s.count s.whole;
  more = goes_on read s.front n i c after x total lt h s.more;
}

pub so_far_ends : {A : Type 0} (read : Reader A) (e : MsgRefused) (n i : ℕ) (d : A) (c first : Reading) (xs : List A) → i < n → SoFar read n i d c xs (items read n first) → Fails e (read c) → Fails e (padded_at n d read first)
unfolding padded_at
so_far_ends read e n i d c first xs lt s h =
    fails_on no_memory e (items read n first) (λ ys. Ok (ys.0 ++ replicate (15 - n) d, ys.1)) (ends no_memory read e s.front n i c (items read n first) lt h s.more)

pub so_far_done : {A : Type 0} (read : Reader A) (n i : ℕ) (d : A) (c first : Reading) (xs : List A) → n ≤ i → i ≤ n → SoFar read n i d c xs (items read n first) → padded_at n d read first ≡ Ok (xs, c)
unfolding padded_at
so_far_done {A} read n i d c first xs ge le s =
    let all : items read n first ≡ Ok (s.front, c) = is_done read s.front n i c (items read n first) ge s.more in
    let same : i ≡ n = omega (arith, ge, le) in
    let whole : s.front ++ replicate (15 - n) d ≡ xs = ap (λ (k : ℕ). s.front ++ replicate (15 - k) d) (sym same) ∙ sym s.whole in
    rw (all, whole) refl

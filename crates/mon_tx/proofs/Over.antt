-- Reading over changes finds what reading them finds.
use Rattle.std.proofs.Common.{◌≡◌, ℕ, ◌+◌, ◌-◌, ◌≤◌, ◌<◌, Bool, true, false, not, ◌&&◌, ◌||◌, cond, eqb, is_ok, List, ◌∷◌, length, Result, Ok, Err, refl, sym, ap, ◌∙◌, arith}
use Rattle.std.specs.List.{list_any}
use Rattle.std.proofs.lemmas.Bool.{eq-eqb, ne_eqb}
use Rattle.mon_bytes.specs.declared.cursor.Short.{Short}
use Rattle.mon_bytes.specs.Reading.{Reading, number}
use Rattle.mon_tx.specs.declared.op.Op.{Op}
use Rattle.mon_tx.specs.declared.refusal.TxRefused.{TxRefused}
use Rattle.mon_tx.specs.declared.refusal.TxRefused.TheVariants as refused
use Rattle.mon_tx.specs.Text.{is_range}
use Rattle.mon_tx.specs.Fields.{◌>>=◌, format_at}
use Rattle.mon_tx.specs.Decode.{op_at, ops_at, ops_of}
use Rattle.mon_tx.specs.EncodedOp.{range_at, ranges_at}
use Rattle.mon_tx.proofs.Loop.{one_more}

-- whether there was a range before, or is one among the changes that are read
abbrev pub with_range : Bool → Result (List Op × Reading) TxRefused → Result (Bool × Reading) TxRefused
with_range before read = do
  ops ← read
  Ok (before || list_any is_range ops.0, ops.1)

pub or-assoc : (a b c : Bool) → (a || (b || c)) ≡ ((a || b) || c)
or-assoc true b c = refl
or-assoc false b c = refl

pub or-false : (a : Bool) → (a || false) ≡ a
or-false true = refl
or-false false = refl

regroup : (found : Bool) (op : Op) (read : Result (List Op × Reading) TxRefused) → with_range found (read >>= λ x. Ok (op ∷ x.0, x.1)) ≡ with_range (found || is_range op) read
regroup found op (Ok x) = ap (λ (b : Bool). Ok (b, x.1)) (or-assoc found (is_range op) (list_any is_range x.0))
regroup found op (Err e) = refl

pub goes_over : (found range : Bool) (format count i : ℕ) (c after : Reading) (total : Result (Bool × Reading) TxRefused) → i < count → range_at format c ≡ Ok (range, after)
    → with_range found (ops_at format (count - i) c) ≡ total → with_range (found || range) (ops_at format (count - (i + 1)) after) ≡ total
goes_over found range format count i c after total lt h so_far = by (op_at format c) refl
  where
    by : (one : Result (Op × Reading) TxRefused) → op_at format c ≡ one → with_range (found || range) (ops_at format (count - (i + 1)) after) ≡ total
    by (Ok op) e =
        let read : ◌≡◌ {A = Result (Bool × Reading) TxRefused} (Ok (is_range op.0, op.1)) (Ok (range, after)) = rw e at h in
        let pair : (is_range op.0, op.1) ≡ (range, after) = cc in
        let is : is_range op.0 ≡ range = ap (λ (p : Bool × Reading). p.0) pair in
        let next : op.1 ≡ after = ap (λ (p : Bool × Reading). p.1) pair in
        let step : with_range found (ops_at format (count - i) c) ≡ with_range (found || is_range op.0) (ops_at format (count - (i + 1)) op.1) =
        rw (one_more format count i c lt, e) (regroup found op.0 (ops_at format (count - (i + 1)) op.1)) in
        (λ j. with_range (found || sym is j) (ops_at format (count - (i + 1)) (sym next j))) ∙ sym step ∙ so_far
    by (Err f) e = let read : ◌≡◌ {A = Result (Bool × Reading) TxRefused} (Err f) (Ok (range, after)) = rw e at h in absurd cc

pub stops : (found : Bool) (format count i : ℕ) (c : Reading) (total : Result (Bool × Reading) TxRefused) (e : TxRefused) → i < count → range_at format c ≡ Err e
    → with_range found (ops_at format (count - i) c) ≡ total → total ≡ Err e
stops found format count i c total e lt h so_far = by (op_at format c) refl
  where
    by : (one : Result (Op × Reading) TxRefused) → op_at format c ≡ one → total ≡ Err e
    by (Ok op) f = let read : ◌≡◌ {A = Result (Bool × Reading) TxRefused} (Ok (is_range op.0, op.1)) (Err e) = rw f at h in absurd cc
    by (Err g) f =
        let read : ◌≡◌ {A = Result (Bool × Reading) TxRefused} (Err g) (Err e) = rw f at h in
        let step : with_range found (ops_at format (count - i) c) ≡ Err g = rw (one_more format count i c lt, f) refl in
        sym so_far ∙ step ∙ read

pub is_over : (found : Bool) (format count i : ℕ) (c : Reading) (total : Result (Bool × Reading) TxRefused) → count ≤ i → with_range found (ops_at format (count - i) c) ≡ total → total ≡ Ok (found, c)
unfolding ops_at
is_over found format count i c total le so_far =
    let k : count - i ≡ 0 = omega arith in
    let one : with_range found (ops_at format (count - i) c) ≡ Ok (found, c) = rw k (ap (λ (b : Bool). Ok (b, c)) (or-false found)) in
    sym so_far ∙ one

-- ---- the whole text

-- the two last tests, as the code makes them
abbrev ends_well : ℕ → ℕ → Bool → Bool
ends_well left format range = not (not (eqb left 0)) && not (eqb format 2 && not range)

pub left_over : (left format : ℕ) (range : Bool) → (left ≡ 0 → ⊥) → ends_well left format range ≡ false
left_over left format range some = rw (ne_eqb left 0 some) refl

pub of_first : (left format : ℕ) (range : Bool) → left ≡ 0 → (format ≡ 2 → ⊥) → ends_well left format range ≡ not (eqb format 2)
of_first left format range none other = rw (eq-eqb left 0 none, ne_eqb format 2 other) refl

pub of_second : (left format : ℕ) (range : Bool) → left ≡ 0 → format ≡ 2 → ends_well left format range ≡ range
of_second left format true none two = rw (eq-eqb left 0 none, eq-eqb format 2 two) refl
of_second left format false none two = rw (eq-eqb left 0 none, eq-eqb format 2 two) refl

pub no_format : (c : Reading) (e : TxRefused) → format_at c ≡ Err e → is_ok (ops_of c) ≡ false
unfolding ops_of
no_format c e h = rw h refl

pub no_count : (c : Reading) (f : ℕ × Reading) (e : Short) → format_at c ≡ Ok f → number 4 f.1 ≡ Err e → is_ok (ops_of c) ≡ false
unfolding ops_of
no_count c f e h i = rw (h, i) refl

pub no_changes : (c : Reading) (f n : ℕ × Reading) (e : TxRefused) → format_at c ≡ Ok f → number 4 f.1 ≡ Ok n → ranges_at f.0 n.0 n.1 ≡ Err e → is_ok (ops_of c) ≡ false
unfolding ops_of
no_changes c f n e h i j = rw (h, i) (by (ops_at f.0 n.0 n.1) refl)
  where
    last : List Op × Reading → Result (List Op) TxRefused
    last = λ o. cond (not (eqb (length o.1.rest) 0)) (Err (refused.Rest o.1.at)) (cond (eqb f.0 2 && not (list_any is_range o.0)) (Err (refused.Kind c.at)) (Ok o.0))

    by : (r : Result (List Op × Reading) TxRefused) → ops_at f.0 n.0 n.1 ≡ r → is_ok (r >>= last) ≡ false
    by (Ok x) g = let read : ◌≡◌ {A = Result (Bool × Reading) TxRefused} (Ok (list_any is_range x.0, x.1)) (Err e) = rw g at j in absurd cc
    by (Err d) g = refl

tests : {A : Type 0} (a b : Bool) (d e : TxRefused) (x : A) → is_ok (cond a (Err d) (cond b (Err e) (Ok x))) ≡ (not a && not b)
tests true b d e x = refl
tests false true d e x = refl
tests false false d e x = refl

pub all_read : (c : Reading) (f n : ℕ × Reading) (b : Bool × Reading) → format_at c ≡ Ok f → number 4 f.1 ≡ Ok n → ranges_at f.0 n.0 n.1 ≡ Ok b
    → is_ok (ops_of c) ≡ ends_well (length b.1.rest) f.0 b.0
unfolding ops_of
all_read c f n b h i j = rw (h, i) (by (ops_at f.0 n.0 n.1) refl)
  where
    last : List Op × Reading → Result (List Op) TxRefused
    last = λ o. cond (not (eqb (length o.1.rest) 0)) (Err (refused.Rest o.1.at)) (cond (eqb f.0 2 && not (list_any is_range o.0)) (Err (refused.Kind c.at)) (Ok o.0))

    by : (r : Result (List Op × Reading) TxRefused) → ops_at f.0 n.0 n.1 ≡ r → is_ok (r >>= last) ≡ ends_well (length b.1.rest) f.0 b.0
    by (Ok x) g =
        let read : ◌≡◌ {A = Result (Bool × Reading) TxRefused} (Ok (list_any is_range x.0, x.1)) (Ok b) = rw g at j in
        let is : (list_any is_range x.0, x.1) ≡ b = cc in
        tests (not (eqb (length x.1.rest) 0)) (eqb f.0 2 && not (list_any is_range x.0)) (refused.Rest x.1.at) (refused.Kind c.at) x.0
        ∙ (λ k. not (not (eqb (length (is k).1.rest) 0)) && not (eqb f.0 2 && not (is k).0))
    by (Err d) g = let read : ◌≡◌ {A = Result (Bool × Reading) TxRefused} (Err d) (Ok b) = rw g at j in absurd cc

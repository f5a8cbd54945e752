-- Reading ops one after the other, as a loop does.
use Rattle.std.proofs.Common.{◌≡◌, ℕ, suc, ◌-◌, ◌+◌, ◌≤◌, ◌<◌, List, [], ◌∷◌, ◌++◌, Result, Ok, Err, refl, sym, ap, ◌∙◌, append_assoc, arith}
use Rattle.std.proofs.lemmas.List.{append-nil}
use Rattle.mon_bytes.specs.Reading.{Reading}
use Rattle.mon_tx.specs.declared.op.Op.{Op}
use Rattle.mon_tx.specs.declared.refusal.TxRefused.{TxRefused}
use Rattle.mon_bytes.specs.Answers.{◌>>=◌, Fails}
use Rattle.mon_tx.specs.Fields.{no_memory}
use Rattle.mon_tx.specs.Decode.{op_at, ops_at}
use Rattle.mon_tx.proofs.Faults.{fails_on}

-- what was read before, and what is still read
abbrev pub with_front : List Op → Result (List Op × Reading) TxRefused → Result (List Op × Reading) TxRefused
with_front front read = read >>= λ x. Ok (front ++ x.0, x.1)

regroup : (front : List Op) (op : Op) (read : Result (List Op × Reading) TxRefused) → with_front front (read >>= λ x. Ok (op ∷ x.0, x.1)) ≡ with_front (front ++ op ∷ []) read
regroup front op (Ok x) = ap (λ (ops : List Op). Ok (ops, x.1)) (simp append_assoc)
regroup front op (Err f) = refl

pub one_more : (format count i : ℕ) (c : Reading) → i < count → ops_at format (count - i) c ≡ (op_at format c >>= λ first. ops_at format (count - (i + 1)) first.1 >>= λ others. Ok (first.0 ∷ others.0, others.1))
unfolding ops_at
one_more format count i c lt = let k : count - i ≡ suc (count - (i + 1)) = omega arith in rw k refl

pub goes_on : (front : List Op) (format count i : ℕ) (c after : Reading) (op : Op) (total : Result (List Op × Reading) TxRefused) → i < count → op_at format c ≡ Ok (op, after)
    → with_front front (ops_at format (count - i) c) ≡ total → with_front (front ++ op ∷ []) (ops_at format (count - (i + 1)) after) ≡ total
goes_on front format count i c after op total lt h so_far =
    let one : with_front front (ops_at format (count - i) c) ≡ with_front (front ++ op ∷ []) (ops_at format (count - (i + 1)) after) = rw (one_more format count i c lt, h) (regroup front op (ops_at format (count - (i + 1)) after)) in
    sym one ∙ so_far

stopped : (front : List Op) (format count i : ℕ) (c : Reading) (total : Result (List Op × Reading) TxRefused) (e : TxRefused) → i < count → op_at format c ≡ Err e → with_front front (ops_at format (count - i) c) ≡ total → total ≡ Err e
stopped front format count i c total e lt h so_far =
    let one : with_front front (ops_at format (count - i) c) ≡ Err e = rw (one_more format count i c lt, h) refl in sym so_far ∙ one

pub ends : (e : TxRefused) (front : List Op) (format count i : ℕ) (c : Reading) (total : Result (List Op × Reading) TxRefused) → i < count → Fails no_memory e (op_at format c) → with_front front (ops_at format (count - i) c) ≡ total → Fails no_memory e total
ends e front format count i c total lt h so_far = fails_on e (op_at format c) total h (λ one. stopped front format count i c total e lt one so_far)

pub is_done : (front : List Op) (format count i : ℕ) (c : Reading) (total : Result (List Op × Reading) TxRefused) → count ≤ i → with_front front (ops_at format (count - i) c) ≡ total → total ≡ Ok (front, c)
unfolding ops_at
is_done front format count i c total le so_far =
    let k : count - i ≡ 0 = omega arith in
    let one : with_front front (ops_at format (count - i) c) ≡ Ok (front, c) = rw k (ap (λ (ops : List Op). Ok (ops, c)) (append-nil front)) in
    sym so_far ∙ one

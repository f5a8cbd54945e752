-- How long a transaction's text is, and what holds of each of its ops.
use Rattle.std.proofs.Common.{◌≡◌, ℕ, Bool, true, false, ◌++◌, take, refl, sym, subst, zero, suc, ◌+◌, ◌<◌, ◌≤◌, List, [], ◌∷◌, length, get_or, length-append, arith}
use Rattle.std.specs.List.{flat_map, list_all, AllByRecursion}
use Rattle.std.proofs.lemmas.List.{take_more}
use Rattle.std.proofs.lemmas.List.Folds.{list_all_at}
use Rattle.mon_tx.specs.declared.op.Op.{Op}
use Rattle.mon_tx.specs.declared.op.Op.TheVariants.{Put, Erase, ErasePrefix, EraseRange}
use Rattle.mon_tx.specs.Text.{op_text, value_len, is_upward}

op_is_longer : (op : Op) → value_len op + 1 ≤ length (op_text op)
op_is_longer (Put prefix key value) = simp length-append (omega arith)
op_is_longer (Erase prefix key) = simp length-append (omega arith)
op_is_longer (ErasePrefix prefix) = omega arith
op_is_longer (EraseRange prefix from to) = simp length-append (omega arith)

-- each op takes a byte at least
pub count_le : (ops : List Op) → length ops ≤ length (flat_map op_text ops)
count_le [] = omega arith
count_le (op ∷ ops) = omega (arith, count_le ops, op_is_longer op, length-append (op_text op) (flat_map op_text ops))

-- and its value's bytes
pub value_le : (ops : List Op) (i : ℕ) (d : Op) → i < length ops → value_len (get_or ops i d) ≤ length (flat_map op_text ops)
value_le [] i d lt = absurd (omega arith)
value_le (op ∷ ops) zero d lt = omega (arith, op_is_longer op, length-append (op_text op) (flat_map op_text ops))
value_le (op ∷ ops) (suc i) d lt = omega (arith, value_le ops i d (omega arith), length-append (op_text op) (flat_map op_text ops))

pub upward_at : (ops : List Op) (i : ℕ) (d : Op) → i < length ops → list_all is_upward ops ≡ true → is_upward (get_or ops i d) ≡ true
upward_at ops i d lt all = by (is_upward (get_or ops i d)) refl
  where
    by : (b : Bool) → is_upward (get_or ops i d) ≡ b → b ≡ true
    by true e = refl
    by false e = let odd = list_all_at is_upward ops i d lt e in absurd cc

all_append : (P : Op → Type 0) (ops : List Op) (op : Op) → AllByRecursion P ops → P op → AllByRecursion P (ops ++ op ∷ [])
all_append P [] op all h = (h, tt)
all_append P (x ∷ ops) op all h = (all.0, all_append P ops op all.1 h)

pub fits_more : (P : Op → Type 0) (ops : List Op) (i : ℕ) (op : Op) → i < length ops → op ≡ get_or ops i op → AllByRecursion P (take i ops) → P op → AllByRecursion P (take (i + 1) ops)
fits_more P ops i op lt is all h = subst (AllByRecursion P) (sym (take_more ops i op lt)) (all_append P (take i ops) (get_or ops i op) all (subst P is h))

-- A transaction in which each key is put once is no longer than the changes that it is made of.
use Rattle.std.proofs.Common.{◌≡◌, ℕ, ◌+◌, ◌≤◌, Bool, true, false, not, ◌&&◌, List, [], ◌∷◌, ◌++◌, length, Option, Some, None, arith, length-append}
use Rattle.std.specs.List.{flat_map, list_any}
use Rattle.mon_tx.specs.Map.{Place}
use Rattle.mon_tx.specs.Text.{op_text, text}
use Rattle.mon_tx.specs.declared.op.Op.{Op}
use Rattle.mon_tx.specs.declared.op.Op.TheVariants.{Put, Erase, ErasePrefix, EraseRange}
use Rattle.mon_msg.specs.Joined.{puts, takes_away, or_here, replaced, or_last, joined_with, joined_onto, joined}

-- how many bytes changes take
abbrev pub span : List Op → ℕ
span ops = length (flat_map op_text ops)

pub span-append : (a b : List Op) → span (a ++ b) ≡ span a + span b
span-append [] b = omega arith
span-append (op ∷ a) b =
    omega (arith, length-append (op_text op) (flat_map op_text (a ++ b)), length-append (op_text op) (flat_map op_text a), span-append a b)

pub span-cons : (op : Op) (ops : List Op) → span (op ∷ ops) ≡ length (op_text op) + span ops
span-cons op ops = length-append (op_text op) (flat_map op_text ops)

pub text_span : (ops : List Op) → length (text ops) ≡ 5 + span ops
text_span ops = simp length-append (omega arith)

abbrev AtMost : ℕ → Option (List Op) → Type 0
AtMost n None = Unit {0}
AtMost n (Some ops) = span ops ≤ n

here_short : (new op : Op) (ops : List Op) (here : Bool) (found : Option (List Op)) → AtMost (span ops + length (op_text new)) found
    → AtMost (span (op ∷ ops) + length (op_text new)) (or_here new op ops here found)
here_short new op ops here (Some found) k = omega (arith, span-cons op found, span-cons op ops)
here_short new op ops true None k = omega (arith, span-cons op ops, span-cons new ops)
here_short new op ops false None k = tt

replaced_short : (at : Place) (new : Op) (ops : List Op) → AtMost (span ops + length (op_text new)) (replaced at new ops)
replaced_short at new [] = tt
replaced_short at new (op ∷ ops) = here_short new op ops (puts at op && not (list_any (takes_away at) ops)) (replaced at new ops) (replaced_short at new ops)

at_end : (done : List Op) (op : Op) → span (done ++ op ∷ []) ≤ span done + length (op_text op)
at_end done op = omega (arith, span-append done (op ∷ []), span-cons op [])

last_short : (new : Op) (done : List Op) (found : Option (List Op)) → AtMost (span done + length (op_text new)) found → span (or_last new done found) ≤ span done + length (op_text new)
last_short new done None k = at_end done new
last_short new done (Some found) k = k

with_short : (done : List Op) (op : Op) → span (joined_with done op) ≤ span done + length (op_text op)
with_short done (Put prefix key value) = let new = Put prefix key value in last_short new done (replaced (prefix, key) new done) (replaced_short (prefix, key) new done)
with_short done (Erase prefix key) = at_end done (Erase prefix key)
with_short done (ErasePrefix prefix) = at_end done (ErasePrefix prefix)
with_short done (EraseRange prefix from to) = at_end done (EraseRange prefix from to)

onto_short : (done ops : List Op) → span (joined_onto done ops) ≤ span done + span ops
onto_short done [] = omega arith
onto_short done (op ∷ ops) = let t = onto_short (joined_with done op) ops in omega (arith, t, with_short done op, span-cons op ops)

pub joined_text : (ops : List Op) → length (text (joined ops)) ≤ 5 + span ops
unfolding joined
joined_text ops = omega (arith, text_span (joined_onto [] ops), onto_short [] ops)

-- A change as an encoding has it, and reading over changes.
use Rattle.std.specs.Prelude.{◌≡◌, ℕ, Bool, not, ◌&&◌, ◌||◌, ◌==◌, if◌then◌else◌, List, [], ◌∷◌, length, Option, Some, None, Result, Ok, Err}
use Rattle.std.specs.List.{list_any}
use Rattle.mon_bytes.specs.Reading.{Reading}
use Rattle.mon_tx.specs.declared.op.Op.{Op}
use Rattle.mon_tx.specs.declared.op.Op.TheVariants.{Put, Erase, ErasePrefix, EraseRange}
use Rattle.mon_tx.specs.declared.refusal.TxRefused.{TxRefused}
use Rattle.mon_tx.specs.declared.refusal.TxRefused.TheVariants as refused
use Rattle.mon_tx.specs.declared.encoded_op.EncodedOp.{EncodedOp}
use Rattle.mon_tx.specs.declared.encoded_op.EncodedOp.TheVariants as encoded_op
use Rattle.mon_tx.specs.declared.encoded_ops.EncodedOps.{EncodedOps}
use Rattle.mon_tx.specs.Text.{is_range}
use Rattle.mon_tx.specs.Fields.{◌>>=◌}
use Rattle.mon_tx.specs.Decode.{op_at, ops_at}

-- the change that it encodes
abbrev pub change : EncodedOp → Op
change (encoded_op.Put prefix key value) = Put prefix.now key.now value.now
change (encoded_op.Erase prefix key) = Erase prefix.now key.now
change (encoded_op.ErasePrefix prefix) = ErasePrefix prefix.now
change (encoded_op.EraseRange prefix from to) = EraseRange prefix.now from to

-- whether the next change is a range, and where the one after it begins
abbrev pub range_at : ℕ → Reading → Result (Bool × Reading) TxRefused
range_at format c = do
  op ← op_at format c
  Ok (is_range op.0, op.1)

-- whether there is a range among this many changes
abbrev pub ranges_at : ℕ → ℕ → Reading → Result (Bool × Reading) TxRefused
ranges_at format count c = do
  ops ← ops_at format count c
  Ok (list_any is_range ops.0, ops.1)

-- the changes that remain of a text of this format: `left` of them, and nothing after them; `ranged` is true if a range
-- was read before
unfoldable pub unread : ℕ → ℕ → Bool → Reading → Result (List Op) TxRefused
unread format left ranged c = do
  ops ← ops_at format left c
  if not (length ops.1.rest == 0) then Err (refused.Rest ops.1.at) else (
      if format == 2 && not (ranged || list_any is_range ops.0) then Err (refused.Kind 0) else Ok ops.0)

-- what is still to be read
abbrev pub rest_of : EncodedOps → Result (List Op) TxRefused
rest_of s = unread s.format s.left s.ranged s.cursor

-- The result of a call that reads the next change: `before` was unread before the call, and `after` is unread after it.
abbrev pub GoesOn : Result (Option EncodedOp) TxRefused → Result (List Op) TxRefused → Result (List Op) TxRefused
    → Type 0
GoesOn (Ok (Some op)) before after = before ≡ (after >>= λ ops. Ok (change op ∷ ops))
GoesOn (Ok None) before after = before ≡ Ok []
GoesOn (Err e) before after = before ≡ Err e

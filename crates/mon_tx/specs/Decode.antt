-- Reading a transaction from left to right, with the first fault that is met.
use Rattle.std.specs.Prelude.{ℕ, zero, suc, ◌<◌, ◌≤◌, ◌^◌, ◌&&◌, not, Bool, List, [], ◌∷◌, length, Result, Ok, Err, IsTrue, is_ok, nat_lt, ◌==◌, if◌then◌else◌}
use Rattle.std.specs.List.{list_any, AllByRecursion}
use Rattle.mon_bytes.specs.declared.limits.TheConstants.{MOST_NAME, MOST_PREFIX}
use Rattle.mon_bytes.specs.Reading.{Reading, number}
use Rattle.mon_bytes.specs.Texts.{is_name, is_prefix}
use Rattle.mon_tx.specs.declared.kinds.TheConstants.{PUT, ERASE, ERASE_PREFIX, ERASE_RANGE}
use Rattle.mon_tx.specs.declared.op.Op.{Op}
use Rattle.mon_tx.specs.declared.op.Op.TheVariants.{Put, Erase, ErasePrefix, EraseRange}
use Rattle.mon_tx.specs.declared.refusal.TxRefused.{TxRefused}
use Rattle.mon_tx.specs.declared.refusal.TxRefused.TheVariants as refused
use Rattle.mon_tx.specs.Text.{text, most, is_range}
use Rattle.mon_tx.specs.Fields.{◌>>=◌, cut, word_at, value_at, version_at, format_at}

unfoldable pub put_at : Reading → Result (Op × Reading) TxRefused
put_at c = do
  prefix ← word_at MOST_PREFIX c
  key ← word_at MOST_NAME prefix.1
  value ← value_at key.1
  Ok (Put prefix.0 key.0 value.0, value.1)

unfoldable pub erase_at : Reading → Result (Op × Reading) TxRefused
erase_at c = do
  prefix ← word_at MOST_PREFIX c
  key ← word_at MOST_NAME prefix.1
  Ok (Erase prefix.0 key.0, key.1)

unfoldable pub erase_prefix_at : Reading → Result (Op × Reading) TxRefused
erase_prefix_at c = do
  prefix ← word_at MOST_PREFIX c
  Ok (ErasePrefix prefix.0, prefix.1)

unfoldable pub erase_range_at : Reading → Result (Op × Reading) TxRefused
erase_range_at c = do
  prefix ← word_at MOST_PREFIX c
  from ← version_at prefix.1
  to ← version_at from.1
  if nat_lt from.0 to.0 then Ok (EraseRange prefix.0 from.0 to.0, to.1) else Err (refused.Range from.1.at)

-- a kind, and its fields; a range only in the second format
unfoldable pub op_at : ℕ → Reading → Result (Op × Reading) TxRefused
op_at format c = do
  kind ← cut (number 1 c)
  if kind.0 == PUT then put_at kind.1 else (if kind.0 == ERASE then erase_at kind.1 else (if kind.0 == ERASE_PREFIX then erase_prefix_at kind.1 else (
      if kind.0 == ERASE_RANGE && format == 2 then erase_range_at kind.1 else Err (refused.Kind c.at))))

unfoldable pub ops_at : ℕ → ℕ → Reading → Result (List Op × Reading) TxRefused
ops_at format zero c = Ok ([], c)
ops_at format (suc n) c = do
  first ← op_at format c
  others ← ops_at format n first.1
  Ok (first.0 ∷ others.0, others.1)

-- all of the bytes: nothing is left, and the second format is used only if there is a range
unfoldable pub ops_of : Reading → Result (List Op) TxRefused
ops_of c = do
  format ← format_at c
  count ← cut (number 4 format.1)
  ops ← ops_at format.0 count.0 count.1
  if not (length ops.1.rest == 0) then Err (refused.Rest ops.1.at) else (
      if format.0 == 2 && not (list_any is_range ops.0) then Err (refused.Kind c.at) else Ok ops.0)

unfoldable pub transaction_of : List ℕ → Result (List Op) TxRefused
transaction_of bytes =
    if nat_lt most (length bytes) then Err (refused.TooLong (length bytes)) else ops_of (record { at = 0; rest = bytes })

abbrev pub is_text : List ℕ → Bool
is_text bytes = is_ok (transaction_of bytes)

-- ---- what has a text

abbrev pub OpFits : Op → Type 0
OpFits (Put prefix key value) = IsTrue (is_prefix prefix) × IsTrue (is_name key) × (length value < 2 ^ 32)
OpFits (Erase prefix key) = IsTrue (is_prefix prefix) × IsTrue (is_name key)
OpFits (ErasePrefix prefix) = IsTrue (is_prefix prefix)
OpFits (EraseRange prefix from to) = IsTrue (is_prefix prefix) × (from < to) × (to ≤ 2 ^ 62)

pub record HasText (ops : List Op) : Type 0 where
  pub each : AllByRecursion OpFits ops
  pub short : length (text ops) ≤ most

-- ---- what bytes encode

abbrev pub ops_or_none : Result (List Op) TxRefused → List Op
ops_or_none (Ok ops) = ops
ops_or_none (Err e) = []

-- the changes of the transaction that the bytes encode, and none if they encode none
unfoldable pub ops_in : List ℕ → List Op
ops_in bytes = ops_or_none (transaction_of bytes)

-- The text of a transaction.
use Rattle.std.specs.Prelude.{ℕ, Bool, true, false, List, ◌∷◌, ◌++◌, length, nat_lt, if◌then◌else◌}
use Rattle.std.specs.List.{flat_map, list_any}
use Rattle.byteorder.specs.Endian.{little_bytes}
use Rattle.mon_tx.specs.declared.encode.TheConstants.{MOST_TRANSACTION}
use Rattle.mon_tx.specs.declared.kinds.TheConstants.{PUT, ERASE, ERASE_PREFIX, ERASE_RANGE}
use Rattle.mon_tx.specs.declared.op.Op.{Op}
use Rattle.mon_tx.specs.declared.op.Op.TheVariants.{Put, Erase, ErasePrefix, EraseRange}

-- a byte of length, and that many bytes
abbrev pub word : List ℕ → List ℕ
word bytes = length bytes ∷ bytes

-- a kind, and the fields of that kind
abbrev pub op_text : Op → List ℕ
op_text (Put prefix key value) = PUT ∷ word prefix ++ word key ++ little_bytes 4 (length value) ++ value
op_text (Erase prefix key) = ERASE ∷ word prefix ++ word key
op_text (ErasePrefix prefix) = ERASE_PREFIX ∷ word prefix
op_text (EraseRange prefix from to) = ERASE_RANGE ∷ word prefix ++ little_bytes 8 from ++ little_bytes 8 to

abbrev pub is_range : Op → Bool
is_range (Put prefix key value) = false
is_range (Erase prefix key) = false
is_range (ErasePrefix prefix) = false
is_range (EraseRange prefix from to) = true

-- the second format is that of transactions with a range, and of no others
abbrev pub format : List Op → ℕ
format ops = if list_any is_range ops then 2 else 1

-- the format, the count and the ops
abbrev pub text : List Op → List ℕ
text ops = format ops ∷ little_bytes 4 (length ops) ++ flat_map op_text ops

-- the longest text
abbrev pub most : ℕ
most = MOST_TRANSACTION

-- a range goes upward
abbrev pub is_upward : Op → Bool
is_upward (Put prefix key value) = true
is_upward (Erase prefix key) = true
is_upward (ErasePrefix prefix) = true
is_upward (EraseRange prefix from to) = nat_lt from to

abbrev pub value_len : Op → ℕ
value_len (Put prefix key value) = length value
value_len (Erase prefix key) = 0
value_len (ErasePrefix prefix) = 0
value_len (EraseRange prefix from to) = 0

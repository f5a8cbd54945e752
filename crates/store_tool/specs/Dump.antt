-- The texts of the two dumps.
use Rattle.std.specs.Prelude.{ℕ, zero, suc, ◌+◌, ◌-◌, min, List, [], ◌∷◌, ◌++◌, length, Option, Some, None, Result, Ok, Err, codes, decimal}
use Rattle.std.specs.List.{flat_map}
use Rattle.std.specs.FinMap.{entries}
use Rattle.mon_tx.specs.declared.op.Op.{Op}
use Rattle.mon_tx.specs.declared.op.Op.TheVariants.{Put, Erase, ErasePrefix, EraseRange}
use Rattle.mon_tx.specs.declared.refusal.TxRefused.{TxRefused}
use Rattle.mon_tx.specs.declared.key.Area.TheVariants.{Paxos}
use Rattle.mon_tx.specs.declared.key.Key.TheVariants.{LastCommitted, Version}
use Rattle.mon_tx.specs.Map.{Store}
use Rattle.mon_tx.specs.Keys.{cell, number}
use Rattle.mon_tx.specs.Decode.{transaction_of}
use Rattle.mon_store.specs.Checkpoint.{Entry}

-- ---- the keys

abbrev pub key_line : Entry → List ℕ
key_line e = e.0.0 ++ (codes " / " ++ (e.0.1 ++ 10 ∷ []))

-- a line for each key, in the map's order
abbrev pub keys_text : Store → List ℕ
keys_text m = flat_map key_line (entries m)

-- ---- the versions of Paxos

abbrev pub range_line : List ℕ → ℕ → ℕ → List ℕ
range_line prefix from to = codes "  erase-range " ++ (prefix ++ 32 ∷ (decimal from ++ 32 ∷ (decimal to ++ 10 ∷ [])))

-- a change, with the length of a value in its place
abbrev pub op_line : Op → List ℕ
op_line (Put prefix key value) = codes "  put " ++ (prefix ++ 32 ∷ (key ++ 32 ∷ (decimal (length value) ++ 10 ∷ [])))
op_line (Erase prefix key) = codes "  erase " ++ (prefix ++ 32 ∷ (key ++ 10 ∷ []))
op_line (ErasePrefix prefix) = codes "  erase-prefix " ++ (prefix ++ 10 ∷ [])
op_line (EraseRange prefix from to) = range_line prefix from to

-- The version, the number of its changes, and a line for each change; or that its record is no transaction.
abbrev pub transaction_lines : ℕ → Result (List Op) TxRefused → List ℕ
transaction_lines v (Ok ops) = decimal v ++ 32 ∷ (decimal (length ops) ++ 10 ∷ flat_map op_line ops)
transaction_lines v (Err e) = decimal v ++ codes " none\n"

-- nothing, if there is no record
abbrev pub record_lines : ℕ → Option (List ℕ) → List ℕ
record_lines v None = []
record_lines v (Some bytes) = transaction_lines v (transaction_of bytes)

abbrev pub version_lines : Store → ℕ → List ℕ
version_lines m v = record_lines v (cell m Paxos (Version v))

-- the lines of n versions, the first of which is v
unfoldable pub versions_text : Store → (v n : ℕ) → List ℕ
versions_text m v zero = []
versions_text m v (suc n) = version_lines m v ++ versions_text m (v + 1) n

-- the versions from one to another, up to the last that was committed
abbrev pub paxos_text : Store → (from to : ℕ) → List ℕ
paxos_text m from to = versions_text m from (min to (number m Paxos LastCommitted) + 1 - from)

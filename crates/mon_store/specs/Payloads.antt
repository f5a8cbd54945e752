-- What the payloads of a store's file make of a map.
use Rattle.std.specs.Prelude.{ℕ, ◌+◌, Bool, false, nat_le, ◌==◌, if◌then◌else◌, List, [], ◌∷◌, length, Option, Some, None, Result, Ok, Err}
use Rattle.std.specs.FinMap.{empty}
use Rattle.mon_bytes.specs.declared.command.MapRefused.{MapRefused}
use Rattle.mon_bytes.specs.Answers.{◌>>=◌}
use Rattle.mon_tx.specs.declared.op.Op.{Op}
use Rattle.mon_tx.specs.declared.refusal.TxRefused.{TxRefused}
use Rattle.mon_tx.specs.Map.{Store, apply}
use Rattle.mon_tx.specs.Decode.{transaction_of}
use Rattle.mon_kv.specs.Readers.{size_of}
use Rattle.mon_journal.specs.declared.stop.JournalStop.{JournalStop}
use Rattle.mon_journal.specs.declared.stop.JournalStop.TheVariants.{NotAStore}
use Rattle.mon_journal.specs.declared.journal.TheConstants.{FIRST_PAYLOAD, RECORD_HEAD}
use Rattle.mon_store.specs.declared.checkpoint.TheConstants.{CHECKPOINT}
use Rattle.mon_store.specs.Checkpoint.{most_size}
use Rattle.mon_store.specs.Decode.{checkpoint_of}

-- a map that isn't larger than a store may be
abbrev pub within : Store → Option Store
within m = if nat_le (size_of m) most_size then Some m else None

abbrev pub changed : Store → Result (List Op) TxRefused → Option Store
changed m (Ok ops) = within (apply ops m)
changed m (Err e) = None

-- the result of a transaction's encoding on a map, if it is one
unfoldable pub after : List ℕ → Store → Option Store
after payload m = changed m (transaction_of payload)

abbrev pub restored : Result Store MapRefused → Option Store
restored (Ok m) = within m
restored (Err e) = None

-- whether a payload begins as a checkpoint
abbrev pub is_checkpoint : List ℕ → Bool
is_checkpoint [] = false
is_checkpoint (kind ∷ bytes) = kind == CHECKPOINT

-- The map after the first payload of a file: that of a checkpoint, or the result of a transaction on nothing.
unfoldable pub begun : List ℕ → Option Store
begun payload = if is_checkpoint payload then restored (checkpoint_of (record { at = 0; rest = payload })) else after payload empty

-- a payload at fault is named by the place of its first byte
abbrev pub at_fault : ℕ → Option Store → Result Store JournalStop
at_fault at None = Err (NotAStore at)
at_fault at (Some m) = Ok m

-- the result of transactions' encodings on a map; the first of them begins at an offset
unfoldable pub folded : List (List ℕ) → ℕ → Store → Result Store JournalStop
folded [] at m = Ok m
folded (payload ∷ payloads) at m = do
  next ← at_fault at (after payload m)
  folded payloads (at + RECORD_HEAD + length payload) next

-- The map that the payloads of a file represent. The first of them begins after the header, a gate and a length.
unfoldable pub map_of : List (List ℕ) → Result Store JournalStop
map_of [] = Ok empty
map_of (payload ∷ payloads) = do
  first ← at_fault FIRST_PAYLOAD (begun payload)
  folded payloads (FIRST_PAYLOAD + RECORD_HEAD + length payload) first

-- Reading a checkpoint from left to right, with the first field at fault.
use Rattle.std.specs.Prelude.{ℕ, zero, suc, ◌+◌, List, [], ◌∷◌, Result, Ok, Err, ◌==◌, ◌||◌, nat_lt, if◌then◌else◌}
use Rattle.std.specs.Cmp.Lexicographic.{slice_cmp}
use Rattle.std.specs.Ordering.{nat_cmp, is_lt}
use Rattle.std.specs.FinMap.{from_sorted}
use Rattle.mon_bytes.specs.declared.command.MapRefused.{MapRefused}
use Rattle.mon_bytes.specs.declared.command.MapRefused.TheVariants.{Form}
use Rattle.mon_bytes.specs.Reading.{Reading, number, next_bytes}
use Rattle.mon_bytes.specs.Texts.{is_word}
use Rattle.mon_bytes.specs.declared.limits.TheConstants.{MOST_NAME, MOST_PREFIX}
use Rattle.mon_bytes.specs.Forms.{◌>>=◌, fitted, ended}
use Rattle.mon_tx.specs.Map.{Place, place_cmp, Store}
use Rattle.mon_store.specs.declared.checkpoint.TheConstants.{CHECKPOINT}
use Rattle.mon_store.specs.Checkpoint.{Entry}

-- a length from 1 to `most`, and this many graphic bytes
unfoldable pub word_at : ℕ → Reading → Result (List ℕ × Reading) MapRefused
word_at most c = do
  n ← fitted (number 1 c)
  if n.0 == 0 || nat_lt most n.0 then Err (Form c.at) else (do
    bytes ← fitted (next_bytes n.0 n.1)
    if is_word most bytes.0 then Ok bytes else Err (Form n.1.at))

-- a length, and this many bytes
unfoldable pub value_at : Reading → Result (List ℕ × Reading) MapRefused
value_at c = do
  n ← fitted (number 4 c)
  fitted (next_bytes n.0 n.1)

-- a prefix that isn't below the one before it; if it is, the fault is where its bytes begin
unfoldable pub prefix_at : List ℕ → Reading → Result (List ℕ × Reading) MapRefused
prefix_at before c = do
  prefix ← word_at MOST_PREFIX c
  if is_lt (slice_cmp nat_cmp prefix.0 before) then Err (Form (c.at + 1)) else Ok prefix

-- a key that is, with its prefix, above the place before it; if it isn't, the fault is where its bytes begin
unfoldable pub key_at : Place → List ℕ → Reading → Result (List ℕ × Reading) MapRefused
key_at before prefix c = do
  key ← word_at MOST_NAME c
  if is_lt (place_cmp before (prefix, key.0)) then Ok key else Err (Form (c.at + 1))

unfoldable pub entry_at : Place → Reading → Result (Entry × Reading) MapRefused
entry_at before c = do
  prefix ← prefix_at before.0 c
  key ← key_at before prefix.0 prefix.1
  value ← value_at key.1
  Ok (((prefix.0, key.0), value.0), value.1)

-- this many entries, each above the place before it
unfoldable pub entries_at : ℕ → Place → Reading → Result (List Entry × Reading) MapRefused
entries_at zero before c = Ok ([], c)
entries_at (suc n) before c = do
  first ← entry_at before c
  others ← entries_at n first.0.0 first.1
  Ok (first.0 ∷ others.0, others.1)

-- The map of a checkpoint, and what is left. Before the first entry there is nothing, which is below each prefix.
unfoldable pub map_at : Reading → Result (Store × Reading) MapRefused
map_at c = do
  kind ← fitted (number 1 c)
  if kind.0 == CHECKPOINT then (do
    count ← fitted (number 4 kind.1)
    entries ← entries_at count.0 ([], []) count.1
    Ok (from_sorted entries.0, entries.1)) else Err (Form c.at)

-- the map of a checkpoint, after which no byte follows
unfoldable pub checkpoint_of : Reading → Result Store MapRefused
checkpoint_of c = do
  map ← map_at c
  ended map

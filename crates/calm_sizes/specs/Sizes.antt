-- How long the values of a store may be.
use Rattle.std.specs.Prelude.{◌≡◌, ℕ, ◌≤◌, true, List, length, Some}
use Rattle.std.specs.FinMap.{get}
use Rattle.mon_tx.specs.declared.key.Area.TheVariants as area
use Rattle.mon_tx.specs.declared.key.Key.TheVariants as key
use Rattle.mon_tx.specs.Keys.{number, is_local}
use Rattle.mon_tx.specs.Map.{Place, Store}
use Rattle.mon_tx.specs.Text.{most}

-- no value of a store is longer than `limit` bytes
abbrev pub AllShort : (limit : ℕ) → Store → Type 0
AllShort limit m = (q : Place) (x : List ℕ) → get m q ≡ Some x → length x ≤ limit

-- no value of the monitor's own is longer than `limit` bytes
abbrev pub OwnShort : (limit : ℕ) → Store → Type 0
OwnShort limit m =
    (q : Place) (x : List ℕ) → is_local (number m area.Paxos key.LastCommitted) q ≡ true → get m q ≡ Some x
    → length x ≤ limit

-- no transaction has a longer text, so none puts a longer value
abbrev pub longest : ℕ
longest = most

-- The versions of a log that a monitor has, and what it does with them.
use Rattle.std.specs.List.{range_with_len}
use Rattle.std.specs.Prelude.{◌≡◌, ℕ, suc, ◌≤◌, List, length, map}
use Rattle.mon_tx.specs.declared.key.Area.TheVariants as area
use Rattle.mon_tx.specs.declared.key.Key.TheVariants as key
use Rattle.mon_tx.specs.declared.op.Op.{Op}
use Rattle.mon_tx.specs.Decode.{ops_in}
use Rattle.mon_tx.specs.Keys.{number, shared}
use Rattle.mon_tx.specs.Map.{Store, apply}
use Rattle.mon_msg.specs.Fold.{entry, fold}
use Rattle.mon_msg.specs.Joined.{joined}
use Rattle.mon_msg.specs.Protocol.Changes.{Change, Boot, Epoch, Numbers, Promise, Vote, encoded}

-- the store of a monitor that has the first c versions of the log
pub record HasVersions (log : List (List ℕ)) (c : ℕ) (m : Store) : Type 0 where
  pub within : c ≤ length log
  pub last : number m area.Paxos key.LastCommitted ≡ c
  pub folded : shared m ≡ fold log c

-- the values of `count` versions of a log, from version v on
abbrev pub values_from : List (List ℕ) → (v count : ℕ) → List (List Op)
values_from log v count = map (λ u. ops_in (entry log u)) (range_with_len v count)

-- the store once changes are written, as one transaction
abbrev pub store_after : List Change → Store → Store
store_after cs m = apply (joined (encoded cs)) m

-- A change of the own keys of a monitor that has c versions: its numbers, its epoch, its count of starts, or a vote for
-- version c + 1.
abbrev pub IsOwnChange : ℕ → Change → Type 0
IsOwnChange c (Boot n) = Unit {0}
IsOwnChange c (Epoch e) = Unit {0}
IsOwnChange c (Numbers pn) = Unit {0}
IsOwnChange c (Promise pn) = Unit {0}
IsOwnChange c (Vote v pn value) = v ≡ suc c
IsOwnChange c other = ⊥

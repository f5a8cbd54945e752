-- Agreement: no two monitors disagree on what is committed, and each version is what a client asked.
use Rattle.std.specs.Prelude.{◌≡◌, ℕ, suc, ◌<◌, ◌≤◌, max, true, List, length, Some, Ok}
use Rattle.std.specs.List.{Contains}
use Rattle.mon_bytes.specs.declared.command.Command.{Command}
use Rattle.mon_tx.specs.declared.op.Op.{Op}
use Rattle.mon_tx.specs.declared.key.Area.TheVariants as area
use Rattle.mon_tx.specs.declared.key.Key.TheVariants as key
use Rattle.mon_tx.specs.Map.{Store}
use Rattle.mon_tx.specs.Decode.{HasText}
use Rattle.mon_tx.specs.Keys.{cell, number, shared}
use Rattle.mon_tx.specs.Text.{text}
use Rattle.mon_kv.specs.Readers.{is_marked}
use Rattle.mon_msg.specs.Fold.{entry, fold}
use Rattle.mon_msg.specs.Protocol.Value.{value}
use Rattle.quorum_model.specs.Clients.{command_of}
use Rattle.quorum_model.specs.Growth.{last_of}
use Rattle.log_model.specs.LogOfValues.{IsCommand, view_at}
use Rattle.quorum_model.specs.World.{World, Asked}

-- A monitor's committed versions are entries of the log. Each record that its store still keeps has the entry's bytes,
-- and the shared keys of its store are the fold of the log up to its last version.
pub record Agrees (log : List (List ℕ)) (m : Store) : Type 0 where
  pub within : last_of m ≤ length log
  pub records : (v : ℕ) → max 1 (number m area.Paxos key.FirstCommitted) ≤ v → v ≤ last_of m
      → cell m area.Paxos (key.Version v) ≡ Some (entry log v)
  pub folded : shared m ≡ fold log (last_of m)

-- Version v + 1 of the log encodes the value of a command that a client asked one of n monitors, over the versions before it.
-- A text for the cluster log has the rank that was asked.
pub record IsAsked (n : ℕ) (asked : List Asked) (log : List (List ℕ)) (v : ℕ) : Type 0 where
  pub by : Asked
  pub was_asked : Contains asked by
  pub rank : by.rank < n
  pub command : Command
  pub is : command_of by.request ≡ Some command
  pub form : IsCommand command
  pub ops : List Op
  pub made : value (view_at log v) command by.rank ≡ Ok ops
  pub has_text : HasText ops
  pub encodes : entry log (suc v) ≡ text ops

-- a monitor under a full synchronization has no committed versions
pub record Agree (n : ℕ) (w : World) : Type 0 where
  pub monitors : (i : ℕ) → i < n → ¬ (is_marked (w.store i) ≡ true) → Agrees w.log (w.store i)
  pub values : (v : ℕ) → v < length w.log → IsAsked n w.asked w.log v

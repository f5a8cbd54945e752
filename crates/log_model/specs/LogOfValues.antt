-- Logs whose versions are values of commands.
use Rattle.std.specs.List.{range_with_len}
use Rattle.std.specs.Prelude.{◌≡◌, ℕ, suc, ◌-◌, ◌<◌, ◌≤◌, List, [], ◌∷◌, ◌++◌, length, map, Ok, IsTrue}
use Rattle.std.specs.Str.{is_utf8}
use Rattle.mon_bytes.specs.Texts.{is_name}
use Rattle.mon_bytes.specs.declared.command.Command.{Command}
use Rattle.mon_bytes.specs.declared.command.Command.TheVariants as command
use Rattle.mon_tx.specs.declared.key.Area.{Area}
use Rattle.mon_tx.specs.declared.key.Area.TheVariants as area
use Rattle.mon_tx.specs.declared.key.Key.TheVariants as key
use Rattle.mon_tx.specs.declared.op.Op.{Op}
use Rattle.mon_tx.specs.declared.op.Op.TheVariants.{EraseRange}
use Rattle.mon_tx.specs.Keys.{area_text}
use Rattle.mon_tx.specs.Map.{apply_op}
use Rattle.mon_tx.specs.Text.{text}
use Rattle.mon_msg.specs.Puts.{put_number}
use Rattle.mon_msg.specs.Fold.{entry, fold}
use Rattle.mon_msg.specs.Protocol.Changes.{erase}
use Rattle.mon_msg.specs.Protocol.Value.{value}
use Rattle.mon_msg.specs.Protocol.Readings.{Readings, readings_of}

-- A command's key is a name, and its value or text is UTF-8.
abbrev pub IsCommand : Command → Type 0
IsCommand (command.Set key value) = IsTrue (is_name key) × IsTrue (is_utf8 value)
IsCommand (command.Remove key) = IsTrue (is_name key)
IsCommand (command.Log text) = IsTrue (is_utf8 text)

-- Values that were made before there were ranges erase versions one by one, in order. A log may have begun with such
-- values, so each range of a value may also be encoded as erasures of its versions.
abbrev pub one_by_one : Area → ℕ → ℕ → List Op
one_by_one a from to = map (λ v. erase a (key.Version v)) (range_with_len from (to - from))

pub data IsOlder : List Op → List Op → Type 0 where
  none : IsOlder [] []
  same : (op : Op) {ops older : List Op} → IsOlder ops older → IsOlder (op ∷ ops) (op ∷ older)
  range : (a : Area) (from to : ℕ) {ops older : List Op} → IsOlder ops older → IsOlder (EraseRange (area_text a) from to ∷ ops) (one_by_one a from to ++ older)

-- what a store's readers return if the versions of a log up to v are committed
abbrev pub view_at : List (List ℕ) → ℕ → Readings
view_at log v = readings_of (apply_op (put_number area.Paxos key.LastCommitted v) (fold log v))

-- The changes are the value of a command that a monitor was asked, made over what a store's readers return. Each of its
-- ranges may be encoded one by one.
pub record IsValue (w : Readings) (older : List Op) : Type 0 where
  pub command : Command
  pub form : IsCommand command
  pub asked : ℕ
  pub rank : asked ≤ 14
  pub newer : List Op
  pub made : value w command asked ≡ Ok newer
  pub encoded : IsOlder newer older

-- version v + 1 of a log encodes a value over the result of the versions before it
pub record EncodesValue (log : List (List ℕ)) (v : ℕ) : Type 0 where
  pub changes : List Op
  pub value : IsValue (view_at log v) changes
  pub encodes : entry log (suc v) ≡ text changes

abbrev pub AllValues : List (List ℕ) → Type 0
AllValues log = (v : ℕ) → v < length log → EncodesValue log v

-- such a log of n versions
pub record LogOf (n : ℕ) : Type 0 where
  pub log : List (List ℕ)
  pub long : length log ≡ n
  pub all : AllValues log

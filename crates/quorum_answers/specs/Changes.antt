-- An answer with changes names at least the next one, if there is one.
use Rattle.std.specs.Prelude.{ℕ, ◌<◌, ◌≤◌, List, length}
use Rattle.std.specs.List.{AllByRecursion}
use Rattle.mon_msg.specs.Fold.{incrementals}
use Rattle.mon_wire.specs.declared.reply.Reply.{Reply}
use Rattle.mon_wire.specs.declared.reply.Reply.TheVariants as reply
use Rattle.quorum_model.specs.World.{World, Replied}

-- if there is an incremental after the first `from` ones, at least one is told
abbrev pub HasNext : (all : List (List ℕ)) → (from : ℕ) → (told : List (List ℕ)) → Type 0
HasNext all from told = from < length all → 1 ≤ length told

-- this holds of the log's incrementals up to the monitor's last version, if a reply lists changes
abbrev pub NamesNext : World → Replied → Reply → Type 0
NamesNext w r (reply.Since s from told more) = HasNext (incrementals s w.log r.last) from told
NamesNext w r other = Unit {0}

abbrev pub AllNameNext : World → Type 0
AllNameNext w = AllByRecursion (λ r. NamesNext w r r.reply) w.replied

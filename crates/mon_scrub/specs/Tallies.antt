-- What was counted of a map's shared entries.
use Rattle.std.specs.Prelude.{◌≡◌, ◌+◌, ◌<◌, ◌^◌, List, length}
use Rattle.std.specs.List.{flat_map}
use Rattle.sha2.specs.Hashers.{Holds256}
use Rattle.mon_tx.specs.Keys.{area_text}
use Rattle.mon_tx.specs.declared.key.Area.TheVariants.{Kv, Logm, Paxos}
use Rattle.mon_store.specs.Checkpoint.{Entry, entry_text}
use Rattle.mon_scrub.specs.declared.tally.Tally.{Tally}
use Rattle.mon_scrub.specs.declared.tally.Tallies.{Tallies}
use Rattle.mon_scrub.specs.Parts.{under}

-- the tally is of these entries
pub record Counted (t : Tally) (es : List Entry) : Type 0 where
  pub keys : t.keys ≡ length es
  pub hashed : Holds256 t.hasher (flat_map entry_text es)

-- these entries, each under its prefix
pub record AllCounted (t : Tallies) (es : List Entry) : Type 0 where
  pub kv : Counted t.kv (under (area_text Kv) es)
  pub logm : Counted t.logm (under (area_text Logm) es)
  pub paxos : Counted t.paxos (under (area_text Paxos) es)

-- one more entry can be counted
abbrev pub HasRoom : Tally → Type 0
HasRoom t = t.keys + 1 < 2 ^ 32

abbrev pub HaveRoom : Tallies → Type 0
HaveRoom t = HasRoom t.kv × HasRoom t.logm × HasRoom t.paxos

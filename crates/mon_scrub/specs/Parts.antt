-- What a report says of a monitor's map: of each part the number of its shared entries, and their digest.
use Rattle.std.specs.Prelude.{ℕ, List, [], ◌∷◌, length}
use Rattle.std.specs.List.{filter, flat_map}
use Rattle.std.specs.Str.{bytes_eq}
use Rattle.std.specs.FinMap.{entries}
use Rattle.sha2.specs.Sha256.{sha256}
use Rattle.mon_types.specs.declared.member.Member.{Member}
use Rattle.mon_tx.specs.Map.{Store}
use Rattle.mon_tx.specs.Keys.{area_text, number, shared}
use Rattle.mon_tx.specs.declared.key.Area.TheVariants.{Kv, Logm, Paxos}
use Rattle.mon_tx.specs.declared.key.Key.TheVariants as key
use Rattle.mon_kv.specs.Readers.{is_marked}
use Rattle.mon_store.specs.Checkpoint.{Entry, entry_text}
use Rattle.mon_scrub.specs.declared.report.Part.{Part}
use Rattle.mon_scrub.specs.declared.report.Report.{Report}

-- the entries under a prefix
abbrev pub under : List ℕ → List Entry → List Entry
under prefix es = filter (λ e. bytes_eq e.0.0 prefix) es

-- their number, and the SHA-256 of their texts one after the other, each as in a checkpoint
abbrev pub part_of : List Entry → Part
part_of es = record { keys = length es; digest = sha256 (flat_map entry_text es) }

-- the parts of these entries
abbrev pub parts_of_entries : List Entry → List Part
parts_of_entries es =
    part_of (under (area_text Kv) es) ∷ part_of (under (area_text Logm) es) ∷ part_of (under (area_text Paxos) es) ∷ []

-- the parts of the entries that a map shares, in order of key
abbrev pub parts_of : Store → List Part
parts_of m = parts_of_entries (entries (shared m))

-- the member, its last committed version, whether a full synchronization is in progress, and the parts
abbrev pub report_of : Member → Store → Report
report_of member m = record { member = member; last = number m Paxos key.LastCommitted; marked = is_marked m; parts = parts_of m }

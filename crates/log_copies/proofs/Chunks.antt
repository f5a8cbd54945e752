-- What a chunk holds of a log: the values of the versions after its place, and of the fold after them what lies between its
-- place and the one from which the next chunk goes on.
use Rattle.law_names.proofs.Table.{Body, Entry, KeyPlace, Op, Place as ChunkPlace, after_entries, apply, copy_changes, empty, encoded, fold, place, retain_keys}
use Rattle.log_copies.specs.Copies.{is_past}
use Rattle.log_model.proofs.Records.{AreVersions}
use Rattle.mon_bytes.specs.declared.entry.KeyPlace.TheVariants as key_place
use Rattle.mon_tx.specs.Map.{Place}
use Rattle.mon_tx.specs.declared.key.Area.TheVariants as area
use Rattle.mon_tx.specs.declared.key.Key.TheVariants as key
use Rattle.mon_wire.specs.declared.body.Body.TheVariants as body
use Rattle.std.proofs.Common.{Bool, List, false, length, not, suc, true, ℕ, ◌&&◌, ◌+◌, ◌≡◌, ◌≤◌}

-- after the one place, and at or before the other
abbrev pub between : KeyPlace → KeyPlace → Place → Bool
between x y at = is_past x at && not (is_past y at)

-- the entries carry a copy from the place on to the key y
pub record Continues (log : List (List ℕ)) (p : ChunkPlace) (y : KeyPlace) (values : List (List Op)) (entries : List Entry) : Type 0 where
  pub within : p.version + length values ≤ length log
  pub versions : AreVersions log (suc p.version) values
  pub onward : (at : Place) → is_past y at ≡ true → is_past p.key at ≡ true
  pub made : apply (encoded (copy_changes entries)) empty ≡ retain_keys (fold log (p.version + length values)) (between p.key y)

-- the key of the log's first version comes after the place
abbrev pub IsOpen : KeyPlace → Type 0
IsOpen x = is_past x (place area.Paxos key.FirstCommitted) ≡ true

-- A chunk carries a copy on up to its last entry, and if it isn't the last chunk, some keys follow that entry. The last
-- chunk carries the copy to its end.
abbrev pub ChunkOf : List (List ℕ) → Body → Type 0
ChunkOf log (body.Chunk cookie p values entries done) =
    Continues log p (after_entries entries p.key) values entries × (IsOpen p.key → (done ≡ false) × IsOpen (after_entries entries p.key))
ChunkOf log (body.LastChunk cookie p values entries last) = Continues log p key_place.Done values entries × (last ≡ p.version + length values)
ChunkOf log other = Unit {0}

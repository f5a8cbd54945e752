-- The copy of another monitor's store that a full synchronization makes, while the other's log goes on.
use Rattle.std.specs.Prelude.{◌≡◌, ℕ, suc, ◌-◌, ◌<◌, ◌≤◌, ◌⊎◌, Bool, true, false, not, ◌&&◌, List, [], ◌∷◌, Option, Some, None}
use Rattle.std.specs.FinMap.{get, retain_keys}
use Rattle.std.specs.List.{range_with_len}
use Rattle.std.specs.List as list
use Rattle.mon_bytes.specs.declared.entry.KeyPlace.{KeyPlace}
use Rattle.mon_tx.specs.declared.key.Area.TheVariants as area
use Rattle.mon_tx.specs.declared.key.Key.TheVariants as key
use Rattle.mon_tx.specs.Decode.{ops_in}
use Rattle.mon_tx.specs.Keys.{place, is_local}
use Rattle.mon_tx.specs.Map.{Place, Store, apply}
use Rattle.mon_msg.specs.Fold.{entry, fold}
use Rattle.mon_msg.specs.Protocol.Places.{is_after}
use Rattle.mon_msg.specs.Puts.{put}

-- Whether a key is a monitor's own, whichever its last version is. Every record thus counts as shared, as it does in a
-- copy, which has no last version.
abbrev pub is_own : Place → Bool
is_own at = is_local 0 at && is_local 1 at

-- ---- what a copy holds

-- A key holds what the log's fold holds under it at some version from s to e, or nothing if the fold has no such key.
pub record IsFolded (log : List (List ℕ)) (s e : ℕ) (at : Place) (held : Option (List ℕ)) : Type 0 where
  pub version : ℕ
  pub from : s ≤ version
  pub to : version ≤ e
  pub is : held ≡ get (fold log version) at

-- a key is that of a version after s, up to e, and holds the version's record
pub record IsRecord (log : List (List ℕ)) (s e : ℕ) (at : Place) (held : Option (List ℕ)) : Type 0 where
  pub version : ℕ
  pub from : s < version
  pub to : version ≤ e
  pub place : at ≡ place area.Paxos (key.Version version)
  pub is : held ≡ Some (entry log version)

-- whether a place comes after the one up to which a copy was made
abbrev pub is_past : KeyPlace → Place → Bool
is_past x at = is_after x (record { prefix = at.0; key = at.1; value = [] })

-- A copy of a log up to the place x, made while the log went from version s to e. Each shared key at or before x is as
-- at one of these versions. No shared key after x is there yet, except that records of the versions after s may be.
pub record IsFuzzyCopy (log : List (List ℕ)) (s e : ℕ) (x : KeyPlace) (m : Store) : Type 0 where
  pub made : (at : Place) → is_own at ≡ false → is_past x at ≡ false
      → IsFolded log s e at (get m at) ⊎ IsRecord log s e at (get m at)
  pub not_yet : (at : Place) → is_own at ≡ false → is_past x at ≡ true
      → (get m at ≡ None) ⊎ IsRecord log s e at (get m at)

-- ---- how it catches up

-- a store after version v of a log: its record is put, and then its changes are applied
abbrev pub with_version : List (List ℕ) → ℕ → Store → Store
with_version log v m = apply (put area.Paxos (key.Version v) (entry log v) ∷ ops_in (entry log v)) m

-- a copy of a log after the versions from s + 1 to e are applied to it
abbrev pub catch_up : List (List ℕ) → (s e : ℕ) → Store → Store
catch_up log s e m = list.fold (λ m v. with_version log v m) m (range_with_len (suc s) (e - s))

-- the shared part of a copy, with all of its records
abbrev pub shared_with_records : Store → Store
shared_with_records m = retain_keys m (λ at. not (is_own at))

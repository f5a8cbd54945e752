-- How a list of changes is joined: by picking, in order, those changes of it that are left.
use Rattle.std.specs.FinMap.{get}
use Rattle.std.specs.List.{AllByRecursion, list_any}
use Rattle.std.specs.Option.{option_map}
use Rattle.std.specs.Prelude.{◌≡◌, ℕ, suc, ◌≤◌, ◌<◌, Bool, not, ◌&&◌, List, Option, Some, None, if◌then◌else◌, [], ◌∷◌, length, drop, map, slice_index_or}
use Rattle.mon_msg.specs.Joined.{puts, takes_away, joined_onto, joined}
use Rattle.mon_tx.specs.Map.{Place, Store, number_bytes}
use Rattle.mon_tx.specs.declared.op.Op.TheVariants.{ErasePrefix}
use Rattle.mon_tx.specs.declared.op.Op.{Op}

abbrev pub slot_before : Bool → Option ℕ → Option ℕ
slot_before here (Some k) = Some (suc k)
slot_before here None = if here then Some 0 else None

-- the index of the last put of a key in a list, if no later change erases the key
abbrev pub slot : Place → List Op → Option ℕ
slot at [] = None
slot at (op ∷ ops) = slot_before (puts at op && not (list_any (takes_away at) ops)) (slot at ops)

abbrev pub op_at : List Op → ℕ → Op
op_at ops i = slice_index_or ops i (ErasePrefix [])

abbrev pub picked : List Op → List ℕ → List Op
picked ops order = map (op_at ops) order

-- The first i changes are joined: these are picked, and for each key whose put stays, the map has the index, counted from 1,
-- which the next put of the key replaces.
pub record IsJoined (ops : List Op) (i : ℕ) (order : List ℕ) (index : Store) : Type 0 where
  pub picks : joined_onto (picked ops order) (drop i ops) ≡ joined ops
  pub indexed : (at : Place) → get index at ≡ option_map (λ k. number_bytes (suc k)) (slot at (picked ops order))
  pub below : AllByRecursion (λ j. j < length ops) order
  pub few : length order ≤ i

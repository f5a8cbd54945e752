-- What changes decide about a place: the last change that concerns it decides.
use Rattle.std.specs.Prelude.{ℕ, ◌&&◌, if◌then◌else◌, List, [], ◌∷◌, Option, Some, None}
use Rattle.std.specs.Ordering.{eq_by_cmp}
use Rattle.std.specs.Str.{bytes_eq}
use Rattle.mon_tx.specs.declared.op.Op.{Op}
use Rattle.mon_tx.specs.declared.op.Op.TheVariants.{Put, Erase, ErasePrefix, EraseRange}
use Rattle.mon_tx.specs.Map.{Place, place_cmp, is_within}

-- what a map holds at a place
abbrev pub Cell : Type 0
Cell = Option (List ℕ)

-- the cell at a place after changes, or `None` if no change concerns the place
abbrev pub Decision : Type 0
Decision = Option Cell

-- what one change decides of a place
abbrev pub decided : Op → Place → Decision
decided (Put prefix key value) at = if eq_by_cmp place_cmp at (prefix, key) then Some (Some value) else None
decided (Erase prefix key) at = if eq_by_cmp place_cmp at (prefix, key) then Some None else None
decided (ErasePrefix prefix) at = if bytes_eq at.0 prefix then Some None else None
decided (EraseRange prefix from to) at = if bytes_eq at.0 prefix && is_within from to at.1 then Some None else None

-- the cell after a decision; without one it stays as before
abbrev pub or_before : Decision → Cell → Cell
or_before None before = before
or_before (Some answer) before = answer

abbrev pub later : Decision → Decision → Decision
later (Some answer) first = Some answer
later None first = first

abbrev pub decision : List Op → Place → Decision
decision [] at = None
decision (op ∷ ops) at = later (decision ops at) (decided op at)

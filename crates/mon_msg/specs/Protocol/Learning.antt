-- How values are learned.
use Rattle.std.specs.Prelude.{ℕ, suc, ◌+◌, List, Result, Ok, [], ◌∷◌, ◌-◌, length, max, drop}
use Rattle.mon_msg.specs.Protocol.Changes.{Change, Learn, Last}
use Rattle.mon_msg.specs.Protocol.Course.{Course, ◌▸◌, ◌>>=◌, checked, change, change_all}
use Rattle.mon_tx.specs.declared.op.Op.{Op}
use Rattle.mon_types.specs.declared.names.Which.TheVariants as which
use Rattle.mon_types.specs.declared.names.Which.{Which}

-- the values of the versions from v on: each record with the value's changes
abbrev pub learn_changes : (v : ℕ) → List (List Op) → List Change
learn_changes v [] = []
learn_changes v (value ∷ values) = Learn v value ∷ learn_changes (suc v) values

-- the values are learned, and the version of the last of them becomes the last version; without values nothing changes
unfoldable pub learn : (v : ℕ) → List (List Op) → Course → Result Course Which
learn v [] x = Ok x
learn v (value ∷ values) x = do
  last ← checked which.Version (v + length values)
  Ok (x ▸ change_all (learn_changes v (value ∷ values)) ▸ change (Last last))

-- ---- those that are new

-- of the values of the versions from `from` on, those of versions above `last`; and the version of the first of them
abbrev pub news : (last from : ℕ) → List (List Op) → List (List Op)
news last from values = drop (suc last - from) values

abbrev pub news_from : (last from : ℕ) → ℕ
news_from last from = max from (suc last)

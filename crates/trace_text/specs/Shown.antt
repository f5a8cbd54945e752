-- A shown map, as compact JSON.
use Rattle.std.specs.Prelude.{◌≡◌, ℕ, List, [], ◌∷◌, ◌++◌, length, Some, None, codes, decimal}
use Rattle.std.specs.FinMap.{entries, len}
use Rattle.json.specs.Print.{quoted}
use Rattle.map_log.specs.declared.inc.LogInc.{LogInc}
use Rattle.mon_wire.specs.declared.reply.ShownMap.{ShownMap}
use Rattle.mon_wire.specs.declared.reply.ShownMap.TheVariants.{Kv, Log}
use Rattle.serde.specs.Event.{Event, field_key, map_begins, map_ends, seq_begins, seq_ends, text, unsigned}
use Rattle.serde.specs.Event as serde
use Rattle.serde.specs.declared.name.Case.TheVariants.{AsIs}

-- a member of an object
abbrev pub member_text : List ℕ × List ℕ → List ℕ
member_text member = quoted member.0 ++ 58 ∷ quoted member.1

-- the members after the first, and the end of the object
abbrev pub members_text : List (List ℕ × List ℕ) → List ℕ
members_text [] = 125 ∷ []
members_text (member ∷ members) = 44 ∷ (member_text member ++ members_text members)

-- a compact object
abbrev pub object_text : List (List ℕ × List ℕ) → List ℕ
object_text [] = codes "{}"
object_text (member ∷ members) = 123 ∷ (member_text member ++ members_text members)

-- an entry of the cluster log: the monitor's rank and the text
abbrev pub item_text : LogInc → List ℕ
item_text inc = 91 ∷ (decimal inc.rank ++ 44 ∷ (quoted inc.text ++ 93 ∷ []))

-- the items after the first, and the end of the array
abbrev pub items_text : List LogInc → List ℕ
items_text [] = 93 ∷ []
items_text (inc ∷ incs) = 44 ∷ (item_text inc ++ items_text incs)

-- a compact array
abbrev pub array_text : List LogInc → List ℕ
array_text [] = codes "[]"
array_text (inc ∷ incs) = 91 ∷ (item_text inc ++ items_text incs)

abbrev pub shown_text : ShownMap → List ℕ
shown_text (Kv map) = object_text (entries map)
shown_text (Log incs) = array_text incs

-- ---- what is serialized, event by event

-- these events follow, after the earlier ones
abbrev pub AllLogged : serde.Log → serde.Log → List Event → Type 0
AllLogged None new es = Unit {0}
AllLogged (Some before) new es = new ≡ Some (before ++ es)

-- a member, members and the end of their object, an item, items and the end of their array
abbrev pub member_events : List ℕ × List ℕ → List Event
member_events member = field_key member.0 AsIs ∷ text member.1 ∷ []

abbrev pub members_events : List (List ℕ × List ℕ) → List Event
members_events [] = map_ends ∷ []
members_events (member ∷ members) = field_key member.0 AsIs ∷ text member.1 ∷ members_events members

abbrev pub item_events : LogInc → List Event
item_events inc = seq_begins (Some 2) ∷ unsigned inc.rank ∷ text inc.text ∷ seq_ends ∷ []

abbrev pub items_events : List LogInc → List Event
items_events [] = seq_ends ∷ []
items_events (inc ∷ incs) = seq_begins (Some 2) ∷ unsigned inc.rank ∷ text inc.text ∷ seq_ends ∷ items_events incs

abbrev pub shown_events : ShownMap → List Event
shown_events (Kv map) = map_begins (Some (len map)) ∷ members_events (entries map)
shown_events (Log incs) = seq_begins (Some (length incs)) ∷ items_events incs

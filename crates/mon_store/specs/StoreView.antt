-- The store that a member opens on two disks.
use Rattle.std.specs.Prelude.{List, ℕ, None, Result, Ok}
use Rattle.mon_types.specs.declared.names.Side.TheVariants.{A}
use Rattle.mon_types.specs.declared.member.Member.{Member}
use Rattle.mon_tx.specs.Map.{Store}
use Rattle.mon_journal.specs.declared.journal.Journal.{Journal}
use Rattle.mon_journal.specs.Content.{Held}
use Rattle.mon_journal.specs.Written.{owner_of, created}
use Rattle.mon_store.specs.declared.opening.LiveStore.{LiveStore}
use Rattle.mon_store.specs.Pair.{◌>>=◌, Refusal, Found, Create, Live, opened}

-- the live disk, its journal and the map, by a name for other crates
abbrev pub StoreView : Type 0
StoreView = LiveStore

-- the journal of a member's file
abbrev pub journal_of : Member → Held → Journal
journal_of member held = record { member = member; generation = held.header.generation; next_gate = held.next_gate; form = held.header.form }

-- what is opened with this map if this was found; a new store's live disk is A
abbrev pub standing_of : Member → Found → Store → StoreView
standing_of member Create m = record { side = A; journal = created member 1 None; kv = m }
standing_of member (Live side held) m = record { side = side; journal = journal_of member held; kv = m }

-- what a member opens on two disks with these bytes, or why it opens nothing
abbrev pub opens_as : Member → List ℕ → List ℕ → Result StoreView Refusal
opens_as member a b = do
  it ← opened (owner_of member) a b
  Ok (standing_of member it.0 it.1)

-- A store that is on two images.
use Rattle.std.proofs.Common.{◌≡◌, ℕ, List, Result, Ok, Option, refl, sym, ap, subst, ◌∙◌}
use Rattle.mon_types.specs.declared.names.Side.{Side}
use Rattle.mon_types.specs.declared.names.Side.TheVariants.{A, B}
use Rattle.mon_types.specs.declared.member.Member.{Member}
use Rattle.mon_tx.specs.Map.{Store}
use Rattle.mon_journal.specs.declared.stop.JournalStop.{JournalStop}
use Rattle.mon_journal.specs.declared.journal.Journal.{Journal}
use Rattle.mon_journal.specs.Content.{Held, content, payloads_in, payloads_of, held_by, Holds}
use Rattle.mon_journal.specs.Written.{owner_of}
use Rattle.mon_store.specs.Payloads.{map_of}
use Rattle.mon_store.specs.Pair.{stands}
use Rattle.mon_types.specs.Sides.{other as other_side}
use Rattle.mon_store.specs.Sound.{of_a, of_b, of_live, IsBelow, StandsOn}
use Rattle.mon_store.specs.StoreView.{opens_as}
use Rattle.mon_store.proofs.Pairs.{stands_for, opens_live, journal_is}

these : (j : Journal) (payloads : List (List ℕ)) (file : List ℕ) → Holds j payloads file → payloads_of file ≡ payloads
these j payloads file holds = ap (λ (k : Option (Result Held JournalStop)). payloads_in k) holds

pub on_held : (side : Side) (live other : List ℕ) (j : Journal) (payloads : List (List ℕ)) (m : Store) → Holds j payloads live → IsBelow j.generation (content other) → map_of payloads ≡ Ok m → StandsOn side j m (of_a side live other) (of_b side live other)
on_held side live other j payloads m holds below map = by side
  where
    held : Holds j (payloads_of live) live
    held = subst (λ (ps : List (List ℕ)). Holds j ps live) (sym (these j payloads live holds)) holds

    makes : map_of (payloads_of live) ≡ Ok m
    makes = ap map_of (these j payloads live holds) ∙ map

    by : (side : Side) → StandsOn side j m (of_a side live other) (of_b side live other)
    by A = record { holds = held; map = makes; below = below }
    by B = record { holds = held; map = makes; below = below }

-- the same with the disks' names exchanged
pub turned : (side : Side) (j : Journal) (m : Store) (c d : List ℕ) → StandsOn (other_side side) j m (of_a (other_side side) d c) (of_b (other_side side) d c) → StandsOn (other_side side) j m (of_a side c d) (of_b side c d)
turned A j m c d h = h
turned B j m c d h = h

pub live_is : {X : Type 0} (side : Side) (live other : X) → of_live side (of_a side live other) (of_b side live other) ≡ live
live_is A live other = refl
live_is B live other = refl

pub other_is : {X : Type 0} (side : Side) (live other : X) → of_live (other_side side) (of_a side live other) (of_b side live other) ≡ other
other_is A live other = refl
other_is B live other = refl

module _ (journal : Journal) (m : Store) where
  -- it represents its map
  pub store_view_map : (side : Side) (a b : List ℕ) → StandsOn side journal m a b → stands a b ≡ Ok m
  store_view_map A a b s = stands_for A a b (held_by journal (payloads_of a)) m s.holds s.below s.map
  store_view_map B a b s = stands_for B b a (held_by journal (payloads_of b)) m s.holds s.below s.map

  -- and its member opens it
  pub store_view_opens : (member : Member) (side : Side) (a b : List ℕ) → StandsOn side journal m a b → owner_of journal.member ≡ owner_of member → opens_as member a b ≡ Ok (record { side = side; journal = journal; kv = m })
  store_view_opens member A a b s own = opens_live member A a b (held_by journal (payloads_of a)) m s.holds s.below s.map own ∙ ap (λ (j : Journal). Ok (record { side = A; journal = j; kv = m })) (journal_is member journal (payloads_of a) own)
  store_view_opens member B a b s own = opens_live member B b a (held_by journal (payloads_of b)) m s.holds s.below s.map own ∙ ap (λ (j : Journal). Ok (record { side = B; journal = j; kv = m })) (journal_is member journal (payloads_of b) own)

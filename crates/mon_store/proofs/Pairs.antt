-- What two images represent, if one of them is live and the other doesn't count.
use Rattle.std.proofs.Common.{◌≡◌, ℕ, ◌<◌, true, false, eqb, ltb, List, length, Option, Some, None, Result, Ok, Err, refl, sym, ap, ◌∙◌, arith}
use Rattle.std.proofs.lemmas.Bool.Decides.{nat_tests}
use Rattle.mon_types.specs.declared.names.Side.{Side}
use Rattle.mon_types.specs.declared.names.Side.TheVariants.{A, B}
use Rattle.mon_types.proofs.Members.{same_member}
use Rattle.mon_tx.specs.Map.{Store}
use Rattle.mon_journal.specs.declared.stop.JournalStop.{JournalStop}
use Rattle.mon_types.specs.declared.member.Member.{Member}
use Rattle.mon_journal.specs.declared.journal.Journal.{Journal}
use Rattle.mon_journal.specs.Content.{Held, content, held_by}
use Rattle.mon_journal.specs.Fields.{Owner}
use Rattle.mon_journal.specs.Written.{owner_of}
use Rattle.mon_store.specs.Payloads.{map_of}
use Rattle.mon_store.specs.Pair.{◌>>=◌, Live, held_on, chosen, found, map_found, on, stands, owned, taken, opened}
use Rattle.mon_store.specs.Sound.{of_a, of_b, IsBelow}
use Rattle.mon_store.specs.StoreView.{journal_of, standing_of, opens_as}

-- the older of two files isn't live
older_b : (x y : Held) (a b : ℕ) → y.header.generation < x.header.generation → chosen (Some x) (Some y) a b ≡ Ok (Live A x)
older_b x y a b lt =
    let differ : eqb x.header.generation y.header.generation ≡ false = grind (arith, nat_tests, lt) in
    let above : ltb y.header.generation x.header.generation ≡ true = grind (arith, nat_tests, lt) in
    rw (differ, above) refl

older_a : (x y : Held) (a b : ℕ) → x.header.generation < y.header.generation → chosen (Some x) (Some y) a b ≡ Ok (Live B y)
older_a x y a b lt =
    let differ : eqb x.header.generation y.header.generation ≡ false = grind (arith, nat_tests, lt) in
    let above : ltb y.header.generation x.header.generation ≡ false = grind (arith, nat_tests, lt) in
    rw (differ, above) refl

found_a : (held : Held) (other : Option (Result Held JournalStop)) (a b : ℕ) → IsBelow held.header.generation other → (held_on B other >>= λ y. chosen (Some held) y a b) ≡ Ok (Live A held)
found_a held None a b below = refl
found_a held (Some (Ok y)) a b below = older_b held y a b below
found_a held (Some (Err e)) a b below = absurd below

found_b : (held : Held) (other : Option (Result Held JournalStop)) (a b : ℕ) → IsBelow held.header.generation other → (held_on A other >>= λ x. chosen x (Some held) a b) ≡ Ok (Live B held)
found_b held None a b below = refl
found_b held (Some (Ok x)) a b below = older_a x held a b below
found_b held (Some (Err e)) a b below = absurd below

pub found_live : (side : Side) (live other : List ℕ) (held : Held) → content live ≡ Some (Ok held) → IsBelow held.header.generation (content other) → found (of_a side live other) (of_b side live other) ≡ Ok (Live side held)
unfolding found
found_live A live other held is below = rw is (found_a held (content other) (length live) (length other) below)
found_live B live other held is below = rw is (found_b held (content other) (length other) (length live) below)

-- two images represent the map that the live file's payloads make
pub stands_live : (side : Side) (live other : List ℕ) (held : Held) → content live ≡ Some (Ok held) → IsBelow held.header.generation (content other) → stands (of_a side live other) (of_b side live other) ≡ on side (map_of held.payloads)
unfolding stands
stands_live side live other held is below = ap (λ f. f >>= map_found) (found_live side live other held is below)

pub stands_for : (side : Side) (live other : List ℕ) (held : Held) (m : Store) → content live ≡ Some (Ok held) → IsBelow held.header.generation (content other) → map_of held.payloads ≡ Ok m → stands (of_a side live other) (of_b side live other) ≡ Ok m
stands_for side live other held m is below map = stands_live side live other held is below ∙ ap (on side) map

-- the owner of the live file opens the two images
owned_own : (owner : Owner) (side : Side) (held : Held) (m : Store) → held.header.owner ≡ owner → owned owner (Live side held) m ≡ Ok (Live side held, m)
owned_own owner side held m is =
    let rank : eqb held.header.owner.rank owner.rank ≡ true = grind (arith, nat_tests, ap (λ (o : Owner). o.rank) is) in
    let monitors : eqb held.header.owner.monitors owner.monitors ≡ true = grind (arith, nat_tests, ap (λ (o : Owner). o.monitors) is) in
    rw (rank, monitors) refl

pub opened_live : (owner : Owner) (side : Side) (live other : List ℕ) (held : Held) (m : Store) → content live ≡ Some (Ok held) → IsBelow held.header.generation (content other) → map_of held.payloads ≡ Ok m → held.header.owner ≡ owner
    → opened owner (of_a side live other) (of_b side live other) ≡ Ok (Live side held, m)
unfolding opened
opened_live owner side live other held m is below map own =
    ap (λ r. r >>= taken owner) (found_live side live other held is below)
    ∙ (ap (λ (r : Result Store JournalStop). on side r >>= owned owner (Live side held)) map ∙ owned_own owner side held m own)

-- the owner opens the live file's journal and map
pub opens_live : (member : Member) (side : Side) (live other : List ℕ) (held : Held) (m : Store) → content live ≡ Some (Ok held) → IsBelow held.header.generation (content other) → map_of held.payloads ≡ Ok m → held.header.owner ≡ owner_of member
    → opens_as member (of_a side live other) (of_b side live other) ≡ Ok (standing_of member (Live side held) m)
opens_live member side live other held m is below map own = ap (λ r. r >>= (λ it. Ok (standing_of member it.0 it.1))) (opened_live (owner_of member) side live other held m is below map own)

-- a member is determined by its file's owner
owned_by : (member : Member) (other : Member) → owner_of member ≡ owner_of other → member ≡ other
owned_by member other same = same_member member other (ap (λ (o : Owner). o.rank) same) (ap (λ (o : Owner). o.monitors) same)

-- and a journal by its file's header and first closed gate
pub journal_is : (member : Member) (j : Journal) (payloads : List (List ℕ)) → owner_of j.member ≡ owner_of member → journal_of member (held_by j payloads) ≡ j
journal_is member j payloads own = ap (λ (m : Member). record { member = m; generation = j.generation; next_gate = j.next_gate; form = j.form }) (owned_by member j.member (sym own))

-- What opening answers, from what was found.
use Rattle.std.proofs.Common.{◌≡◌, ℕ, List, length, Option, Some, None, Result, Ok, Err, refl, sym, ap, subst, ◌∙◌}
use Rattle.std.specs.Prelude.{IfSome, IfOk, IfErr}
use Rattle.std.specs.FinMap.{empty}
use Rattle.mon_types.specs.declared.names.Side.{Side}
use Rattle.mon_types.specs.declared.names.Side.TheVariants.{A, B}
use Rattle.mon_disk.specs.Images.{Content}
use Rattle.mon_tx.specs.Map.{Store}
use Rattle.mon_journal.specs.declared.journal.Journal.{Journal}
use Rattle.mon_journal.specs.Steps as disk
use Rattle.mon_journal.specs.Content.{content, held_by}
use Rattle.mon_journal.specs.Fields.{Owner}
use Rattle.mon_journal.specs.Written.{owner_of, created}
use Rattle.mon_types.specs.declared.member.Member.{Member}
use Rattle.mon_journal.specs.Steps.{OnDisk, Opens}
use Rattle.mon_store.specs.declared.stop.OpenStop.{OpenStop}
use Rattle.mon_store.specs.declared.stop.OpenStop.TheVariants.{DiskFault, OutOfMemory}
use Rattle.mon_store.specs.declared.stop.OpenStop.TheVariants as stop
use Rattle.mon_store.specs.declared.opening.LiveStore.{LiveStore}
use Rattle.mon_store.specs.Pair.{◌>>=◌, Refusal, Found, Create, Live, chosen, found, taken, opened}
use Rattle.mon_store.specs.Opening.{held_in, len_of, IsStopOf, Gives, Answers, IsOutside}
use Rattle.mon_store.specs.StoreView.{journal_of, standing_of, opens_as}
use Rattle.mon_store.proofs.Alike.{each_observed, holds, at_some}
use Rattle.mon_store.proofs.Pairs.{journal_is}

-- a refusal of a part is one of the whole
pub stop_of_part : {X Y : Type 0} (e : OpenStop) (part : Result X Refusal) (whole : Result Y Refusal) → IsStopOf e part → ((r : Refusal) → part ≡ Err r → whole ≡ Err r) → IsStopOf e whole
stop_of_part DiskFault part whole h step = tt
stop_of_part OutOfMemory part whole h step = tt
stop_of_part (stop.NotAStore side at) part whole h step = step _ h
stop_of_part (stop.Stranger kept asked) part whole h step = step _ h

-- if reading the disks is refused, so is opening them
unopened : (member : Member) (e : OpenStop) (x y : List ℕ) → IsStopOf e (opened (owner_of member) x y) → IsStopOf e (opens_as member x y)
unopened member e x y h = stop_of_part e (opened (owner_of member) x y) (opens_as member x y) h (λ r is. ap (λ (o : Result (Found × Store) Refusal). o >>= (λ it. Ok (standing_of member it.0 it.1))) is)

opened_err : (owner : Owner) (x y : List ℕ) (r : Refusal) → found x y ≡ Err r → opened owner x y ≡ Err r
unfolding opened
opened_err owner x y r is = rw is refl

pub refused : (owner : Owner) (e : OpenStop) (s t : Option (List ℕ)) → IfSome s (λ x. IfSome t (λ y. IsStopOf e (found x y))) → IfSome s (λ x. IfSome t (λ y. IsStopOf e (opened owner x y)))
refused owner e None t h = tt
refused owner e (Some x) None h = tt
refused owner e (Some x) (Some y) h = stop_of_part e (found x y) (opened owner x y) h (opened_err owner x y)

pub answers_err : (member : Member) (e : OpenStop) (s t : Option (List ℕ)) (result : Result LiveStore OpenStop) → result ≡ Err e → IfSome s (λ x. IfSome t (λ y. IsStopOf e (opened (owner_of member) x y))) → IfSome s (λ x. IfSome t (λ y. Answers member x y result))
answers_err member e s t result is h = subst (λ (r : Result LiveStore OpenStop). IfSome s (λ x. IfSome t (λ y. Answers member x y r))) (sym is) (by s t h)
  where
    by : (s t : Option (List ℕ)) → IfSome s (λ x. IfSome t (λ y. IsStopOf e (opened (owner_of member) x y))) → IfSome s (λ x. IfSome t (λ y. IsStopOf e (opens_as member x y)))
    by None t h = tt
    by (Some x) None h = tt
    by (Some x) (Some y) h = unopened member e x y h

-- a `LiveStore` is determined by its fields
made : (r : LiveStore) (side : Side) (journal : Journal) (m : Store) → r.side ≡ side → r.journal ≡ journal → r.kv ≡ m → record { side = side; journal = journal; kv = m } ≡ r
made r side journal m is_side is_journal is_map =
    ap (λ (x : Side). record { side = x; journal = journal; kv = m }) (sym is_side)
    ∙ (ap (λ (x : Journal). record { side = r.side; journal = x; kv = m }) (sym is_journal) ∙ ap (λ (x : Store). record { side = r.side; journal = r.journal; kv = x }) (sym is_map))

-- what was chosen of what the disks were found to hold is what is found in their bytes
lengths : (a b : OnDisk) (m n : ℕ) → (held_in a ≡ None → m ≡ len_of a) → (held_in b ≡ None → n ≡ len_of b) → chosen (held_in a) (held_in b) m n ≡ chosen (held_in a) (held_in b) (len_of a) (len_of b)
lengths (disk.Closed la) (disk.Closed lb) m n p q = rw (p refl, q refl) refl
lengths (disk.Live j ps) (disk.Closed lb) m n p q = refl
lengths (disk.Closed la) (disk.Live k qs) m n p q = refl
lengths (disk.Live j ps) (disk.Live k qs) m n p q = refl

long : (on : OnDisk) (s : Option (List ℕ)) (known : ℕ) (new : Content) (x : List ℕ) → s ≡ Some x → Opens s known new (Ok on) → held_in on ≡ None → length x ≡ len_of on
long (disk.Closed len) s known new x is h none = sym (at_some s x (λ file. (content file ≡ None) × (len ≡ length file)) is h.3).1
long (disk.Live j ps) s known new x is h none = absurd cc

pub found_is : (a b : OnDisk) (s t : Option (List ℕ)) (known_a known_b : ℕ) (new_a new_b : Content) (x y : List ℕ) → s ≡ Some x → t ≡ Some y → Opens s known_a new_a (Ok a) → Opens t known_b new_b (Ok b)
    → found x y ≡ chosen (held_in a) (held_in b) (len_of a) (len_of b)
unfolding found
found_is a b s t known_a known_b new_a new_b x y p q h k =
    rw (holds a s known_a new_a x p h A, holds b t known_b new_b y q k B) (lengths a b (length x) (length y) (long a s known_a new_a x p h) (long b t known_b new_b y q k))

module _ (a b : OnDisk) (s t : Option (List ℕ)) (known_a known_b : ℕ) (new_a new_b : Content) (h : Opens s known_a new_a (Ok a)) (k : Opens t known_b new_b (Ok b)) (member : Member) where
  pub not_chosen : (e : OpenStop) → IsStopOf e (chosen (held_in a) (held_in b) (len_of a) (len_of b)) → IfSome s (λ x. IfSome t (λ y. IsStopOf e (opened (owner_of member) x y)))
  not_chosen e visible = each_observed s t (λ x y. IsStopOf e (opened (owner_of member) x y)) (λ x y p q.
      stop_of_part e (chosen (held_in a) (held_in b) (len_of a) (len_of b)) (opened (owner_of member) x y) visible (λ r is. opened_err (owner_of member) x y r (found_is a b s t known_a known_b new_a new_b x y p q h k ∙ is)))

  opened_is : (place : Found) → chosen (held_in a) (held_in b) (len_of a) (len_of b) ≡ Ok place → (x y : List ℕ) → s ≡ Some x → t ≡ Some y → opened (owner_of member) x y ≡ taken (owner_of member) place
  unfolding opened
  opened_is place is x y p q = ap (λ f. f >>= taken (owner_of member)) (found_is a b s t known_a known_b new_a new_b x y p q h k ∙ is)

  -- and what the member opens
  opens_is : (place : Found) (m : Store) (r : LiveStore) → chosen (held_in a) (held_in b) (len_of a) (len_of b) ≡ Ok place → standing_of member place m ≡ r → taken (owner_of member) place ≡ Ok (place, m) → (x y : List ℕ) → s ≡ Some x → t ≡ Some y
      → opens_as member x y ≡ Ok r
  opens_is place m r is same takes x y p q = ap (λ (o : Result (Found × Store) Refusal). o >>= (λ it. Ok (standing_of member it.0 it.1))) (opened_is place is x y p q ∙ takes) ∙ ap (λ (r : LiveStore). Ok r) same

  -- a store that was created
  pub answers_new : (result : Result LiveStore OpenStop) → chosen (held_in a) (held_in b) (len_of a) (len_of b) ≡ Ok Create → IfOk result (λ r. r.side ≡ A) → IfOk result (λ r. r.journal ≡ created member 1 None) → IfOk result (λ r. r.kv ≡ empty) → IfErr result IsOutside
      → IfSome s (λ x. IfSome t (λ y. Answers member x y result))
  answers_new (Ok r) is side journal map outside =
      each_observed s t (λ x y. Answers member x y (Ok r)) (λ x y p q. opens_is Create empty r is (made r A (created member 1 None) empty side journal map) refl x y p q)
  answers_new (Err DiskFault) is side journal map outside = each_observed s t (λ x y. Answers member x y (Err DiskFault)) (λ x y p q. tt)
  answers_new (Err OutOfMemory) is side journal map outside = each_observed s t (λ x y. Answers member x y (Err OutOfMemory)) (λ x y p q. tt)
  answers_new (Err (stop.NotAStore disk at)) is side journal map outside = absurd outside
  answers_new (Err (stop.Stranger kept asked)) is side journal map outside = absurd outside

  -- a live file
  pub answers_live : (result : Result LiveStore OpenStop) (live : Side) (j : Journal) (payloads : List (List ℕ)) → chosen (held_in a) (held_in b) (len_of a) (len_of b) ≡ Ok (Live live (held_by j payloads))
      → ((x y : List ℕ) → s ≡ Some x → t ≡ Some y → Gives (λ r. (Live live (held_by j payloads), r.kv)) result (taken (owner_of member) (Live live (held_by j payloads)))) → IfOk result (λ r. r.side ≡ live) → IfOk result (λ r. r.journal ≡ j) → IfOk result (λ r. owner_of r.journal.member ≡ owner_of member)
      → IfSome s (λ x. IfSome t (λ y. Answers member x y result))
  answers_live (Ok r) live j payloads is gives side journal own =
      let same : journal_of member (held_by j payloads) ≡ j = journal_is member j payloads (ap (λ (k : Journal). owner_of k.member) (sym journal) ∙ own) in
      let standing : standing_of member (Live live (held_by j payloads)) r.kv ≡ r = made r live (journal_of member (held_by j payloads)) r.kv side (journal ∙ sym same) refl in
      each_observed s t (λ x y. Answers member x y (Ok r)) (λ x y p q. opens_is (Live live (held_by j payloads)) r.kv r is standing (gives x y p q) x y p q)
  answers_live (Err e) live j payloads is gives side journal own =
      each_observed s t (λ x y. IsStopOf e (opens_as member x y)) (λ x y p q. unopened member e x y
      (stop_of_part e (taken (owner_of member) (Live live (held_by j payloads))) (opened (owner_of member) x y) (gives x y p q) (λ r e_is. opened_is (Live live (held_by j payloads)) is x y p q ∙ e_is)))

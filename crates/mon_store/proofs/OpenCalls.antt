-- The calls of opening two disks, from those of its parts.
use Rattle.std.proofs.Common.{◌≡◌, ℕ, true, is_some, List, [], Option, Some, None, Result, Ok, Err, refl, sym, ap, subst, ◌∙◌}
use Rattle.std.specs.Prelude.{IfSome}
use Rattle.mon_types.specs.declared.names.Side.{Side}
use Rattle.mon_types.specs.declared.names.Side.TheVariants.{A, B}
use Rattle.mon_disk.specs.declared.disk.DiskCall.{DiskCall}
use Rattle.mon_disk.specs.Images.{Content}
use Rattle.mon_types.specs.declared.names.Stop.{Stop}
use Rattle.mon_disk.specs.Calls.{Observed, Makes}
use Rattle.mon_journal.specs.declared.stop.JournalStop.{JournalStop}
use Rattle.mon_journal.specs.declared.stop.JournalStop.TheVariants as journal
use Rattle.mon_journal.specs.declared.opening.Opened.{Opened}
use Rattle.mon_journal.specs.Content.{Held, content}
use Rattle.mon_journal.specs.Fields.{Owner}
use Rattle.mon_journal.specs.Steps.{OnDisk, Opens, open_calls, create_calls, stop_in as of_journal}
use Rattle.mon_store.specs.declared.stop.OpenStop.{OpenStop}
use Rattle.mon_store.specs.declared.stop.OpenStop.TheVariants.{DiskFault, OutOfMemory}
use Rattle.mon_store.specs.declared.stop.OpenStop.TheVariants as stop
use Rattle.mon_store.specs.Pair.{Refusal, NotAStore, Stranger, Found, Create, Live, held_on, chosen, found}
use Rattle.mon_journal.specs.Written.{owner_of}
use Rattle.mon_store.specs.Opening.{held_in, len_of, named, IsStopOf, IsRefusal, stop_in}
use Rattle.mon_store.specs.OpeningCalls.{calls_on, unless_refused, both_calls, creation, opening_calls, MakesBoth, OpensWith}
use Rattle.mon_store.proofs.Alike.{at_some, holds}
use Rattle.mon_store.proofs.Answering.{found_is}
use Rattle.mon_store.proofs.Counting.{IsNoFault}
use Rattle.mon_store.proofs.Called.{stop_named, on_a, on_b, both_then, both_stop, still_a, still_b}

-- what can be seen of both disks
pub each_known : (s t : Option (List ℕ)) (p q : Option Observed) (P : List ℕ → List ℕ → Type 0) → ((x y : List ℕ) → s ≡ Some x → t ≡ Some y → is_some p ≡ true → is_some q ≡ true → P x y)
    → IfSome s (λ x. IfSome t (λ y. IfSome p (λ u. IfSome q (λ v. P x y))))
each_known None t p q P h = tt
each_known (Some x) None p q P h = tt
each_known (Some x) (Some y) None q P h = tt
each_known (Some x) (Some y) (Some u) None P h = tt
each_known (Some x) (Some y) (Some u) (Some v) P h = h x y refl refl refl refl

at_known : (s t : Option (List ℕ)) (p q : Option Observed) (P : List ℕ → List ℕ → Type 0) (x y : List ℕ) → s ≡ Some x → t ≡ Some y → is_some p ≡ true → is_some q ≡ true
    → IfSome s (λ x. IfSome t (λ y. IfSome p (λ u. IfSome q (λ v. P x y)))) → P x y
at_known s t p q P x y is_x is_y some_p some_q h =
    observed p q some_p some_q (at_some t y (λ y. IfSome p (λ u. IfSome q (λ v. P x y))) is_y (at_some s x (λ x. IfSome t (λ y. IfSome p (λ u. IfSome q (λ v. P x y)))) is_x h))
  where
    observed : (p q : Option Observed) → is_some p ≡ true → is_some q ≡ true → IfSome p (λ u. IfSome q (λ v. P x y)) → P x y
    observed None q some_p some_q h = absurd cc
    observed (Some u) None some_p some_q h = absurd cc
    observed (Some u) (Some v) some_p some_q h = h

module _ (s t : Option (List ℕ)) (observed_a observed_b : Option Observed) where
  -- disk A is refused
  pub calls_a : (U : Type 0) (e : JournalStop) (known : ℕ) (new : Content) (new_a : Option Observed) → Opens s known new (Err e) → IfSome s (λ x. Makes (open_calls (content x)) (of_journal {T = Opened} (Err e)) observed_a new_a)
      → OpensWith {T = U} both_calls s t observed_a observed_b new_a observed_b (Err (named A e))
  calls_a U e known new new_a opens makes = each_known s t observed_a observed_b (λ x y. MakesBoth {T = U} (both_calls x y) observed_a observed_b new_a observed_b (Err (named A e))) (λ x y is_x is_y some_a some_b.
      both_stop U U (named A e) (calls_on A (open_calls (content x))) (unless_refused (held_on A (content x)) (calls_on B (open_calls (content y)))) observed_a observed_b new_a observed_b
      (none e x (calls_on B (open_calls (content y))) is_x opens)
      (on_a U (Err (named A e)) (open_calls (content x)) observed_a new_a observed_b some_a (subst (λ (k : Option Stop). Makes (open_calls (content x)) k observed_a new_a) (sym (stop_named Opened U A e)) (at_some s x (λ x. Makes (open_calls (content x)) (of_journal {T = Opened} (Err e)) observed_a new_a) is_x makes))))
    where
      none : (e : JournalStop) (x : List ℕ) (more : List (Side × DiskCall)) → s ≡ Some x → Opens s known new (Err e) → (named A e ≡ OutOfMemory → ⊥) → (named A e ≡ DiskFault → ⊥) → unless_refused (held_on A (content x)) more ≡ []
      none journal.DiskFault x more is opens p q = absurd (q refl)
      none journal.OutOfMemory x more is opens p q = absurd (p refl)
      none (journal.NotAStore at) x more is opens p q =
          ap (λ (c : Option (Result Held JournalStop)). unless_refused (held_on A c) more) (at_some s x (λ file. content file ≡ Some (Err (journal.NotAStore at))) is opens.2)

  -- disk A is opened, and disk B is opened or refused
  pub calls_b : (U : Type 0) (on : OnDisk) (other : Result U OpenStop) (known : ℕ) (new : Content) (new_a new_b : Option Observed) → Opens s known new (Ok on)
      → IfSome s (λ x. Makes (open_calls (content x)) None observed_a new_a) → IfSome t (λ y. Makes (open_calls (content y)) (stop_in other) observed_b new_b)
      → OpensWith {T = U} both_calls s t observed_a observed_b new_a new_b other
  calls_b U on other known new new_a new_b opens makes_a makes_b = each_known s t observed_a observed_b (λ x y. MakesBoth {T = U} (both_calls x y) observed_a observed_b new_a new_b other) (λ x y is_x is_y some_a some_b.
      let open_a : MakesBoth {T = OnDisk} (calls_on A (open_calls (content x))) observed_a observed_b new_a observed_b (Ok on) =
      on_a OnDisk (Ok on) (open_calls (content x)) observed_a new_a observed_b some_a (at_some s x (λ x. Makes (open_calls (content x)) None observed_a new_a) is_x makes_a) in
      let open_b : MakesBoth {T = U} (calls_on B (open_calls (content y))) new_a observed_b new_a new_b other =
      on_b U other (open_calls (content y)) new_a observed_b new_b some_b (at_some t y (λ y. Makes (open_calls (content y)) (stop_in other) observed_b new_b) is_y makes_b) in
      let both : unless_refused (held_on A (content x)) (calls_on B (open_calls (content y))) ≡ calls_on B (open_calls (content y)) =
      ap (λ (r : Result (Option Held) Refusal). unless_refused r (calls_on B (open_calls (content y)))) (holds on s known new x is_x opens A) in
      rw both (both_then OnDisk U (calls_on A (open_calls (content x))) (calls_on B (open_calls (content y))) observed_a observed_b new_a observed_b new_a new_b on other open_a open_b))

  -- neither is opened, and so nothing is created
  pub calls_refused : (T U : Type 0) (owner : Owner) (e : OpenStop) (new_a new_b : Option Observed) → IfSome s (λ x. IfSome t (λ y. IsStopOf e (found x y))) → OpensWith {T = T} both_calls s t observed_a observed_b new_a new_b (Err e)
      → OpensWith {T = U} (opening_calls owner) s t observed_a observed_b new_a new_b (Err e)
  unfolding opening_calls
  calls_refused T U owner e new_a new_b visible makes = each_known s t observed_a observed_b (λ x y. MakesBoth {T = U} (opening_calls owner x y) observed_a observed_b new_a new_b (Err e)) (λ x y is_x is_y some_a some_b.
      both_stop T U e (both_calls x y) (creation owner (found x y)) observed_a observed_b new_a new_b
      (none e (found x y) (at_some t y (λ y. IsStopOf e (found x y)) is_y (at_some s x (λ x. IfSome t (λ y. IsStopOf e (found x y))) is_x visible)))
      (at_known s t observed_a observed_b (λ x y. MakesBoth {T = T} (both_calls x y) observed_a observed_b new_a new_b (Err e)) x y is_x is_y some_a some_b makes))
    where
      none : (e : OpenStop) (place : Result Found Refusal) → IsStopOf e place → (e ≡ OutOfMemory → ⊥) → (e ≡ DiskFault → ⊥) → creation owner place ≡ []
      none DiskFault place visible p q = absurd (q refl)
      none OutOfMemory place visible p q = absurd (p refl)
      none (stop.NotAStore side at) place visible p q = ap (creation owner) visible
      none (stop.Stranger kept asked) place visible p q = ap (creation owner) visible

  -- both are opened, and more may follow
  pub calls_more : (T U : Type 0) (owner : Owner) (both : T) (place : Result Found Refusal) (result : Result U OpenStop) (mid_a mid_b new_a new_b : Option Observed)
      → ((x y : List ℕ) → s ≡ Some x → t ≡ Some y → found x y ≡ place) → (is_some mid_a ≡ true → MakesBoth (creation owner place) mid_a mid_b new_a new_b result)
      → OpensWith {T = T} both_calls s t observed_a observed_b mid_a mid_b (Ok both) → OpensWith {T = U} (opening_calls owner) s t observed_a observed_b new_a new_b result
  unfolding opening_calls
  calls_more T U owner both place result mid_a mid_b new_a new_b is more makes = each_known s t observed_a observed_b (λ x y. MakesBoth {T = U} (opening_calls owner x y) observed_a observed_b new_a new_b result) (λ x y is_x is_y some_a some_b.
      let made : MakesBoth {T = T} (both_calls x y) observed_a observed_b mid_a mid_b (Ok both) =
      at_known s t observed_a observed_b (λ x y. MakesBoth {T = T} (both_calls x y) observed_a observed_b mid_a mid_b (Ok both)) x y is_x is_y some_a some_b makes in
      both_then T U (both_calls x y) (creation owner (found x y)) observed_a observed_b mid_a mid_b new_a new_b both result made
      (subst (λ r. MakesBoth (creation owner r) mid_a mid_b new_a new_b result) (sym (is x y is_x is_y)) (more (still_a T (both_calls x y) observed_a observed_b mid_a mid_b (Ok both) some_a made))))

-- what refuses the bytes isn't the outside
pub refusal_of : (e : OpenStop) (place : Result Found Refusal) → IsRefusal e → IsStopOf e place → (r : Refusal) × (place ≡ Err r)
refusal_of DiskFault place is visible = absurd is
refusal_of OutOfMemory place is visible = absurd is
refusal_of (stop.NotAStore side at) place is visible = (NotAStore side at, visible)
refusal_of (stop.Stranger kept asked) place is visible = (Stranger (owner_of kept) (owner_of asked), visible)

pub no_fault : {U : Type 0} (e : OpenStop) → IsNoFault e → ◌≡◌ {A = Result U OpenStop} (Err e) (Err DiskFault) → ⊥
no_fault DiskFault other is = other
no_fault OutOfMemory other is = cc
no_fault (stop.NotAStore side at) other is = cc
no_fault (stop.Stranger kept asked) other is = cc

pub refusal_no_fault : (e : OpenStop) → IsRefusal e → IsNoFault e
refusal_no_fault DiskFault is = is
refusal_no_fault OutOfMemory is = tt
refusal_no_fault (stop.NotAStore side at) is = tt
refusal_no_fault (stop.Stranger kept asked) is = tt

-- what was chosen of the two, and the calls after that
module _ (a b : OnDisk) (s t : Option (List ℕ)) (known_a known_b : ℕ) (content_a content_b : Content) (h : Opens s known_a content_a (Ok a)) (k : Opens t known_b content_b (Ok b)) (owner : Owner)
    (observed_a observed_b mid_a mid_b : Option Observed) (T U : Type 0) (both : T) (makes : OpensWith {T = T} both_calls s t observed_a observed_b mid_a mid_b (Ok both)) where
  found_as : (place : Result Found Refusal) → chosen (held_in a) (held_in b) (len_of a) (len_of b) ≡ place → (x y : List ℕ) → s ≡ Some x → t ≡ Some y → found x y ≡ place
  found_as place is x y p q = found_is a b s t known_a known_b content_a content_b x y p q h k ∙ is

  -- none was
  pub calls_none : (e : OpenStop) → IsRefusal e → IsStopOf e (chosen (held_in a) (held_in b) (len_of a) (len_of b)) → OpensWith {T = U} (opening_calls owner) s t observed_a observed_b mid_a mid_b (Err e)
  calls_none e is visible =
      let r = refusal_of e (chosen (held_in a) (held_in b) (len_of a) (len_of b)) is visible in
      calls_more s t observed_a observed_b T U owner both (Err r.0) (Err e) mid_a mid_b mid_a mid_b (found_as (Err r.0) r.1) (λ some. (refl, refl, no_fault e (refusal_no_fault e is))) makes

  -- a live file, which is read again
  pub calls_live : (side : Side) (held : Held) (result : Result U OpenStop) (new_a new_b : Option Observed) → chosen (held_in a) (held_in b) (len_of a) (len_of b) ≡ Ok (Live side held) → new_a ≡ mid_a → new_b ≡ mid_b
      → (is_some mid_a ≡ true → is_some mid_b ≡ true → result ≡ Err DiskFault → ⊥) → OpensWith {T = U} (opening_calls owner) s t observed_a observed_b new_a new_b result
  calls_live side held result new_a new_b is same_a same_b never = each_known s t observed_a observed_b (λ x y. MakesBoth {T = U} (opening_calls owner x y) observed_a observed_b new_a new_b result) (λ x y is_x is_y some_a some_b.
      let made : MakesBoth {T = T} (both_calls x y) observed_a observed_b mid_a mid_b (Ok both) =
      at_known s t observed_a observed_b (λ x y. MakesBoth {T = T} (both_calls x y) observed_a observed_b mid_a mid_b (Ok both)) x y is_x is_y some_a some_b makes in
      let last = still_b T (both_calls x y) observed_a observed_b mid_a mid_b (Ok both) some_b made in
      at_known s t observed_a observed_b (λ x y. MakesBoth {T = U} (opening_calls owner x y) observed_a observed_b new_a new_b result) x y is_x is_y some_a some_b
      (calls_more s t observed_a observed_b T U owner both (Ok (Live side held)) result mid_a mid_b new_a new_b (found_as (Ok (Live side held)) is) (λ some. (same_a, same_b, never some last)) makes))

  -- a new store
  pub calls_new : (result : Result U OpenStop) (new_a : Option Observed) → chosen (held_in a) (held_in b) (len_of a) (len_of b) ≡ Ok Create → (is_some mid_a ≡ true → MakesBoth (calls_on A (create_calls owner 1 None)) mid_a mid_b new_a mid_b result)
      → OpensWith {T = U} (opening_calls owner) s t observed_a observed_b new_a mid_b result
  calls_new result new_a is creates = calls_more s t observed_a observed_b T U owner both (Ok Create) result mid_a mid_b new_a mid_b (found_as (Ok Create) is) creates makes

-- The calls of two disks, joined from those of each.
use Rattle.std.proofs.Common.{◌≡◌, true, is_some, inl, inr, List, [], ◌∷◌, ◌++◌, Option, Some, None, Result, Ok, Err, refl, ap, subst, ◌∙◌}
use Rattle.std.specs.Prelude.{IfSome}
use Rattle.mon_types.specs.declared.names.Side.{Side}
use Rattle.mon_types.specs.declared.names.Side.TheVariants.{A, B}
use Rattle.mon_disk.specs.declared.disk.DiskCall.{DiskCall}
use Rattle.mon_types.specs.declared.names.Stop.TheVariants as disk
use Rattle.mon_disk.specs.Calls.{Observed, and_made, Makes}
use Rattle.mon_journal.specs.declared.stop.JournalStop.{JournalStop}
use Rattle.mon_journal.specs.declared.stop.JournalStop.TheVariants as journal
use Rattle.mon_journal.specs.Steps.{stop_in as of_journal, IsOutside as IsDisks}
use Rattle.mon_store.specs.declared.stop.OpenStop.{OpenStop}
use Rattle.mon_store.specs.declared.stop.OpenStop.TheVariants.{DiskFault, OutOfMemory}
use Rattle.mon_store.specs.declared.stop.OpenStop.TheVariants as stop
use Rattle.mon_store.specs.Opening.{named, stop_in, IsOutside}
use Rattle.mon_store.specs.OpeningCalls.{calls_on, MakesBoth}

still_observed : (call : DiskCall) (s : Option Observed) → is_some s ≡ true → is_some (and_made call s) ≡ true
still_observed call None some = absurd cc
still_observed call (Some t) some = refl

at_observed : (s : Option Observed) (P : Type 0) → is_some s ≡ true → IfSome s (λ t. P) → P
at_observed None P some h = absurd cc
at_observed (Some t) P some h = h

-- the disks' stop is the same for a journal's stop and for the store's
pub stop_named : (T U : Type 0) (side : Side) (e : JournalStop) → stop_in {T = U} (Err (named side e)) ≡ of_journal {T = T} (Err e)
stop_named T U side journal.DiskFault = refl
stop_named T U side (journal.NotAStore at) = refl
stop_named T U side journal.OutOfMemory = refl

pub outside_named : (side : Side) (e : JournalStop) → IsDisks e → IsOutside (named side e)
outside_named side journal.DiskFault outside = tt
outside_named side (journal.NotAStore at) outside = absurd outside
outside_named side journal.OutOfMemory outside = tt

no_memory_of : {U : Type 0} (other : Result U OpenStop) → stop_in other ≡ Some disk.OutOfMemory → other ≡ Err OutOfMemory
no_memory_of (Ok x) is = absurd cc
no_memory_of (Err DiskFault) is = absurd cc
no_memory_of (Err OutOfMemory) is = refl
no_memory_of (Err (stop.NotAStore side at)) is = absurd cc
no_memory_of (Err (stop.Stranger kept asked)) is = absurd cc

fault_of : {U : Type 0} (other : Result U OpenStop) → stop_in other ≡ Some disk.Failed → other ≡ Err DiskFault
fault_of (Ok x) is = absurd cc
fault_of (Err DiskFault) is = refl
fault_of (Err OutOfMemory) is = absurd cc
fault_of (Err (stop.NotAStore side at)) is = absurd cc
fault_of (Err (stop.Stranger kept asked)) is = absurd cc

module _ (U : Type 0) (other : Result U OpenStop) where
  if_not : (s : Option Observed) → IfSome s (λ t. stop_in other ≡ Some disk.Failed → ⊥) → other ≡ Err DiskFault → IfSome s (λ t. ⊥)
  if_not None m h = tt
  if_not (Some t) m h = m (ap (λ (r : Result U OpenStop). stop_in r) h)

  -- calls of disk A alone
  pub on_a : (calls : List DiskCall) (a new_a b : Option Observed) → is_some a ≡ true → Makes calls (stop_in other) a new_a → MakesBoth (calls_on A calls) a b new_a b other
  on_a [] a new_a b some m = (m.0, refl, λ h. at_observed a ⊥ some (if_not a m.1 h))
  on_a (call ∷ calls) a new_a b some (inl m) = inl (no_memory_of other m.0, m.1, refl)
  on_a (call ∷ calls) a new_a b some (inr (inl m)) = inr (inl (fault_of other m.0, m.1, refl, m.2))
  on_a (call ∷ calls) a new_a b some (inr (inr m)) = inr (inr (m.0, on_a calls (and_made call a) new_a b (still_observed call a some) m.1))

  -- and of disk B alone
  pub on_b : (calls : List DiskCall) (a b new_b : Option Observed) → is_some b ≡ true → Makes calls (stop_in other) b new_b → MakesBoth (calls_on B calls) a b a new_b other
  on_b [] a b new_b some m = (refl, m.0, λ h. at_observed b ⊥ some (if_not b m.1 h))
  on_b (call ∷ calls) a b new_b some (inl m) = inl (no_memory_of other m.0, refl, m.1)
  on_b (call ∷ calls) a b new_b some (inr (inl m)) = inr (inl (fault_of other m.0, refl, m.1, m.2))
  on_b (call ∷ calls) a b new_b some (inr (inr m)) = inr (inr (m.0, on_b calls a (and_made call b) new_b (still_observed call b some) m.1))

-- some calls, and then others
pub both_then : (T U : Type 0) (calls more : List (Side × DiskCall)) (a b mid_a mid_b new_a new_b : Option Observed) (x : T) (result : Result U OpenStop) → MakesBoth {T = T} calls a b mid_a mid_b (Ok x) → MakesBoth more mid_a mid_b new_a new_b result
    → MakesBoth (calls ++ more) a b new_a new_b result
both_then T U [] more a b mid_a mid_b new_a new_b x result m n = subst (λ s. MakesBoth more s b new_a new_b result) m.0 (subst (λ s. MakesBoth more mid_a s new_a new_b result) m.1 n)
both_then T U ((side, call) ∷ calls) more a b mid_a mid_b new_a new_b x result (inl m) n = let bad : Ok x ≡ Err OutOfMemory = m.0 in absurd cc
both_then T U ((side, call) ∷ calls) more a b mid_a mid_b new_a new_b x result (inr (inl m)) n = let bad : Ok x ≡ Err DiskFault = m.0 in absurd cc
both_then T U ((side, call) ∷ calls) more a b mid_a mid_b new_a new_b x result (inr (inr m)) n =
    inr (inr (m.0, both_then T U calls more _ _ mid_a mid_b new_a new_b x result m.1 n))

-- a disk whose calls can be seen stays so
pub still_a : (T : Type 0) (calls : List (Side × DiskCall)) (a b new_a new_b : Option Observed) (result : Result T OpenStop) → is_some a ≡ true → MakesBoth calls a b new_a new_b result → is_some new_a ≡ true
still_a T [] a b new_a new_b result some m = ap is_some m.0 ∙ some
still_a T ((A, call) ∷ calls) a b new_a new_b result some (inl m) = ap is_some m.1 ∙ some
still_a T ((A, call) ∷ calls) a b new_a new_b result some (inr (inl m)) = ap is_some m.1 ∙ still_observed call a some
still_a T ((A, call) ∷ calls) a b new_a new_b result some (inr (inr m)) = still_a T calls (and_made call a) b new_a new_b result (still_observed call a some) m.1
still_a T ((B, call) ∷ calls) a b new_a new_b result some (inl m) = ap is_some m.1 ∙ some
still_a T ((B, call) ∷ calls) a b new_a new_b result some (inr (inl m)) = ap is_some m.1 ∙ some
still_a T ((B, call) ∷ calls) a b new_a new_b result some (inr (inr m)) = still_a T calls a (and_made call b) new_a new_b result some m.1

pub still_b : (T : Type 0) (calls : List (Side × DiskCall)) (a b new_a new_b : Option Observed) (result : Result T OpenStop) → is_some b ≡ true → MakesBoth calls a b new_a new_b result → is_some new_b ≡ true
still_b T [] a b new_a new_b result some m = ap is_some m.1 ∙ some
still_b T ((A, call) ∷ calls) a b new_a new_b result some (inl m) = ap is_some m.2 ∙ some
still_b T ((A, call) ∷ calls) a b new_a new_b result some (inr (inl m)) = ap is_some m.2 ∙ some
still_b T ((A, call) ∷ calls) a b new_a new_b result some (inr (inr m)) = still_b T calls (and_made call a) b new_a new_b result some m.1
still_b T ((B, call) ∷ calls) a b new_a new_b result some (inl m) = ap is_some m.2 ∙ some
still_b T ((B, call) ∷ calls) a b new_a new_b result some (inr (inl m)) = ap is_some m.2 ∙ still_observed call b some
still_b T ((B, call) ∷ calls) a b new_a new_b result some (inr (inr m)) = still_b T calls a (and_made call b) new_a new_b result (still_observed call b some) m.1

-- memory may run out before any call
no_memory : (U : Type 0) (calls : List (Side × DiskCall)) (a b : Option Observed) → MakesBoth {T = U} calls a b a b (Err OutOfMemory)
no_memory U [] a b = (refl, refl, λ h. absurd cc)
no_memory U ((side, call) ∷ calls) a b = inl (refl, refl, refl)

-- some calls that end with a refusal, after which no call is made
pub both_stop : (T U : Type 0) (e : OpenStop) (calls more : List (Side × DiskCall)) (a b new_a new_b : Option Observed) → ((e ≡ OutOfMemory → ⊥) → (e ≡ DiskFault → ⊥) → more ≡ []) → MakesBoth {T = T} calls a b new_a new_b (Err e)
    → MakesBoth {T = U} (calls ++ more) a b new_a new_b (Err e)
both_stop T U e [] more a b new_a new_b none m = by e none m.2
  where
    by : (e : OpenStop) → ((e ≡ OutOfMemory → ⊥) → (e ≡ DiskFault → ⊥) → more ≡ []) → (◌≡◌ {A = Result T OpenStop} (Err e) (Err DiskFault) → ⊥) → MakesBoth {T = U} more a b new_a new_b (Err e)
    by DiskFault none not = absurd (not refl)
    by OutOfMemory none not = rw (m.0, m.1) (no_memory U more a b)
    by (stop.NotAStore side at) none not = rw (none (λ h. cc) (λ h. cc)) (m.0, m.1, λ h. absurd cc)
    by (stop.Stranger kept asked) none not = rw (none (λ h. cc) (λ h. cc)) (m.0, m.1, λ h. absurd cc)
both_stop T U e ((side, call) ∷ calls) more a b new_a new_b none (inl m) = let is : e ≡ OutOfMemory = cc in inl (ap (λ x. Err x) is, m.1, m.2)
both_stop T U e ((side, call) ∷ calls) more a b new_a new_b none (inr (inl m)) = let is : e ≡ DiskFault = cc in inr (inl (ap (λ x. Err x) is, m.1, m.2, m.3))
both_stop T U e ((side, call) ∷ calls) more a b new_a new_b none (inr (inr m)) = inr (inr (m.0, both_stop T U e calls more _ _ new_a new_b none m.1))

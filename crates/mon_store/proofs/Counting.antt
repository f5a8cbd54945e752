-- What two disks count while a store is opened on them.
use Rattle.std.proofs.Common.{◌≡◌, List, ℕ, inl, inr, Option, None, Result, Ok, Err, refl, ap, subst, ◌∙◌}
use Rattle.std.specs.Prelude.{IfErr}
use Rattle.mon_types.specs.declared.names.Stop.{Stop}
use Rattle.mon_disk.specs.declared.disk.DiskCall.{DiskCall}
use Rattle.mon_disk.specs.Calls.{DiskState, faults_after, MayCountRefusal, Called}
use Rattle.mon_store.specs.declared.stop.OpenStop.{OpenStop}
use Rattle.mon_store.specs.declared.stop.OpenStop.TheVariants.{DiskFault, OutOfMemory}
use Rattle.mon_store.specs.declared.stop.OpenStop.TheVariants as stop
use Rattle.mon_store.specs.Opening.{stop_in, Counts, BothCount}

-- any stop but a disk's fault
abbrev pub IsNoFault : OpenStop → Type 0
IsNoFault DiskFault = ⊥
IsNoFault OutOfMemory = Unit {0}
IsNoFault (stop.NotAStore disk at) = Unit {0}
IsNoFault (stop.Stranger kept asked) = Unit {0}

pub of_calls : {calls : List DiskCall} {P : List ℕ → Type 0} {stop : Option Stop} {old new : DiskState} → Called calls P stop old new → Counts stop old new
of_calls c = (c.faults, c.refusals)

pub none_counts : (d : DiskState) → Counts None d d
none_counts d = (refl, refl)

-- further calls on disk A alone
pub then_a : (stop : Option Stop) (a b mid_a new_a new_b : DiskState) → BothCount None a b mid_a new_b → Counts stop mid_a new_a → BothCount stop a b new_a new_b
then_a stop a b mid_a new_a new_b both next = by both
  where
    joined : Counts None a mid_a → Counts stop a new_a
    joined first = (next.0 ∙ ap (faults_after stop) first.0, subst (λ (n : ℕ). MayCountRefusal stop n new_a.refusals) first.1 next.1)

    by : BothCount None a b mid_a new_b → BothCount stop a b new_a new_b
    by (inl c) = inl (joined c.0, c.1)
    by (inr c) = inl (joined c.0, c.1)

-- the counts fit every later result that is no disk's fault
pub whatever : (U : Type 0) (result : Result U OpenStop) (a b new_a new_b : DiskState) → IfErr result IsNoFault → BothCount None a b new_a new_b → BothCount (stop_in result) a b new_a new_b
whatever U (Ok x) a b new_a new_b other both = both
whatever U (Err DiskFault) a b new_a new_b other both = absurd other
whatever U (Err OutOfMemory) a b new_a new_b other (inl c) = inl ((c.0.0, inl c.0.1), c.1)
whatever U (Err OutOfMemory) a b new_a new_b other (inr c) = inr (c.0, (c.1.0, inl c.1.1))
whatever U (Err (stop.NotAStore side at)) a b new_a new_b other both = both
whatever U (Err (stop.Stranger kept asked)) a b new_a new_b other both = both

-- a refusal is the same stop for each result
pub same_refusal : (T U : Type 0) (e : OpenStop) → stop_in {T = T} (Err e) ≡ stop_in {T = U} (Err e)
same_refusal T U DiskFault = refl
same_refusal T U OutOfMemory = refl
same_refusal T U (stop.NotAStore side at) = refl
same_refusal T U (stop.Stranger kept asked) = refl

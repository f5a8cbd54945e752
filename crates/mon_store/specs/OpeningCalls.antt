-- Which writes and syncs opening makes on two disks, in their order.
use Rattle.std.specs.Prelude.{◌≡◌, ℕ, true, false, ◌⊎◌, List, [], ◌∷◌, ◌++◌, Option, None, Result, Ok, Err, IfSome}
use Rattle.mon_types.specs.declared.names.Side.{Side}
use Rattle.mon_types.specs.declared.names.Side.TheVariants.{A, B}
use Rattle.mon_disk.specs.declared.disk.DiskCall.{DiskCall}
use Rattle.mon_disk.specs.Calls.{Observed, and_made, fails_next}
use Rattle.mon_journal.specs.Content.{content}
use Rattle.mon_journal.specs.Fields.{Owner}
use Rattle.mon_journal.specs.Steps.{open_calls, create_calls}
use Rattle.mon_store.specs.declared.stop.OpenStop.{OpenStop}
use Rattle.mon_store.specs.declared.stop.OpenStop.TheVariants.{DiskFault, OutOfMemory}
use Rattle.mon_store.specs.Pair.{Refusal, Found, Create, Live, held_on, found}
use Rattle.mon_store.specs.Sound.{of_live}

abbrev pub calls_on : Side → List DiskCall → List (Side × DiskCall)
calls_on side [] = []
calls_on side (call ∷ calls) = (side, call) ∷ calls_on side calls

-- after a refusal there is none
abbrev pub unless_refused : {X Y : Type 0} → Result X Refusal → List Y → List Y
unless_refused (Ok x) calls = calls
unless_refused (Err e) calls = []

-- disk A is opened, and then disk B
abbrev pub both_calls : List ℕ → List ℕ → List (Side × DiskCall)
both_calls a b = calls_on A (open_calls (content a)) ++ unless_refused (held_on A (content a)) (calls_on B (open_calls (content b)))

-- a new store is created on disk A
abbrev pub creation : Owner → Result Found Refusal → List (Side × DiskCall)
creation owner (Ok Create) = calls_on A (create_calls owner 1 None)
creation owner (Ok (Live side held)) = []
creation owner (Err e) = []

unfoldable pub opening_calls : Owner → List ℕ → List ℕ → List (Side × DiskCall)
opening_calls owner a b = both_calls a b ++ creation owner (found a b)

-- what can be seen of the disks once one of them was called
abbrev pub called_a : Side → DiskCall → Option Observed → Option Observed
called_a A call a = and_made call a
called_a B call a = a

abbrev pub called_b : Side → DiskCall → Option Observed → Option Observed
called_b A call b = b
called_b B call b = and_made call b

-- Which of these calls were made, in this order, on two disks whose calls can be seen: each of them, if none failed; or those
-- up to the first that failed, after which DiskFault is returned; or those before memory ran out.
abbrev pub MakesBoth : {T : Type 0} → List (Side × DiskCall) → Option Observed → Option Observed → Option Observed → Option Observed → Result T OpenStop → Type 0
MakesBoth [] a b new_a new_b result = (new_a ≡ a) × (new_b ≡ b) × (result ≡ Err DiskFault → ⊥)
MakesBoth ((side, call) ∷ calls) a b new_a new_b result =
    ((result ≡ Err OutOfMemory) × (new_a ≡ a) × (new_b ≡ b))
    ⊎ ((result ≡ Err DiskFault) × (new_a ≡ called_a side call a) × (new_b ≡ called_b side call b) × IfSome (of_live side a b) (λ t. fails_next t ≡ true))
    ⊎ (IfSome (of_live side a b) (λ t. fails_next t ≡ false) × MakesBoth calls (called_a side call a) (called_b side call b) new_a new_b result)

-- the same, if calls and contents of both disks can be seen
abbrev pub OpensWith : {T : Type 0} → (List ℕ → List ℕ → List (Side × DiskCall)) → Option (List ℕ) → Option (List ℕ) → Option Observed → Option Observed → Option Observed → Option Observed → Result T OpenStop → Type 0
OpensWith calls a b observed_a observed_b new_a new_b result =
    IfSome a (λ x. IfSome b (λ y. IfSome observed_a (λ s. IfSome observed_b (λ t. MakesBoth (calls x y) observed_a observed_b new_a new_b result))))

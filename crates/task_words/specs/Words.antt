-- What a test of arguments, or of an argument, returns.
use Rattle.std.specs.Prelude.{◌≡◌, ℕ, Bool, true, false, List, Option, Some, None}

-- The result of reading an argument: the value that fits and has this text, or none if no value that fits has it.
abbrev pub Parses : {A : Type 0} → (A → List ℕ) → (A → Type 0) → Option A → List ℕ → Type 0
Parses text Fits (Some x) word = (word ≡ text x) × Fits x
Parses {A} text Fits None word = (x : A) → Fits x → ¬ (word ≡ text x)

-- a test is passed if and only if the fact holds
abbrev pub Reflects : Bool → Type 0 → Type 0
Reflects true fact = fact
Reflects false fact = ¬ fact

-- A link above another one: a layer.
use Rattle.std.specs.Prelude.{◌≡◌, List, [], ◌∷◌, ◌++◌, Result}
use Rattle.mon_types.specs.declared.names.Stop.{Stop}
use Rattle.mon_link.specs.declared.link.Outgoing.{Outgoing}
use Rattle.mon_link.specs.Histories.{Happened, GoOn}
use Rattle.mon_link.specs.Histories.Happened.{WasSent}

-- The calls that were made of a link meanwhile are as `Did` says, and its histories go on with them.
pub record Grows (old : List Happened → Type 0) (Did : List Happened → Type 0) (new : List Happened → Type 0) : Type 0 where
  pub calls : List Happened
  pub did : Did calls
  pub goes_on : GoOn old calls new

-- A link was asked to send these, in order, and for nothing else. Any of the calls may fail.
abbrev pub Sent : List Outgoing → List Happened → Type 0
Sent [] calls = calls ≡ []
Sent (d ∷ more) calls =
    (answer : Result (Unit {0}) Stop) × (rest : List Happened) × (calls ≡ WasSent d.to d.bytes answer ∷ rest) × Sent more rest

-- What the calls of a layer made of calls of the link below, if `Does` says it of each: `Does s x calls t` says that the
-- call x took the layer from s to t, and that these calls were made below.
abbrev pub Steps : {S : Type 0} → (Does : S → Happened → List Happened → S → Type 0) → (first : S) → (above below : List Happened) → (last : S) → Type 0
Steps Does first [] below last = (below ≡ []) × (last ≡ first)
Steps {S} Does first (x ∷ above) below last =
    (calls : List Happened) × (rest : List Happened) × (next : S)
    × (below ≡ calls ++ rest) × Does first x calls next × Steps Does next above rest last

-- The histories of a layer in the state `last`, given those of the link below: some first state and each step led to it.
abbrev pub Above : {S : Type 0} → (Does : S → Happened → List Happened → S → Type 0) → (IsFirst : S → Type 0)
    → (Below : List Happened → Type 0) → (last : S) → List Happened → Type 0
Above {S} Does IsFirst Below last h =
    (below : List Happened) × Below below × (first : S) × IsFirst first × Steps Does first h below last

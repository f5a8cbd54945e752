-- What a link in memory is.
use Rattle.std.specs.Prelude.{◌≡◌, ℕ, List, [], Some}
use Rattle.mon_link.specs.Histories.{Happened, Leads}
use Rattle.mon_link.specs.Links.{Observed, LinkState}

-- what can be seen, and its faults so far
pub record MemoryTalk : Type 0 where
  pub observed : Observed
  pub faults : ℕ

abbrev pub state_of : MemoryTalk → LinkState
state_of l = record { observed = Some l.observed; faults = l.faults }

-- no call was made of the link yet
abbrev pub IsNew : MemoryTalk → Type 0
IsNew l = (l.observed.sent ≡ []) × (l.observed.waits ≡ []) × (l.faults ≡ 0)

-- these calls led from a new link, which gives what it gives and fails where it fails, to this one
abbrev pub LedTo : MemoryTalk → List Happened → Type 0
LedTo l h = (first : MemoryTalk) × IsNew first × Leads h (state_of first) (state_of l)

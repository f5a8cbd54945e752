-- Whom the members of a set follow.
use Rattle.mon_types.specs.Ranks.{has}
use Rattle.mon_wire.specs.declared.phase.Phase.TheVariants as phase
use Rattle.quorum_model.specs.World.{World}
use Rattle.std.specs.Prelude.{Bool, IsSomeAnd, List, true, ℕ, ◌≡◌}

-- Each member is up, and a peon among them follows a member.
abbrev pub FollowMembers : List Bool → World → Type 0
FollowMembers q w = (i : ℕ) → has q i ≡ true
    → IsSomeAnd (w.state i) (λ s. s.phase ≡ phase.Peon → has q s.peon.leader ≡ true)

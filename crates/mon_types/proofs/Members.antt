-- Two members of one rank and one number of monitors.
use Rattle.std.proofs.Common.{◌≡◌, ℕ, ◌≤◌, ◌<◌, ap, ◌∙◌, subst}
use Rattle.std.proofs.Math.Bridge.{le_prop}
use Rattle.mon_types.specs.declared.member.Member.{Member}

-- there is one member of a rank and a number
pub same_member : (a b : Member) → a.rank ≡ b.rank → a.monitors ≡ b.monitors → a ≡ b
same_member a b ranks counts =
    subst (λ (r : ℕ). (most : b.monitors ≤ 15) (in_map : r < b.monitors) → a ≡ record { rank = r; monitors = b.monitors; most = most; in_map = in_map }) ranks
    (subst (λ (n : ℕ). (most : n ≤ 15) (in_map : a.rank < n) → a ≡ record { rank = a.rank; monitors = n; most = most; in_map = in_map }) counts own) b.most b.in_map
  where
    own : (most : a.monitors ≤ 15) (in_map : a.rank < a.monitors) → a ≡ record { rank = a.rank; monitors = a.monitors; most = most; in_map = in_map }
    own most in_map =
        ap (λ (h : a.monitors ≤ 15). record { rank = a.rank; monitors = a.monitors; most = h; in_map = a.in_map }) (le_prop a.most most)
        ∙ ap (λ (h : a.rank < a.monitors). record { rank = a.rank; monitors = a.monitors; most = most; in_map = h }) (le_prop a.in_map in_map)

-- Who outranks whom among the candidates of an election.
use Rattle.std.specs.Prelude.{◌≢◌, ℕ, Bool, true, not, ◌⊎◌, IsTrue}
use Rattle.std.specs.declared.cmp.Ordering.{Ordering}
use Rattle.std.specs.Ordering.{is_lt, on, flip_args, then_cmp, nat_cmp, bool_cmp}
use Rattle.mon_types.specs.Ranks.{has}
use Rattle.election_rules.specs.declared.rule.Rule.{Rule}
use Rattle.election_rules.specs.declared.rule.Rule.TheVariants.{Classic, Disallow, Connectivity}
use Rattle.election_rules.specs.declared.scores.Scores.{Scores}
use Rattle.election_rules.specs.Table.{total}

-- whether the monitor may lead
abbrev pub allows : Rule → ℕ → Bool
allows Classic x = true
allows (Disallow ranks) x = not (has ranks x)
allows (Connectivity ranks) x = not (has ranks x)

-- the score that counts for x among n monitors
abbrev pub score : Rule → Scores → ℕ → ℕ → ℕ
score Classic table n x = 0
score (Disallow ranks) table n x = 0
score (Connectivity ranks) table n x = total table n x

-- the better candidate is the lesser: an allowed one before one that isn't, then the greater score, then the lower rank
abbrev pub ranking : Rule → ℕ → Scores → ℕ → ℕ → Ordering
ranking rule n table =
    then_cmp (then_cmp (on (allows rule) (flip_args bool_cmp)) (on (score rule table n) (flip_args nat_cmp))) nat_cmp

abbrev pub outranks : Rule → ℕ → Scores → ℕ → ℕ → Bool
outranks rule n table a b = is_lt (ranking rule n table a b)

-- of any two, exactly one is before the other, and there is no cycle
pub record IsStrictTotalOrder (before : ℕ → ℕ → Bool) : Type 0 where
  pub irreflexive : (a : ℕ) → ¬ IsTrue (before a a)
  pub transitive : (a b c : ℕ) → IsTrue (before a b) → IsTrue (before b c) → IsTrue (before a c)
  pub total : (a b : ℕ) → a ≢ b → IsTrue (before a b) ⊎ IsTrue (before b a)

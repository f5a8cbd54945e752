-- The monitors of a map.
use Rattle.std.specs.Prelude.{◌≡◌, ℕ, ◌≤◌, nat_lt, Bool, true, false, Option, Some, None, refl}
use Rattle.std.proofs.Common.{lit≤}
use Rattle.std.proofs.lemmas.Bool.{ltb-true}
use Rattle.election_rules.specs.declared.rule.Rule.{Rule}
use Rattle.election_rules.specs.declared.rule.Rule.TheVariants.{Classic}
use Rattle.mon_msg.specs.declared.view.Me.{Me}

-- how many there are, at most 15, and the rule by which they elect
pub record Monitors : Type 0 where
  pub count : ℕ
  pub most : count ≤ 15
  pub rule : Rule

-- the monitor of a rank, if there is one
abbrev pub me_if : (ms : Monitors) (rank : ℕ) (is_below : Bool) → nat_lt rank ms.count ≡ is_below → Option Me
me_if ms rank true e = Some (record {
  member = record { rank = rank; monitors = ms.count; most = ms.most; in_map = ltb-true rank ms.count e };
  rule = ms.rule;
})
me_if ms rank false e = None

abbrev pub me_of : Monitors → ℕ → Option Me
me_of ms rank = me_if ms rank (nat_lt rank ms.count) refl

abbrev pub classic : (n : ℕ) → n ≤ 15 → Monitors
classic n most = record { count = n; most = most; rule = Classic }

-- The monitor of a rank that is in the map.
use Rattle.std.proofs.Common.{◌≡◌, ℕ, Bool, true, false, ltb, Some, refl, ap}
use Rattle.std.proofs.Math.Bool.{Bool-set}
use Rattle.std.proofs.lemmas.Bool.{ltb-true}
use Rattle.mon_msg.specs.declared.view.Me.{Me}
use Rattle.quorum_model.specs.Monitors.{Monitors, me_if, me_of}

abbrev pub member_of : (ms : Monitors) (rank : ℕ) → ltb rank ms.count ≡ true → Me
member_of ms rank lt = record {
  member = record { rank = rank; monitors = ms.count; most = ms.most; in_map = ltb-true rank ms.count lt };
  rule = ms.rule;
}

by_test : (ms : Monitors) (rank : ℕ) (lt : ltb rank ms.count ≡ true) (b : Bool) (q : ltb rank ms.count ≡ b) → b ≡ true
    → me_if ms rank b q ≡ Some (member_of ms rank lt)
by_test ms rank lt true q is = ap (λ (p : ltb rank ms.count ≡ true). Some (member_of ms rank p)) (Bool-set _ _ q lt)
by_test ms rank lt false q is = absurd cc

pub me_is : (ms : Monitors) (rank : ℕ) (lt : ltb rank ms.count ≡ true) → me_of ms rank ≡ Some (member_of ms rank lt)
me_is ms rank lt = by_test ms rank lt (ltb rank ms.count) refl lt

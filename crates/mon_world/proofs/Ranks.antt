-- The monitors of a map and their ranks.
use Rattle.std.proofs.Common.{◌≡◌, ℕ, ◌<◌, Bool, true, false, Some, refl, sym, ap}
use Rattle.std.proofs.lemmas.Bool.{lt-ltb}
use Rattle.std.proofs.lemmas.Option.{same_Some}
use Rattle.std.specs.Prelude.{nat_lt}
use Rattle.mon_msg.specs.declared.view.Me.{Me}
use Rattle.quorum_model.specs.Monitors.{Monitors, me_if, me_of}

pub record IsOf (ms : Monitors) (rank : ℕ) (me : Me) : Type 0 where
  pub rank_is : me.member.rank ≡ rank
  pub monitors : me.member.monitors ≡ ms.count
  pub rule : me.rule ≡ ms.rule

facts : (ms : Monitors) (rank : ℕ) (me : Me) (b : Bool) (e : nat_lt rank ms.count ≡ b) → me_if ms rank b e ≡ Some me → IsOf ms rank me
facts ms rank me true e is =
    let same = same_Some _ _ is in
    record {
      rank_is = sym (ap (λ (x : Me). x.member.rank) same);
      monitors = sym (ap (λ (x : Me). x.member.monitors) same);
      rule = sym (ap (λ (x : Me). x.rule) same);
    }
facts ms rank me false e is = absurd cc

pub is_of : (ms : Monitors) (rank : ℕ) (me : Me) → me_of ms rank ≡ Some me → IsOf ms rank me
is_of ms rank me is = facts ms rank me (nat_lt rank ms.count) refl is

there : (ms : Monitors) (rank : ℕ) (b : Bool) (e : nat_lt rank ms.count ≡ b) → b ≡ true → (me : Me) × (me_if ms rank b e ≡ Some me)
there ms rank true e t = (_, refl)
there ms rank false e t = absurd cc

-- there is one of each rank below their number
pub me_at : (ms : Monitors) (rank : ℕ) → rank < ms.count → (me : Me) × (me_of ms rank ≡ Some me)
me_at ms rank below = there ms rank (nat_lt rank ms.count) refl (lt-ltb rank ms.count below)

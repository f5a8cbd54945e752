-- What a member's store keeps after a vote, and after it learned a value.
use Rattle.law_names.proofs.Table.{Last, Learn, Op, Readings, epoch_of, epoch_or_first, or_zero, pending, pending_of, play, played, promise_of}
use Rattle.log_model.proofs.AnyValue.{value_spares}
use Rattle.quorum_stays.specs.Steady.{IsOfCommand}
use Rattle.quorum_walk.proofs.Sparing.{Own, learned_own, own_of}
use Rattle.std.proofs.Common.{List, [], ap, arith, false, is_some, refl, suc, ℕ, ◌∷◌, ◌≡◌}
use Rattle.std.proofs.lemmas.Bool.{ne_eqb}

-- a value that was accepted for no later version isn't pending
pub settled : (w : Readings) → w.pending_v ≡ w.last → is_some (pending w) ≡ false
unfolding pending_of
settled w old = rw (ne_eqb w.pending_v (suc w.last) (λ e. omega arith)) refl

module _ (v : ℕ) (x : List Op) (w : Readings) (C : IsOfCommand x) where
  own : own_of (play (Learn v x) w) ≡ own_of w
  own = learned_own v (x ∷ []) w (value_spares C.readings C.command C.asked x C.made, tt)

  pub learned_epoch : epoch_of (played (Learn v x ∷ Last v ∷ []) w) ≡ epoch_of w
  learned_epoch = ap (λ (o : Own). epoch_or_first o.epoch) own

  pub learned_promise : promise_of (played (Learn v x ∷ Last v ∷ []) w) ≡ promise_of w
  learned_promise = ap (λ (o : Own). or_zero o.promise) own

  pub learned_pending : (played (Learn v x ∷ Last v ∷ []) w).pending_v ≡ w.pending_v
  learned_pending = ap (λ (o : Own). o.pending_v) own

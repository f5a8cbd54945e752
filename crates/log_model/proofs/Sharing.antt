-- What a monitor shares after changes that put none of its own keys.
use Rattle.std.proofs.Common.{◌≡◌, ℕ, ◌+◌, Bool, true, false, ◌||◌, refl, subst}
use Rattle.std.specs.Ordering.{eq_by_cmp}
use Rattle.mon_tx.specs.declared.key.Area.TheVariants as area
use Rattle.mon_tx.specs.declared.key.Key.TheVariants as key
use Rattle.mon_tx.specs.Keys.{place, is_local}
use Rattle.mon_tx.specs.Map.{Place, place_cmp}
use Rattle.log_model.proofs.Places.{same_place}

-- P holds of each key that is a monitor's own, if `last` is its last version
pub record OfOwn (P : Place → Type 0) (last : ℕ) : Type 0 where
  pub last_committed : P (place area.Paxos key.LastCommitted)
  pub last_pn : P (place area.Paxos key.LastPn)
  pub accepted_pn : P (place area.Paxos key.AcceptedPn)
  pub pending_v : P (place area.Paxos key.PendingV)
  pub pending_pn : P (place area.Paxos key.PendingPn)
  pub behind : P (place area.Paxos (key.Version (last + 1)))
  pub epoch : P (place area.Monitor key.ElectionEpoch)
  pub boots : P (place area.Monitor key.BootCount)
  pub mark : P (place area.Sync key.InSync)
  pub floor : P (place area.Sync key.Floor)

module _ (P : Place → Type 0) where
  or_later : (p q : Place) (rest : Bool) → P p → (rest ≡ true → P q) → (eq_by_cmp place_cmp p q || rest) ≡ true → P q
  or_later p q rest h go e = by (eq_by_cmp place_cmp p q) refl e
    where
      by : (b : Bool) → eq_by_cmp place_cmp p q ≡ b → (b || rest) ≡ true → P q
      by true t e = subst P (same_place p q t) h
      by false t e = go e

  pub of_own : (last : ℕ) → OfOwn P last → (q : Place) → is_local last q ≡ true → P q
  of_own last h q =
      or_later _ q _ h.last_committed (or_later _ q _ h.last_pn (or_later _ q _ h.accepted_pn (or_later _ q _ h.pending_v (or_later _ q _ h.pending_pn
      (or_later _ q _ h.behind (or_later _ q _ h.epoch (or_later _ q _ h.boots (or_later _ q _ h.mark (or_later _ q _ h.floor (λ e. absurd cc))))))))))

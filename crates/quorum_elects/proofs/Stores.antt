-- A monitor that has versions of the log and no long value of its own has no long value at all.
use Rattle.calm_sizes.proofs.Shorts.{fold_short}
use Rattle.calm_sizes.specs.Sizes.{AllShort, OwnShort, longest}
use Rattle.law_names.proofs.Runs.{AllValues, Monitors, World}
use Rattle.law_names.proofs.Table.{Store, get, is_local, number, shared}
use Rattle.log_copies.proofs.Standing.{Agrees}
use Rattle.log_copies.specs.Versions.{HasVersions}
use Rattle.log_model.proofs.Places.{get_kept}
use Rattle.mon_tx.specs.Map.{Place}
use Rattle.mon_tx.specs.declared.key.Area.TheVariants as area
use Rattle.mon_tx.specs.declared.key.Key.TheVariants as key
use Rattle.quorum_agreement.proofs.Invariant.{LogHolds, remembers}
use Rattle.quorum_agreement.proofs.Step.{copy_marked}
use Rattle.quorum_laws.specs.Accepting.{readings_at}
use Rattle.std.proofs.Common.{Bool, List, None, ap, arith, cond, false, inl, inr, length, not, refl, sym, true, ℕ, ◌<◌, ◌^◌, ◌∙◌, ◌≡◌, ◌≤◌}
use Rattle.std.proofs.lemmas.Bool.{false≢true}

-- what isn't a monitor's own is shared
shared_there : (m : Store) (q : Place) → is_local (number m area.Paxos key.LastCommitted) q ≡ false → get (shared m) q ≡ get m q
unfolding shared
shared_there m q out = get_kept m (λ at. not (is_local (number m area.Paxos key.LastCommitted) at)) q ∙ ap (λ b. cond (not b) (get m q) None) out

pub versions_short : (log : List (List ℕ)) → length log ≤ 2 ^ 62 → AllValues log → (c : ℕ) (m : Store) → HasVersions log c m → OwnShort longest m → AllShort longest m
versions_short log short values c m V own q x e = by (is_local (number m area.Paxos key.LastCommitted) q) refl
  where
    by : (b : Bool) → is_local (number m area.Paxos key.LastCommitted) q ≡ b → length x ≤ longest
    by true t = own q x t e
    by false t = let s = fold_short log short values c V.within q x (ap (λ (m : Store). get m q) (sym V.folded) ∙ shared_there m q t ∙ e) in omega arith

pub near_short : (ms : Monitors) (w : World) → LogHolds ms w → (i : ℕ) → i < ms.count → (readings_at w i).marked ≡ false → OwnShort longest (w.store i) → AllShort longest (w.store i)
near_short ms w H i lt u own = let O = H.1 in by (O.stores i lt)
  where
    by : Agrees w.log (w.store i) (remembers i (w.state i)) → AllShort longest (w.store i)
    by (inr T) = absurd (false≢true (sym u ∙ copy_marked w.log (w.store i) (remembers i (w.state i)) T))
    by (inl V) = let O = H.1 in versions_short w.log O.short O.values V.last (w.store i) V.versions own

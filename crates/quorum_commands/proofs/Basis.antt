-- What is known of every world of a run, of one monitor or of several.
use Rattle.law_names.proofs.Runs.{Event, Monitors, PlainFits, World, first_world, happens, plain_of}
use Rattle.law_names.proofs.Table.{entry}
use Rattle.quorum_agreement.proofs.Beginning.{at_first}
use Rattle.quorum_agreement.proofs.Grown.{GrowsByOne}
use Rattle.quorum_agreement.proofs.Invariant.{EnvelopeMatches, LogHolds}
use Rattle.quorum_agreement.proofs.LoneWorlds.{IsWhole, LoneHolds, lone_asking, lone_at_first, lone_follows}
use Rattle.quorum_agreement.proofs.Result.{OneLog, entries_chosen, lone_log, several_log}
use Rattle.quorum_agreement.proofs.Worlds.{all_follow, asking}
use Rattle.quorum_laws.proofs.Events as laws
use Rattle.quorum_laws.proofs.Invariant.{InvOf}
use Rattle.quorum_laws.specs.Accepting.{HasAccepted}
use Rattle.quorum_laws.specs.Values.{IsChosen}
use Rattle.quorum_walk.proofs.Ranks.{majorities}
use Rattle.std.proofs.Common.{IfOk, List, arith, inl, inr, length, suc, sym, ℕ, ◌<◌, ◌≡◌, ◌⊎◌}
use Rattle.std.proofs.lemmas.Bool.{cases_order}

pub record Basis (ms : Monitors) : Type 1 where
  pub holds : World → Type 0
  pub inv : (w : World) → holds w → InvOf ms w
  pub one : (w : World) → holds w → OneLog ms w
  pub whole : (w : World) → holds w → ms.count ≡ 1 → (i : ℕ) → i < ms.count → IsWhole w.log (w.store i)
  -- one of several accepted each version
  pub somebody : (w : World) → holds w → 1 < ms.count → (v : ℕ) → v < length w.log → (j : ℕ) × (q : ℕ) × HasAccepted w j (suc v) q (entry w.log (suc v))
  pub step : (w : World) (e : Event) → PlainFits ms.count (plain_of e) → holds w → IfOk (happens ms w e) (λ next. holds next × GrowsByOne w.log next.log)
  pub first : holds first_world

module _ (ms : Monitors) where
  accepted : (w : World) (v : ℕ) (bytes : List ℕ) → IsChosen ms.count w v bytes → (j : ℕ) × (q : ℕ) × HasAccepted w j v q bytes
  accepted w v bytes c = let M = c.major in let s = majorities ms.count c.by c.by M.major M.major M.below M.below in (s.0, c.pn, c.all s.0 s.1)

  several : ((i : ℕ) → i < ms.count → 1 < ms.count) → Basis ms
  several more = record {
    holds = LogHolds ms;
    inv = λ w b. b.0;
    one = several_log ms;
    whole = λ w b one i lt. (let m = more i lt in absurd (omega arith));
    somebody = λ w b m v lt. accepted w (suc v) (entry w.log (suc v)) (entries_chosen ms w b.0 b.1 v lt);
    step = λ w e fits b. laws.each_event ms w (EnvelopeMatches w.log) b.0 (λ next. LogHolds ms next × GrowsByOne w.log next.log) b.1.sent e fits (λ J up. all_follow ms more w (plain_of e) J (asking ms w (plain_of e) b.0 b.1 J));
    first = at_first ms;
  }

  single : ms.count ≡ 1 → Basis ms
  single is = record {
    holds = LoneHolds ms;
    inv = λ w b. b.0;
    one = lone_log ms;
    whole = λ w b one. b.1.stores;
    somebody = λ w b m v lt. absurd (omega arith);
    step = λ w e fits b. laws.each_event ms w (EnvelopeMatches w.log) b.0 (λ next. LoneHolds ms next × GrowsByOne w.log next.log) b.1.sent e fits (λ J up. lone_follows ms is w (plain_of e) J (lone_asking ms w (plain_of e) b.1));
    first = lone_at_first ms;
  }

  pub basis : Basis ms
  basis = by (cases_order 1 ms.count)
    where
      by : (1 ≡ ms.count) ⊎ ((1 < ms.count) ⊎ (ms.count < 1)) → Basis ms
      by (inl e) = single (sym e)
      by (inr (inl more)) = several (λ i lt. more)
      by (inr (inr none)) = several (λ i lt. absurd (omega arith))

-- The stores in a world of a run, as a later winner asks: of members of a quorum that is led, or whose leader still serves.
use Rattle.law_names.proofs.Runs.{Monitors, Reached, World}
use Rattle.law_names.proofs.Table.{State, entry, has, promise_of, text}
use Rattle.mon_wire.specs.declared.phase.Phase.TheVariants as phase
use Rattle.quorum_agreement.proofs.Invariant.{OfLog}
use Rattle.quorum_history.proofs.Holds.{FollowsIn, InPhase, core_of}
use Rattle.quorum_laws.proofs.Invariant.{InvOf}
use Rattle.quorum_laws.proofs.Reading.{state_holds}
use Rattle.quorum_laws.specs.Accepting.{IsMajorityOf, readings_at}
use Rattle.quorum_model.proofs.Reached.{world_is}
use Rattle.quorum_near.proofs.Whole.{Holds}
use Rattle.quorum_recovers.proofs.Known.{within_log}
use Rattle.quorum_stays.specs.Steady.{Reign, Round, Steady}
use Rattle.quorum_timed.specs.Timed.{Pace, Timed}
use Rattle.quorum_walk.proofs.Sparing.{own_of}
use Rattle.std.proofs.Common.{Bool, IsSomeAnd, List, Some, ap, arith, false, inl, inr, length, refl, subst, suc, sym, true, zero, ℕ, ◌%◌, ◌<◌, ◌^◌, ◌∙◌, ◌≡◌, ◌≤◌, ◌⊎◌}
use Rattle.std.proofs.lemmas.Bool.{cases_eq}
use Rattle.timed_election.proofs.Lists.{opened}
use Rattle.timed_failover.proofs.Led.{HasOrAccepted, log_and_mark, promise_is, reached_holds}
use Rattle.timed_failover.proofs.Owned.{Owns, owned}
use Rattle.timed_failover.proofs.Regained.{AreStocked}
use Rattle.timed_failover.proofs.Stocked.{last_encoded, last_made, last_value, learns, led_learns, led_made, led_stocked, stocked}
use Rattle.timed_failover.proofs.WholeAnswers.{entry_most, most_committed}
use Rattle.timed_failover.proofs.WholeLog.{leads, whole}

-- ---- a world of a run

module _ (ms : Monitors) (several : 1 < ms.count) (w : World) (R : Reached ms w) where
  abbrev holds : Holds ms several w
  holds = reached_holds ms several w R

  owns : Owns ms several w
  owns = subst (Owns ms several) (world_is ms w R) (owned ms several R.events R.fit)

  abbrev I : InvOf ms w
  I = holds.0.0

  abbrev O : OfLog ms w w.asked I
  O = holds.0.1

  pub last_short : 0 < length w.log → length (text (last_value w.log)) ≤ most_committed
  last_short some = by (length w.log) refl
    where
      by : (c : ℕ) → length w.log ≡ c → length (text (last_value w.log)) ≤ most_committed
      by zero e = absurd (omega arith)
      by (suc l) e =
          let k = entry_most w.log O.short O.values l (omega arith) in
          let same : length (entry w.log (suc l)) ≡ length (text (last_value w.log)) = ap (λ (c : ℕ). length (entry w.log c)) (sym e) ∙ ap length (last_encoded ms several w holds some) in omega arith

  -- a peon is in no full synchronization
  pub peon_unmarked : (i : ℕ) (s : State) → w.state i ≡ Some s → s.phase ≡ phase.Peon → (readings_at w i).marked ≡ false
  peon_unmarked i s up is = let K : FollowsIn I.g i (core_of (own_of (readings_at w i)) s) = subst (InPhase ms.count I.g i (core_of (own_of (readings_at w i)) s)) is (state_holds ms w I i s up) in K.unmarked

  -- ---- of which a leader serves a majority

  module _ (q : List Bool) (leader pn version : ℕ) (s : State) (up : w.state leader ≡ Some s) (serves : (s.phase ≡ phase.Active) ⊎ (s.phase ≡ phase.Updating)) (number : s.leader.pn ≡ pn) (major : IsMajorityOf ms.count q)
      (inside : has q leader ≡ true) (within : (i : ℕ) → has q i ≡ true → has s.leader.quorum i ≡ true) (promised : (i : ℕ) → has q i ≡ true → promise_of (readings_at w i) ≡ pn) (last : (readings_at w leader).last ≡ version)
      (peons : (i : ℕ) → has q i ≡ true → (i ≡ leader → ⊥)
      → IsSomeAnd (w.state i) (λ (z : State). z.phase ≡ phase.Peon) × HasOrAccepted version (readings_at w i)) where
    low : (i : ℕ) → has q i ≡ true → promise_of (readings_at w i) ≤ s.leader.pn
    low i qi = let k = promised i qi in omega arith

    own : (s.leader.pn % 100 ≡ leader) × ((readings_at w leader).marked ≡ false) × (leader < ms.count)
    own = leads ms several w owns leader s up serves q major within low

    pub log_is : length w.log ≡ version
    log_is =
        let most = whole ms several w owns leader s up serves q major within low in
        let least = within_log ms several w holds leader own.2 own.1 in omega arith

    pub unmarked : (i : ℕ) → has q i ≡ true → (readings_at w i).marked ≡ false
    unmarked i qi = elim (cases_eq i leader) [
      | inl same ↦ subst (λ (k : ℕ). (readings_at w k).marked ≡ false) (sym same) own.1
      | inr ne ↦ (let o = opened (λ (z : State). z.phase ≡ phase.Peon) (w.state i) (peons i qi ne).0 in peon_unmarked i o.0 o.1 o.2)
    ]

    near : (i : ℕ) → has q i ≡ true → HasOrAccepted (length w.log) (readings_at w i)
    near i qi = subst (λ (v : ℕ). HasOrAccepted v (readings_at w i)) (sym log_is) (elim (cases_eq i leader) [
      | inl same ↦ inl (ap (λ (k : ℕ). (readings_at w k).last) same ∙ last)
      | inr ne ↦ (peons i qi ne).1
    ])

    pub are_stocked : suc (suc version) ≤ 2 ^ 62 → AreStocked q version (last_value w.log) pn w
    are_stocked fits = subst (λ (v : ℕ). AreStocked q v (last_value w.log) pn w) log_is (record {
      fits = (let k = log_is in omega arith);
      made = λ some. ((last_made ms several w holds some).0, last_short some);
      stocked = λ i qi. stocked ms several w holds i (major.below i qi) (unmarked i qi) (near i qi);
      learns = λ i qi. learns ms several w holds i (major.below i qi) (unmarked i qi) (near i qi);
      promised = promised;
    })

-- ---- a quorum that is led

-- so are those of some of its members
pub led_are_stocked : (ms : Monitors) (full : List Bool) (pace : Pace) (reign : Reign) (r : Round) (t : Timed) → (R : Reached ms t.world) (S : Steady ms full pace reign r t) (several : 1 < ms.count)
    (q : List Bool) → ((i : ℕ) → has q i ≡ true → has full i ≡ true) → suc (suc r.version) ≤ 2 ^ 62 → AreStocked q r.version (last_value t.world.log) reign.pn t.world
led_are_stocked ms full pace reign r t R S several q within few = record {
  fits = few;
  made = λ some. ((led_made ms full pace reign r t R S some).0, (let k = (log_and_mark ms full pace reign r t R S).0 in last_short ms several t.world R (omega arith)));
  stocked = λ i qi. led_stocked ms full pace reign r t R S i (within i qi);
  learns = λ i qi. led_learns ms full pace reign r t R S i (within i qi);
  promised = λ i qi. promise_is ms full pace reign r t R S i (within i qi);
}

-- A leader that serves has the whole log, if a majority of its quorum promised no greater number than its own.
use Rattle.law_names.proofs.Runs.{AllFit, Event, Monitors, World, run}
use Rattle.law_names.proofs.Table.{State, epoch_of, has, promise_of}
use Rattle.mon_wire.specs.declared.phase.Phase.TheVariants as phase
use Rattle.quorum_history.proofs.Holds.{InPhase, core_of, level_in}
use Rattle.quorum_history.proofs.Numbers.{level_is}
use Rattle.quorum_laws.proofs.Chosen.{leaders_know}
use Rattle.quorum_laws.proofs.Invariant.{InvOf, OnState}
use Rattle.quorum_laws.proofs.Numbers.{numbers_hold}
use Rattle.quorum_laws.specs.Accepting.{IsMajorityOf, readings_at}
use Rattle.quorum_laws.specs.Promises.{NumbersHold}
use Rattle.quorum_laws.specs.Values.{KnowsOlder, has_heard}
use Rattle.quorum_near.proofs.Whole.{held}
use Rattle.quorum_recovers.proofs.Known.{within_log}
use Rattle.quorum_walk.proofs.Ranks.{majorities}
use Rattle.quorum_walk.proofs.Sparing.{own_of}
use Rattle.std.proofs.Common.{Bool, List, Some, ap, arith, false, inl, inr, length, subst, suc, true, ℕ, ◌%◌, ◌<◌, ◌∙◌, ◌≡◌, ◌≤◌, ◌⊎◌}
use Rattle.std.proofs.lemmas.Bool.{cases_lt, cases_order}
use Rattle.timed_failover.proofs.Owned.{IsOwned, Owns, owned}
use Rattle.timed_failover.specs.Newest.{IsNewest}

module _ (ms : Monitors) (several : 1 < ms.count) (w : World) (H : Owns ms several w) (l : ℕ) (s : State) (up : w.state l ≡ Some s) (serves : (s.phase ≡ phase.Active) ⊎ (s.phase ≡ phase.Updating))
    (q : List Bool) (major : IsMajorityOf ms.count q) (within : (i : ℕ) → has q i ≡ true → has s.leader.quorum i ≡ true) (promised : (i : ℕ) → has q i ≡ true → promise_of (readings_at w i) ≤ s.leader.pn) where
  abbrev I : InvOf ms w
  I = H.0.0

  in_phase : InPhase ms.count I.g l (core_of (own_of (readings_at w l)) s) s.phase
  in_phase = subst (OnState ms.count I.g l (readings_at w l)) up (I.mine l).state

  -- its number is its own, it is in no full synchronization, and it is a monitor of the map
  pub leads : (s.leader.pn % 100 ≡ l) × ((readings_at w l).marked ≡ false) × (l < ms.count)
  leads = elim serves [
    | inl e ↦ (let k = subst (InPhase ms.count I.g l (core_of (own_of (readings_at w l)) s)) e in_phase in let L = k.0 in let R = L.reigns in (L.own, R.unmarked, I.glob.roles.below l (epoch_of (readings_at w l)) l s.leader.quorum R.role))
    | inr e ↦ (let k = subst (InPhase ms.count I.g l (core_of (own_of (readings_at w l)) s)) e in_phase in let L = k.0 in let R = L.reigns in (L.own, R.unmarked, I.glob.roles.below l (epoch_of (readings_at w l)) l s.leader.quorum R.role))
  ]

  heard : has_heard s.phase ≡ true
  heard = elim serves [ inl e ↦ ap has_heard e | inr e ↦ ap has_heard e ]

  proposes_new : s.phase ≡ phase.Previous → ⊥
  proposes_new p = elim serves [ inl e ↦ cc | inr e ↦ cc ]

  pub whole : length w.log ≤ (readings_at w l).last
  whole = elim (cases_lt (readings_at w l).last (length w.log)) [
    | inr k ↦ k
    | inl lt ↦ absurd (lacks (H.1 (readings_at w l).last lt))
  ]
    where
      lacks : IsOwned ms.count w.transactions w.store (suc (readings_at w l).last) → ⊥
      lacks V = by (cases_order V.pn s.leader.pn)
        where
          m : (k : ℕ) × (has V.by k ≡ true) × (has q k ≡ true)
          m = let M = V.major in majorities ms.count V.by q M.major major.major M.below major.below

          low : V.pn ≤ s.leader.pn
          low = let N : NumbersHold w = numbers_hold ms w I in let a = N.accepted m.0 (suc (readings_at w l).last) V.pn V.bytes (V.all m.0 m.1) in let p = promised m.0 m.2 in omega arith

          by : (V.pn ≡ s.leader.pn) ⊎ ((V.pn < s.leader.pn) ⊎ (s.leader.pn < V.pn)) → ⊥
          by (inl e) =
              let own : V.pn % 100 ≡ l = ap (λ (k : ℕ). k % 100) e ∙ leads.0 in
              let level = subst (λ (k : ℕ). suc (readings_at w l).last ≤ level_in (own_of (readings_at w k))) own V.level in
              let is = level_is (own_of (readings_at w l)) leads.1 in
              omega arith
          by (inr (inl lt)) =
              let K : KnowsOlder w l s = leaders_know ms w I l s up heard in
              elim (K.covered m.0 (suc (readings_at w l).last) V.pn V.bytes (within m.0 m.2) (V.all m.0 m.1) lt) [
                | inl le ↦ omega arith
                | inr R ↦ proposes_new (R.phase)
              ]
          by (inr (inr gt)) = let k = low in omega arith

-- ---- the law

pub has_the_log : (ms : Monitors) (events : List Event) → AllFit ms.count events → 1 < ms.count → (i : ℕ) (s : State) → (run ms events).state i ≡ Some s → IsNewest ms.count (run ms events) s
    → (readings_at (run ms events) i).last ≡ length (run ms events).log
has_the_log ms events F several i s up N =
    let H = owned ms several events F in
    let most = whole ms several (run ms events) H i s up N.serves N.by N.major N.within N.promised in
    let own = leads ms several (run ms events) H i s up N.serves N.by N.major N.within N.promised in
    let least = within_log ms several (run ms events) (held ms several events F) i own.2 own.1 in
    omega arith

-- How far time may have gone in a quorum that lost a peon, while its leader still renews the leases.
use Rattle.law_names.proofs.Runs.{Monitors}
use Rattle.law_names.proofs.Table.{State, has}
use Rattle.mon_wire.specs.declared.phase.Timer.TheVariants as timer
use Rattle.quorum_stays.proofs.Carrying.{first_by}
use Rattle.quorum_stays.proofs.Onward.{unpack}
use Rattle.quorum_stays.proofs.Peering.{PeonIn}
use Rattle.quorum_stays.specs.Steady.{Carries, Item, Reign, Round, leased, said, to_leader, to_peon}
use Rattle.quorum_timed.specs.Begins.{IsQuick}
use Rattle.quorum_timed.specs.Timed.{MayBe, Pace, Timed}
use Rattle.std.proofs.Common.{Bool, List, Some, arith, drop, ltb, subst, suc, take, true, zero, ℕ, ◌*◌, ◌+◌, ◌<◌, ◌∷◌, ◌≡◌, ◌≤◌}
use Rattle.std.proofs.lemmas.Bool.{lt-ltb}
use Rattle.timed_failover.proofs.Waning.{Waning, calm}
use Rattle.timed_failover.proofs.WaningFrame.{Renewer}

module _ (ms : Monitors) (full q : List Bool) (pace : Pace) (reign : Reign) (r : Round) (t : Timed) (S : Waning ms full q pace reign r t) where
  pub inside : (i : ℕ) → has q i ≡ true → ltb i ms.count ≡ true
  inside i qi = lt-ltb i ms.count (S.members i (S.within i qi))

  pub few : reign.leader < 15
  few = let z = S.members reign.leader (S.within reign.leader S.leads) in let m = ms.most in omega arith

  pub leading : (s : State) × (t.world.state reign.leader ≡ Some s) × Renewer ms full q pace reign r s
  leading = unpack (Renewer ms full q pace reign r) (t.world.state reign.leader) S.lead

  module _ (K : IsQuick pace) (u : ℕ) (M : MayBe ms q pace t u) where
    first_of : (f i : ℕ) → has q f ≡ true → has q i ≡ true → (x : Item) (rest : List Item) → Carries ms reign t.world.messages f i (t.time + pace.delay) (x ∷ rest) (t.under_way f i) → u ≤ x.by
    first_of f i qf qi x rest C = first_by ms reign f i t.world.messages (t.time + pace.delay) u x rest (t.under_way f i) C (λ o others e. M.messages f i qf qi o others e)

    -- the leader renews in time: a timer that ended before `since` may be late from then on
    pub by_renewal : u ≤ r.latest + 3000 + 2 * pace.late
    by_renewal =
        let l = leading in
        let L = l.2 in
        let z = M.timers reign.leader S.leads l.0 l.1 timer.Renew (r.latest + pace.clock reign.leader + 3000) L.renews in
        let y = S.since in
        omega arith

    module _ (i : ℕ) (qi : has q i ≡ true) (F : PeonIn ms full pace reign (calm r) t i t.under_way) where
      -- a COMMIT or a LEASE is under way to it
      pub by_lease : F.heard ≤ 1 → u ≤ r.latest + pace.delay
      by_lease le = by F.heard le F.to_come
        where
          by : (h : ℕ) → h ≤ 1 → Carries ms reign t.world.messages reign.leader i (t.time + pace.delay) (drop h (to_peon reign pace (calm r))) (t.under_way reign.leader i) → u ≤ r.latest + pace.delay
          by zero le C = first_of reign.leader i S.leads qi _ _ C
          by (suc zero) le C = first_of reign.leader i S.leads qi _ _ C
          by (suc (suc h)) le C = absurd (omega arith)

      -- an acknowledgement is under way from it
      pub by_ack : 2 ≤ F.heard → F.taken ≡ 0 → u ≤ r.latest + 2 * pace.delay
      by_ack le none = by F.heard le (subst (λ (z : ℕ). Carries ms reign t.world.messages i reign.leader (t.time + pace.delay) (drop z (take (said F.heard) (to_leader reign pace (calm r)))) (t.under_way i reign.leader)) none F.to_take)
        where
          by : (h : ℕ) → 2 ≤ h → Carries ms reign t.world.messages i reign.leader (t.time + pace.delay) (take (said h) (to_leader reign pace (calm r))) (t.under_way i reign.leader) → u ≤ r.latest + 2 * pace.delay
          by zero le C = absurd (omega arith)
          by (suc zero) le C = absurd (omega arith)
          by (suc (suc h)) le C = first_of i reign.leader qi S.leads _ _ C

      -- its lease timer doesn't end for three delays more
      pub waits : 4 * pace.delay ≤ 3000 → u + 3 * pace.delay < leased (calm r) F.heard + 10000
      waits short = by F.heard by_lease
        where
          by : (h : ℕ) → (h ≤ 1 → u ≤ r.latest + pace.delay) → u + 3 * pace.delay < leased (calm r) h + 10000
          by zero soon = let z = soon (omega arith) in let a = S.apart in let k = K.leases in omega arith
          by (suc zero) soon = let z = soon (omega arith) in let a = S.apart in let k = K.leases in omega arith
          by (suc (suc h)) soon = let z = by_renewal in let k = K.leases in omega arith

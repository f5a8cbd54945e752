-- The lease of each member of a quorum that is led is valid while no value is in progress.
use Rattle.law_names.proofs.Runs.{Monitors}
use Rattle.law_names.proofs.Table.{State, has, lease_of, readings_of, stands}
use Rattle.mon_lease.specs.declared.lease.TheConstants.{LENGTH}
use Rattle.quorum_stays.proofs.Bounds.{by_lease, by_renewal, leading}
use Rattle.quorum_stays.proofs.Onward.{pack, unpack}
use Rattle.quorum_stays.proofs.Peering.{PeonIn}
use Rattle.quorum_stays.specs.Reading.{LeasesStand}
use Rattle.quorum_stays.specs.Steady.{Begun, FollowsSince, HasLease, Keeps, Leads, LeadsSince, LeasedSince, Reign, Round, Steady, leased, to_peon}
use Rattle.quorum_timed.specs.Begins.{IsQuick}
use Rattle.quorum_timed.specs.Timed.{MayBe, Pace, Timed}
use Rattle.std.proofs.Common.{Bool, IsSomeAnd, List, None, Option, Some, arith, inl, inr, length, refl, subst, suc, sym, true, zero, ℕ, ◌+◌, ◌<◌, ◌≡◌, ◌≤◌}
use Rattle.std.proofs.lemmas.Bool.{cases_eq, lt-ltb}

module _ (ms : Monitors) (q : List Bool) (pace : Pace) (reign : Reign) (r : Round) (t : Timed) (K : IsQuick pace) (S : Steady ms q pace reign r t) (M : MayBe ms q pace t t.time)
    (none : r.next ≡ None) (past : r.committed + pace.delay < t.time) where
  valid : (o : Option ℕ) (now at : ℕ) → IsSomeAnd o (λ end. at + LENGTH ≤ end) → now < at + 5000 → stands o now ≡ true
  valid None now at k lt = absurd k
  valid (Some end) now at k lt = lt-ltb now end (omega arith)

  -- a peon has a lease of the latest renewal, or of the one before
  held_since : (i : ℕ) → has q i ≡ true → (F : PeonIn ms q pace reign r t i t.under_way) → (at : ℕ) × IsSomeAnd (t.world.state i) (LeasedSince (at + pace.clock i)) × (t.time < at + 5000)
  held_since i qi F = by F.heard two F.lease (λ le. by_lease ms q pace reign r t S K t.time M i qi F le) commit
    where
      two : F.heard ≤ 2
      two = let a = F.sent in let same : r ≡ record r { next = None } = (λ i. record r { next = none i }) in subst (λ (z : Round). F.heard ≤ length (to_peon reign pace z)) same a

      commit : F.heard ≡ zero → r.committed ≡ r.latest
      commit is = let k : Keeps r zero (readings_of (t.world.store i)) = subst (λ (z : ℕ). Keeps r z (readings_of (t.world.store i))) is F.keeps in k.3

      by : (h : ℕ) → h ≤ 2 → IsSomeAnd (t.world.state i) (HasLease (pace.clock i) r h) → (h ≤ 1 → t.time ≤ r.latest + pace.delay) → (h ≡ zero → r.committed ≡ r.latest)
          → (at : ℕ) × IsSomeAnd (t.world.state i) (LeasedSince (at + pace.clock i)) × (t.time < at + 5000)
      by zero le k soon same = let a = soon (omega arith) in let b = same refl in let c = past in absurd (omega arith)
      by (suc zero) le k soon same =
          let a = soon (omega arith) in
          let c = past in
          let d : r.committed < r.latest = omega arith in
          let e = S.only_renewed d in
          let f = K.leases in
          let l = unpack (HasLease (pace.clock i) r (suc zero)) (t.world.state i) k in
          (r.before, pack (LeasedSince (r.before + pace.clock i)) (t.world.state i) l.0 l.1 (l.2 d), omega arith)
      by (suc (suc zero)) le k soon same =
          let z = by_renewal ms q pace reign r t S K t.time M none in
          let f = K.leases in
          (r.latest, k, omega arith)
      by (suc (suc (suc h))) le k soon same = absurd (omega arith)

  pub leases_stand : LeasesStand q pace t
  leases_stand i qi = elim (cases_eq i reign.leader) [
    | inl e ↦ subst (λ (z : ℕ). IsSomeAnd (t.world.state z) (λ s. stands (lease_of s) (t.time + pace.clock z) ≡ true)) (sym e) lead
    | inr ne ↦ follow ne
  ]
    where
      lead : IsSomeAnd (t.world.state reign.leader) (λ s. stands (lease_of s) (t.time + pace.clock reign.leader) ≡ true)
      lead =
          let l = leading ms q pace reign r t S in
          let F : LeadsSince reign q (r.latest + pace.clock reign.leader) l.0 = subst (λ (o : Option Begun). Leads ms.count q pace reign r o l.0) none l.2 in
          let z = by_renewal ms q pace reign r t S K t.time M none in
          let k = K.leases in
          let now = t.time + pace.clock reign.leader in
          let soon : now < r.latest + pace.clock reign.leader + LENGTH = omega arith in
          pack (λ s. stands (lease_of s) now ≡ true) (t.world.state reign.leader) l.0 l.1 (rw (F.leads, F.lease) (lt-ltb now (r.latest + pace.clock reign.leader + LENGTH) soon))

      follow : (i ≡ reign.leader → ⊥) → IsSomeAnd (t.world.state i) (λ s. stands (lease_of s) (t.time + pace.clock i) ≡ true)
      follow ne =
          let F = S.peons i qi ne in
          let h = held_since i qi F in
          let at = h.0 in
          let lt = h.2 in
          let now = t.time + pace.clock i in
          let l = unpack (LeasedSince (h.0 + pace.clock i)) (t.world.state i) h.1 in
          let G : FollowsSince reign.leader q (leased r F.heard + pace.clock i) l.0 = subst (λ (o : Option State). IsSomeAnd o (FollowsSince reign.leader q (leased r F.heard + pace.clock i))) l.1 F.follows in
          pack (λ s. stands (lease_of s) now ≡ true) (t.world.state i) l.0 l.1 (rw G.follows (valid l.0.peon.lease now (h.0 + pace.clock i) l.2 (omega arith)))

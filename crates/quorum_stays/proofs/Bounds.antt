-- How far time may have gone in a quorum that is led.
use Rattle.law_names.proofs.Runs.{Monitors}
use Rattle.law_names.proofs.Table.{State, has, readings_of}
use Rattle.mon_wire.specs.declared.phase.Timer.TheVariants as timer
use Rattle.quorum_stays.proofs.Carrying.{first_by}
use Rattle.quorum_stays.proofs.Onward.{one_state, unpack}
use Rattle.quorum_stays.proofs.States.{one_missing}
use Rattle.quorum_stays.specs.Steady.{Begun, Carries, Follower, Item, Leads, LeadsSince, Noted, Proposes, Reign, Round, Steady, leased, said, to_leader, to_peon}
use Rattle.quorum_timed.specs.Begins.{IsQuick}
use Rattle.quorum_timed.specs.Timed.{MayBe, Pace, Timed}
use Rattle.std.proofs.Common.{Bool, List, None, Option, Some, arith, drop, length, ltb, refl, subst, suc, sym, take, true, zero, ℕ, ◌*◌, ◌+◌, ◌<◌, ◌∙◌, ◌∷◌, ◌≡◌, ◌≤◌}
use Rattle.std.proofs.lemmas.Bool.{false≢true, lt-ltb}

module _ (ms : Monitors) (q : List Bool) (pace : Pace) (reign : Reign) (r : Round) (t : Timed) (S : Steady ms q pace reign r t) where
  pub inside : (i : ℕ) → has q i ≡ true → ltb i ms.count ≡ true
  inside i qi = lt-ltb i ms.count (S.members i qi)

  pub few : reign.leader < 15
  few = let z = S.members reign.leader S.leads in let m = ms.most in omega arith

  pub leading : (s : State) × (t.world.state reign.leader ≡ Some s) × Leads ms.count q pace reign r r.next s
  leading = unpack (Leads ms.count q pace reign r r.next) (t.world.state reign.leader) S.lead

  -- what is known of peon i
  abbrev pub Peon : ℕ → Type 0
  Peon i = Follower ms q pace reign r t.world.messages (t.time + pace.delay) i (t.world.state i) (t.world.state reign.leader)
      (readings_of (t.world.store i)) (t.under_way reign.leader i) (t.under_way i reign.leader)

  module _ (K : IsQuick pace) (u : ℕ) (M : MayBe ms q pace t u) where
    pub first_of : (f i : ℕ) → has q f ≡ true → has q i ≡ true → (x : Item) (rest : List Item) → Carries ms reign t.world.messages f i (t.time + pace.delay) (x ∷ rest) (t.under_way f i) → u ≤ x.by
    first_of f i qf qi x rest C = first_by ms reign f i t.world.messages (t.time + pace.delay) u x rest (t.under_way f i) C (λ o others e. M.messages f i qf qi o others e)

    module _ (i : ℕ) (qi : has q i ≡ true) (F : Peon i) where
      -- a COMMIT or a LEASE is under way to it
      pub by_lease : F.heard ≤ 1 → u ≤ r.latest + pace.delay
      by_lease le = by F.heard le F.to_come
        where
          by : (h : ℕ) → h ≤ 1 → Carries ms reign t.world.messages reign.leader i (t.time + pace.delay) (drop h (to_peon reign pace r)) (t.under_way reign.leader i) → u ≤ r.latest + pace.delay
          by zero le C = first_of reign.leader i S.leads qi _ _ C
          by (suc zero) le C = first_of reign.leader i S.leads qi _ _ C
          by (suc (suc h)) le C = absurd (omega arith)

      -- an acknowledgement is under way from it
      pub by_ack : 2 ≤ F.heard → F.taken ≡ 0 → u ≤ r.latest + 2 * pace.delay
      by_ack le none = by F.heard le (subst (λ (z : ℕ). Carries ms reign t.world.messages i reign.leader (t.time + pace.delay) (drop z (take (said F.heard) (to_leader reign pace r))) (t.under_way i reign.leader)) none F.to_take)
        where
          by : (h : ℕ) → 2 ≤ h → Carries ms reign t.world.messages i reign.leader (t.time + pace.delay) (take (said h) (to_leader reign pace r)) (t.under_way i reign.leader) → u ≤ r.latest + 2 * pace.delay
          by zero le C = absurd (omega arith)
          by (suc zero) le C = absurd (omega arith)
          by (suc (suc h)) le C = first_of i reign.leader qi S.leads _ _ C

      -- a value is in progress that it didn't accept, or its acceptance is under way
      pub by_accept : (b : Begun) → r.next ≡ Some b → r.latest ≤ b.at → (F.taken ≡ 2 → ⊥) → u ≤ b.at + 2 * pace.delay
      by_accept b is after ne = by F.heard F.taken F.answered sent ne down up
        where
          rb : Round
          rb = record r { next = Some b }

          same : r ≡ rb
          same = λ i. record r { next = is i }

          down : Carries ms reign t.world.messages reign.leader i (t.time + pace.delay) (drop F.heard (to_peon reign pace (record r { next = Some b }))) (t.under_way reign.leader i)
          down = subst (λ (z : Round). Carries ms reign t.world.messages reign.leader i (t.time + pace.delay) (drop F.heard (to_peon reign pace z)) (t.under_way reign.leader i)) same F.to_come

          up : Carries ms reign t.world.messages i reign.leader (t.time + pace.delay) (drop F.taken (take (said F.heard) (to_leader reign pace (record r { next = Some b })))) (t.under_way i reign.leader)
          up = subst (λ (z : Round). Carries ms reign t.world.messages i reign.leader (t.time + pace.delay) (drop F.taken (take (said F.heard) (to_leader reign pace z))) (t.under_way i reign.leader)) same F.to_take

          sent : F.heard ≤ 3
          sent = subst (λ (z : Round). F.heard ≤ length (to_peon reign pace z)) same F.sent

          by : (h g : ℕ) → g ≤ said h → h ≤ 3 → (g ≡ 2 → ⊥) → Carries ms reign t.world.messages reign.leader i (t.time + pace.delay) (drop h (to_peon reign pace (record r { next = Some b }))) (t.under_way reign.leader i)
              → Carries ms reign t.world.messages i reign.leader (t.time + pace.delay) (drop g (take (said h) (to_leader reign pace (record r { next = Some b })))) (t.under_way i reign.leader) → u ≤ b.at + 2 * pace.delay
          by zero g le top other C D = let z = first_of reign.leader i S.leads qi _ _ C in omega arith
          by (suc zero) g le top other C D = let z = first_of reign.leader i S.leads qi _ _ C in omega arith
          by (suc (suc zero)) g le top other C D = let z = first_of reign.leader i S.leads qi _ _ C in omega arith
          by (suc (suc (suc h))) zero le top other C D = let z = first_of i reign.leader qi S.leads _ _ D in omega arith
          by (suc (suc (suc h))) (suc zero) le top other C D = let z = first_of i reign.leader qi S.leads _ _ D in omega arith
          by (suc (suc (suc h))) (suc (suc zero)) le top other C D = absurd (other refl)
          by (suc (suc (suc h))) (suc (suc (suc g))) le top other C D = absurd (omega arith)

    -- ---- the leader

    -- it renews in time
    pub by_renewal : r.next ≡ None → u ≤ r.latest + 3000 + pace.late
    by_renewal none =
        let l = leading in
        let F : LeadsSince reign q (r.latest + pace.clock reign.leader) l.0 = subst (λ (o : Option Begun). Leads ms.count q pace reign r o l.0) none l.2 in
        let z = M.timers reign.leader S.leads l.0 l.1 timer.Renew (r.latest + pace.clock reign.leader + 3000) F.renews in
        let y = S.since in
        omega arith

    -- a value isn't in progress for long
    pub by_progress : (b : Begun) → r.next ≡ Some b → u ≤ b.at + 2 * pace.delay
    by_progress b is =
        let l = leading in
        let P : Proposes ms.count q pace reign r b l.0 = subst (λ (o : Option Begun). Leads ms.count q pace reign r o l.0) is l.2 in
        let X = P.proposes in
        let m = one_missing ms.count q l.0.leader.accepted X.more in
        let other = (λ (e : m.rank ≡ reign.leader). false≢true (sym m.missing ∙ subst (λ (z : ℕ). has l.0.leader.accepted z ≡ true) (sym e) X.own)) in
        let F = S.peons m.rank m.member other in
        let n = unpack (Noted m.rank F.taken r.next) (t.world.state reign.leader) F.noted in
        let same : n.0 ≡ l.0 = one_state (t.world.state reign.leader) n.0 l.0 n.1 l.1 in
        let noted : Noted m.rank F.taken (Some b) l.0 = subst (λ (o : Option Begun). Noted m.rank F.taken o l.0) is (subst (Noted m.rank F.taken r.next) same n.2) in
        by_accept m.rank m.member F b is P.after (λ e. false≢true (sym m.missing ∙ noted.0 e))

    pub until : u ≤ r.latest + 3000 + pace.late + 2 * pace.delay
    until = by r.next refl
      where
        by : (o : Option Begun) → r.next ≡ o → u ≤ r.latest + 3000 + pace.late + 2 * pace.delay
        by None is = let z = by_renewal is in omega arith
        by (Some b) is =
            let l = leading in
            let P : Proposes ms.count q pace reign r b l.0 = subst (λ (o : Option Begun). Leads ms.count q pace reign r o l.0) is l.2 in
            let x = P.before in
            let z = by_progress b is in
            omega arith

    -- no peon's timer fires
    pub waits : (i : ℕ) → has q i ≡ true → (F : Peon i) → u < leased r F.heard + 10000
    waits i qi F = by F.heard (by_lease i qi F)
      where
        by : (h : ℕ) → (h ≤ 1 → u ≤ r.latest + pace.delay) → u < leased r h + 10000
        by zero soon = let z = soon (omega arith) in let a = S.apart in let k = K.leases in let l = K.elections in omega arith
        by (suc zero) soon = let z = soon (omega arith) in let a = S.apart in let k = K.leases in let l = K.elections in omega arith
        by (suc (suc h)) soon = let z = until in let k = K.leases in let l = K.elections in omega arith

-- Each event at a quorum that lost a peon: it goes on as before, or its leader lacks an acknowledgement for too long.
use Rattle.law_names.proofs.Runs.{Arrives, Deliver, Event, Monitors, Ring}
use Rattle.law_names.proofs.Table.{Request, State, Timer, end_of, has}
use Rattle.mon_wire.specs.declared.phase.Timer.TheVariants as timer
use Rattle.mon_wire.specs.declared.request.Request.TheVariants as request
use Rattle.quorum_stays.proofs.Onward.{one_state}
use Rattle.quorum_stays.proofs.Peering.{PeonIn}
use Rattle.quorum_stays.specs.Reading.{ClocksGoOn, Reads}
use Rattle.quorum_stays.specs.Serving.{Writes}
use Rattle.quorum_stays.specs.Steady.{Carries, FollowsSince, Reign, Round, leased, said, to_leader}
use Rattle.quorum_timed.specs.Begins.{IsQuick}
use Rattle.quorum_timed.specs.Timed.{Again, Arriving, Asking, Comes, Firing, MayBe, Owed, Pace, Timed, Went, at_time, without_first}
use Rattle.std.proofs.Common.{Bool, IsSomeAnd, List, Option, Some, ap, arith, drop, inl, inr, refl, subst, sym, take, true, ℕ, ◌*◌, ◌+◌, ◌∷◌, ◌≡◌, ◌≤◌, ◌⊎◌}
use Rattle.std.proofs.lemmas.Bool.{cases_eq}
use Rattle.timed_failover.proofs.Waning.{WanesOn, Waning, calm}
use Rattle.timed_failover.proofs.WaningFrame.{Renewer}
use Rattle.timed_failover.proofs.WaningLeader.{ack_comes, renews}
use Rattle.timed_failover.proofs.WaningPeons.{apart_comes, aside_up, asks, down_comes, proposes}
use Rattle.timed_failover.proofs.WaningQuiets.{no_call}
use Rattle.timed_failover.proofs.WaningTimes.{leading, waits}

-- who doesn't write reads
pub read_of : (x : Request) → ((Reads x → ⊥) → ⊥) → Reads x
read_of (request.Show service) k = tt
read_of (request.Since service version) k = tt
read_of other k = k (λ z. z)

module _ (ms : Monitors) (full q : List Bool) (pace : Pace) (reign : Reign) (K : IsQuick pace) (short : 4 * pace.delay ≤ 3000) (r : Round) (t : Timed) (S : Waning ms full q pace reign r t) (u : ℕ) (M : MayBe ms q pace t u)
    (room : ClocksGoOn q pace u) (next : Timed) where
  -- the timer of acknowledgements fires at the leader
  pub record Rings (e : Event) : Type 0 where
    pub state : State
    pub up : t.world.state reign.leader ≡ Some state
    pub end : ℕ
    pub set : end_of timer.LeaseAck state.timers ≡ Some end
    pub due : end ≤ u + pace.clock reign.leader
    pub event : e ≡ Arrives (Ring reign.leader timer.LeaseAck (u + pace.clock reign.leader))
    pub went : Went ms q pace (at_time ms q pace u t) (Arrives (Ring reign.leader timer.LeaseAck (u + pace.clock reign.leader))) t.under_way next

  abbrev pub After : Event → Type 0
  After e = WanesOn ms full q pace reign r next ⊎ Rings e

  -- the round is the same
  same_round : Waning ms full q pace reign r next → WanesOn ms full q pace reign r next
  same_round W = record { round = r; version = refl; wanes = W }

  -- ---- a message

  up_comes : (f : ℕ) → has q f ≡ true → (f ≡ reign.leader → ⊥) → (o : Owed) (others : List Owed) → t.under_way f reign.leader ≡ o ∷ others
      → Went ms q pace (at_time ms q pace u t) (Arrives (Deliver o.number (u + pace.clock reign.leader))) (without_first f reign.leader others t.under_way) next → Waning ms full q pace reign r next
  up_comes f qf nf o others first went = by (S.peons f qf nf) (subst (Carries ms reign t.world.messages f reign.leader (t.time + pace.delay) (drop (S.peons f qf nf).taken (take (said (S.peons f qf nf).heard) (to_leader reign pace (calm r))))) first (S.peons f qf nf).to_take)
    where
      by : (F : PeonIn ms full pace reign (calm r) t f t.under_way) → Carries ms reign t.world.messages f reign.leader (t.time + pace.delay) (drop F.taken (take (said F.heard) (to_leader reign pace (calm r)))) (o ∷ others) → Waning ms full q pace reign r next
      by F (le, inl k) = aside_up ms full q pace reign r t S u M next f qf nf o others first F k.2 k.0 went
      by F (le, inr k) = ack_comes ms full q pace reign K r t S u M room next f qf nf F o others first k.0 k.1 k.2 k.3 k.4 went

  arrives : (f i : ℕ) → has q f ≡ true → has q i ≡ true → (o : Owed) (others : List Owed) → t.under_way f i ≡ o ∷ others
      → Went ms q pace (at_time ms q pace u t) (Arrives (Deliver o.number (u + pace.clock i))) (without_first f i others t.under_way) next → Waning ms full q pace reign r next
  arrives f i qf qi o others first went = by (cases_eq f reign.leader) (cases_eq i reign.leader)
    where
      by : (f ≡ reign.leader) ⊎ (f ≡ reign.leader → ⊥) → (i ≡ reign.leader) ⊎ (i ≡ reign.leader → ⊥) → Waning ms full q pace reign r next
      by (inl a) (inl b) = apart_comes ms full q pace reign r t S u M next f i qf qi ((λ _. b), (λ _. a)) o others first went
      by (inr a) (inr b) = apart_comes ms full q pace reign r t S u M next f i qf qi ((λ z. absurd (a z)), (λ z. absurd (b z))) o others first went
      by (inl a) (inr b) = down_comes ms full q pace reign r t S u M next K room i qi b o others (subst (λ (z : ℕ). t.under_way z i ≡ o ∷ others) a first)
          (subst (λ (z : ℕ). Went ms q pace (at_time ms q pace u t) (Arrives (Deliver o.number (u + pace.clock i))) (without_first z i others t.under_way) next) a went)
      by (inr a) (inl b) = up_comes f qf a o others (subst (λ (z : ℕ). t.under_way f z ≡ o ∷ others) b first)
          (subst (λ (z : ℕ). Went ms q pace (at_time ms q pace u t) (Arrives (Deliver o.number (u + pace.clock z))) (without_first f z others t.under_way) next) b went)

  -- ---- a timer

  -- a timer of the leader
  leader_fires : (s : State) → t.world.state reign.leader ≡ Some s → (kind : Timer) (end : ℕ) → end_of kind s.timers ≡ Some end → end ≤ u + pace.clock reign.leader
      → Went ms q pace (at_time ms q pace u t) (Arrives (Ring reign.leader kind (u + pace.clock reign.leader))) t.under_way next → After (Arrives (Ring reign.leader kind (u + pace.clock reign.leader)))
  leader_fires s up kind end set due went =
      let L : Renewer ms full q pace reign r s = subst (λ (o : Option State). IsSomeAnd o (Renewer ms full q pace reign r)) up S.lead in
      elim (L.only kind end set) [
        | inl z ↦ inl (record {
          round = record r { latest = u; before = r.latest };
          version = refl;
          wanes = renews ms full q pace reign K r t S u M room next end (own (subst (λ (k : Timer). end_of k s.timers ≡ Some end) z set)) due
              (subst (λ (k : Timer). Went ms q pace (at_time ms q pace u t) (Arrives (Ring reign.leader k (u + pace.clock reign.leader))) t.under_way next) z went);
        })
        | inr (inl z) ↦ inr (record {
          state = s;
          up = up;
          end = end;
          set = subst (λ (k : Timer). end_of k s.timers ≡ Some end) z set;
          due = due;
          event = ap (λ (k : Timer). Arrives (Ring reign.leader k (u + pace.clock reign.leader))) z;
          went = subst (λ (k : Timer). Went ms q pace (at_time ms q pace u t) (Arrives (Ring reign.leader k (u + pace.clock reign.leader))) t.under_way next) z went;
        })
        | inr (inr z) ↦ inl (same_round (proposes ms full q pace reign r t S u M next reign.leader S.leads
            (subst (λ (k : Timer). Went ms q pace (at_time ms q pace u t) (Arrives (Ring reign.leader k (u + pace.clock reign.leader))) t.under_way next) z went)))
      ]
    where
      own : end_of timer.Renew s.timers ≡ Some end → end_of timer.Renew (leading ms full q pace reign r t S).0.timers ≡ Some end
      own e = let l = leading ms full q pace reign r t S in subst (λ (z : State). end_of timer.Renew z.timers ≡ Some end) (one_state (t.world.state reign.leader) s l.0 up l.1) e

  -- a timer of a peon: that of its lease ends later
  peon_fires : (i : ℕ) (qi : has q i ≡ true) → (i ≡ reign.leader → ⊥) → (s : State) → t.world.state i ≡ Some s → (kind : Timer) (end : ℕ) → end_of kind s.timers ≡ Some end → end ≤ u + pace.clock i
      → Went ms q pace (at_time ms q pace u t) (Arrives (Ring i kind (u + pace.clock i))) t.under_way next → Waning ms full q pace reign r next
  peon_fires i qi ni s up kind end set due went =
      let F = S.peons i qi ni in
      let G : FollowsSince reign.leader full (leased (calm r) F.heard + pace.clock i) s = subst (λ (o : Option State). IsSomeAnd o (FollowsSince reign.leader full (leased (calm r) F.heard + pace.clock i))) up F.follows in
      elim (G.only kind end set) [
        | inl z ↦ (let a = G.waits end (subst (λ (k : Timer). end_of k s.timers ≡ Some end) z set) in let b = waits ms full q pace reign r t S K u M i qi F short in absurd (omega arith))
        | inr z ↦ proposes ms full q pace reign r t S u M next i qi (subst (λ (k : Timer). Went ms q pace (at_time ms q pace u t) (Arrives (Ring i k (u + pace.clock i))) t.under_way next) z went)
      ]

  fires : (i : ℕ) → has q i ≡ true → (s : State) → t.world.state i ≡ Some s → (kind : Timer) (end : ℕ) → end_of kind s.timers ≡ Some end → end ≤ u + pace.clock i
      → Went ms q pace (at_time ms q pace u t) (Arrives (Ring i kind (u + pace.clock i))) t.under_way next → After (Arrives (Ring i kind (u + pace.clock i)))
  fires i qi s up kind end set due went = elim (cases_eq i reign.leader) [
    | inr ne ↦ inl (same_round (peon_fires i qi ne s up kind end set due went))
    | inl e ↦ subst (λ (z : ℕ). After (Arrives (Ring z kind (u + pace.clock z)))) (sym e)
        (leader_fires s (subst (λ (z : ℕ). t.world.state z ≡ Some s) e up) kind end set (subst (λ (z : ℕ). end ≤ u + pace.clock z) e due)
        (subst (λ (z : ℕ). Went ms q pace (at_time ms q pace u t) (Arrives (Ring z kind (u + pace.clock z))) t.under_way next) e went))
  ]

  -- ---- each event

  pub stepped : (e : Event) → Comes ms q pace (at_time ms q pace u t) next e → (Writes e → ⊥) → After e
  stepped e (Arriving f i qf qi o others first is went) quiet = inl (same_round (arrives f i qf qi o others first (subst (λ (z : Event). Went ms q pace (at_time ms q pace u t) z (without_first f i others t.under_way) next) is went)))
  stepped e (Again f i qf qi n calls is went) quiet = absurd (no_call ms full q pace reign r t S n f i qf calls)
  stepped e (Firing i qi s up kind end set due is went) quiet = subst After (sym is) (fires i qi s up kind end set due (subst (λ (z : Event). Went ms q pace (at_time ms q pace u t) z t.under_way next) is went))
  stepped e (Asking i qi session x is went) quiet =
      inl (same_round (asks ms full q pace reign r t S u M next i qi session x (read_of x (subst (λ (z : Event). Writes z → ⊥) is quiet)) (subst (λ (z : Event). Went ms q pace (at_time ms q pace u t) z t.under_way next) is went)))

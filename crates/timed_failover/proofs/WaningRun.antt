-- A quorum that lost a peon and in which nobody writes: its leader lacks an acknowledgement for too long.
use Rattle.law_names.proofs.Runs.{Arrives, Client, Deliver, Envelope, Event, Monitors, World, message_at}
use Rattle.law_names.proofs.Table.{AllByRecursion, Message, Request, Session, State, has, is_one_of}
use Rattle.quorum_model.proofs.Members.{member_of}
use Rattle.quorum_stays.proofs.DownActs.{MayBegin, Terms}
use Rattle.quorum_stays.proofs.Moving.{AllGo, AtMember, IsSent, lt, moves}
use Rattle.quorum_stays.proofs.Onward.{one_state}
use Rattle.quorum_stays.proofs.Serves.{clocks_go_on}
use Rattle.quorum_stays.proofs.Staying.{goes_on, time_of_next}
use Rattle.quorum_stays.proofs.SteppingDown.{Holds, active_from, aged, from_first, go, here, leased_at_first, longest, none_forwarded, stepped as serves_on, still_up, terms, ups, waiting}
use Rattle.quorum_stays.specs.Reading.{ClocksGoOn, Reads}
use Rattle.quorum_stays.specs.Serving.{HandsOnNothing, IsForward, Writes}
use Rattle.quorum_stays.specs.Steady.{Reign, Round}
use Rattle.quorum_stays.specs.SteppingDown.{BringsNone, ServesWith, serving}
use Rattle.quorum_timed.specs.Begins.{Begins, IsBetween, IsQuick}
use Rattle.quorum_timed.specs.Timed.{Again, Arriving, Asking, Comes, Firing, Leads, MayBe, Pace, Timed, at_time}
use Rattle.quorum_timed.specs.Waiting.{Waits}
use Rattle.std.proofs.Common.{Bool, IfSome, IsSomeAnd, List, None, Option, Some, [], ap, arith, false, inl, inr, refl, subst, sym, true, ℕ, ◌*◌, ◌++◌, ◌+◌, ◌<◌, ◌∙◌, ◌∷◌, ◌≡◌, ◌≤◌, ◌⊎◌}
use Rattle.timed_failover.proofs.Waning.{WanesOn, Waning}
use Rattle.timed_failover.proofs.WaningFrame.{Renewer}
use Rattle.timed_failover.proofs.WaningQuiets.{no_call}
use Rattle.timed_failover.proofs.WaningSteps.{Rings, read_of, stepped}
use Rattle.timed_failover.proofs.WaningTimes.{leading}

-- At some time of the run, and by time u, the timer of acknowledgements fires at the leader. The quorum waned until then.
pub record PartsBy (ms : Monitors) (full q : List Bool) (pace : Pace) (reign : Reign) (K : IsQuick pace) (short : 4 * pace.delay ≤ 3000) (r : Round) (t last : Timed) (more : List (ℕ × Event)) (u : ℕ) : Type 0 where
  pub before : List (ℕ × Event)
  pub at : ℕ
  pub event : Event
  pub after : List (ℕ × Event)
  pub parts : more ≡ before ++ (at, event) ∷ after
  pub eve : Timed
  pub run : Leads ms q pace t before eve
  pub round : Round
  pub version : round.version ≡ r.version
  pub wanes : Waning ms full q pace reign round eve
  pub next : Timed
  pub on : MayBe ms q pace eve at
  pub room : ClocksGoOn q pace at
  pub comes : Comes ms q pace (at_time ms q pace at eve) next event
  pub rings : Rings ms full q pace reign K short round eve wanes at on room next event
  pub rest : Leads ms q pace next after last
  pub by : at ≤ u

module _ (ms : Monitors) (full q : List Bool) (pace : Pace) (reign : Reign) where
  -- no event brings the leader a command
  module _ (r : Round) (t : Timed) (S : Waning ms full q pace reign r t) (u : ℕ) (next : Timed) (all : (f i : ℕ) → has q f ≡ true → has q i ≡ true → AllByRecursion (λ o. IsBetween t.world f i o.number) (t.under_way f i)) where
    not_handed : (o : Option Envelope) (f i : ℕ) → IsSomeAnd o (λ e. (e.message.from ≡ f) × (e.to ≡ i)) → (i ≡ reign.leader → IfSome o (λ m. IsForward m.message.body → ⊥)) → IfSome o (λ m. m.to ≡ reign.leader → IsForward m.message.body → ⊥)
    not_handed None f i k h = absurd k
    not_handed (Some m) f i k h = λ to. h (sym k.1 ∙ to)

    brings_none : (e : Event) → Comes ms q pace (at_time ms q pace u t) next e → (Writes e → ⊥) → BringsNone reign.leader t.world e
    brings_none e (Arriving f i qf qi o others first is went) quiet = subst (BringsNone reign.leader t.world) (sym is)
        (not_handed (message_at t.world.messages o.number) f i (let k : AllByRecursion (λ o. IsBetween t.world f i o.number) (o ∷ others) = subst (AllByRecursion (λ o. IsBetween t.world f i o.number)) first (all f i qf qi) in k.0)
        (λ same. (let k : HandsOnNothing t.world.messages (o ∷ others) = subst (HandsOnNothing t.world.messages) (subst (λ (z : ℕ). t.under_way f z ≡ o ∷ others) same first) (S.quiet f qf) in k.0)))
    brings_none e (Again f i qf qi n calls is went) quiet = absurd (no_call ms full q pace reign r t S n f i qf calls)
    brings_none e (Firing i qi s up kind end set due is went) quiet = subst (BringsNone reign.leader t.world) (sym is) tt
    brings_none e (Asking i qi session x is went) quiet = subst (BringsNone reign.leader t.world) (sym is) (λ _. read_of x (subst (λ (z : Event). Writes z → ⊥) is quiet))

  module _ (K : IsQuick pace) (short : 4 * pace.delay ≤ 3000) (many : 1 < ms.count) (within : (i : ℕ) → has q i ≡ true → i < ms.count) (b : Terms) (late_is : b.late ≡ pace.late)
      (outside : has q b.lost ≡ false) (was : has full b.lost ≡ true) (in_map : b.lost < ms.count) (leads : has q reign.leader ≡ true) (begins : pace.since + pace.clock reign.leader ≤ b.first) (ordered : b.second ≤ b.third)
      (u : ℕ) (is : b.third + b.late ≡ u + pace.clock reign.leader)
      (asks : (w : World) (at : ℕ) (session : Session) (x : Request) → BringsNone reign.leader w (Arrives (Client reign.leader at session x)) → Reads x ⊎ MayBegin b)
      (forwards : (w : World) (k at : ℕ) (m : Message) → BringsNone reign.leader w (Arrives (Deliver k at)) → IsSent ms q pace within w k reign.leader m → IsForward m.body → MayBegin b) where
    abbrev Held : World → ℕ → Type 0
    Held = Holds ms q pace many within b late_is outside in_map reign.leader leads begins ordered (BringsNone reign.leader) asks forwards reign.leader leads

    -- it still serves with the lost monitor
    serves : (r : Round) (t : Timed) → Waning ms full q pace reign r t → IsSomeAnd (t.world.state reign.leader) (λ s. ServesWith b.lost s → ⊥) → ⊥
    serves r t S k =
        let l = leading ms full q pace reign r t S in
        let L = l.2 in
        subst (λ (o : Option State). IsSomeAnd o (λ s. ServesWith b.lost s → ⊥)) l.1 k (record {
          serves = ap (is_one_of serving) L.leads;
          among = ap (λ (z : List Bool). has z b.lost) L.quorum ∙ was;
        })

    goes : (r0 : Round) (more : List (ℕ × Event)) (r : Round) (t last : Timed) → Waning ms full q pace reign r t → r.version ≡ r0.version → Held t.world t.time → AllGo ms q pace within t
        → ((j : ℕ) → has q j ≡ true → IsSomeAnd (t.world.state j) (λ s. Unit {0})) → Leads ms q pace t more last → AllByRecursion (λ m. Writes m.1 → ⊥) more → ClocksGoOn q pace last.time
        → PartsBy ms full q pace reign K short r0 t last more u ⊎ (last.time ≤ u)
    goes r0 [] r t last S same H all up L quiet room =
        let A = aged ms q pace many within b late_is outside in_map reign.leader leads begins ordered (BringsNone reign.leader) asks forwards t last.time L.0 H in
        inr (let k = A.0 in omega (arith, is))
    goes r0 ((v, e) ∷ more) r t last S same H all up L quiet room =
        by (stepped ms full q pace reign K short r t S v L.0 clocks next e L.1.1 quiet.0)
        (serves_on ms q pace many within b late_is outside in_map reign.leader leads begins ordered (BringsNone reign.leader) asks forwards now next e fine M A.1)
        (λ k S2 same2 H2. goes r0 more k next last S2 same2 H2 M.under_way
        (still_up ms q pace many within b late_is outside in_map reign.leader leads begins ordered (BringsNone reign.leader) asks forwards now next e fine M up) L.1.2 quiet.1 room)
      where
        now : Timed
        now = at_time ms q pace v t

        next : Timed
        next = L.1.0

        clocks : ClocksGoOn q pace v
        clocks =
            let c = time_of_next ms q pace reign K now next e L.1.1 in
            let d = goes_on ms q pace reign K more next last L.1.2 in
            clocks_go_on ms q pace reign K v last.time (omega arith) room

        fine : BringsNone reign.leader t.world e
        fine = brings_none r t S v next all e L.1.1 quiet.0

        M : AtMember ms q pace within now next e
        M = moves ms q pace within now next all up e L.1.1

        A : (v + pace.clock reign.leader ≤ b.third + b.late) × Held t.world v
        A = aged ms q pace many within b late_is outside in_map reign.leader leads begins ordered (BringsNone reign.leader) asks forwards t v L.0 H

        onward : PartsBy ms full q pace reign K short r0 next last more u ⊎ (last.time ≤ u) → PartsBy ms full q pace reign K short r0 t last ((v, e) ∷ more) u ⊎ (last.time ≤ u)
        onward (inr k) = inr k
        onward (inl P) = inl (record {
          before = (v, e) ∷ P.before;
          at = P.at;
          event = P.event;
          after = P.after;
          parts = ap (λ (z : List (ℕ × Event)). (v, e) ∷ z) P.parts;
          eve = P.eve;
          run = (L.0, (next, L.1.1, P.run));
          round = P.round;
          version = P.version;
          wanes = P.wanes;
          next = P.next;
          on = P.on;
          room = P.room;
          comes = P.comes;
          rings = P.rings;
          rest = P.rest;
          by = P.by;
        })

        by : WanesOn ms full q pace reign r next ⊎ Rings ms full q pace reign K short r t S v L.0 clocks next e
            → Held next.world next.time ⊎ IsSomeAnd (next.world.state reign.leader) (λ s. ServesWith b.lost s → ⊥)
            → ((k : Round) → Waning ms full q pace reign k next → k.version ≡ r0.version → Held next.world next.time → PartsBy ms full q pace reign K short r0 next last more u ⊎ (last.time ≤ u))
            → PartsBy ms full q pace reign K short r0 t last ((v, e) ∷ more) u ⊎ (last.time ≤ u)
        by (inl W) (inl H2) go_on = onward (go_on W.round W.wanes (W.version ∙ same) H2)
        by (inl W) (inr off) go_on = absurd (serves W.round next W.wanes off)
        by (inr R) k go_on = inl (record {
          before = [];
          at = v;
          event = e;
          after = more;
          parts = refl;
          eve = t;
          run = (here ms q pace t last ((v, e) ∷ more) L, refl);
          round = r;
          version = same;
          wanes = S;
          next = next;
          on = L.0;
          room = clocks;
          comes = L.1.1;
          rings = R;
          rest = L.1.2;
          by = (let a = A.0 in omega (arith, is));
        })

  -- ---- the bound

  pub parts_by : (lost : ℕ) (K : IsQuick pace) (short : 4 * pace.delay ≤ 3000) (r : Round) (t last : Timed) (more : List (ℕ × Event)) → Waning ms full q pace reign r t → has q lost ≡ false → has full lost ≡ true → Begins ms q pace t
      → Leads ms q pace t more last → AllByRecursion (λ m. Writes m.1 → ⊥) more → ClocksGoOn q pace last.time → pace.since + 13000 + 2 * pace.late < last.time
      → PartsBy ms full q pace reign K short r t last more (pace.since + 13000 + 2 * pace.late)
  parts_by lost K short r t last more S gone was B L quiet room late = by
      (goes K short many within terms_of refl gone was in_map S.leads early in_order (pace.since + 13000 + 2 * pace.late) (omega arith) asks forwards r more r t last S refl first
      (go ms q pace t last more reign.leader lost many within S.leads gone in_map B L) (ups ms q pace t last more reign.leader lost many within S.leads gone in_map B L) L quiet room)
    where
      many : 1 < ms.count
      many = let a = S.members reign.leader (S.within reign.leader S.leads) in let b = S.members S.second S.second_in in let ne = S.second_is in omega arith

      within : (i : ℕ) → has q i ≡ true → i < ms.count
      within i qi = S.members i (S.within i qi)

      in_map : lost < ms.count
      in_map = S.members lost was

      -- how long its lease is at first
      size : ℕ
      size = longest ms q pace t last more reign.leader lost many within S.leads gone in_map B L

      terms_of : Terms
      terms_of = terms ms q pace t last more reign.leader lost many within S.leads gone in_map B L 3000 (13000 + pace.late) size

      early : pace.since + pace.clock reign.leader ≤ terms_of.first
      early = omega arith

      in_order : terms_of.second ≤ terms_of.third
      in_order = omega arith

      asks : (w : World) (at : ℕ) (session : Session) (x : Request) → BringsNone reign.leader w (Arrives (Client reign.leader at session x)) → Reads x ⊎ MayBegin terms_of
      asks w at session x k = inl (k refl)

      forwards : (w : World) (k at : ℕ) (m : Message) → BringsNone reign.leader w (Arrives (Deliver k at)) → IsSent ms q pace within w k reign.leader m → IsForward m.body → MayBegin terms_of
      forwards w k at m c d f = absurd (none_forwarded ms q pace t last more reign.leader lost many within S.leads gone in_map B L w k m c d f)

      state : (s : State) × (t.world.state reign.leader ≡ Some s) × Waits (member_of ms reign.leader (lt ms q pace within reign.leader S.leads)) (pace.since + pace.clock reign.leader) s
      state = waiting ms q pace t last more reign.leader lost many within S.leads gone in_map B L

      leads_now : Renewer ms full q pace reign r state.0
      leads_now = let l = leading ms full q pace reign r t S in subst (Renewer ms full q pace reign r) (one_state (t.world.state reign.leader) l.0 state.0 l.1 state.1) l.2

      first : Holds ms q pace many within terms_of refl gone in_map reign.leader S.leads early in_order (BringsNone reign.leader) asks forwards reign.leader S.leads t.world t.time
      first =
          let F = leads_now in
          from_first ms q pace t last more reign.leader lost many within S.leads gone in_map B L (BringsNone reign.leader) 3000 (13000 + pace.late) size early in_order asks forwards
          (active_from ms q pace t last more reign.leader lost many within S.leads gone in_map B L 3000 (13000 + pace.late) size state.0 (omega arith) F.leads (ap (λ (z : List Bool). has z lost) F.quorum ∙ was) (inl F.queue)
          (leased_at_first ms q pace t last more reign.leader lost many within S.leads gone in_map B L (terms_of.shown) (omega arith)) state.2)

      by : PartsBy ms full q pace reign K short r t last more (pace.since + 13000 + 2 * pace.late) ⊎ (last.time ≤ pace.since + 13000 + 2 * pace.late) → PartsBy ms full q pace reign K short r t last more (pace.since + 13000 + 2 * pace.late)
      by (inl P) = P
      by (inr k) = absurd (omega arith)

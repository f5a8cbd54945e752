-- Each command that the leader is asked is answered in time.
use Rattle.law_names.proofs.Runs.{Arrives, Client, Event, Monitors}
use Rattle.law_names.proofs.Table.{Me, Origin, Readings, Request, Session, State, Waiting, end_of, is_leading, readings_of}
use Rattle.mon_msg.specs.declared.input.Input.TheVariants as input
use Rattle.mon_msg.specs.declared.plan.Origin.TheVariants as origin
use Rattle.mon_wire.specs.declared.phase.Timer.TheVariants as timer
use Rattle.mon_wire.specs.declared.request.Request.TheVariants as request
use Rattle.quorum_model.proofs.Members.{member_of}
use Rattle.quorum_stays.proofs.Growing.{comes_grew, leads_grew, served_earlier, served_later}
use Rattle.quorum_stays.proofs.Onward.{one_state, pack, unpack}
use Rattle.quorum_stays.proofs.Serving.{Answered, Answers, Armed, Began, Committed, Kept, Queued, Refused, Renewed, Rests, Served, Turn}
use Rattle.quorum_stays.proofs.Staying.{goes_on, stays, time_of_next, waits_on}
use Rattle.quorum_stays.proofs.Taking.{taken_by, taken_here, taken_request}
use Rattle.quorum_stays.proofs.Waiting.{Awaits, Budget, Idling, InProgress, InQueue, awaits_on, in_time, neither, not_empty, places}
use Rattle.quorum_stays.specs.Reading.{ClocksGoOn, Reads}
use Rattle.quorum_stays.specs.Serving.{Attends, IsServed, answer_time}
use Rattle.quorum_stays.specs.Steady.{Begun, Leads, Reign, Round, Steady}
use Rattle.quorum_timed.specs.Begins.{IsQuick}
use Rattle.quorum_timed.specs.Timed.{Leads as LeadsTo, MayBe, Pace, Timed, at_time}
use Rattle.std.proofs.Common.{Bool, IfSome, IsSomeAnd, List, None, Option, Some, [], ap, arith, inl, inr, length, refl, subst, suc, sym, true, zero, ℕ, ◌*◌, ◌++◌, ◌+◌, ◌<◌, ◌∙◌, ◌∷◌, ◌≡◌, ◌≤◌, ◌⊎◌}
use Rattle.std.proofs.lemmas.Bool.{cases_eq}

-- ---- how long 64 places take

-- fewer places take less
fewer : (pace : Pace) (k n : ℕ) → k ≤ n → places pace k ≤ places pace n
fewer pace k zero le = let same : k ≡ 0 = omega arith in subst (λ (z : ℕ). places pace z ≤ places pace 0) (sym same) (omega arith)
fewer pace k (suc n) le = by (cases_eq k (suc n)) (fewer pace k n)
  where
    by : (k ≡ suc n) ⊎ (k ≡ suc n → ⊥) → (k ≤ n → places pace k ≤ places pace n) → places pace k ≤ places pace (suc n)
    by (inl e) less = subst (λ (z : ℕ). places pace z ≤ places pace (suc n)) (sym e) (omega arith)
    by (inr ne) less = let a = less (omega arith) in omega arith

few_places : (pace : Pace) (k : ℕ) → k < 64 → 2 * pace.delay + 2 * pace.late + places pace k ≤ answer_time pace
few_places pace k lt = let a = fewer pace k 63 (omega arith) in omega arith

-- ---- the leader attends to commands that wait

module _ (ms : Monitors) (q : List Bool) (pace : Pace) (reign : Reign) (K : IsQuick pace) where
  -- the timer of commands that wait has ended
  abbrev EndedBy : (now : ℕ) → State → Type 0
  EndedBy now s = (s.clients.queue ≡ [] → ⊥) → IsSomeAnd (end_of timer.Propose s.timers) (λ end. end ≤ now)

  ended : (o : Option ℕ) (end now : ℕ) → o ≡ Some end → end ≤ now → IsSomeAnd o (λ e. e ≤ now)
  ended o end now is le = subst (λ (z : Option ℕ). IsSomeAnd z (λ e. e ≤ now)) (sym is) le

  ended_later : (o : Option ℕ) (now later : ℕ) → now ≤ later → IsSomeAnd o (λ e. e ≤ now) → IsSomeAnd o (λ e. e ≤ later)
  ended_later None now later le k = absurd k
  ended_later (Some e) now later le k = omega arith

  module _ (r : Round) (t : Timed) (S : Steady ms q pace reign r t) (A : Attends pace reign r t) (u : ℕ) (M : MayBe ms q pace t u) (e : Event) (later : Round) (next : Timed) (time : next.time ≡ u) (V : Served ms pace reign e u t.world next.world r later) where
    before_ends : r.next ≡ None → (V.was.clients.queue ≡ [] → ⊥) → IsSomeAnd (end_of timer.Propose V.was.timers) (λ end. end ≤ t.time + pace.clock reign.leader)
    before_ends none = subst (λ (o : Option State). IsSomeAnd o (EndedBy (t.time + pace.clock reign.leader))) V.up (A.soon none)

    as_before : Rests ms pace reign r later V.was V.is → (r.next ≡ None → V.was.clients.queue ≡ [] → ⊥) ⊎ (V.is.clients.queue ≡ V.was.clients.queue) → later.next ≡ None → EndedBy (u + pace.clock reign.leader) V.is
    as_before R some none some_wait =
        let old = sym R.next ∙ none in
        let le = M.later in
        let was_some : V.was.clients.queue ≡ [] → ⊥ = elim some [ inl k ↦ k old | inr same ↦ (λ empty. some_wait (same ∙ empty)) ] in
        subst (λ (o : Option ℕ). IsSomeAnd o (λ e. e ≤ u + pace.clock reign.leader)) (sym (R.ends none some_wait))
        (ended_later (end_of timer.Propose V.was.timers) (t.time + pace.clock reign.leader) (u + pace.clock reign.leader) (omega arith) (before_ends old was_some))

    now_ends : Armed ms pace reign u V.is → EndedBy (u + pace.clock reign.leader) V.is
    now_ends armed some = ended _ (u + pace.clock reign.leader) (u + pace.clock reign.leader) (armed some) (omega arith)

    turns_ended : later.next ≡ None → EndedBy (u + pace.clock reign.leader) V.is
    turns_ended = by V.turn
      where
        by : Turn ms pace reign u t.world next.world r later (taken_by (member_of ms reign.leader V.here) t.world reign.leader V.was e) V.was V.is V.es → later.next ≡ None → EndedBy (u + pace.clock reign.leader) V.is
        by (Kept nil queue R) none = as_before R (inr queue) none
        by (Answered o took answers queue R) none = as_before R (inr queue) none
        by (Queued one took queue few some R) none = as_before R (inl some) none
        by (Refused one nil queue answers old later_none latest armed) none = now_ends armed
        by (Renewed nil queue old later_none latest late armed) none = now_ends armed
        by (Began from b old new at origin how) none = neither later.next b none new
        by (Committed b nil queue old later_none latest answers armed) none = now_ends armed

    begun_before : IfSome later.next (λ b. b.at ≤ u)
    begun_before = by V.turn
      where
        kept : (o p : Option Begun) → p ≡ o → IfSome o (λ b. b.at ≤ t.time) → IfSome p (λ b. b.at ≤ u)
        kept None p is k = subst (λ (z : Option Begun). IfSome z (λ b. b.at ≤ u)) (sym is) tt
        kept (Some b) p is k = let a = M.later in let c : b.at ≤ u = omega arith in subst (λ (z : Option Begun). IfSome z (λ b. b.at ≤ u)) (sym is) c

        none_begun : later.next ≡ None → IfSome later.next (λ b. b.at ≤ u)
        none_begun is = subst (λ (z : Option Begun). IfSome z (λ b. b.at ≤ u)) (sym is) tt

        by : Turn ms pace reign u t.world next.world r later (taken_by (member_of ms reign.leader V.here) t.world reign.leader V.was e) V.was V.is V.es → IfSome later.next (λ b. b.at ≤ u)
        by (Kept nil queue R) = kept r.next later.next R.next A.begun
        by (Answered o took answers queue R) = kept r.next later.next R.next A.begun
        by (Queued one took queue few some R) = kept r.next later.next R.next A.begun
        by (Refused one nil queue answers old later_none latest armed) = none_begun later_none
        by (Renewed nil queue old later_none latest late armed) = none_begun later_none
        by (Began from b old new at origin how) = let c : b.at ≤ u = omega arith in subst (λ (z : Option Begun). IfSome z (λ b. b.at ≤ u)) (sym new) c
        by (Committed b nil queue old later_none latest answers armed) = none_begun later_none

    pub attends_on : Attends pace reign later next
    attends_on = record {
      begun = subst (λ (z : ℕ). IfSome later.next (λ b. b.at ≤ z)) (sym time) begun_before;
      soon = λ none. subst (λ (o : Option State). IsSomeAnd o (EndedBy (next.time + pace.clock reign.leader))) (sym V.up_after)
          (subst (λ (z : ℕ). EndedBy (z + pace.clock reign.leader) V.is) (sym time) (turns_ended none));
    }

  -- time alone changes nothing
  attends_later : (r : Round) (t : Timed) (u : ℕ) → t.time ≤ u → Attends pace reign r t → Attends pace reign r (at_time ms q pace u t)
  attends_later r t u le A = record {
    begun = by r.next A.begun;
    soon = λ none. (let l = unpack (EndedBy (t.time + pace.clock reign.leader)) (t.world.state reign.leader) (A.soon none) in
        pack (EndedBy (u + pace.clock reign.leader)) (t.world.state reign.leader) l.0 l.1
        (λ some. ended_later (end_of timer.Propose l.0.timers) (t.time + pace.clock reign.leader) (u + pace.clock reign.leader) (omega arith) (l.2 some)));
  }
    where
      by : (o : Option Begun) → IfSome o (λ b. b.at ≤ t.time) → IfSome o (λ b. b.at ≤ u)
      by None k = tt
      by (Some b) k = omega arith

  -- ---- a run

  pub clocks_go_on : (u later : ℕ) → u ≤ later → ClocksGoOn q pace later → ClocksGoOn q pace u
  clocks_go_on u later le room i qi = let z = room i qi in omega arith

  pub attends_always : (r : Round) (t last : Timed) (more : List (ℕ × Event)) → Steady ms q pace reign r t → Attends pace reign r t → LeadsTo ms q pace t more last → ClocksGoOn q pace last.time
      → (later : Round) × Steady ms q pace reign later last × Attends pace reign later last
  attends_always r t last [] S A L room =
      let M : MayBe ms q pace t last.time = L.0 in
      (r, subst (λ (z : Timed). Steady ms q pace reign r z) (sym L.1) (waits_on ms q pace reign K r t S last.time M.later), subst (λ (z : Timed). Attends pace reign r z) (sym L.1) (attends_later r t last.time M.later A))
  attends_always r t last ((u, e) ∷ more) S A L room =
      let next = L.1.0 in
      let b = time_of_next ms q pace reign K (at_time ms q pace u t) next e L.1.1 in
      let c = goes_on ms q pace reign K more next last L.1.2 in
      let N = stays ms q pace reign K r t S u L.0 (clocks_go_on u last.time (omega arith) room) next e L.1.1 in
      attends_always N.0 next last more N.1.0 (attends_on r t S A u L.0 e N.0 next b N.1.1) L.1.2 room

  -- whoever waits is answered
  pub answered_in_time : (D : ℕ) (session : Session) (r : Round) (t last : Timed) (more : List (ℕ × Event)) → Steady ms q pace reign r t → (s : State) → t.world.state reign.leader ≡ Some s → Awaits ms q pace reign D (origin.Session session) r s
      → LeadsTo ms q pace t more last → ClocksGoOn q pace last.time → D < last.time → IsServed t.world last.world reign.leader session
  answered_in_time D session r t last [] S s up W L room past = let a = in_time ms q pace reign K r t S last.time L.0 s up D (origin.Session session) W in absurd (omega arith)
  answered_in_time D session r t last ((u, e) ∷ more) S s up W L room past =
      let next = L.1.0 in
      let b = time_of_next ms q pace reign K (at_time ms q pace u t) next e L.1.1 in
      let c = goes_on ms q pace reign K more next last L.1.2 in
      let N = stays ms q pace reign K r t S u L.0 (clocks_go_on u last.time (omega arith) room) next e L.1.1 in
      let V = N.1.1 in
      let same : s ≡ V.was = one_state (t.world.state reign.leader) s V.was up V.up in
      let B : Awaits ms q pace reign D (origin.Session session) r V.was = subst (Awaits ms q pace reign D (origin.Session session) r) same W in
      elim (awaits_on ms q pace reign K r t S u L.0 V.was V.up D (origin.Session session) t.world next.world N.0 (taken_by (member_of ms reign.leader V.here) t.world reign.leader V.was e) V.is V.es B V.turn) [
        | inl z ↦ served_earlier t.world next.world last.world reign.leader session (comes_grew ms q pace (at_time ms q pace u t) next e L.1.1)
            (answered_in_time D session N.0 next last more N.1.0 V.is V.up_after z L.1.2 room past)
        | inr z ↦ served_later t.world next.world last.world reign.leader session z (leads_grew ms q pace more next last L.1.2)
      ]

  -- ---- a command arrives at the leader

  leads_phase : (r : Round) (o : Option Begun) (s : State) → Leads ms.count q pace reign r o s → is_leading s.phase ≡ true
  leads_phase r None s F = let p = F.leads in rw p refl
  leads_phase r (Some b) s P = let X = P.proposes in let p = X.leads in rw p refl

  taken_command : (w : Readings) (me : Me) (s : State) (session : Session) (x : Request) → (Reads x → ⊥) → is_leading s.phase ≡ true → taken_request me w s session x ≡ Some (origin.Session session)
  taken_command w me s session (request.Show service) k t = absurd (k tt)
  taken_command w me s session (request.Since service version) k t = absurd (k tt)
  taken_command w me s session other k t = rw t refl

  module _ (r : Round) (t : Timed) (S : Steady ms q pace reign r t) (A : Attends pace reign r t) (u : ℕ) (M : MayBe ms q pace t u) (later : Round) (next : Timed) (e : Event)
      (V : Served ms pace reign e u t.world next.world r later) (asker : Origin) (takes : taken_by (member_of ms reign.leader V.here) t.world reign.leader V.was e ≡ Some asker) where
    abbrev me : Me
    me = member_of ms reign.leader V.here

    wrong : {B : Type 0} → taken_by me t.world reign.leader V.was e ≡ None → B
    wrong nil = neither (taken_by me t.world reign.leader V.was e) asker nil takes

    mine : (o : Origin) → taken_by me t.world reign.leader V.was e ≡ Some o → o ≡ asker
    mine o took = let same : Some o ≡ Some asker = sym took ∙ takes in cc

    -- it is the last one that waits
    last_in_queue : (one : Waiting) → V.is.clients.queue ≡ V.was.clients.queue ++ one ∷ [] → length V.was.clients.queue < 64 → (r.next ≡ None → V.was.clients.queue ≡ [] → ⊥) → Rests ms pace reign r later V.was V.is
        → (o : Option Begun) → r.next ≡ o → Budget ms q pace reign (u + answer_time pace) (length V.was.clients.queue) later V.is
    last_in_queue one queue few some R None is =
        let le = M.later in
        let a = few_places pace (length V.was.clients.queue) few in
        let b = S.since in
        let c = S.reached in
        let ends = subst (λ (z : Option State). IsSomeAnd z (EndedBy (t.time + pace.clock reign.leader))) V.up (A.soon is) (some is) in
        inl (idle (end_of timer.Propose V.was.timers) refl ends)
      where
        idle : (o : Option ℕ) → end_of timer.Propose V.was.timers ≡ o → IsSomeAnd o (λ e. e ≤ t.time + pace.clock reign.leader) → Idling ms q pace reign (u + answer_time pace) (length V.was.clients.queue) later V.is
        idle None e k = absurd k
        idle (Some end) e k = record {
          none = R.next ∙ is;
          start = t.time;
          end = end;
          armed = R.ends (R.next ∙ is) (λ empty. not_empty V.was.clients.queue [] one (sym queue ∙ empty)) ∙ e;
          ends = k;
          since = (let b = S.since in let c = S.reached in omega arith);
          in_time = inl (let a = few_places pace (length V.was.clients.queue) few in let le = M.later in omega arith);
        }
    last_in_queue one queue few some R (Some b) is =
        let a = few_places pace (length V.was.clients.queue) few in
        let le = M.later in
        let c : b.at ≤ t.time = subst (λ (z : Option Begun). IfSome z (λ b. b.at ≤ t.time)) is A.begun in
        inr (b, R.next ∙ is, omega arith)

    pub asked : Awaits ms q pace reign (u + answer_time pace) asker later V.is ⊎ Answers ms reign t.world next.world V.es asker
    asked = by V.turn
      where
        by : Turn ms pace reign u t.world next.world r later (taken_by (member_of ms reign.leader V.here) t.world reign.leader V.was e) V.was V.is V.es
            → Awaits ms q pace reign (u + answer_time pace) asker later V.is ⊎ Answers ms reign t.world next.world V.es asker
        by (Kept nil queue R) = wrong nil
        by (Answered o took answers queue R) = inr (subst (Answers ms reign t.world next.world V.es) (mine o took) answers)
        by (Queued one took queue few some R) = inl (InQueue V.was.clients.queue [] one queue (mine one.origin took) (last_in_queue one queue few some R r.next refl))
        by (Refused one nil queue answers old later_none latest armed) = wrong nil
        by (Renewed nil queue old later_none latest late armed) = wrong nil
        by (Began from b old new at whose (inl h)) = inl (InProgress b new (whose ∙ ap Some (mine from h.0)) (omega arith))
        by (Began from b old new at whose (inr h)) = wrong h.1
        by (Committed b nil queue old later_none latest answers armed) = wrong nil

  client_takes : (r : Round) (t : Timed) (S : Steady ms q pace reign r t) (u : ℕ) (later : Round) (next : Timed) (session : Session) (x : Request) (command : Reads x → ⊥) (V : Served ms pace reign (Arrives (Client reign.leader (u + pace.clock reign.leader) session x)) u t.world next.world r later)
      → taken_by (member_of ms reign.leader V.here) t.world reign.leader V.was (Arrives (Client reign.leader (u + pace.clock reign.leader) session x)) ≡ Some (origin.Session session)
  client_takes r t S u later next session x command V =
      let L = subst (λ (o : Option State). IsSomeAnd o (Leads ms.count q pace reign r r.next)) V.up S.lead in
      taken_here (member_of ms reign.leader V.here) t.world reign.leader V.was _ (record { rank = reign.leader; at = u + pace.clock reign.leader; input = input.Client session x }) refl refl
      ∙ taken_command (readings_of (t.world.store reign.leader)) (member_of ms reign.leader V.here) V.was session x command (leads_phase r r.next V.was L)

  pub serves : (r : Round) (t last : Timed) (u : ℕ) (session : Session) (x : Request) (more : List (ℕ × Event)) → Steady ms q pace reign r t → Attends pace reign r t → (Reads x → ⊥)
      → LeadsTo ms q pace t ((u, Arrives (Client reign.leader (u + pace.clock reign.leader) session x)) ∷ more) last → ClocksGoOn q pace last.time → u + answer_time pace < last.time
      → IsServed t.world last.world reign.leader session
  serves r t last u session x more S A command L room past =
      let next = L.1.0 in
      let e = Arrives (Client reign.leader (u + pace.clock reign.leader) session x) in
      let b = time_of_next ms q pace reign K (at_time ms q pace u t) next e L.1.1 in
      let c = goes_on ms q pace reign K more next last L.1.2 in
      let N = stays ms q pace reign K r t S u L.0 (clocks_go_on u last.time (omega arith) room) next e L.1.1 in
      let V = N.1.1 in
      elim (asked r t S A u L.0 N.0 next e V (origin.Session session) (client_takes r t S u N.0 next session x command V)) [
        | inl z ↦ served_earlier t.world next.world last.world reign.leader session (comes_grew ms q pace (at_time ms q pace u t) next e L.1.1)
            (answered_in_time (u + answer_time pace) session N.0 next last more N.1.0 V.is V.up_after z L.1.2 room past)
        | inr z ↦ served_later t.world next.world last.world reign.leader session z (leads_grew ms q pace more next last L.1.2)
      ]

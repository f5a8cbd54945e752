-- A command that a peon hands on is answered in time.
use Rattle.law_names.proofs.Runs.{Arrives, Client, Deliver, Envelope, Event, Monitors, message_at}
use Rattle.law_names.proofs.Table.{AllByRecursion, Asked, Command, Reply, Request, Session, State, epoch_of, has, readings_of}
use Rattle.mon_msg.specs.declared.input.Input.TheVariants as input
use Rattle.mon_msg.specs.declared.plan.Origin.TheVariants as origin
use Rattle.mon_wire.specs.declared.body.Body.TheVariants as body
use Rattle.mon_wire.specs.declared.phase.Phase.TheVariants as phase
use Rattle.quorum_model.proofs.Members.{member_of}
use Rattle.quorum_stays.proofs.Coming.{no_call}
use Rattle.quorum_stays.proofs.Counting.{P as Before, Z as After, counts_on, taken_first, taken_now, took_below}
use Rattle.quorum_stays.proofs.Growing.{comes_grew, leads_grew, served_earlier, served_later}
use Rattle.quorum_stays.proofs.Onward.{pack, unpack}
use Rattle.quorum_stays.proofs.Riding.{Rides, all_still, new_is, rides_as, rides_first, rides_in_time, rides_new, rides_on, still_so, still_there}
use Rattle.quorum_stays.proofs.Serves.{asked, attends_on, clocks_go_on}
use Rattle.quorum_stays.proofs.Serving.{IsRouted, Marking, Served}
use Rattle.quorum_stays.proofs.Sharing.{AsksOf, Delivers, Passed, RepliedNow, Routed, Share, Untouched}
use Rattle.quorum_stays.proofs.Staying.{goes_on, stays, time_of_next}
use Rattle.quorum_stays.proofs.Stepping.{brought}
use Rattle.quorum_stays.proofs.Taking.{taken_by, taken_from, taken_here}
use Rattle.quorum_stays.proofs.Waiting.{Awaits, awaits_on, in_time}
use Rattle.quorum_stays.specs.Reading.{ClocksGoOn, Reads}
use Rattle.quorum_stays.specs.Serving.{Attends, CarriesAnswer, Counts, IsBelow, IsKnown, IsNumbered, IsServed, answer_time}
use Rattle.quorum_stays.specs.Steady.{Begun, Carries, IsAside, IsBefore, IsItem, Item, Leads, Reign, Round, Steady, in_reign}
use Rattle.quorum_timed.specs.Begins.{IsQuick}
use Rattle.quorum_timed.specs.Timed.{Again, Arriving, Asking, Comes, Firing, Leads as LeadsTo, MayBe, Owed, Pace, Timed, at_time, owed_by}
use Rattle.quorum_walk.proofs.Lists.{Among, among_right}
use Rattle.std.proofs.Common.{Bool, IsSomeAnd, List, None, Option, Some, [], ap, arith, eqb, filter, inl, inr, not, option_map, refl, slice_index_or, subst, sym, true, ℕ, ◌*◌, ◌++◌, ◌+◌, ◌<◌, ◌==◌, ◌∙◌, ◌∷◌, ◌≡◌, ◌≤◌, ◌⊎◌}
use Rattle.std.proofs.lemmas.Bool.{cases_eq, cond_both, eq-eqb, lt-ltb, ne_eqb}
use Rattle.std.proofs.lemmas.List.{append_assoc}

-- ---- sessions

-- the session waits under this number
pub record Sits (seq : ℕ) (session : Session) (s : State) : Type 0 where
  pub before : List Asked
  pub behind : List Asked
  pub is : s.clients.sessions ≡ before ++ record { seq = seq; session = session } ∷ behind

kept_filter : (p : Asked → Bool) (a : Asked) → p a ≡ true → (xs ys : List Asked) → filter p (xs ++ a ∷ ys) ≡ filter p xs ++ a ∷ filter p ys
kept_filter p a t [] ys = rw t refl
kept_filter p a t (x ∷ xs) ys =
    cond_both (p x) (x ∷ filter p (xs ++ a ∷ ys)) (filter p (xs ++ a ∷ ys)) (λ (z : List Asked). filter p (x ∷ xs ++ a ∷ ys) ≡ z → filter p (x ∷ xs ++ a ∷ ys) ≡ filter p (x ∷ xs) ++ a ∷ filter p ys)
    (λ k _. rw k (ap (λ (z : List Asked). x ∷ z) (kept_filter p a t xs ys))) (λ k _. rw k (kept_filter p a t xs ys)) refl

among_filter : (p : Asked → Bool) (a : Asked) → p a ≡ true → (xs ys : List Asked) → Among a (filter p (xs ++ a ∷ ys))
among_filter p a t xs ys = subst (Among a) (sym (kept_filter p a t xs ys)) (among_right a (filter p xs) (a ∷ filter p ys) (inl refl))

-- all that is under way between two members arrives within a delay
carries_top : (ms : Monitors) (reign : Reign) (messages : List Envelope) (f i top : ℕ) (xs : List Item) (os : List Owed) → Carries ms reign messages f i top xs os → AllByRecursion (λ o. o.by ≤ top) os
carries_top ms reign messages f i top xs [] C = tt
carries_top ms reign messages f i top xs (o ∷ os) C = (C.0, by C.1 (λ ys k. carries_top ms reign messages f i top ys os k))
  where
    by : (IsAside reign.epoch messages f i o × IsBefore o.by xs × Carries ms reign messages f i top xs os) ⊎ ((x : Item) × (rest : List Item) × (xs ≡ x ∷ rest) × IsItem ms reign messages f i top x o × Carries ms reign messages f i top rest os)
        → ((ys : List Item) → Carries ms reign messages f i top ys os → AllByRecursion (λ o. o.by ≤ top) os) → AllByRecursion (λ o. o.by ≤ top) os
    by (inl k) go = go xs k.2
    by (inr k) go = go k.1 k.4

all_most : (a b : ℕ) → a ≤ b → (os : List Owed) → AllByRecursion (λ o. o.by ≤ a) os → AllByRecursion (λ o. o.by ≤ b) os
all_most a b le [] all = tt
all_most a b le (o ∷ os) all = (let z = all.0 in omega arith, all_most a b le os all.1)

all_pairs : (A B : Owed → Type 0) → (os : List Owed) → AllByRecursion A os → AllByRecursion B os → AllByRecursion (λ o. A o × B o) os
all_pairs A B [] x y = tt
all_pairs A B (o ∷ os) x y = ((x.0, y.0), all_pairs A B os x.1 y.1)

module _ (ms : Monitors) (q : List Bool) (pace : Pace) (reign : Reign) (K : IsQuick pace) (f : ℕ) (qf : has q f ≡ true) (nf : f ≡ reign.leader → ⊥) where
  -- ---- on its way

  -- Where the command is: on its way to the leader, at the leader, or answered and on its way back. All of it ends by D.
  pub data Errand (seq D : ℕ) (r : Round) (t : Timed) : Type 0 where
    ToLeader : (o : Owed) (c : Command) → Rides (λ x. (x.by ≤ o.by) × IsBelow t.world.messages seq x.number) (t.under_way f reign.leader) o
        → message_at t.world.messages o.number ≡ Some (in_reign ms reign f reign.leader (body.Forward seq c)) → IsSomeAnd (t.world.state reign.leader) (λ l. slice_index_or l.clients.taken f 0 < seq)
        → o.by + answer_time pace + pace.delay ≤ D → Errand seq D r t
    AtLeader : (E : ℕ) → IsSomeAnd (t.world.state reign.leader) (Awaits ms q pace reign E (origin.Forwarded f seq) r) → E + pace.delay ≤ D → Errand seq D r t
    ToPeon : (o : Owed) (x : Reply) → Rides (λ z. z.by ≤ o.by) (t.under_way reign.leader f) o
        → message_at t.world.messages o.number ≡ Some (in_reign ms reign reign.leader f (body.Route seq x)) → o.by ≤ D → Errand seq D r t

  errand_in_time : (seq D : ℕ) (r : Round) (t : Timed) → Steady ms q pace reign r t → (u : ℕ) → MayBe ms q pace t u → Errand seq D r t → u ≤ D
  errand_in_time seq D r t S u M (ToLeader o c R there taken le) =
      let a = rides_in_time (t.under_way f reign.leader) o u (rides_as _ (λ x. x.by ≤ o.by) (t.under_way f reign.leader) o (λ x k. k.0) R) (λ z others first. M.messages f reign.leader qf S.leads z others first) in
      omega arith
  errand_in_time seq D r t S u M (AtLeader E W le) =
      let l = unpack (Awaits ms q pace reign E (origin.Forwarded f seq) r) (t.world.state reign.leader) W in
      let a = in_time ms q pace reign K r t S u M l.0 l.1 E (origin.Forwarded f seq) l.2 in
      omega arith
  errand_in_time seq D r t S u M (ToPeon o x R there le) =
      let a = rides_in_time (t.under_way reign.leader f) o u R (λ z others first. M.messages reign.leader f S.leads qf z others first) in
      omega arith

  -- ---- an event

  module _ (r : Round) (t : Timed) (S : Steady ms q pace reign r t) (A : Attends pace reign r t) (N : Counts q reign f t) (u : ℕ) (M : MayBe ms q pace t u) (next : Timed) (e : Event) (C : Comes ms q pace (at_time ms q pace u t) next e) (later : Round)
      (V : Served ms pace reign e u t.world next.world r later) (seq : ℕ) (session : Session) where
    abbrev was : State
    was = (Before ms q pace reign r t S f qf nf N u next e C later V).0

    abbrev is : State
    is = (After ms q pace reign r t S f qf nf N u next e C later V).0

    share : Share ms reign t.world next.world e f was is V.es
    share = (After ms q pace reign r t S f qf nf N u next e C later V).2

    -- a message that arrives is an answer if it is a ROUTE
    delivered_fine : (m : Envelope) → Delivers t.world e m → CarriesAnswer m.message.body
    delivered_fine m = by C
      where
        given : (o : Option Envelope) (g i : ℕ) → IsSomeAnd o (λ m. (m.message.from ≡ g) × (m.to ≡ i) × CarriesAnswer m.message.body) → o ≡ Some m → CarriesAnswer m.message.body
        given None g i k is = absurd k
        given (Some x) g i k is = let same : x ≡ m = cc in subst (λ (z : Envelope). CarriesAnswer z.message.body) same k.2

        by : Comes ms q pace (at_time ms q pace u t) next e → Delivers t.world e m → CarriesAnswer m.message.body
        by (Arriving g j qg qj z others first comes went) d =
            let all : AllByRecursion (λ o. IsKnown t.world.messages g j o.number) (z ∷ others) = subst (AllByRecursion (λ o. IsKnown t.world.messages g j o.number)) first (N.known g j qg qj) in
            given (message_at t.world.messages z.number) g j all.0 (subst (λ (y : Event). Delivers t.world y m) comes d)
        by (Again g j qg qj n calls comes went) d = absurd (no_call ms q pace reign r t S n g j qg calls)
        by (Firing j qj x up kind end set due comes went) d = absurd (subst (λ (y : Event). Delivers t.world y m) comes d)
        by (Asking j qj z x comes went) d = absurd (subst (λ (y : Event). Delivers t.world y m) comes d)

    -- the session is answered, or waits still
    sits_on : Sits seq session was → IsServed t.world next.world f session ⊎ Sits seq session is
    sits_on T = by share
      where
        same : is.clients.sessions ≡ was.clients.sessions → Sits seq session is
        same k = record { before = T.before; behind = T.behind; is = k ∙ T.is }

        by : Share ms reign t.world next.world e f was is V.es → IsServed t.world next.world f session ⊎ Sits seq session is
        by (Untouched a b sessions seqs none) = inr (same sessions)
        by (RepliedNow z a b sessions seqs none) = inr (same sessions)
        by (Passed z c a sessions seqs sends) = inr (record {
          before = T.before;
          behind = T.behind ++ record { seq = was.clients.next_seq; session = z } ∷ [];
          is = sessions ∙ ap (λ (y : List Asked). y ++ record { seq = was.clients.next_seq; session = z } ∷ []) T.is ∙ append_assoc T.before (record { seq = seq; session = session } ∷ T.behind) (record { seq = was.clients.next_seq; session = z } ∷ []);
        })
        by (Routed z x m d says sessions seqs none replies) = elim (cases_eq seq z) [
          | inl e ↦ (let t = eq-eqb seq z e in
              inl (replies (record { seq = seq; session = session }) (subst (λ (y : List Asked). Among (record { seq = seq; session = session }) (filter (λ (a : Asked). a.seq == z) y)) (sym T.is) (among_filter (λ (a : Asked). a.seq == z) (record { seq = seq; session = session }) t T.before T.behind))
              (subst CarriesAnswer says (delivered_fine m d))))
          | inr ne ↦ (let t = ne_eqb seq z ne in
              let kept : not (eqb seq z) ≡ true = rw t refl in
              inr (record {
                before = filter (λ (a : Asked). not (a.seq == z)) T.before;
                behind = filter (λ (a : Asked). not (a.seq == z)) T.behind;
                is = sessions ∙ ap (filter (λ (a : Asked). not (a.seq == z))) T.is ∙ kept_filter (λ (a : Asked). not (a.seq == z)) (record { seq = seq; session = session }) kept T.before T.behind;
              }))
        ]

    -- the answer arrives
    arrives_back : Sits seq session was → (k : ℕ) (x : Reply) → message_at t.world.messages k ≡ Some (in_reign ms reign reign.leader f (body.Route seq x)) → e ≡ Arrives (Deliver k (u + pace.clock f)) → IsServed t.world next.world f session
    arrives_back T k x there comes = by share
      where
        brings : Delivers t.world e (in_reign ms reign reign.leader f (body.Route seq x))
        brings = subst (λ (y : Event). Delivers t.world y (in_reign ms reign reign.leader f (body.Route seq x))) (sym comes) there

        nobody : (z : Session) → AsksOf e f z → ⊥
        nobody z a = subst (λ (y : Event). AsksOf y f z) comes a

        by : Share ms reign t.world next.world e f was is V.es → IsServed t.world next.world f session
        by (Untouched a b sessions seqs none) = absurd (b seq x brings)
        by (RepliedNow z a b sessions seqs none) = absurd (nobody z a)
        by (Passed z c a sessions seqs sends) = absurd (nobody z a)
        by (Routed z y m d says sessions seqs none replies) =
            let d2 : message_at t.world.messages k ≡ Some m = subst (λ (w : Event). Delivers t.world w m) comes d in
            let both : Some (in_reign ms reign reign.leader f (body.Route seq x)) ≡ Some m = sym there ∙ d2 in
            let one : in_reign ms reign reign.leader f (body.Route seq x) ≡ m = cc in
            let bodies : body.Route seq x ≡ body.Route z y = ap (λ (w : Envelope). w.message.body) one ∙ says in
            let number : seq ≡ z = cc in
            let t = eq-eqb seq z number in
            replies (record { seq = seq; session = session }) (subst (λ (w : List Asked). Among (record { seq = seq; session = session }) (filter (λ (a : Asked). a.seq == z) w)) (sym T.is) (among_filter (λ (a : Asked). a.seq == z) (record { seq = seq; session = session }) t T.before T.behind))
            (subst CarriesAnswer says (delivered_fine m d))

    -- the leader answered
    returns : (D : ℕ) → u + pace.delay ≤ D → IsRouted ms reign f seq V.es → Errand seq D later next
    returns D le x =
        let F = S.peons f qf nf in
        let soon = M.later in
        ToPeon _ x.reply
        (rides_new ms q pace t next u V.es V.messages e C reign.leader f (λ z. z.by ≤ u + pace.delay) (in_reign ms reign reign.leader f (body.Route seq x.reply)) x.earlier x.later x.is refl refl
        (all_most (t.time + pace.delay) (u + pace.delay) (omega arith) (t.under_way reign.leader f) (carries_top ms reign t.world.messages reign.leader f (t.time + pace.delay) _ (t.under_way reign.leader f) F.to_come))
        (owed_top _))
        (new_is ms q pace t next u V.es V.messages (in_reign ms reign reign.leader f (body.Route seq x.reply)) x.earlier x.later x.is) le
      where
        owed_top : (ns : List ℕ) → AllByRecursion (λ z. z.by ≤ u + pace.delay) (owed_by (u + pace.delay) ns)
        owed_top [] = tt
        owed_top (n ∷ ns) = (omega arith, owed_top ns)

    -- the leader takes the command
    leads_in_phase : (o : Option Begun) (s : State) → Leads ms.count q pace reign r o s → ((s.phase ≡ phase.Active) ⊎ (s.phase ≡ phase.Updating)) × (s.leader.quorum ≡ q)
    leads_in_phase None s L = (inl L.leads, L.quorum)
    leads_in_phase (Some b) s L = let X = L.proposes in (inr X.leads, X.quorum)

    takes_it : (k : ℕ) (c : Command) → message_at t.world.messages k ≡ Some (in_reign ms reign f reign.leader (body.Forward seq c)) → e ≡ Arrives (Deliver k (u + pace.clock reign.leader)) → slice_index_or V.was.clients.taken f 0 < seq
        → taken_by (member_of ms reign.leader V.here) t.world reign.leader V.was e ≡ Some (origin.Forwarded f seq)
    takes_it k c there comes lt =
        let L = leads_in_phase r.next V.was (subst (λ (o : Option State). IsSomeAnd o (Leads ms.count q pace reign r r.next)) V.up S.lead) in
        ap (taken_by (member_of ms reign.leader V.here) t.world reign.leader V.was) comes
        ∙ taken_here (member_of ms reign.leader V.here) t.world reign.leader V.was _ (brought (u + pace.clock reign.leader) (in_reign ms reign f reign.leader (body.Forward seq c))) (ap (option_map (brought (u + pace.clock reign.leader))) there) refl
        ∙ by L.0 L.1
      where
        by : ((V.was.phase ≡ phase.Active) ⊎ (V.was.phase ≡ phase.Updating)) → V.was.leader.quorum ≡ q → taken_from (member_of ms reign.leader V.here) (readings_of (t.world.store reign.leader)) V.was (input.Deliver (in_reign ms reign f reign.leader (body.Forward seq c)).message) ≡ Some (origin.Forwarded f seq)
        by (inl p) g = rw (ne_eqb f reign.leader nf, eq-eqb ms.count ms.count refl, p, eq-eqb reign.epoch (epoch_of (readings_of (t.world.store reign.leader))) (sym S.epoch), subst (λ (z : List Bool). has z f ≡ true) (sym g) qf, lt-ltb (slice_index_or V.was.clients.taken f 0) seq lt) refl
        by (inr p) g = rw (ne_eqb f reign.leader nf, eq-eqb ms.count ms.count refl, p, eq-eqb reign.epoch (epoch_of (readings_of (t.world.store reign.leader))) (sym S.epoch), subst (λ (z : List Bool). has z f ≡ true) (sym g) qf, lt-ltb (slice_index_or V.was.clients.taken f 0) seq lt) refl

    -- it arrives at the leader
    comes_there : (D : ℕ) (o : Owed) (c : Command) → u ≤ o.by → o.by + answer_time pace + pace.delay ≤ D → message_at t.world.messages o.number ≡ Some (in_reign ms reign f reign.leader (body.Forward seq c)) → slice_index_or V.was.clients.taken f 0 < seq
        → e ≡ Arrives (Deliver o.number (u + pace.clock reign.leader)) → Errand seq D later next
    comes_there D o c soon le there lt comes = elim (asked ms q pace reign K r t S A u M later next e V (origin.Forwarded f seq) (takes_it o.number c there comes lt)) [
      | inl W ↦ AtLeader (u + answer_time pace) (pack (Awaits ms q pace reign (u + answer_time pace) (origin.Forwarded f seq) later) (next.world.state reign.leader) V.is V.up_after W) (omega arith)
      | inr x ↦ returns D (omega arith) x
    ]

    errand_on : (D : ℕ) → Sits seq session was → Errand seq D r t → IsServed t.world next.world f session ⊎ Errand seq D later next
    errand_on D T (AtLeader E W le) =
        let W2 = subst (λ (o : Option State). IsSomeAnd o (Awaits ms q pace reign E (origin.Forwarded f seq) r)) V.up W in
        let soon = in_time ms q pace reign K r t S u M V.was V.up E (origin.Forwarded f seq) W2 in
        elim (awaits_on ms q pace reign K r t S u M V.was V.up E (origin.Forwarded f seq) t.world next.world later (taken_by (member_of ms reign.leader V.here) t.world reign.leader V.was e) V.is V.es W2 V.turn) [
          | inl z ↦ inr (AtLeader E (pack (Awaits ms q pace reign E (origin.Forwarded f seq) later) (next.world.state reign.leader) V.is V.up_after z) le)
          | inr x ↦ inr (returns D (omega arith) x)
        ]
    errand_on D T (ToPeon o x R there le) = elim (rides_on ms q pace t next u V.es V.messages e C reign.leader f (λ z. z.by ≤ o.by) o R) [
      | inl z ↦ inr (ToPeon o x z (still_there ms q pace t next u V.es V.messages o.number _ there) le)
      | inr comes ↦ inl (arrives_back T o.number x there comes)
    ]
    errand_on D T (ToLeader o c R there taken le) = by (rides_on ms q pace t next u V.es V.messages e C f reign.leader (λ x. (x.by ≤ o.by) × IsBelow t.world.messages seq x.number) o R) (V.marks f)
      where
        lt : slice_index_or V.was.clients.taken f 0 < seq
        lt = subst (λ (z : Option State). IsSomeAnd z (λ l. slice_index_or l.clients.taken f 0 < seq)) V.up taken

        soon : u ≤ o.by
        soon = rides_in_time (t.under_way f reign.leader) o u (rides_as _ (λ x. x.by ≤ o.by) (t.under_way f reign.leader) o (λ x k. k.0) R) (λ z others first. M.messages f reign.leader qf S.leads z others first)

        goes : Rides (λ x. (x.by ≤ o.by) × IsBelow t.world.messages seq x.number) (next.under_way f reign.leader) o → slice_index_or V.is.clients.taken f 0 < seq → Errand seq D later next
        goes z less = ToLeader o c
            (rides_as _ (λ x. (x.by ≤ o.by) × IsBelow next.world.messages seq x.number) (next.under_way f reign.leader) o (λ x k. (k.0, still_so ms q pace t next u V.es V.messages (λ m. IsNumbered seq m.message.body) (λ m. IsNumbered seq m.message.body) (λ m h. h) x.number k.1)) z)
            (still_there ms q pace t next u V.es V.messages o.number _ there) (pack (λ l. slice_index_or l.clients.taken f 0 < seq) (next.world.state reign.leader) V.is V.up_after less) le

        by : Rides (λ x. (x.by ≤ o.by) × IsBelow t.world.messages seq x.number) (next.under_way f reign.leader) o ⊎ (e ≡ Arrives (Deliver o.number (u + pace.clock reign.leader)))
            → Marking ms pace reign f (taken_by (member_of ms reign.leader V.here) t.world reign.leader V.was e) V.was V.is → IsServed t.world next.world f session ⊎ Errand seq D later next
        by (inr comes) k = inr (comes_there D o c soon le there lt comes)
        by (inl z) (inl same) = inr (goes z (subst (λ (y : ℕ). y < seq) (sym same) lt))
        by (inl z) (inr k) =
            let F = taken_first ms q pace reign r t S u N.known (member_of ms reign.leader V.here) V.was f k.0 next e C k.1 in
            elim (rides_first (λ x. (x.by ≤ o.by) × IsBelow t.world.messages seq x.number) (t.under_way f reign.leader) o R F.first F.others F.list) [
              | inl same ↦ inr (comes_there D o c soon le there lt (F.comes ∙ ap (λ (y : Owed). Arrives (Deliver y.number (u + pace.clock reign.leader))) same))
              | inr below ↦ (let one : IsNumbered seq F.message.message.body = subst (λ (y : Option Envelope). IsSomeAnd y (λ m. IsNumbered seq m.message.body)) F.there below.0.1 in
                  let less = one k.0 F.command F.says in
                  let at_most = k.2 in
                  inr (goes z (omega arith)))
            ]

  -- ---- a run

  -- whoever waits at the peon is answered
  errand_ends : (seq D : ℕ) (session : Session) (r : Round) (t last : Timed) (more : List (ℕ × Event)) → Steady ms q pace reign r t → Attends pace reign r t → Counts q reign f t → IsSomeAnd (t.world.state f) (Sits seq session) → Errand seq D r t
      → LeadsTo ms q pace t more last → ClocksGoOn q pace last.time → D < last.time → IsServed t.world last.world f session
  errand_ends seq D session r t last [] S A N T E L room past = let a = errand_in_time seq D r t S last.time L.0 E in absurd (omega arith)
  errand_ends seq D session r t last ((u, e) ∷ more) S A N T E L room past =
      let next = L.1.0 in
      let b = time_of_next ms q pace reign K (at_time ms q pace u t) next e L.1.1 in
      let c = goes_on ms q pace reign K more next last L.1.2 in
      let G = stays ms q pace reign K r t S u L.0 (clocks_go_on ms q pace reign K u last.time (omega arith) room) next e L.1.1 in
      let V = G.1.1 in
      let B = Before ms q pace reign r t S f qf nf N u next e L.1.1 G.0 V in
      let Z = After ms q pace reign r t S f qf nf N u next e L.1.1 G.0 V in
      let T2 : Sits seq session B.0 = subst (λ (o : Option State). IsSomeAnd o (Sits seq session)) B.1 T in
      let done = (λ (z : IsServed t.world next.world f session). served_later t.world next.world last.world f session z (leads_grew ms q pace more next last L.1.2)) in
      elim (sits_on r t S A N u L.0 next e L.1.1 G.0 V seq session T2) [
        | inl z ↦ done z
        | inr T3 ↦ elim (errand_on r t S A N u L.0 next e L.1.1 G.0 V seq session D T2 E) [
          | inl z ↦ done z
          | inr E2 ↦ served_earlier t.world next.world last.world f session (comes_grew ms q pace (at_time ms q pace u t) next e L.1.1)
              (errand_ends seq D session G.0 next last more G.1.0 (attends_on ms q pace reign K r t S A u L.0 e G.0 next b V) (counts_on ms q pace reign r t S f qf nf N u next e L.1.1 G.0 V)
              (pack (Sits seq session) (next.world.state f) Z.0 Z.1 T3) E2 L.1.2 room past)
        ]
      ]

  -- ---- a command arrives at the peon

  module _ (r : Round) (t : Timed) (S : Steady ms q pace reign r t) (A : Attends pace reign r t) (N : Counts q reign f t) (u : ℕ) (M : MayBe ms q pace t u) (next : Timed) (session : Session) (x : Request) (command : Reads x → ⊥)
      (C : Comes ms q pace (at_time ms q pace u t) next (Arrives (Client f (u + pace.clock f) session x))) (later : Round) (V : Served ms pace reign (Arrives (Client f (u + pace.clock f) session x)) u t.world next.world r later) where
    abbrev B2 : (s : State) × (t.world.state f ≡ Some s) × (IsSomeAnd (t.world.state reign.leader) (λ l. slice_index_or l.clients.taken f 0 < s.clients.next_seq) × AllByRecursion (λ o. IsBelow t.world.messages s.clients.next_seq o.number) (t.under_way f reign.leader))
    B2 = Before ms q pace reign r t S f qf nf N u next (Arrives (Client f (u + pace.clock f) session x)) C later V

    abbrev Z2 : (is : State) × (next.world.state f ≡ Some is) × Share ms reign t.world next.world (Arrives (Client f (u + pace.clock f) session x)) f B2.0 is V.es
    Z2 = After ms q pace reign r t S f qf nf N u next (Arrives (Client f (u + pace.clock f) session x)) C later V

    -- it is handed on
    handed_on : (c : Command) → V.es ≡ in_reign ms reign f reign.leader (body.Forward B2.0.clients.next_seq c) ∷ [] → Errand B2.0.clients.next_seq (u + 2 * pace.delay + answer_time pace) later next
    handed_on c list =
        let F = S.peons f qf nf in
        let soon = M.later in
        let n = B2.0.clients.next_seq in
        let below = took_below ms q pace reign r t S f qf nf N u next (Arrives (Client f (u + pace.clock f) session x)) C later V B2.0.clients.next_seq B2.2.1 (taken_now ms q pace reign r t S f qf nf N u next (Arrives (Client f (u + pace.clock f) session x)) C later V) in
        ToLeader _ c
        (rides_new ms q pace t next u V.es V.messages (Arrives (Client f (u + pace.clock f) session x)) C f reign.leader (λ z. (z.by ≤ u + pace.delay) × IsBelow next.world.messages B2.0.clients.next_seq z.number) (in_reign ms reign f reign.leader (body.Forward B2.0.clients.next_seq c)) [] [] list refl refl
        (all_pairs (λ z. z.by ≤ u + pace.delay) (λ z. IsBelow next.world.messages B2.0.clients.next_seq z.number) (t.under_way f reign.leader)
        (all_most (t.time + pace.delay) (u + pace.delay) (omega arith) (t.under_way f reign.leader) (carries_top ms reign t.world.messages f reign.leader (t.time + pace.delay) _ (t.under_way f reign.leader) F.to_take))
        (all_still ms q pace t next u V.es V.messages (λ m. IsNumbered B2.0.clients.next_seq m.message.body) (λ m. IsNumbered B2.0.clients.next_seq m.message.body) (λ m k. k) (t.under_way f reign.leader) B2.2.1))
        tt)
        (new_is ms q pace t next u V.es V.messages (in_reign ms reign f reign.leader (body.Forward B2.0.clients.next_seq c)) [] [] list)
        (pack (λ l. slice_index_or l.clients.taken f 0 < B2.0.clients.next_seq) (next.world.state reign.leader) V.is V.up_after below) (omega arith)

    asked_peon : IsServed t.world next.world f session ⊎ (Sits B2.0.clients.next_seq session Z2.0 × Errand B2.0.clients.next_seq (u + 2 * pace.delay + answer_time pace) later next)
    asked_peon = by Z2.2
      where
        by : Share ms reign t.world next.world (Arrives (Client f (u + pace.clock f) session x)) f B2.0 Z2.0 V.es → IsServed t.world next.world f session ⊎ (Sits B2.0.clients.next_seq session Z2.0 × Errand B2.0.clients.next_seq (u + 2 * pace.delay + answer_time pace) later next)
        by (Untouched a b sessions seqs none) = absurd (a session (refl, refl, command))
        by (RepliedNow z a b sessions seqs none) = inl (subst (IsServed t.world next.world f) a.1 b)
        by (Passed z c a sessions seqs list) = inr (
          record {
            before = B2.0.clients.sessions;
            behind = [];
            is = sessions ∙ ap (λ (y : Session). B2.0.clients.sessions ++ record { seq = B2.0.clients.next_seq; session = y } ∷ []) a.1;
          },
          handed_on c list,
        )
        by (Routed z y m d says sessions seqs none replies) = absurd d

  pub serves_by_peon : (r : Round) (t last : Timed) (u : ℕ) (session : Session) (x : Request) (more : List (ℕ × Event)) → Steady ms q pace reign r t → Attends pace reign r t → Counts q reign f t → (Reads x → ⊥)
      → LeadsTo ms q pace t ((u, Arrives (Client f (u + pace.clock f) session x)) ∷ more) last → ClocksGoOn q pace last.time → u + 2 * pace.delay + answer_time pace < last.time → IsServed t.world last.world f session
  serves_by_peon r t last u session x more S A N command L room past =
      let next = L.1.0 in
      let e = Arrives (Client f (u + pace.clock f) session x) in
      let b = time_of_next ms q pace reign K (at_time ms q pace u t) next e L.1.1 in
      let c = goes_on ms q pace reign K more next last L.1.2 in
      let G = stays ms q pace reign K r t S u L.0 (clocks_go_on ms q pace reign K u last.time (omega arith) room) next e L.1.1 in
      let V = G.1.1 in
      let Z = After ms q pace reign r t S f qf nf N u next e L.1.1 G.0 V in
      elim (asked_peon r t S A N u L.0 next session x command L.1.1 G.0 V) [
        | inl z ↦ served_later t.world next.world last.world f session z (leads_grew ms q pace more next last L.1.2)
        | inr k ↦ served_earlier t.world next.world last.world f session (comes_grew ms q pace (at_time ms q pace u t) next e L.1.1)
            (errand_ends _ (u + 2 * pace.delay + answer_time pace) session G.0 next last more G.1.0 (attends_on ms q pace reign K r t S A u L.0 e G.0 next b V) (counts_on ms q pace reign r t S f qf nf N u next e L.1.1 G.0 V)
            (pack (Sits _ session) (next.world.state f) Z.0 Z.1 k.0) k.1 L.1.2 room past)
      ]

  -- the premise stays
  pub counts_always : (r : Round) (t last : Timed) (more : List (ℕ × Event)) → Steady ms q pace reign r t → Counts q reign f t → LeadsTo ms q pace t more last → ClocksGoOn q pace last.time → Counts q reign f last
  counts_always r t last [] S N L room = subst (Counts q reign f) (sym L.1) (record { known = N.known; below = N.below })
  counts_always r t last ((u, e) ∷ more) S N L room =
      let next = L.1.0 in
      let b = time_of_next ms q pace reign K (at_time ms q pace u t) next e L.1.1 in
      let c = goes_on ms q pace reign K more next last L.1.2 in
      let G = stays ms q pace reign K r t S u L.0 (clocks_go_on ms q pace reign K u last.time (omega arith) room) next e L.1.1 in
      counts_always G.0 next last more G.1.0 (counts_on ms q pace reign r t S f qf nf N u next e L.1.1 G.0 G.1.1) L.1.2 room

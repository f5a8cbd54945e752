-- A quorum stays led when its leader commits a value that all members accepted.
use Rattle.law_names.proofs.Runs.{Arrives, Deliver, Envelope, Monitors, arrival, envelope_of, messages_of, replies_of}
use Rattle.law_names.proofs.Table.{AllByRecursion, Course, Last, Learn, Me, Message, Origin, Readings, Reply, Sent, State, Store, answer_to, answers_to, are_within, disarmed, epoch_of, has, is_empty, members, message_to, only_ping, played, promise_of, readings_of, shared_entries, with_rank}
use Rattle.mon_msg.specs.declared.input.Input.TheVariants as input
use Rattle.mon_wire.specs.declared.body.Body.TheVariants as body
use Rattle.mon_wire.specs.declared.phase.Phase.TheVariants as phase
use Rattle.mon_wire.specs.declared.phase.Timer.TheVariants as timer
use Rattle.mon_wire.specs.declared.reply.Reply.TheVariants as reply
use Rattle.quorum_model.proofs.Members.{member_of}
use Rattle.quorum_stays.proofs.Bounds.{few, leading, until}
use Rattle.quorum_stays.proofs.Carrying.{Gives, gives_append, gives_none}
use Rattle.quorum_stays.proofs.Giving.{each_carries, each_hands_on_none, gives_apart, gives_each, gives_no_leader, to_all}
use Rattle.quorum_stays.proofs.Leaders.{accept_body, busy, comes, lt, proposes_busy, took, up_busy}
use Rattle.quorum_stays.proofs.Onward.{lands, other_left, pack}
use Rattle.quorum_stays.proofs.Outcomes.{ForAClient, HandsOnNone, RoutesAnswer, an_answer, an_answer_hands_on_none, an_answer_is_routed, messages_for_clients}
use Rattle.quorum_stays.proofs.Peering.{PeonIn}
use Rattle.quorum_stays.proofs.Rows.{commits, last_accept_row}
use Rattle.quorum_stays.proofs.Sending.{each}
use Rattle.quorum_stays.proofs.Serving.{Answers, Committed, Goes, answered, messages_carry, messages_hand_on_none}
use Rattle.quorum_stays.proofs.Sharing.{elsewhere, none_of}
use Rattle.quorum_stays.proofs.States.{bare_committing, extends}
use Rattle.quorum_stays.proofs.Stepping.{Did, did, replied}
use Rattle.quorum_stays.proofs.Stores.{learned_epoch}
use Rattle.quorum_stays.proofs.Taking.{no_forward, taken_nowhere}
use Rattle.quorum_stays.proofs.Timers.{all_extended, armed_if_any, extended_timers}
use Rattle.quorum_stays.proofs.Turning.{other_state, other_store, same_carried}
use Rattle.quorum_stays.specs.Reading.{ClocksGoOn}
use Rattle.quorum_stays.specs.Serving.{CarriesAnswer, IsAnswer, IsForward, is_done}
use Rattle.quorum_stays.specs.Steady.{AreApart, Begun, Carries, FollowsSince, HasLease, IsItem, IsOfClients, Item, Keeps, LeadsSince, Noted, Proposes, Reign, Round, Steady, in_reign, item, leased, said, to_leader, to_peon}
use Rattle.quorum_timed.specs.Begins.{IsQuick}
use Rattle.quorum_timed.specs.Timed.{MayBe, Owed, Pace, Timed, Went, at_time, without_first}
use Rattle.quorum_walk.proofs.Lists.{all_append}
use Rattle.quorum_walk.proofs.Ranks.{has_with_is, within_at}
use Rattle.std.proofs.Common.{Bool, IsSomeAnd, List, None, Option, Some, [], ap, arith, drop, false, inl, inr, length, ltb, map, not, refl, subst, suc, sym, take, true, zero, ℕ, ◌*◌, ◌++◌, ◌+◌, ◌^◌, ◌∙◌, ◌∷◌, ◌≡◌, ◌≤◌, ◌⊎◌}
use Rattle.std.proofs.lemmas.Bool.{cases_eq}
use Rattle.std.proofs.lemmas.List.Elements.{filter_map-append}

pub maybe_answer : (me : Me) (e : ℕ) (o : Option Origin) (r : Reply) → AllByRecursion ForAClient (answers_to me e o r)
maybe_answer me e None r = tt
maybe_answer me e (Some o) r = an_answer me e o r

maybe_carries : (me : Me) (e : ℕ) (o : Option Origin) (r : Reply) → IsAnswer r → AllByRecursion RoutesAnswer (answers_to me e o r)
maybe_carries me e None r k = tt
maybe_carries me e (Some o) r k = an_answer_is_routed me e o r k

maybe_none : (me : Me) (e : ℕ) (o : Option Origin) (r : Reply) → AllByRecursion HandsOnNone (answers_to me e o r)
maybe_none me e None r = tt
maybe_none me e (Some o) r = an_answer_hands_on_none me e o r

module _ (ms : Monitors) (q : List Bool) (pace : Pace) (reign : Reign) (K : IsQuick pace) (r0 : Round) (b : Begun) (t : Timed) (S : Steady ms q pace reign (record r0 { next = Some b }) t) (u : ℕ)
    (M : MayBe ms q pace t u) (room : ClocksGoOn q pace u)
    (next : Timed) (f : ℕ) (qf : has q f ≡ true) (nf : f ≡ reign.leader → ⊥) (F : PeonIn ms q pace reign (record r0 { next = Some b }) t f t.under_way) (o : Owed) (others : List Owed)
    (x : Item) (rest : List Item) (it : IsItem ms reign t.world.messages f reign.leader (t.time + pace.delay) x o)
    (C : Carries ms reign t.world.messages f reign.leader (t.time + pace.delay) rest others)
    (went : Went ms q pace (at_time ms q pace u t) (Arrives (Deliver o.number (u + pace.clock reign.leader))) (without_first f reign.leader others t.under_way) next)
    (one : F.taken ≡ 1) (all : F.heard ≡ 3) (is : item (body.Accept reign.pn (suc r0.version)) (b.at + 2 * pace.delay) ≡ x) (list : rest ≡ []) where
  abbrev later : t.time ≤ u
  later = M.later

  abbrev r : Round
  r = record r0 { next = Some b }

  abbrev new : Round
  new = record { version = suc r0.version; value = b.value; committed = u; latest = u; before = r0.latest; next = None }

  abbrev s : State
  s = (leading ms q pace reign r t S).0

  abbrev here : ltb reign.leader ms.count ≡ true
  here = lt ms q pace reign r t S u later next f qf nf F o others x rest it C went

  abbrev me : Me
  me = member_of ms reign.leader here

  abbrev at : ℕ
  at = u + pace.clock reign.leader

  abbrev v : Readings
  v = readings_of (t.world.store reign.leader)

  abbrev proposing1 : State
  proposing1 = busy ms q pace reign r0 b t S u later next f qf nf F o others x rest it C went

  abbrev P : Proposes ms.count q pace reign r b proposing1
  P = proposes_busy ms q pace reign r0 b t S u later next f qf nf F o others x rest it C went

  up : t.world.state reign.leader ≡ Some proposing1
  up = up_busy ms q pace reign r0 b t S u later next f qf nf F o others x rest it C went

  abbrev y : Course
  y = commits ms reign.leader here (shared_entries (t.world.store reign.leader)) at v s phase.Updating (inr refl) q reign.pn b.value f reign.epoch nf qf S.epoch

  fits : suc v.last ≤ 2 ^ 62
  fits = let p = P in let a = p.fits in let l = S.last in omega arith

  abbrev es : List Envelope
  es = (to_all ms q reign here (body.Commit (suc r0.version) (b.value ∷ [])) ++ to_all ms q reign here (body.Lease (suc r0.version)))
      ++ messages_of (answers_to me reign.epoch s.leader.origin (reply.Done (suc r0.version)))

  module _ (full : are_within ms.count q (with_rank s.leader.accepted f) ≡ true) where
    epoch_after : epoch_of (played (Learn (suc v.last) b.value ∷ Last (suc v.last) ∷ []) v) ≡ reign.epoch
    epoch_after = let p = P in learned_epoch (suc v.last) b.value v p.made ∙ S.epoch

    sent_is : messages_of y.out ≡ es
    sent_is =
        let a = epoch_after in
        let l = S.last in
        let e = epoch_of (played (Learn (suc v.last) b.value ∷ Last (suc v.last) ∷ []) v) in
        let first = map (message_to me e (body.Commit (suc v.last) (b.value ∷ []))) (members me q) in
        let second = map (message_to me e (body.Lease (suc v.last))) (members me q) in
        let third = answers_to me e s.leader.origin (reply.Done (suc v.last)) in
        filter_map-append envelope_of (first ++ second) third
        ∙ ap (λ (z : List Envelope). z ++ messages_of third) (filter_map-append envelope_of first second)
        ∙ (λ i. (each me (a i) (body.Commit (suc (l i)) (b.value ∷ [])) (members me q) ++ each me (a i) (body.Lease (suc (l i))) (members me q)) ++ messages_of (answers_to me (a i) s.leader.origin (reply.Done (suc (l i)))))

    D : Did t.world next.world reign.leader y.state (Learn (suc v.last) b.value ∷ Last (suc v.last) ∷ []) es
    D = subst (Did t.world next.world reign.leader y.state (Learn (suc v.last) b.value ∷ Last (suc v.last) ∷ [])) sent_is
        (did ms t.world next.world (Deliver o.number at) reign.leader here at (input.Deliver (in_reign ms reign f reign.leader (body.Accept reign.pn (suc v.last))).message) proposing1
        (comes ms q pace reign r t S u later next f qf nf F o others x rest it C went _ (accept_body ms q pace reign r0 b t S u later next f qf nf F o others x rest it C went one all is list)) up went.happened y
        (last_accept_row ms reign.leader here (shared_entries (t.world.store reign.leader)) at v s phase.Updating (inr refl) q reign.pn b.value f reign.epoch nf qf S.epoch full fits))

    kept : readings_of (next.world.store reign.leader) ≡ played (Learn (suc v.last) b.value ∷ Last (suc v.last) ∷ []) v
    kept = D.kept (tt, (fits, tt))

    -- ---- what is sent

    answers : AllByRecursion (λ (m : Envelope). IsOfClients m.message.body) (messages_of (answers_to me reign.epoch s.leader.origin (reply.Done (suc r0.version))))
    answers = messages_for_clients _ (maybe_answer me reign.epoch s.leader.origin (reply.Done (suc r0.version)))

    gives_both : (j : ℕ) → has q j ≡ true → (j ≡ reign.leader → ⊥) → Gives ms reign reign.leader j (body.Commit (suc r0.version) (b.value ∷ []) ∷ body.Lease (suc r0.version) ∷ []) es
    gives_both j qj nj =
        let lt = S.members j qj in
        gives_append ms reign reign.leader j (body.Commit (suc r0.version) (b.value ∷ []) ∷ body.Lease (suc r0.version) ∷ []) [] _ _
        (gives_append ms reign reign.leader j (body.Commit (suc r0.version) (b.value ∷ []) ∷ []) (body.Lease (suc r0.version) ∷ []) _ _ (gives_each ms q reign here _ j qj nj lt) (gives_each ms q reign here _ j qj nj lt))
        (gives_none ms reign reign.leader j _ answers)

    gives_up : (j : ℕ) → (j ≡ reign.leader → ⊥) → Gives ms reign j reign.leader [] es
    gives_up j nj = gives_append ms reign j reign.leader [] [] _ _
        (gives_append ms reign j reign.leader [] [] _ _ (gives_no_leader ms q reign here (body.Commit (suc r0.version) (b.value ∷ [])) j reign.leader nj) (gives_no_leader ms q reign here (body.Lease (suc r0.version)) j reign.leader nj))
        (gives_none ms reign j reign.leader _ answers)

    gives_others : (g j : ℕ) → AreApart reign.leader g j → Gives ms reign g j [] es
    gives_others g j a = gives_append ms reign g j [] [] _ _
        (gives_append ms reign g j [] [] _ _ (gives_apart ms q reign here (body.Commit (suc r0.version) (b.value ∷ [])) g j a) (gives_apart ms q reign here (body.Lease (suc r0.version)) g j a))
        (gives_none ms reign g j _ answers)

    -- ---- each peon accepted the value

    ended : (h g : ℕ) → h ≤ 3 → g ≤ said h → g ≡ 2 → h ≡ 3
    ended zero g le few e = absurd (omega arith)
    ended (suc h) g le few e = omega arith

    accepted_all : (j : ℕ) → has q j ≡ true → (j ≡ f → ⊥) → (G : PeonIn ms q pace reign r t j t.under_way) → G.taken ≡ 2
    accepted_all j qj ne G =
        let N : Noted j G.taken (Some b) proposing1 = subst (λ (z : Option State). IsSomeAnd z (Noted j G.taken (Some b))) up G.noted in
        elim (has_with_is s.leader.accepted f j (within_at ms.count q (with_rank s.leader.accepted f) j full (S.members j qj) qj)) [ inl e ↦ absurd (ne e) | inr h ↦ N.1 h ]

    -- nothing of its round is under way, to it or from it
    committed_peon : (j : ℕ) → has q j ≡ true → (j ≡ reign.leader → ⊥) → (G : PeonIn ms q pace reign r t j t.under_way) → G.heard ≡ 3
        → Carries ms reign t.world.messages j reign.leader (t.time + pace.delay) [] (without_first f reign.leader others t.under_way j reign.leader)
        → PeonIn ms q pace reign new next j next.under_way
    committed_peon j qj nj G h up_list = record {
      heard = zero;
      taken = zero;
      sent = omega arith;
      answered = omega arith;
      follows = other_state ms q pace reign t next u later _ _ went reign.leader proposing1 y.state _ es up D (FollowsSince reign.leader q (r0.latest + pace.clock j)) j nj
          (subst (λ (z : ℕ). IsSomeAnd (t.world.state j) (FollowsSince reign.leader q (leased r z + pace.clock j))) h G.follows);
      lease = other_state ms q pace reign t next u later _ _ went reign.leader proposing1 y.state _ es up D (HasLease (pace.clock j) new zero) j nj
          (subst (λ (z : ℕ). IsSomeAnd (t.world.state j) (HasLease (pace.clock j) r z)) h G.lease);
      epoch = other_store ms q pace reign t next u later _ _ went reign.leader proposing1 y.state _ es up D (λ z. epoch_of z ≡ reign.epoch) j nj G.epoch;
      promise = other_store ms q pace reign t next u later _ _ went reign.leader proposing1 y.state _ es up D (λ z. promise_of z ≡ reign.pn) j nj G.promise;
      keeps = (let p = P in let k = subst (λ (z : ℕ). Keeps r z (readings_of (t.world.store j))) h G.keeps in
          other_store ms q pace reign t next u later _ _ went reign.leader proposing1 y.state _ es up D (Keeps new zero) j nj (ap suc k.0, k.1, p.made, refl));
      noted = pack (Noted j zero None) (next.world.state reign.leader) _ D.up (λ z. absurd (omega arith));
      to_come = lands ms q pace reign (at_time ms q pace u t) next _ _ went reign.leader y.state _ es D reign.leader j (t.time + pace.delay) (u + pace.delay) [] (body.Commit (suc r0.version) (b.value ∷ []) ∷ body.Lease (suc r0.version) ∷ [])
          (let a = M.later in omega arith) (omega arith)
          (subst (Carries ms reign t.world.messages reign.leader j (t.time + pace.delay) []) (sym (other_left f reign.leader others t.under_way reign.leader j (λ _ e. nj e)))
          (subst (λ (z : ℕ). Carries ms reign t.world.messages reign.leader j (t.time + pace.delay) (drop z (to_peon reign pace r)) (t.under_way reign.leader j)) h G.to_come))
          (gives_both j qj nj);
      to_take = same_carried ms q pace reign t next u later _ _ went reign.leader proposing1 y.state _ es up D j reign.leader [] up_list (gives_up j nj);
    }

    peon : (j : ℕ) → has q j ≡ true → (j ≡ reign.leader → ⊥) → PeonIn ms q pace reign new next j next.under_way
    peon j qj nj = by (cases_eq j f)
      where
        by : (j ≡ f) ⊎ (j ≡ f → ⊥) → PeonIn ms q pace reign new next j next.under_way
        by (inl e) = subst (λ (z : ℕ). PeonIn ms q pace reign new next z next.under_way) (sym e)
            (committed_peon f qf nf F all (subst (λ (z : List Item). Carries ms reign t.world.messages f reign.leader (t.time + pace.delay) z (without_first f reign.leader others t.under_way f reign.leader)) list
            (took ms q q pace reign r t u later next f nf F o others rest C went)))
        by (inr ne) =
            let G = S.peons j qj nj in
            let two = accepted_all j qj ne G in
            let h : G.heard ≡ 3 = ended G.heard G.taken (let a = G.sent in omega arith) G.answered two in
            committed_peon j qj nj G h
            (subst (Carries ms reign t.world.messages j reign.leader (t.time + pace.delay) []) (sym (other_left f reign.leader others t.under_way j reign.leader (λ a _. ne a)))
            (subst (λ (z : ℕ). Carries ms reign t.world.messages j reign.leader (t.time + pace.delay) (drop (suc (suc zero)) (take (said z) (to_leader reign pace r))) (t.under_way j reign.leader)) h
            (subst (λ (z : ℕ). Carries ms reign t.world.messages j reign.leader (t.time + pace.delay) (drop z (take (said G.heard) (to_leader reign pace r))) (t.under_way j reign.leader)) two G.to_take)))

    commit_stays : Steady ms q pace reign (record { version = suc r0.version; value = b.value; committed = u; latest = u; before = r0.latest; next = None }) next
    commit_stays =
        let p = P in
        let X = p.proposes in
        let size : length (only_ping (disarmed timer.Accept s.timers)) ≡ 11 = refl in
        let bare = bare_committing phase.Updating ms.count reign q b.value (b.at + pace.clock reign.leader) proposing1 X in
        record {
          leads = S.leads;
          second = S.second;
          second_in = S.second_in;
          second_is = S.second_is;
          members = S.members;
          short = S.short;
          since = (let a = S.since in let c = S.reached in let d = M.later in omega arith);
          reached = (let c = went.time in omega arith);
          ordered = (let c = S.reached in let d = M.later in omega arith);
          renewed = omega arith;
          apart = until ms q pace reign r t S K u M;
          only_renewed = λ lt. absurd (omega arith);
          epoch = ap epoch_of kept ∙ epoch_after;
          last = ap (λ (z : Readings). z.last) kept ∙ ap suc S.last;
          fits = p.fits;
          lead = pack (LeadsSince reign q at) (next.world.state reign.leader) y.state D.up
              (extends reign q S.second at y.state (few ms q pace reign r t S) S.second_in S.second_is refl refl refl refl refl (room reign.leader S.leads)
              (only_ping (disarmed timer.Accept s.timers)) size bare (room reign.leader S.leads)
              (all_extended at (room reign.leader S.leads) (only_ping (disarmed timer.Accept s.timers)) size bare (not (is_empty s.clients.queue)) (is_empty (members me q))));
          peons = peon;
          others = λ g j qg qj a. same_carried ms q pace reign t next u later _ _ went reign.leader proposing1 y.state _ es up D g j []
              (subst (Carries ms reign t.world.messages g j (t.time + pace.delay) []) (sym (other_left f reign.leader others t.under_way g j (λ y z. nf (sym y ∙ a.1 z)))) (S.others g j qg qj a)) (gives_others g j a);
        }

    -- ---- the commands that wait

    abbrev message : Message
    message = (in_reign ms reign f reign.leader (body.Accept reign.pn (suc v.last))).message

    R : (event : ℕ) × (m : Store) × (next.world.replied ≡ t.world.replied ++ replies_of event reign.leader m y.out)
    R = replied ms t.world next.world (Deliver o.number at) reign.leader here at (input.Deliver (in_reign ms reign f reign.leader (body.Accept reign.pn (suc v.last))).message) proposing1
        (comes ms q pace reign r t S u later next f qf nf F o others x rest it C went _ (accept_body ms q pace reign r0 b t S u later next f qf nf F o others x rest it C went one all is list)) up went.happened y
        (last_accept_row ms reign.leader here (shared_entries (t.world.store reign.leader)) at v s phase.Updating (inr refl) q reign.pn b.value f reign.epoch nf qf S.epoch full fits)

    abbrev to_members : List Sent
    to_members = map (message_to me (epoch_of (played (Learn (suc v.last) b.value ∷ Last (suc v.last) ∷ []) v)) (body.Commit (suc v.last) (b.value ∷ []))) (members me q)
        ++ map (message_to me (epoch_of (played (Learn (suc v.last) b.value ∷ Last (suc v.last) ∷ []) v)) (body.Lease (suc v.last))) (members me q)

    whoever_waits : (a : Origin) → s.leader.origin ≡ Some a → Answers ms reign t.world next.world (messages_of y.out) a
    whoever_waits a waits =
        let e = epoch_after in
        let same : y.out ≡ to_members ++ answer_to me reign.epoch a (reply.Done (suc v.last)) ∷ [] = (λ i. to_members ++ answers_to me (e i) (waits i) (reply.Done (suc v.last))) in
        subst (λ (z : List Sent). Answers ms reign t.world next.world (messages_of z) a) (sym same)
        (answered ms reign t.world next.world here R.0 R.1 a (reply.Done (suc v.last)) (is_done (suc v.last)) to_members [] (subst (λ (z : List Sent). next.world.replied ≡ t.world.replied ++ replies_of R.0 reign.leader R.1 z) same R.2))

    some_value : ◌≡◌ {A = Option Begun} (Some b) None → ⊥
    some_value none = absurd cc

    plainly : AllByRecursion (λ (m : Envelope). IsForward m.message.body → ⊥) (messages_of y.out)
    plainly = subst (AllByRecursion (λ (m : Envelope). IsForward m.message.body → ⊥)) (sym sent_is)
        (all_append (λ (m : Envelope). IsForward m.message.body → ⊥) (to_all ms q reign here (body.Commit (suc r0.version) (b.value ∷ [])) ++ to_all ms q reign here (body.Lease (suc r0.version))) _
        (all_append (λ (m : Envelope). IsForward m.message.body → ⊥) (to_all ms q reign here (body.Commit (suc r0.version) (b.value ∷ []))) (to_all ms q reign here (body.Lease (suc r0.version)))
        (each_hands_on_none me reign.epoch _ (λ k. k) (members me q)) (each_hands_on_none me reign.epoch _ (λ k. k) (members me q)))
        (messages_hand_on_none _ (maybe_none me reign.epoch s.leader.origin (reply.Done (suc r0.version)))))

    routed : AllByRecursion (λ (m : Envelope). CarriesAnswer m.message.body) (messages_of y.out)
    routed = subst (AllByRecursion (λ (m : Envelope). CarriesAnswer m.message.body)) (sym sent_is)
        (all_append (λ (m : Envelope). CarriesAnswer m.message.body) (to_all ms q reign here (body.Commit (suc r0.version) (b.value ∷ [])) ++ to_all ms q reign here (body.Lease (suc r0.version))) _
        (all_append (λ (m : Envelope). CarriesAnswer m.message.body) (to_all ms q reign here (body.Commit (suc r0.version) (b.value ∷ []))) (to_all ms q reign here (body.Lease (suc r0.version)))
        (each_carries me reign.epoch _ tt (members me q)) (each_carries me reign.epoch _ tt (members me q)))
        (messages_carry _ (maybe_carries me reign.epoch s.leader.origin (reply.Done (suc r0.version)) (is_done (suc r0.version)))))

    arrives : arrival t.world (Deliver o.number at) ≡ Some (record { rank = reign.leader; at = at; input = input.Deliver (in_reign ms reign f reign.leader (body.Accept reign.pn (suc v.last))).message })
    arrives = comes ms q pace reign r t S u later next f qf nf F o others x rest it C went _ (accept_body ms q pace reign r0 b t S u later next f qf nf F o others x rest it C went one all is list)

    E2 : Did t.world next.world reign.leader y.state (Learn (suc v.last) b.value ∷ Last (suc v.last) ∷ []) (messages_of y.out)
    E2 = subst (Did t.world next.world reign.leader y.state (Learn (suc v.last) b.value ∷ Last (suc v.last) ∷ [])) (sym sent_is) D

    pub commits_all : Goes ms q pace reign t.world u (Arrives (Deliver o.number (u + pace.clock reign.leader))) (record r0 { next = Some b }) (record { version = suc r0.version; value = b.value; committed = u; latest = u; before = r0.latest; next = None }) next
    commits_all =
        let P2 = P in
        let X = P2.proposes in
        let size : length (only_ping (disarmed timer.Accept s.timers)) ≡ 11 = refl in
        let bare = bare_committing phase.Updating ms.count reign q b.value (b.at + pace.clock reign.leader) proposing1 X in
        let E = all_extended at (room reign.leader S.leads) (only_ping (disarmed timer.Accept s.timers)) size bare false (is_empty (members me q)) in (
          commit_stays,
          record {
            here = here;
            was = proposing1;
            is = y.state;
            up = up;
            up_after = D.up;
            es = messages_of y.out;
            messages = D.messages ∙ ap (λ (z : List Envelope). t.world.messages ++ z) (sym sent_is);
            plain = inl plainly;
            version = λ none. absurd (some_value none);
            marks = λ f. inl refl;
            routes = routed;
            peons = λ f nf. elsewhere ms reign t.world next.world (Deliver o.number at) _ arrives reign.leader refl y.state _ (messages_of y.out) E2 f nf (none_of f (messages_of y.out) plainly);
            turn = Committed b
                (taken_nowhere me t.world reign.leader proposing1 _ _ (comes ms q pace reign r t S u later next f qf nf F o others x rest it C went _ (accept_body ms q pace reign r0 b t S u later next f qf nf F o others x rest it C went one all is list))
                (no_forward me v proposing1 message (λ k. k)))
                refl refl refl refl whoever_waits
                (armed_if_any s.clients.queue at (extended_timers at (is_empty (members me q)) (only_ping (disarmed timer.Accept s.timers))) E.kinds (room reign.leader S.leads));
          },
        )

-- The leader counts that a peon accepted the value that it found. When all did, it commits it and serves.
use Rattle.law_names.proofs.Runs.{Arrives, Deliver, Envelope, Monitors, envelope_of, message_at, messages_of}
use Rattle.law_names.proofs.Table.{AllByRecursion, Course, Last, Learn, Me, Op, Readings, State, answers_to, are_within, disarmed, epoch_of, has, is_empty, members, message_to, only_ping, played, promise_of, readings_of, shared_entries, with_rank}
use Rattle.mon_msg.specs.declared.input.Input.TheVariants as input
use Rattle.mon_wire.specs.declared.body.Body.TheVariants as body
use Rattle.mon_wire.specs.declared.phase.Phase.TheVariants as phase
use Rattle.mon_wire.specs.declared.phase.Timer.TheVariants as timer
use Rattle.mon_wire.specs.declared.reply.Reply.TheVariants as reply
use Rattle.quorum_model.proofs.Members.{member_of}
use Rattle.quorum_stays.proofs.Carrying.{Gives, gives_append, gives_none}
use Rattle.quorum_stays.proofs.Committing.{maybe_answer}
use Rattle.quorum_stays.proofs.Giving.{gives_apart, gives_each, gives_no_leader, to_all}
use Rattle.quorum_stays.proofs.Onward.{here_left, lands, one_state, other_left, pack, unpack}
use Rattle.quorum_stays.proofs.Outcomes.{messages_for_clients}
use Rattle.quorum_stays.proofs.Peering.{PeonIn}
use Rattle.quorum_stays.proofs.Rows.{accept_row, commits, last_accept_row}
use Rattle.quorum_stays.proofs.Sending.{each}
use Rattle.quorum_stays.proofs.States.{accepted, bare_committing, extends, has_self}
use Rattle.quorum_stays.proofs.Stepping.{Did, brought, did}
use Rattle.quorum_stays.proofs.Stores.{learned_epoch}
use Rattle.quorum_stays.proofs.Timers.{all_extended}
use Rattle.quorum_stays.proofs.Turning.{every_store, other_state, other_store, same_carried}
use Rattle.quorum_stays.specs.Reading.{ClocksGoOn}
use Rattle.quorum_stays.specs.Steady.{AreApart, Carries, FollowsSince, IsItem, IsOfClients, Keeps, LeadsSince, Noted, Reign, Round, Steady, in_reign}
use Rattle.quorum_timed.specs.Timed.{MayBe, Owed, Pace, Timed, Went, at_time, without_first}
use Rattle.quorum_walk.proofs.Ranks.{has_with, has_with_is, within_at}
use Rattle.std.proofs.Common.{Bool, IsSomeAnd, List, None, Some, [], ap, arith, false, inl, inr, length, ltb, map, not, option_map, refl, subst, suc, sym, true, zero, ℕ, ◌*◌, ◌++◌, ◌+◌, ◌<◌, ◌^◌, ◌∙◌, ◌∷◌, ◌≡◌, ◌≤◌}
use Rattle.std.proofs.lemmas.Bool.{cases_eq, false≢true}
use Rattle.std.proofs.lemmas.List.Elements.{filter_map-append}
use Rattle.timed_failover.proofs.Settlers.{PeerAt, Proposer, few, goes_on, inside, leading, over, rests}
use Rattle.timed_failover.specs.Settling.{Accepted, Counted, KeepsAs, Progress, Settles, Settling, accept_item, from_such, is_counted, to_such}

-- a set has no other rank than before
has_elsewhere : (a : List Bool) (f j : ℕ) → (j ≡ f → ⊥) → has (with_rank a f) j ≡ has a j
has_elsewhere a f j ne = by (has (with_rank a f) j) refl (has a j) refl
  where
    by : (y : Bool) → has (with_rank a f) j ≡ y → (z : Bool) → has a j ≡ z → y ≡ z
    by true h true k = refl
    by false h false k = refl
    by true h false k = elim (has_with_is a f j h) [ inl e ↦ absurd (ne e) | inr old ↦ absurd (false≢true (sym k ∙ old)) ]
    by false h true k = absurd (false≢true (sym h ∙ has_with a f j k))

module _ (ms : Monitors) (q : List Bool) (pace : Pace) (reign : Reign) (x : Settling) (short : 4 * pace.delay ≤ 3000) (t : Timed) (S : Settles ms q pace reign x t) (u : ℕ) (M : MayBe ms q pace t u) (room : ClocksGoOn q pace u)
    (next : Timed) (f : ℕ) (qf : has q f ≡ true) (nf : f ≡ reign.leader → ⊥) (F : PeerAt ms q pace reign x t f t.under_way) (o : Owed) (others : List Owed)
    (went : Went ms q pace (at_time ms q pace u t) (Arrives (Deliver o.number (u + pace.clock reign.leader))) (without_first f reign.leader others t.under_way) next)
    (is : F.progress ≡ Accepted) (it : IsItem ms reign t.world.messages f reign.leader (t.time + pace.delay) (accept_item reign pace x) o)
    (C : Carries ms reign t.world.messages f reign.leader (t.time + pace.delay) [] others) where
  abbrev at : ℕ
  at = u + pace.clock reign.leader

  abbrev left : ℕ → ℕ → List Owed
  left = without_first f reign.leader others t.under_way

  abbrev v : Readings
  v = readings_of (t.world.store reign.leader)

  abbrev here : ltb reign.leader ms.count ≡ true
  here = inside ms q pace reign x t S reign.leader S.leads

  abbrev me : Me
  me = member_of ms reign.leader here

  abbrev value : List Op
  value = x.found.value

  later : t.time ≤ u
  later = M.later

  abbrev pub L : (s : State) × (t.world.state reign.leader ≡ Some s) × Proposer ms q pace reign x s
  L = leading ms q pace reign x t S

  abbrev s : State
  s = L.0

  abbrev busy : State
  busy = record s { phase = phase.Previous; leader = record s.leader { quorum = q; pn = reign.pn; value = Some value } }

  busy_is : s ≡ record s { phase = phase.Previous; leader = record s.leader { quorum = q; pn = reign.pn; value = Some value } }
  busy_is = let P = L.2 in (λ i. record s { phase = P.leads i; leader = record s.leader { quorum = P.quorum i; pn = P.number i; value = P.proposed i } })

  up : t.world.state reign.leader ≡ Some (record s { phase = phase.Previous; leader = record s.leader { quorum = q; pn = reign.pn; value = Some value } })
  up = L.1 ∙ ap Some busy_is

  proposes : Proposer ms q pace reign x (record s { phase = phase.Previous; leader = record s.leader { quorum = q; pn = reign.pn; value = Some value } })
  proposes = subst (Proposer ms q pace reign x) busy_is L.2

  there : message_at t.world.messages o.number ≡ Some (in_reign ms reign f reign.leader (body.Accept reign.pn (suc v.last)))
  there = it.there ∙ ap (λ (z : ℕ). Some (in_reign ms reign f reign.leader (body.Accept reign.pn (suc z)))) (sym S.last)

  comes : option_map (brought at) (message_at t.world.messages o.number)
      ≡ Some (record { rank = reign.leader; at = at; input = input.Deliver (in_reign ms reign f reign.leader (body.Accept reign.pn (suc v.last))).message })
  comes = ap (option_map (brought at)) there

  -- nothing more is under way from this peon
  took : Carries ms reign t.world.messages f reign.leader (t.time + pace.delay) [] (left f reign.leader)
  took = subst (Carries ms reign t.world.messages f reign.leader (t.time + pace.delay) []) (sym (here_left f reign.leader others t.under_way)) C

  down_left : (j : ℕ) → (j ≡ reign.leader → ⊥) → left reign.leader j ≡ t.under_way reign.leader j
  down_left j nj = other_left f reign.leader others t.under_way reign.leader j (λ _ b. nj b)

  up_left : (j : ℕ) → (j ≡ f → ⊥) → left j reign.leader ≡ t.under_way j reign.leader
  up_left j ne = other_left f reign.leader others t.under_way j reign.leader (λ a _. ne a)

  apart_left : (g j : ℕ) → AreApart reign.leader g j → left g j ≡ t.under_way g j
  apart_left g j a = other_left f reign.leader others t.under_way g j (λ y z. nf (sym y ∙ a.1 z))

  -- its store and what is under way to it
  keeps_f : KeepsAs reign pace x Accepted (readings_of (t.world.store f))
  keeps_f = subst (λ (p : Progress). KeepsAs reign pace x p (readings_of (t.world.store f))) is F.keeps

  down_f : Carries ms reign t.world.messages reign.leader f (t.time + pace.delay) [] (left reign.leader f)
  down_f = subst (Carries ms reign t.world.messages reign.leader f (t.time + pace.delay) []) (sym (down_left f nf)) (subst (λ (p : Progress). Carries ms reign t.world.messages reign.leader f (t.time + pace.delay) (to_such reign pace x p) (t.under_way reign.leader f)) is F.to_come)

  -- what is noted of a peon
  noted_at : (j : ℕ) (p : Progress) → IsSomeAnd (t.world.state reign.leader) (λ (z : State). has z.leader.accepted j ≡ is_counted p) → has s.leader.accepted j ≡ is_counted p
  noted_at j p k =
      let n = unpack (λ (z : State). has z.leader.accepted j ≡ is_counted p) (t.world.state reign.leader) k in
      subst (λ (z : State). has z.leader.accepted j ≡ is_counted p) (one_state (t.world.state reign.leader) n.0 s n.1 L.1) n.2

  -- ---- others are missing

  module _ (more : are_within ms.count q (with_rank s.leader.accepted f) ≡ false) where
    abbrev after : State
    after = record busy { leader = record (busy.leader) { accepted = with_rank s.leader.accepted f } }

    D : Did t.world next.world reign.leader (record busy { leader = record (busy.leader) { accepted = with_rank s.leader.accepted f } }) [] []
    D = did ms t.world next.world (Deliver o.number at) reign.leader here at (input.Deliver (in_reign ms reign f reign.leader (body.Accept reign.pn (suc v.last))).message) busy comes up went.happened _
        (accept_row ms reign.leader here (shared_entries (t.world.store reign.leader)) at v s phase.Previous (inl refl) q reign.pn value f reign.epoch nf qf S.epoch more)

    few_f : f < length s.leader.accepted
    few_f = let P = L.2 in let a = S.members f qf in let b = ms.most in let c = P.ranks in omega arith

    noted : (j : ℕ) (p : Progress) → has (with_rank s.leader.accepted f) j ≡ is_counted p → IsSomeAnd (next.world.state reign.leader) (λ (z : State). has z.leader.accepted j ≡ is_counted p)
    noted j p k = pack (λ (z : State). has z.leader.accepted j ≡ is_counted p) (next.world.state reign.leader) after D.up k

    new : PeerAt ms q pace reign x next f next.under_way
    new = rests ms q pace reign x t next u later _ left went reign.leader busy after [] [] up D f nf F Counted keeps_f down_f took (noted f Counted (has_self s.leader.accepted f few_f)) refl refl

    pub counts : Settles ms q pace reign x next
    counts = goes_on ms q pace reign x t S next (let a = later in let c = went.time in omega arith)
        (every_store ms q pace reign t next u later _ left went reign.leader busy after [] [] up D refl (λ w. epoch_of w ≡ reign.epoch) reign.leader S.epoch)
        (every_store ms q pace reign t next u later _ left went reign.leader busy after [] [] up D refl (λ w. w.last ≡ x.version) reign.leader S.last)
        (pack (Proposer ms q pace reign x) (next.world.state reign.leader) after D.up (accepted phase.Previous ms.count reign q value (x.found.at + pace.clock reign.leader) busy proposes f more))
        (λ j qj nj. elim (cases_eq j f) [
          | inl e ↦ subst (λ (z : ℕ). PeerAt ms q pace reign x next z next.under_way) (sym e) new
          | inr ne ↦ (let H = S.peons j qj nj in
              rests ms q pace reign x t next u later _ left went reign.leader busy after [] [] up D j nj H H.progress H.keeps
              (subst (Carries ms reign t.world.messages reign.leader j (t.time + pace.delay) (to_such reign pace x H.progress)) (sym (down_left j nj)) H.to_come)
              (subst (Carries ms reign t.world.messages j reign.leader (t.time + pace.delay) (from_such reign pace x H.progress)) (sym (up_left j ne)) H.to_take)
              (noted j H.progress (has_elsewhere s.leader.accepted f j ne ∙ noted_at j H.progress H.noted)) refl refl)
        ])
        (λ g j qg qj a. same_carried ms q pace reign t next u later _ left went reign.leader busy after [] [] up D g j []
        (subst (Carries ms reign t.world.messages g j (t.time + pace.delay) []) (sym (apart_left g j a)) (S.others g j qg qj a)) refl)

  -- ---- all accepted it

  module _ (full : are_within ms.count q (with_rank s.leader.accepted f) ≡ true) where
    abbrev new_round : Round
    new_round = record { version = suc x.version; value = value; committed = u; latest = u; before = x.won; next = None }

    abbrev y : Course
    y = commits ms reign.leader here (shared_entries (t.world.store reign.leader)) at v s phase.Previous (inl refl) q reign.pn value f reign.epoch nf qf S.epoch

    fits : suc v.last ≤ 2 ^ 62
    fits = let a = S.fits in let l = S.last in omega arith

    abbrev es : List Envelope
    es = (to_all ms q reign here (body.Commit (suc x.version) (value ∷ [])) ++ to_all ms q reign here (body.Lease (suc x.version))) ++ messages_of (answers_to me reign.epoch s.leader.origin (reply.Done (suc x.version)))

    epoch_after : epoch_of (played (Learn (suc v.last) value ∷ Last (suc v.last) ∷ []) v) ≡ reign.epoch
    epoch_after = learned_epoch (suc v.last) value v S.made ∙ S.epoch

    sent_is : messages_of y.out ≡ es
    sent_is =
        let a = epoch_after in
        let l = S.last in
        let e = epoch_of (played (Learn (suc v.last) value ∷ Last (suc v.last) ∷ []) v) in
        let first = map (message_to me e (body.Commit (suc v.last) (value ∷ []))) (members me q) in
        let second = map (message_to me e (body.Lease (suc v.last))) (members me q) in
        let third = answers_to me e s.leader.origin (reply.Done (suc v.last)) in
        filter_map-append envelope_of (first ++ second) third
        ∙ ap (λ (z : List Envelope). z ++ messages_of third) (filter_map-append envelope_of first second)
        ∙ (λ i. (each me (a i) (body.Commit (suc (l i)) (value ∷ [])) (members me q) ++ each me (a i) (body.Lease (suc (l i))) (members me q)) ++ messages_of (answers_to me (a i) s.leader.origin (reply.Done (suc (l i)))))

    E : Did t.world next.world reign.leader y.state (Learn (suc v.last) value ∷ Last (suc v.last) ∷ []) es
    E = subst (Did t.world next.world reign.leader y.state (Learn (suc v.last) value ∷ Last (suc v.last) ∷ [])) sent_is
        (did ms t.world next.world (Deliver o.number at) reign.leader here at (input.Deliver (in_reign ms reign f reign.leader (body.Accept reign.pn (suc v.last))).message) busy comes up went.happened y
        (last_accept_row ms reign.leader here (shared_entries (t.world.store reign.leader)) at v s phase.Previous (inl refl) q reign.pn value f reign.epoch nf qf S.epoch full fits))

    kept : readings_of (next.world.store reign.leader) ≡ played (Learn (suc v.last) value ∷ Last (suc v.last) ∷ []) v
    kept = E.kept (tt, (fits, tt))

    -- ---- what is sent

    for_clients : AllByRecursion (λ (m : Envelope). IsOfClients m.message.body) (messages_of (answers_to me reign.epoch s.leader.origin (reply.Done (suc x.version))))
    for_clients = messages_for_clients _ (maybe_answer me reign.epoch s.leader.origin (reply.Done (suc x.version)))

    gives_both : (j : ℕ) → has q j ≡ true → (j ≡ reign.leader → ⊥) → Gives ms reign reign.leader j (body.Commit (suc x.version) (value ∷ []) ∷ body.Lease (suc x.version) ∷ []) es
    gives_both j qj nj =
        let lt = S.members j qj in
        gives_append ms reign reign.leader j (body.Commit (suc x.version) (value ∷ []) ∷ body.Lease (suc x.version) ∷ []) [] _ _
        (gives_append ms reign reign.leader j (body.Commit (suc x.version) (value ∷ []) ∷ []) (body.Lease (suc x.version) ∷ []) _ _ (gives_each ms q reign here _ j qj nj lt) (gives_each ms q reign here _ j qj nj lt))
        (gives_none ms reign reign.leader j _ for_clients)

    gives_up : (j : ℕ) → (j ≡ reign.leader → ⊥) → Gives ms reign j reign.leader [] es
    gives_up j nj = gives_append ms reign j reign.leader [] [] _ _
        (gives_append ms reign j reign.leader [] [] _ _ (gives_no_leader ms q reign here (body.Commit (suc x.version) (value ∷ [])) j reign.leader nj) (gives_no_leader ms q reign here (body.Lease (suc x.version)) j reign.leader nj))
        (gives_none ms reign j reign.leader _ for_clients)

    gives_others : (g j : ℕ) → AreApart reign.leader g j → Gives ms reign g j [] es
    gives_others g j a = gives_append ms reign g j [] [] _ _
        (gives_append ms reign g j [] [] _ _ (gives_apart ms q reign here (body.Commit (suc x.version) (value ∷ [])) g j a) (gives_apart ms q reign here (body.Lease (suc x.version)) g j a))
        (gives_none ms reign g j _ for_clients)

    -- ---- the peons

    peon : (j : ℕ) → has q j ≡ true → (j ≡ reign.leader → ⊥) → (G : PeerAt ms q pace reign x t j t.under_way) → KeepsAs reign pace x Accepted (readings_of (t.world.store j))
        → Carries ms reign t.world.messages reign.leader j (t.time + pace.delay) [] (left reign.leader j) → Carries ms reign t.world.messages j reign.leader (t.time + pace.delay) [] (left j reign.leader)
        → PeonIn ms q pace reign new_round next j next.under_way
    peon j qj nj G keeps down back = record {
      heard = zero;
      taken = zero;
      sent = omega arith;
      answered = omega arith;
      follows = other_state ms q pace reign t next u later _ left went reign.leader busy y.state _ es up E (FollowsSince reign.leader q (x.won + pace.clock j)) j nj G.follows;
      lease = (let l = unpack (FollowsSince reign.leader q (x.won + pace.clock j)) (next.world.state j) (other_state ms q pace reign t next u later _ left went reign.leader busy y.state _ es up E (FollowsSince reign.leader q (x.won + pace.clock j)) j nj G.follows) in
          pack (λ (z : State). Unit {0}) (next.world.state j) l.0 l.1 tt);
      epoch = other_store ms q pace reign t next u later _ left went reign.leader busy y.state _ es up E (λ w. epoch_of w ≡ reign.epoch) j nj G.epoch;
      promise = other_store ms q pace reign t next u later _ left went reign.leader busy y.state _ es up E (λ w. promise_of w ≡ reign.pn) j nj G.promise;
      keeps = other_store ms q pace reign t next u later _ left went reign.leader busy y.state _ es up E (Keeps new_round zero) j nj (ap suc keeps.0, keeps.1, S.made, refl);
      noted = pack (Noted j zero None) (next.world.state reign.leader) _ E.up (λ z. absurd (omega arith));
      to_come = lands ms q pace reign (at_time ms q pace u t) next _ left went reign.leader y.state _ es E reign.leader j (t.time + pace.delay) (u + pace.delay) [] (body.Commit (suc x.version) (value ∷ []) ∷ body.Lease (suc x.version) ∷ [])
          (let a = later in omega arith) (omega arith) down (gives_both j qj nj);
      to_take = same_carried ms q pace reign t next u later _ left went reign.leader busy y.state _ es up E j reign.leader [] back (gives_up j nj);
    }

    peons : (j : ℕ) → has q j ≡ true → (j ≡ reign.leader → ⊥) → PeonIn ms q pace reign new_round next j next.under_way
    peons j qj nj = elim (cases_eq j f) [
      | inl e ↦ subst (λ (z : ℕ). PeonIn ms q pace reign new_round next z next.under_way) (sym e) (peon f qf nf F keeps_f down_f took)
      | inr ne ↦ other ne
    ]
      where
        other : (j ≡ f → ⊥) → PeonIn ms q pace reign new_round next j next.under_way
        other ne = by H.progress (sym (noted_at j H.progress H.noted) ∙ accepted_it) H.keeps H.to_come H.to_take
          where
            H : PeerAt ms q pace reign x t j t.under_way
            H = S.peons j qj nj

            accepted_it : has s.leader.accepted j ≡ true
            accepted_it = elim (has_with_is s.leader.accepted f j (within_at ms.count q (with_rank s.leader.accepted f) j full (S.members j qj) qj)) [ inl e ↦ absurd (ne e) | inr h ↦ h ]

            by : (p : Progress) → is_counted p ≡ true → KeepsAs reign pace x p (readings_of (t.world.store j)) → Carries ms reign t.world.messages reign.leader j (t.time + pace.delay) (to_such reign pace x p) (t.under_way reign.leader j)
                → Carries ms reign t.world.messages j reign.leader (t.time + pace.delay) (from_such reign pace x p) (t.under_way j reign.leader) → PeonIn ms q pace reign new_round next j next.under_way
            by Counted so keeps down back = peon j qj nj H keeps
                (subst (Carries ms reign t.world.messages reign.leader j (t.time + pace.delay) []) (sym (down_left j nj)) down)
                (subst (Carries ms reign t.world.messages j reign.leader (t.time + pace.delay) []) (sym (up_left j ne)) back)
            by other so keeps down back = absurd (false≢true so)

    pub settles : Steady ms q pace reign (record { version = suc x.version; value = value; committed = u; latest = u; before = x.won; next = None }) next
    settles =
        let size : length (only_ping (disarmed timer.Accept s.timers)) ≡ 11 = refl in
        let bare = bare_committing phase.Previous ms.count reign q value (x.found.at + pace.clock reign.leader) busy proposes in
        record {
          leads = S.leads;
          second = S.second;
          second_in = S.second_in;
          second_is = S.second_is;
          members = S.members;
          short = S.short;
          since = (let a = S.since in let c = S.reached in let d = later in omega arith);
          reached = (let c = went.time in omega arith);
          ordered = (let a = S.won in let c = S.reached in let d = later in omega arith);
          renewed = omega arith;
          apart = (let a = S.soon in let c = over ms q pace reign x t S u M in omega arith);
          only_renewed = λ lt. absurd (omega arith);
          epoch = ap epoch_of kept ∙ epoch_after;
          last = ap (λ (z : Readings). z.last) kept ∙ ap suc S.last;
          fits = S.fits;
          lead = pack (LeadsSince reign q at) (next.world.state reign.leader) y.state E.up
              (extends reign q S.second at y.state (few ms q pace reign x t S) S.second_in S.second_is refl refl refl refl refl (room reign.leader S.leads)
              (only_ping (disarmed timer.Accept s.timers)) size bare (room reign.leader S.leads)
              (all_extended at (room reign.leader S.leads) (only_ping (disarmed timer.Accept s.timers)) size bare (not (is_empty s.clients.queue)) (is_empty (members me q))));
          peons = peons;
          others = λ g j qg qj a. same_carried ms q pace reign t next u later _ left went reign.leader busy y.state _ es up E g j []
              (subst (Carries ms reign t.world.messages g j (t.time + pace.delay) []) (sym (apart_left g j a)) (S.others g j qg qj a)) (gives_others g j a);
        }

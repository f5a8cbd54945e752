-- A quorum stays led when its leader sends something to each peon: a new lease, a value that it begins, or a version.
use Rattle.law_names.proofs.Runs.{Arrival, Arrives, Envelope, Event, Monitors, Plain, Ring, arrival, messages_of}
use Rattle.law_names.proofs.Table.{AllByRecursion, Body, Clients, Course, Me, Op, Origin, Readings, State, Vote, Waiting, armed, at_rest, begin_with, disarmed, end_of, epoch_of, has, is_empty, members, message_to, only, only_ping, play, promise_of, readings_of, shared_entries}
use Rattle.mon_lease.specs.Lease as lease
use Rattle.mon_msg.specs.declared.input.Input.TheVariants as input
use Rattle.mon_msg.specs.declared.paxos.LeaderStage.TheVariants as stage
use Rattle.mon_wire.specs.declared.body.Body.TheVariants as body
use Rattle.mon_wire.specs.declared.phase.Phase.TheVariants as phase
use Rattle.mon_wire.specs.declared.phase.Timer.TheVariants as timer
use Rattle.quorum_model.proofs.Members.{member_of}
use Rattle.quorum_stays.proofs.Bounds.{by_ack, by_lease, by_renewal, few, inside}
use Rattle.quorum_stays.proofs.Carrying.{Gives, gives_other}
use Rattle.quorum_stays.proofs.Onward.{lands, pack, unpack}
use Rattle.quorum_stays.proofs.Peering.{PeonIn}
use Rattle.quorum_stays.proofs.Rows.{renew_row}
use Rattle.quorum_stays.proofs.Sending.{each, each_from, to_member, to_none}
use Rattle.quorum_stays.proofs.Serving.{Began, Goes, Marking, Renewed, Turn}
use Rattle.quorum_stays.proofs.Sharing.{Shares, elsewhere, none_of}
use Rattle.quorum_stays.proofs.States.{bare_renewing, begun, extends}
use Rattle.quorum_stays.proofs.Stepping.{Did, did}
use Rattle.quorum_stays.proofs.Taking.{taken_by, taken_nowhere}
use Rattle.quorum_stays.proofs.Timers.{Tidy, all_extended, armed_if_any, disarmed_size, extended_timers, maybe_armed}
use Rattle.quorum_stays.proofs.Turning.{other_state, other_store, same_carried}
use Rattle.quorum_stays.specs.Reading.{ClocksGoOn}
use Rattle.quorum_stays.specs.Serving.{CarriesAnswer, IsForward}
use Rattle.quorum_stays.specs.Steady.{AllIn, AreApart, Begun, Carries, FollowsSince, HasLease, IsOfCommand, Item, Keeps, LeadsSince, LeasedSince, Noted, Proposes, Reign, Round, Steady, item, leased, said, to_leader, to_peon}
use Rattle.quorum_timed.proofs.Armed.{Timers}
use Rattle.quorum_timed.specs.Begins.{IsQuick}
use Rattle.quorum_timed.specs.Timed.{MayBe, Pace, Timed, Went, at_time}
use Rattle.quorum_walk.proofs.Ranks.{has_only_is}
use Rattle.std.proofs.Common.{Bool, IsSomeAnd, List, None, Option, Some, [], ap, arith, drop, false, inl, inr, is_some, length, ltb, map, not, refl, subst, suc, sym, take, true, zero, ℕ, ◌*◌, ◌++◌, ◌+◌, ◌<◌, ◌^◌, ◌∙◌, ◌∷◌, ◌≡◌, ◌≤◌, ◌⊎◌}
use Rattle.std.proofs.lemmas.Bool.{cases_eq}

-- ---- a value in progress more or less

keeps_next : (r : Round) (a b : Option Begun) (h : ℕ) (w : Readings) → Keeps (record r { next = a }) h w → Keeps (record r { next = b }) h w
keeps_next r a b zero w k = k
keeps_next r a b (suc zero) w k = k
keeps_next r a b (suc (suc zero)) w k = k
keeps_next r a b (suc (suc (suc h))) w k = k

lease_next : (clock : ℕ) (r : Round) (a b : Option Begun) (h : ℕ) (s : State) → HasLease clock (record r { next = a }) h s → HasLease clock (record r { next = b }) h s
lease_next clock r a b zero s k = k
lease_next clock r a b (suc zero) s k = k
lease_next clock r a b (suc (suc zero)) s k = k
lease_next clock r a b (suc (suc (suc h))) s k = k

leased_next : (r : Round) (a b : Option Begun) (h : ℕ) → leased (record r { next = a }) h ≡ leased (record r { next = b }) h
leased_next r a b zero = refl
leased_next r a b (suc zero) = refl
leased_next r a b (suc (suc h)) = refl

-- ---- the leader and its peons

pub each_hands_on_none : (me : Me) (e : ℕ) (b : Body) → (IsForward b → ⊥) → (ks : List ℕ) → AllByRecursion (λ (m : Envelope). IsForward m.message.body → ⊥) (each me e b ks)
each_hands_on_none me e b nil [] = tt
each_hands_on_none me e b nil (k ∷ ks) = (nil, each_hands_on_none me e b nil ks)

pub each_carries : (me : Me) (e : ℕ) (b : Body) → CarriesAnswer b → (ks : List ℕ) → AllByRecursion (λ (m : Envelope). CarriesAnswer m.message.body) (each me e b ks)
each_carries me e b k [] = tt
each_carries me e b k (j ∷ ks) = (k, each_carries me e b k ks)

-- what one body to each member gives
module _ (ms : Monitors) (q : List Bool) (reign : Reign) (here : ltb reign.leader ms.count ≡ true) (b : Body) where
  abbrev pub to_all : List Envelope
  to_all = each (member_of ms reign.leader here) reign.epoch b (members (member_of ms reign.leader here) q)

  pub gives_each : (j : ℕ) → has q j ≡ true → (j ≡ reign.leader → ⊥) → j < ms.count → Gives ms reign reign.leader j (b ∷ []) (each (member_of ms reign.leader here) reign.epoch b (members (member_of ms reign.leader here) q))
  gives_each j qj nj lt = to_member ms reign (member_of ms reign.leader here) b refl refl q j qj nj lt

  pub gives_no_leader : (f j : ℕ) → (f ≡ reign.leader → ⊥) → Gives ms reign f j [] (each (member_of ms reign.leader here) reign.epoch b (members (member_of ms reign.leader here) q))
  gives_no_leader f j nf = gives_other ms reign f j _ (each_from (member_of ms reign.leader here) reign.epoch b f (λ e. nf (sym e)) (members (member_of ms reign.leader here) q))

  pub gives_apart : (f j : ℕ) → AreApart reign.leader f j → Gives ms reign f j [] (each (member_of ms reign.leader here) reign.epoch b (members (member_of ms reign.leader here) q))
  gives_apart f j a = by (cases_eq f reign.leader)
    where
      by : (f ≡ reign.leader) ⊎ (f ≡ reign.leader → ⊥) → Gives ms reign f j [] (each (member_of ms reign.leader here) reign.epoch b (members (member_of ms reign.leader here) q))
      by (inl e) = subst (λ (z : ℕ). Gives ms reign f z [] (each (member_of ms reign.leader here) reign.epoch b (members (member_of ms reign.leader here) q))) (sym (a.0 e))
          (to_none ms reign (member_of ms reign.leader here) b refl refl q f)
      by (inr ne) = gives_no_leader f j ne

-- ---- a value is begun

module _ (ms : Monitors) (q : List Bool) (pace : Pace) (reign : Reign) (r : Round) (t : Timed) (S : Steady ms q pace reign (record r { next = None }) t) (u : ℕ) (later : t.time ≤ u)
    (soon : u ≤ r.latest + 3000 + pace.late) (room : ClocksGoOn q pace u) (next : Timed) (e : Event) (went : Went ms q pace (at_time ms q pace u t) e t.under_way next)
    (s : State) (up : t.world.state reign.leader ≡ Some s) (here : ltb reign.leader ms.count ≡ true)
    (clients : Clients) (ts : Timers) (T : Tidy s.timers ts) (x : List Op) (from : Origin) (made : IsOfCommand x) where
  abbrev now : ℕ
  now = u + pace.clock reign.leader

  abbrev w : Readings
  w = readings_of (t.world.store reign.leader)

  abbrev calm : Round
  calm = record r { next = None }

  abbrev new : Round
  new = record r { next = Some (record { value = x; at = u }) }

  A : LeadsSince reign q (r.latest + pace.clock reign.leader) s
  A = subst (λ (o : Option State). IsSomeAnd o (LeadsSince reign q (r.latest + pace.clock reign.leader))) up S.lead

  abbrev active : State
  active = record s { phase = phase.Active; clients = clients; timers = ts }

  abbrev me : Me
  me = member_of ms reign.leader here

  abbrev after : State
  after = record s {
    phase = phase.Updating;
    leader = record s.leader { stage = stage.Updating; accepted = only reign.leader; value = Some x; origin = Some from };
    clients = clients;
    timers = armed now timer.Accept (disarmed timer.LeaseAck (disarmed timer.Renew (only_ping ts)));
  }

  abbrev begins : Course
  begins = record {
    readings = play (Vote (suc w.last) s.leader.pn x) w;
    changes = Vote (suc w.last) s.leader.pn x ∷ [];
    state = after;
    out = map (message_to me (epoch_of w) (body.Begin s.leader.pn (suc w.last) x)) (members me s.leader.quorum);
  }

  begin_is : begin_with me now stage.Updating (suc w.last) x (Some from) (at_rest w active) ≡ begins
  unfolding begin_with
  begin_is = refl

  active_is : record s { clients = clients; timers = ts } ≡ active
  active_is = let L = A.leads in (λ i. record s { phase = L i; clients = clients; timers = ts })

  abbrev es : List Envelope
  es = to_all ms q reign here (body.Begin reign.pn (suc r.version) x)

  module _ (fits : suc w.last ≤ 2 ^ 62) (y : Course) (is : y ≡ begin_with me now stage.Updating (suc w.last) x (Some from) (at_rest w (record s { clients = clients; timers = ts })))
      (D0 : Did t.world next.world reign.leader y.state y.changes (messages_of y.out)) where
    y_is : y ≡ begins
    y_is = is ∙ ap (λ (z : State). begin_with me now stage.Updating (suc w.last) x (Some from) (at_rest w z)) active_is ∙ begin_is

    sent_is : messages_of begins.out ≡ es
    sent_is = let a = S.epoch in let l = S.last in let p = A.number in let g = A.quorum in (λ i. each me (a i) (body.Begin (p i) (suc (l i)) x) (members me (g i)))

    D : Did t.world next.world reign.leader after (Vote (suc w.last) s.leader.pn x ∷ []) es
    D = subst (Did t.world next.world reign.leader after (Vote (suc w.last) s.leader.pn x ∷ [])) sent_is
        (subst (λ (z : Course). Did t.world next.world reign.leader z.state z.changes (messages_of z.out)) y_is D0)

    kept : readings_of (next.world.store reign.leader) ≡ play (Vote (suc w.last) s.leader.pn x) w
    kept = let c = S.short in let p = A.number in D.kept ((fits, omega arith), tt)

    come_more : (h : ℕ) → h ≤ 2 → drop h (to_peon reign pace (record r { next = None })) ++ item (body.Begin reign.pn (suc r.version) x) (u + pace.delay) ∷ []
        ≡ drop h (to_peon reign pace (record r { next = Some (record { value = x; at = u }) }))
    come_more zero le = refl
    come_more (suc zero) le = refl
    come_more (suc (suc zero)) le = refl
    come_more (suc (suc (suc h))) le = absurd (omega arith)

    take_more : (h : ℕ) → h ≤ 2 → take (said h) (to_leader reign pace (record r { next = None })) ≡ take (said h) (to_leader reign pace (record r { next = Some (record { value = x; at = u }) }))
    take_more zero le = refl
    take_more (suc zero) le = refl
    take_more (suc (suc zero)) le = refl
    take_more (suc (suc (suc h))) le = absurd (omega arith)

    said_few : (h : ℕ) → h ≤ 2 → said h ≤ 1
    said_few zero le = omega arith
    said_few (suc h) le = omega arith

    peon : (j : ℕ) → has q j ≡ true → (j ≡ reign.leader → ⊥) → PeonIn ms q pace reign (record r { next = None }) t j t.under_way
        → PeonIn ms q pace reign (record r { next = Some (record { value = x; at = u }) }) next j next.under_way
    peon j qj nj F =
        let two : F.heard ≤ 2 = (let a = F.sent in omega arith) in
        let less : F.taken ≤ 1 = (let a = F.answered in let b = said_few F.heard two in omega arith) in record {
          heard = F.heard;
          taken = F.taken;
          sent = (let a = two in omega arith);
          answered = F.answered;
          follows = subst (λ (z : ℕ). IsSomeAnd (next.world.state j) (FollowsSince reign.leader q (z + pace.clock j))) (leased_next r None (Some (record { value = x; at = u })) F.heard)
              (other_state ms q pace reign t next u later e t.under_way went reign.leader s after _ es up D (FollowsSince reign.leader q (leased calm F.heard + pace.clock j)) j nj F.follows);
          lease = (let l = unpack (HasLease (pace.clock j) calm F.heard) (next.world.state j) (other_state ms q pace reign t next u later e t.under_way went reign.leader s after _ es up D (HasLease (pace.clock j) calm F.heard) j nj F.lease) in
              pack (HasLease (pace.clock j) new F.heard) (next.world.state j) l.0 l.1 (lease_next (pace.clock j) r None (Some (record { value = x; at = u })) F.heard l.0 l.2));
          epoch = other_store ms q pace reign t next u later e t.under_way went reign.leader s after _ es up D (λ z. epoch_of z ≡ reign.epoch) j nj F.epoch;
          promise = other_store ms q pace reign t next u later e t.under_way went reign.leader s after _ es up D (λ z. promise_of z ≡ reign.pn) j nj F.promise;
          keeps = keeps_next r None (Some (record { value = x; at = u })) F.heard _ (other_store ms q pace reign t next u later e t.under_way went reign.leader s after _ es up D (Keeps calm F.heard) j nj F.keeps);
          noted = pack (Noted j F.taken (Some (record { value = x; at = u }))) (next.world.state reign.leader) after D.up ((λ two. absurd (omega arith)), (λ h. absurd (nj (has_only_is reign.leader j h))));
          to_come = subst (λ (z : List Item). Carries ms reign next.world.messages reign.leader j (next.time + pace.delay) z (next.under_way reign.leader j)) (come_more F.heard two)
              (lands ms q pace reign (at_time ms q pace u t) next e t.under_way went reign.leader after _ es D reign.leader j (t.time + pace.delay) (u + pace.delay) (drop F.heard (to_peon reign pace calm)) (body.Begin reign.pn (suc r.version) x ∷ [])
              (let a = later in omega arith) (omega arith) F.to_come (gives_each ms q reign here _ j qj nj (S.members j qj)));
          to_take = subst (λ (z : List Item). Carries ms reign next.world.messages j reign.leader (next.time + pace.delay) (drop F.taken z) (next.under_way j reign.leader)) (take_more F.heard two)
              (same_carried ms q pace reign t next u later e t.under_way went reign.leader s after _ es up D j reign.leader (drop F.taken (take (said F.heard) (to_leader reign pace calm))) F.to_take (gives_no_leader ms q reign here _ j reign.leader nj));
        }

    begin_stays : Steady ms q pace reign (record r { next = Some (record { value = x; at = u }) }) next
    begin_stays = record {
      leads = S.leads;
      second = S.second;
      second_in = S.second_in;
      second_is = S.second_is;
      members = S.members;
      short = S.short;
      since = S.since;
      reached = (let a = S.reached in let c = went.time in omega arith);
      ordered = S.ordered;
      renewed = S.renewed;
      apart = S.apart;
      only_renewed = S.only_renewed;
      epoch = ap epoch_of kept ∙ S.epoch;
      last = ap (λ (z : Readings). z.last) kept ∙ S.last;
      fits = S.fits;
      lead = pack (Proposes ms.count q pace reign new (record { value = x; at = u })) (next.world.state reign.leader) after D.up (record {
        proposes = begun reign q (r.latest + pace.clock reign.leader) s A ms.count S.second now x from stage.Updating clients ts ms.most (few ms q pace reign calm t S) (S.members S.second S.second_in) S.second_in S.second_is (room reign.leader S.leads) T;
        made = made;
        fits = (let a = S.last in let b = fits in omega arith);
        after = (let a = S.reached in let b = later in omega arith);
        before = soon;
      });
      peons = λ j qj nj. peon j qj nj (S.peons j qj nj);
      others = λ f j qf qj a. same_carried ms q pace reign t next u later e t.under_way went reign.leader s after _ es up D f j [] (S.others f j qf qj a) (gives_apart ms q reign here _ f j a);
    }

    pub value_begins : (taken : Option Origin) → taken_by (member_of ms reign.leader here) t.world reign.leader s e ≡ taken
        → ((taken ≡ Some from) × (s.clients.queue ≡ []) × (clients.queue ≡ [])) ⊎ ((one : Waiting) × (taken ≡ None) × (s.clients.queue ≡ one ∷ clients.queue) × (one.origin ≡ from))
        → (p : Plain) → e ≡ Arrives p → (a : Arrival) → arrival t.world p ≡ Some a → a.rank ≡ reign.leader → ((f : ℕ) → Marking ms pace reign f taken s (record s { clients = clients; timers = ts }))
        → Goes ms q pace reign t.world u e (record r { next = None }) (record r { next = Some (record { value = x; at = u }) }) next
    value_begins taken taken_is start p is a comes rank marks = (
      begin_stays,
      record {
        here = here;
        was = s;
        is = after;
        up = up;
        up_after = D.up;
        es = es;
        messages = D.messages;
        plain = inl (each_hands_on_none me reign.epoch (body.Begin reign.pn (suc r.version) x) (λ k. k) (members me q));
        version = λ _. refl;
        marks = λ f. subst (λ (z : Option Origin). Marking ms pace reign f z s after) (sym taken_is) (marks f);
        routes = each_carries me reign.epoch (body.Begin reign.pn (suc r.version) x) tt (members me q);
        peons = λ f nf. subst (λ (z : Event). Shares ms reign t.world next.world z es f) (sym is)
            (elsewhere ms reign t.world next.world p a comes reign.leader rank after (Vote (suc w.last) s.leader.pn x ∷ []) es D f nf (none_of f es (each_hands_on_none me reign.epoch (body.Begin reign.pn (suc r.version) x) (λ k. k) (members me q))));
        turn = subst (λ (z : Option Origin). Turn ms pace reign u t.world next.world calm new z s after es) (sym taken_is) (Began from (record { value = x; at = u }) refl refl refl refl start);
      },
    )

-- ---- the leases are renewed

-- The leader of this quorum, of which the members of q take steps, gives new leases.
module _ (ms : Monitors) (full q : List Bool) (pace : Pace) (reign : Reign) (r : Round) (t : Timed) (u : ℕ) (later : t.time ≤ u) (next : Timed) (here : ltb reign.leader ms.count ≡ true)
    (s : State) (up : t.world.state reign.leader ≡ Some s) (leads : s.phase ≡ phase.Active) (quorum : s.leader.quorum ≡ full) (on : is_some (end_of timer.Renew s.timers) ≡ true)
    (epoch : epoch_of (readings_of (t.world.store reign.leader)) ≡ reign.epoch) (last : (readings_of (t.world.store reign.leader)).last ≡ r.version)
    (went : Went ms q pace (at_time ms q pace u t) (Arrives (Ring reign.leader timer.Renew (u + pace.clock reign.leader))) t.under_way next) where
  abbrev now1 : ℕ
  now1 = u + pace.clock reign.leader

  abbrev w1 : Readings
  w1 = readings_of (t.world.store reign.leader)

  abbrev me1 : Me
  me1 = member_of ms reign.leader here

  abbrev pub renewer : State
  renewer = record s {
    leader = record s.leader { lease = lease.extended (u + pace.clock reign.leader); acks = only reign.leader };
    timers = maybe_armed (not (is_empty s.clients.queue)) (u + pace.clock reign.leader)
        (extended_timers (u + pace.clock reign.leader) (is_empty (members (member_of ms reign.leader here) s.leader.quorum)) (disarmed timer.Renew s.timers));
  }

  abbrev pub new_leases : List Envelope
  new_leases = to_all ms full reign here (body.Lease r.version)

  pub renewed : Did t.world next.world reign.leader renewer [] new_leases
  renewed =
      let said : messages_of (map (message_to me1 (epoch_of w1) (body.Lease w1.last)) (members me1 s.leader.quorum)) ≡ new_leases = (λ i. each me1 (epoch i) (body.Lease (last i)) (members me1 (quorum i))) in
      subst (Did t.world next.world reign.leader renewer []) said
      (did ms t.world next.world (Ring reign.leader timer.Renew now1) reign.leader here now1 (input.Timer timer.Renew) s refl up went.happened _
      (renew_row ms reign.leader here (shared_entries (t.world.store reign.leader)) now1 w1 s leads on))

  -- a peon that had the last lease, and whose acknowledgement arrived
  pub renewed_peon : (j : ℕ) → has full j ≡ true → j < ms.count → (j ≡ reign.leader → ⊥) → (F : PeonIn ms full pace reign (record r { next = None }) t j t.under_way) → F.heard ≡ suc (suc zero) → F.taken ≡ suc zero
      → PeonIn ms full pace reign (record r { latest = u; before = r.latest; next = None }) next j next.under_way
  renewed_peon j qj lt nj F h g = record {
    heard = suc zero;
    taken = zero;
    sent = omega arith;
    answered = omega arith;
    follows = other_state ms q pace reign t next u later _ t.under_way went reign.leader s renewer [] new_leases up renewed (FollowsSince reign.leader full (r.latest + pace.clock j)) j nj
        (subst (λ (z : ℕ). IsSomeAnd (t.world.state j) (FollowsSince reign.leader full (leased (record r { next = None }) z + pace.clock j))) h F.follows);
    lease = (let k : IsSomeAnd (t.world.state j) (LeasedSince (r.latest + pace.clock j)) = subst (λ (z : ℕ). IsSomeAnd (t.world.state j) (HasLease (pace.clock j) (record r { next = None }) z)) h F.lease in
        let l = unpack (LeasedSince (r.latest + pace.clock j)) (next.world.state j) (other_state ms q pace reign t next u later _ t.under_way went reign.leader s renewer [] new_leases up renewed (LeasedSince (r.latest + pace.clock j)) j nj k) in
        pack (HasLease (pace.clock j) (record r { latest = u; before = r.latest; next = None }) (suc zero)) (next.world.state j) l.0 l.1 (λ _. l.2));
    epoch = other_store ms q pace reign t next u later _ t.under_way went reign.leader s renewer [] new_leases up renewed (λ z. epoch_of z ≡ reign.epoch) j nj F.epoch;
    promise = other_store ms q pace reign t next u later _ t.under_way went reign.leader s renewer [] new_leases up renewed (λ z. promise_of z ≡ reign.pn) j nj F.promise;
    keeps = other_store ms q pace reign t next u later _ t.under_way went reign.leader s renewer [] new_leases up renewed (Keeps (record r { latest = u; before = r.latest; next = None }) (suc zero)) j nj (subst (λ (z : ℕ). Keeps (record r { next = None }) z (readings_of (t.world.store j))) h F.keeps);
    noted = pack (Noted j zero None) (next.world.state reign.leader) renewer renewed.up (λ z. absurd (omega arith));
    to_come = lands ms q pace reign (at_time ms q pace u t) next _ t.under_way went reign.leader renewer [] new_leases renewed reign.leader j (t.time + pace.delay) (u + pace.delay) [] (body.Lease r.version ∷ [])
        (let a = later in omega arith) (omega arith)
        (subst (λ (z : ℕ). Carries ms reign t.world.messages reign.leader j (t.time + pace.delay) (drop z (to_peon reign pace (record r { next = None }))) (t.under_way reign.leader j)) h F.to_come)
        (gives_each ms full reign here _ j qj nj lt);
    to_take = same_carried ms q pace reign t next u later _ t.under_way went reign.leader s renewer [] new_leases up renewed j reign.leader []
        (subst (λ (z : ℕ). Carries ms reign t.world.messages j reign.leader (t.time + pace.delay) (drop (suc zero) (take (said z) (to_leader reign pace (record r { next = None })))) (t.under_way j reign.leader)) h
        (subst (λ (z : ℕ). Carries ms reign t.world.messages j reign.leader (t.time + pace.delay) (drop z (take (said F.heard) (to_leader reign pace (record r { next = None })))) (t.under_way j reign.leader)) g F.to_take))
        (gives_no_leader ms full reign here _ j reign.leader nj);
  }

module _ (ms : Monitors) (q : List Bool) (pace : Pace) (reign : Reign) (K : IsQuick pace) (r : Round) (t : Timed) (S : Steady ms q pace reign (record r { next = None }) t) (u : ℕ)
    (M : MayBe ms q pace t u) (room : ClocksGoOn q pace u) (next : Timed) (s : State) (up : t.world.state reign.leader ≡ Some s)
    (end : ℕ) (set : end_of timer.Renew s.timers ≡ Some end) (due : end ≤ u + pace.clock reign.leader)
    (went : Went ms q pace (at_time ms q pace u t) (Arrives (Ring reign.leader timer.Renew (u + pace.clock reign.leader))) t.under_way next) where
  abbrev calm2 : Round
  calm2 = record r { next = None }

  L : LeadsSince reign q (r.latest + pace.clock reign.leader) s
  L = subst (λ (o : Option State). IsSomeAnd o (LeadsSince reign q (r.latest + pace.clock reign.leader))) up S.lead

  abbrev here2 : ltb reign.leader ms.count ≡ true
  here2 = inside ms q pace reign calm2 t S reign.leader S.leads

  abbrev me2 : Me
  me2 = member_of ms reign.leader here2

  late : r.latest + 3000 ≤ u
  late = let z : Some (r.latest + pace.clock reign.leader + 3000) ≡ Some end = sym L.renews ∙ set in let y : r.latest + pace.clock reign.leader + 3000 ≡ end = cc in omega arith

  in_time : u ≤ r.latest + 3000 + pace.late
  in_time = by_renewal ms q pace reign calm2 t S K u M refl

  -- all LEASEs and all acknowledgements have arrived
  arrived : (j : ℕ) → has q j ≡ true → (F : PeonIn ms q pace reign (record r { next = None }) t j t.under_way) → (F.heard ≡ 2) × (F.taken ≡ 1)
  arrived j qj F =
      let two : F.heard ≤ 2 = (let a = F.sent in omega arith) in
      by F.heard F.taken two F.answered (λ le. by_lease ms q pace reign calm2 t S K u M j qj F le) (λ le z. by_ack ms q pace reign calm2 t S K u M j qj F le z)
    where
      by : (h g : ℕ) → h ≤ 2 → g ≤ said h → (h ≤ 1 → u ≤ r.latest + pace.delay) → (2 ≤ h → g ≡ 0 → u ≤ r.latest + 2 * pace.delay) → (h ≡ 2) × (g ≡ 1)
      by zero g le two l a = let z = l (omega arith) in let x = late in let k = K.leases in absurd (omega arith)
      by (suc zero) g le two l a = let z = l (omega arith) in let x = late in let k = K.leases in absurd (omega arith)
      by (suc (suc zero)) zero le two l a = let z = a (omega arith) refl in let x = late in let k = K.elections in let m = K.leases in absurd (omega arith)
      by (suc (suc zero)) (suc zero) le two l a = (refl, refl)
      by (suc (suc zero)) (suc (suc g)) le two l a = absurd (omega arith)
      by (suc (suc (suc h))) g le two l a = absurd (omega arith)

  all_acked : AllIn q s.leader.acks
  all_acked j qj = by (cases_eq j reign.leader)
    where
      by : (j ≡ reign.leader) ⊎ (j ≡ reign.leader → ⊥) → has s.leader.acks j ≡ true
      by (inl e) = subst (λ (z : ℕ). has s.leader.acks z ≡ true) (sym e) L.own
      by (inr ne) =
          let F = S.peons j qj ne in
          let N : Noted j F.taken None s = subst (λ (o : Option State). IsSomeAnd o (Noted j F.taken None)) up F.noted in
          N (arrived j qj F).1

  abbrev bare : Timers
  bare = disarmed timer.Renew s.timers

  on2 : is_some (end_of timer.Renew s.timers) ≡ true
  on2 = ap is_some L.renews

  abbrev now2 : ℕ
  now2 = u + pace.clock reign.leader

  abbrev after2 : State
  after2 = renewer ms q q pace reign r t u M.later next here2 s up L.leads L.quorum on2 S.epoch S.last went

  abbrev es2 : List Envelope
  es2 = to_all ms q reign here2 (body.Lease r.version)

  E : Did t.world next.world reign.leader after2 [] es2
  E = renewed ms q q pace reign r t u M.later next here2 s up L.leads L.quorum on2 S.epoch S.last went

  renewal_stays : Steady ms q pace reign (record r { latest = u; before = r.latest; next = None }) next
  renewal_stays = record {
    leads = S.leads;
    second = S.second;
    second_in = S.second_in;
    second_is = S.second_is;
    members = S.members;
    short = S.short;
    since = (let a = S.since in let b = late in omega arith);
    reached = (let c = went.time in omega arith);
    ordered = (let b = late in omega arith);
    renewed = (let a = S.renewed in let b = late in omega arith);
    apart = (let a = in_time in omega arith);
    only_renewed = λ _. in_time;
    epoch = ap epoch_of (E.kept tt) ∙ S.epoch;
    last = ap (λ (z : Readings). z.last) (E.kept tt) ∙ S.last;
    fits = S.fits;
    lead = pack (LeadsSince reign q now2) (next.world.state reign.leader) after2 E.up
        (extends reign q S.second now2 after2 (few ms q pace reign calm2 t S) S.second_in S.second_is L.leads L.quorum L.number refl refl (room reign.leader S.leads)
        bare (disarmed_size timer.Renew s.timers L.kinds) (bare_renewing reign q (r.latest + pace.clock reign.leader) s L (L.heard all_acked)) (room reign.leader S.leads)
        (all_extended now2 (room reign.leader S.leads) bare (disarmed_size timer.Renew s.timers L.kinds) (bare_renewing reign q (r.latest + pace.clock reign.leader) s L (L.heard all_acked)) (not (is_empty s.clients.queue)) (is_empty (members me2 s.leader.quorum))));
    peons = λ j qj nj. (let F = S.peons j qj nj in let k = arrived j qj F in renewed_peon ms q q pace reign r t u M.later next here2 s up L.leads L.quorum on2 S.epoch S.last went j qj (S.members j qj) nj F k.0 k.1);
    others = λ f j qf qj a. same_carried ms q pace reign t next u M.later _ t.under_way went reign.leader s after2 [] es2 up E f j [] (S.others f j qf qj a) (gives_apart ms q reign here2 _ f j a);
  }

  all_extended_size : length (extended_timers now2 (is_empty (members me2 s.leader.quorum)) bare) ≡ 11
  all_extended_size =
      let X = all_extended now2 (room reign.leader S.leads) bare (disarmed_size timer.Renew s.timers L.kinds) (bare_renewing reign q (r.latest + pace.clock reign.leader) s L (L.heard all_acked)) false (is_empty (members me2 s.leader.quorum)) in
      X.kinds

  pub renews : Goes ms q pace reign t.world u (Arrives (Ring reign.leader timer.Renew (u + pace.clock reign.leader))) (record r { next = None }) (record r { latest = u; before = r.latest; next = None }) next
  renews = (
    renewal_stays,
    record {
      here = here2;
      was = s;
      is = after2;
      up = up;
      up_after = E.up;
      es = es2;
      messages = E.messages;
      plain = inl (each_hands_on_none me2 reign.epoch (body.Lease r.version) (λ k. k) (members me2 q));
      version = λ _. refl;
      marks = λ f. inl refl;
      routes = each_carries me2 reign.epoch (body.Lease r.version) tt (members me2 q);
      peons = λ f nf. elsewhere ms reign t.world next.world (Ring reign.leader timer.Renew (u + pace.clock reign.leader)) (record { rank = reign.leader; at = u + pace.clock reign.leader; input = input.Timer timer.Renew }) refl reign.leader refl after2 [] es2 E f nf
          (none_of f es2 (each_hands_on_none me2 reign.epoch (body.Lease r.version) (λ k. k) (members me2 q)));
      turn = Renewed (taken_nowhere me2 t.world reign.leader s _ (record { rank = reign.leader; at = u + pace.clock reign.leader; input = input.Timer timer.Renew }) refl refl) refl refl refl refl late
          (armed_if_any s.clients.queue now2 (extended_timers now2 (is_empty (members me2 s.leader.quorum)) bare) all_extended_size (room reign.leader S.leads));
    },
  )

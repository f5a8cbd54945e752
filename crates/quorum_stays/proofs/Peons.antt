-- A peon takes a message of its round, and its quorum stays led.
use Rattle.law_names.proofs.Runs.{Arrives, Deliver, Envelope, Monitors, message_at}
use Rattle.law_names.proofs.Table.{AllByRecursion, Body, Change, Clients, Last, Learn, Readings, State, Vote, armed, epoch_of, has, played, promise_of, readings_of, shared_entries}
use Rattle.mon_lease.specs.Lease as lease
use Rattle.mon_msg.specs.declared.input.Input.TheVariants as input
use Rattle.mon_wire.specs.declared.body.Body.TheVariants as body
use Rattle.mon_wire.specs.declared.phase.Timer.TheVariants as timer
use Rattle.quorum_stays.proofs.Bounds.{by_lease, first_of, inside, leading}
use Rattle.quorum_stays.proofs.Carrying.{Gives}
use Rattle.quorum_stays.proofs.Onward.{here_left, lands, one_state, other_left, pack, unpack}
use Rattle.quorum_stays.proofs.Peering.{PeonIn, one_peon}
use Rattle.quorum_stays.proofs.Rows.{begin_row, commit_row, lease_row}
use Rattle.quorum_stays.proofs.Serving.{Goes, aside}
use Rattle.quorum_stays.proofs.Sharing.{IsRoute, Shares, Untouched, no_route_there, none_of}
use Rattle.quorum_stays.proofs.States.{begun_follows, leased_follows}
use Rattle.quorum_stays.proofs.Stepping.{Did, brought, did}
use Rattle.quorum_stays.proofs.Stores.{learned_epoch, learned_pending, learned_promise, settled}
use Rattle.quorum_stays.proofs.Turning.{other_state, other_store, same_carried}
use Rattle.quorum_stays.specs.Reading.{ClocksGoOn}
use Rattle.quorum_stays.specs.Serving.{CarriesAnswer, IsForward}
use Rattle.quorum_stays.specs.Steady.{Begun, Carries, FollowsSince, HasLease, IsItem, Item, Keeps, Leads, Noted, Reign, Round, Steady, in_reign, leased, said, to_leader, to_peon}
use Rattle.quorum_timed.specs.Begins.{IsQuick}
use Rattle.quorum_timed.specs.Calls.{IsCall}
use Rattle.quorum_timed.specs.Timed.{MayBe, Owed, Pace, Timed, Went, at_time, without_first}
use Rattle.std.proofs.Common.{Bool, IsSomeAnd, List, None, Some, [], ap, arith, drop, inl, inr, ltb, option_map, refl, subst, suc, sym, take, true, zero, ℕ, ◌*◌, ◌+◌, ◌^◌, ◌∙◌, ◌∷◌, ◌≡◌, ◌≤◌}

pub head_is : {A : Type 0} (x y : A) (xs ys : List A) → x ∷ xs ≡ y ∷ ys → x ≡ y
head_is x y xs ys e = cc

pub rest_is : {A : Type 0} (x y : A) (xs ys : List A) → x ∷ xs ≡ y ∷ ys → xs ≡ ys
rest_is x y xs ys e = cc

-- one message from f to i
pub gives_one : (ms : Monitors) (reign : Reign) (f i : ℕ) (b : Body) → Gives ms reign f i (b ∷ []) (in_reign ms reign f i b ∷ [])
gives_one ms reign f i b = inr (inr (b, [], refl, refl, refl))

pub gives_elsewhere : (ms : Monitors) (reign : Reign) (f i : ℕ) (b : Body) (g j : ℕ) → (g ≡ f → j ≡ i → ⊥) → Gives ms reign g j [] (in_reign ms reign f i b ∷ [])
gives_elsewhere ms reign f i b g j ne = inl ((λ x y. ne (sym x) (sym y)), refl)

module _ (ms : Monitors) (q : List Bool) (pace : Pace) (reign : Reign) (r : Round) (t : Timed) (u : ℕ) (later : t.time ≤ u) (next : Timed) (i : ℕ) (ni : i ≡ reign.leader → ⊥) (F : PeonIn ms q pace reign r t i t.under_way) (o : Owed) (others : List Owed)
    (x : Item) (rest : List Item) (items : drop F.heard (to_peon reign pace r) ≡ x ∷ rest) (it : IsItem ms reign t.world.messages reign.leader i (t.time + pace.delay) x o)
    (C : Carries ms reign t.world.messages reign.leader i (t.time + pace.delay) rest others)
    (went : Went ms q pace (at_time ms q pace u t) (Arrives (Deliver o.number (u + pace.clock i))) (without_first reign.leader i others t.under_way) next) where
  abbrev now : ℕ
  now = u + pace.clock i

  abbrev left : ℕ → ℕ → List Owed
  left = without_first reign.leader i others t.under_way

  abbrev w : Readings
  w = readings_of (t.world.store i)

  pub P : (s : State) × (t.world.state i ≡ Some s) × FollowsSince reign.leader q (leased r F.heard + pace.clock i) s
  P = unpack (FollowsSince reign.leader q (leased r F.heard + pace.clock i)) (t.world.state i) F.follows

  abbrev pub s : State
  s = P.0

  lost : left reign.leader i ≡ others
  lost = here_left reign.leader i others t.under_way

  kept_up : left i reign.leader ≡ t.under_way i reign.leader
  kept_up = other_left reign.leader i others t.under_way i reign.leader (λ a _. ni a)

  there : (b : Body) → x.body ≡ b → message_at t.world.messages o.number ≡ Some (in_reign ms reign reign.leader i b)
  there b is = it.there ∙ ap (λ (z : Body). Some (in_reign ms reign reign.leader i z)) is

  comes : (b : Body) → x.body ≡ b → option_map (brought now) (message_at t.world.messages o.number)
      ≡ Some (record { rank = i; at = now; input = input.Deliver (in_reign ms reign reign.leader i b).message })
  comes b is = ap (option_map (brought now)) (there b is)

  items_at : (h : ℕ) → F.heard ≡ h → drop h (to_peon reign pace r) ≡ x ∷ rest
  items_at h is = subst (λ (z : ℕ). drop z (to_peon reign pace r) ≡ x ∷ rest) is items

  keeps_at : (h : ℕ) → F.heard ≡ h → Keeps r h w
  keeps_at h is = subst (λ (z : ℕ). Keeps r z w) is F.keeps

  follows_at : (h : ℕ) → F.heard ≡ h → FollowsSince reign.leader q (leased r h + pace.clock i) s
  follows_at h is = subst (λ (z : ℕ). FollowsSince reign.leader q (leased r z + pace.clock i) s) is P.2

  answered_at : (h : ℕ) → F.heard ≡ h → F.taken ≤ said h
  answered_at h is = subst (λ (z : ℕ). F.taken ≤ said z) is F.answered

  take_at : (h : ℕ) → F.heard ≡ h → Carries ms reign t.world.messages i reign.leader (t.time + pace.delay) (drop F.taken (take (said h) (to_leader reign pace r))) (left i reign.leader)
  take_at h is = subst (Carries ms reign t.world.messages i reign.leader (t.time + pace.delay) (drop F.taken (take (said h) (to_leader reign pace r)))) (sym kept_up)
      (subst (λ (z : ℕ). Carries ms reign t.world.messages i reign.leader (t.time + pace.delay) (drop F.taken (take (said z) (to_leader reign pace r))) (t.under_way i reign.leader)) is F.to_take)

  come : (xs : List Item) → xs ≡ rest → Carries ms reign t.world.messages reign.leader i (t.time + pace.delay) xs (left reign.leader i)
  come xs is = subst (Carries ms reign t.world.messages reign.leader i (t.time + pace.delay) xs) (sym lost)
      (subst (λ (z : List Item). Carries ms reign t.world.messages reign.leader i (t.time + pace.delay) z others) (sym is) C)

  -- what the peon remembers then, what it changed, and what it sent
  module _ (after : State) (cs : List Change) (es : List Envelope) (D : Did t.world next.world i after cs es) where
    not_leader : reign.leader ≡ i → ⊥
    not_leader e = ni (sym e)

    noted_on : (j taken : ℕ) → IsSomeAnd (t.world.state reign.leader) (Noted j taken r.next) → IsSomeAnd (next.world.state reign.leader) (Noted j taken r.next)
    noted_on j taken k = other_state ms q pace reign t next u later _ left went i s after cs es P.1 D (Noted j taken r.next) reign.leader not_leader k

  -- It took the message: what it remembers then, what it changed and sent, and how far it is. No session comes or goes.
  pub record Took : Type 0 where
    pub after : State
    pub changes : List Change
    pub sent : List Envelope
    pub did_it : Did t.world next.world i after changes sent
    pub peon : PeonIn ms q pace reign r next i next.under_way
    pub gives : (f j : ℕ) → (f ≡ i → j ≡ reign.leader → ⊥) → Gives ms reign f j [] sent
    pub hands_on_none : AllByRecursion (λ (m : Envelope). IsForward m.message.body → ⊥) sent
    pub calls_none : AllByRecursion (λ (m : Envelope). IsCall m.message.body → ⊥) sent
    pub routes_none : AllByRecursion (λ (m : Envelope). CarriesAnswer m.message.body) sent
    pub no_route : IsRoute x.body → ⊥
    pub clients : after.clients ≡ s.clients

  -- ---- a COMMIT

  pub takes_commit : ltb i ms.count ≡ true → r.version ≤ 2 ^ 62 → F.heard ≡ zero → Took
  takes_commit lt short is = record {
    after = s;
    changes = Learn (suc w.last) r.value ∷ Last (suc w.last) ∷ [];
    sent = [];
    did_it = D;
    peon = new;
    gives = λ f j ne. refl;
    hands_on_none = tt;
    calls_none = tt;
    routes_none = tt;
    no_route = subst (λ (b : Body). IsRoute b → ⊥) (sym body_is) (λ k. k);
    clients = refl;
  }
    where
      k : Keeps r zero w
      k = keeps_at zero is

      fits : suc w.last ≤ 2 ^ 62
      fits = let b = k.0 in omega arith

      body_is : x.body ≡ body.Commit (suc w.last) (r.value ∷ [])
      body_is = ap (λ (y : Item). y.body) (sym (head_is _ x _ rest (items_at zero is))) ∙ ap (λ (v : ℕ). body.Commit v (r.value ∷ [])) (sym k.0)

      D : Did t.world next.world i s (Learn (suc w.last) r.value ∷ Last (suc w.last) ∷ []) []
      D = let G = P.2 in
          did ms t.world next.world (Deliver o.number now) i lt now (input.Deliver (in_reign ms reign reign.leader i (body.Commit (suc w.last) (r.value ∷ []))).message) s (comes _ body_is) P.1 went.happened _
          (commit_row ms i lt (shared_entries (t.world.store i)) now w s reign.leader reign.epoch (λ e. ni (sym e)) G.follows G.leader_is F.epoch r.value fits)

      kept : readings_of (next.world.store i) ≡ played (Learn (suc w.last) r.value ∷ Last (suc w.last) ∷ []) w
      kept = D.kept (tt, (fits, tt))

      new : PeonIn ms q pace reign r next i next.under_way
      new = record {
        heard = suc zero;
        taken = F.taken;
        sent = omega arith;
        answered = answered_at zero is;
        follows = pack (FollowsSince reign.leader q (r.before + pace.clock i)) (next.world.state i) s D.up (follows_at zero is);
        lease = pack (HasLease (pace.clock i) r (suc zero)) (next.world.state i) s D.up (λ lt. (let e = k.3 in absurd (omega arith)));
        epoch = ap epoch_of kept ∙ learned_epoch (suc w.last) r.value w k.2 ∙ F.epoch;
        promise = ap promise_of kept ∙ learned_promise (suc w.last) r.value w k.2 ∙ F.promise;
        keeps = subst (Keeps r (suc zero)) (sym kept) (k.0, settled (played (Learn (suc w.last) r.value ∷ Last (suc w.last) ∷ []) w) (learned_pending (suc w.last) r.value w k.2 ∙ k.1 ∙ sym k.0));
        noted = noted_on s _ [] D i F.taken F.noted;
        to_come = same_carried ms q pace reign t next u later _ left went i s s _ [] P.1 D reign.leader i (drop (suc zero) (to_peon reign pace r)) (come _ (rest_is _ x _ rest (items_at zero is))) refl;
        to_take = same_carried ms q pace reign t next u later _ left went i s s _ [] P.1 D i reign.leader (drop F.taken (take zero (to_leader reign pace r))) (take_at zero is) refl;
      }

  -- ---- a LEASE

  pub takes_lease : ltb i ms.count ≡ true → r.latest ≤ t.time → (F.heard ≤ 1 → u ≤ r.latest + pace.delay) → now + 10000 ≤ 2 ^ 62 → F.heard ≡ suc zero → Took
  takes_lease lt reached by_lease room is = record {
    after = after;
    changes = [];
    sent = reply ∷ [];
    did_it = D;
    peon = new;
    gives = λ f j ne. gives_elsewhere ms reign i reign.leader (body.LeaseAck r.version) f j ne;
    hands_on_none = ((λ k. k), tt);
    calls_none = ((λ k. k), tt);
    routes_none = (tt, tt);
    no_route = subst (λ (b : Body). IsRoute b → ⊥) (sym body_is) (λ k. k);
    clients = refl;
  }
    where
      k : Keeps r (suc zero) w
      k = keeps_at (suc zero) is

      body_is : x.body ≡ body.Lease w.last
      body_is = ap (λ (y : Item). y.body) (sym (head_is _ x _ rest (items_at (suc zero) is))) ∙ ap body.Lease (sym k.0)

      after : State
      after = record s { peon = record s.peon { lease = lease.extended now }; timers = armed now timer.Lease s.timers }

      reply : Envelope
      reply = in_reign ms reign i reign.leader (body.LeaseAck r.version)

      D : Did t.world next.world i (record s { peon = record s.peon { lease = lease.extended now }; timers = armed now timer.Lease s.timers }) [] (in_reign ms reign i reign.leader (body.LeaseAck r.version) ∷ [])
      D = let G = P.2 in
          let e = F.epoch in
          let l = k.0 in
          let same : record { to = reign.leader; message = record { from = i; monitors = ms.count; epoch = epoch_of w; body = body.LeaseAck w.last } } ∷ [] ≡ in_reign ms reign i reign.leader (body.LeaseAck r.version) ∷ [] = (λ d. record { to = reign.leader; message = record { from = i; monitors = ms.count; epoch = e d; body = body.LeaseAck (l d) } } ∷ []) in
          subst (Did t.world next.world i (record s { peon = record s.peon { lease = lease.extended now }; timers = armed now timer.Lease s.timers }) []) same
          (did ms t.world next.world (Deliver o.number now) i lt now (input.Deliver (in_reign ms reign reign.leader i (body.Lease w.last)).message) s (comes _ body_is) P.1 went.happened _
          (lease_row ms i lt (shared_entries (t.world.store i)) now w s reign.leader reign.epoch (λ e. ni (sym e)) G.follows G.leader_is F.epoch k.1))

      none : F.taken ≡ zero
      none = let a = answered_at (suc zero) is in omega arith

      soon : u ≤ r.latest + pace.delay
      soon = by_lease (let z = is in omega arith)

      since : r.latest + pace.clock i ≤ now
      since = let a = reached in let b = later in omega arith

      taken : Carries ms reign t.world.messages i reign.leader (t.time + pace.delay) [] (left i reign.leader)
      taken = subst (λ (z : ℕ). Carries ms reign t.world.messages i reign.leader (t.time + pace.delay) (drop z (take zero (to_leader reign pace r))) (left i reign.leader)) none (take_at (suc zero) is)

      new : PeonIn ms q pace reign r next i next.under_way
      new = record {
        heard = suc (suc zero);
        taken = zero;
        sent = omega arith;
        answered = omega arith;
        follows = pack (FollowsSince reign.leader q (r.latest + pace.clock i)) (next.world.state i) _ D.up
            (leased_follows reign.leader q (r.before + pace.clock i) s (follows_at (suc zero) is) (r.latest + pace.clock i) now since room);
        lease = pack (HasLease (pace.clock i) r (suc (suc zero))) (next.world.state i) _ D.up (let a = since in let b = room in omega arith);
        epoch = subst (λ (z : Readings). epoch_of z ≡ reign.epoch) (sym (D.kept tt)) F.epoch;
        promise = subst (λ (z : Readings). promise_of z ≡ reign.pn) (sym (D.kept tt)) F.promise;
        keeps = subst (Keeps r (suc (suc zero))) (sym (D.kept tt)) k;
        noted = subst (λ (z : ℕ). IsSomeAnd (next.world.state reign.leader) (Noted i z r.next)) none (noted_on _ [] _ D i F.taken F.noted);
        to_come = same_carried ms q pace reign t next u later _ left went i s _ [] _ P.1 D reign.leader i (drop (suc (suc zero)) (to_peon reign pace r)) (come _ (rest_is _ x _ rest (items_at (suc zero) is)))
            (gives_elsewhere ms reign i reign.leader (body.LeaseAck r.version) reign.leader i (λ a _. ni (sym a)));
        to_take = lands ms q pace reign (at_time ms q pace u t) next _ left went i _ [] _ D i reign.leader (t.time + pace.delay) (r.latest + 2 * pace.delay) [] (body.LeaseAck r.version ∷ [])
            (let a = later in omega arith) (let a = soon in omega arith) taken (gives_one ms reign i reign.leader (body.LeaseAck r.version));
      }

-- ---- the quorum stays led

module _ (ms : Monitors) (q : List Bool) (pace : Pace) (reign : Reign) (K : IsQuick pace) (r : Round) (t : Timed) (S : Steady ms q pace reign r t) (u : ℕ) (M : MayBe ms q pace t u)
    (room : ClocksGoOn q pace u) (next : Timed) (i : ℕ) (qi : has q i ≡ true) (ni : i ≡ reign.leader → ⊥) (F : PeonIn ms q pace reign r t i t.under_way) (o : Owed) (others : List Owed)
    (x : Item) (rest : List Item) (items : drop F.heard (to_peon reign pace r) ≡ x ∷ rest) (it : IsItem ms reign t.world.messages reign.leader i (t.time + pace.delay) x o)
    (C : Carries ms reign t.world.messages reign.leader i (t.time + pace.delay) rest others)
    (went : Went ms q pace (at_time ms q pace u t) (Arrives (Deliver o.number (u + pace.clock i))) (without_first reign.leader i others t.under_way) next) where
  pub took : Took ms q pace reign r t u M.later next i ni F o others x rest items it C went → Goes ms q pace reign t.world u (Arrives (Deliver o.number (u + pace.clock i))) r r next
  took T =
      let l = leading ms q pace reign r t S in (
        stays,
        aside ms pace reign (inside ms q pace reign r t S reign.leader S.leads) r u t.world next.world (Deliver o.number (u + pace.clock i)) _ came l.0 l.1 i refl ni T.after T.changes T.sent T.did_it (inl T.hands_on_none)
            (λ f _. none_of f T.sent T.hands_on_none) T.routes_none shares,
      )
    where
      Q : (s : State) × (t.world.state i ≡ Some s) × FollowsSince reign.leader q (leased r F.heard + pace.clock i) s
      Q = P ms q pace reign r t u M.later next i ni F o others x rest items it C went

      left : ℕ → ℕ → List Owed
      left = without_first reign.leader i others t.under_way

      not_leader : reign.leader ≡ i → ⊥
      not_leader e = ni (sym e)

      came : option_map (brought (u + pace.clock i)) (message_at t.world.messages o.number) ≡ Some (record { rank = i; at = u + pace.clock i; input = input.Deliver (in_reign ms reign reign.leader i x.body).message })
      came = comes ms q pace reign r t u M.later next i ni F o others x rest items it C went x.body refl

      stays : Steady ms q pace reign r next
      stays = one_peon ms q pace reign r t S next u M.later _ _ went i Q.0 T.after T.changes T.sent Q.1 T.did_it i ni (inl refl) T.peon
          (λ j ne nj. (other_left reign.leader i others t.under_way reign.leader j (λ _ b. ne b), other_left reign.leader i others t.under_way j reign.leader (λ a _. nj a)))
          (λ f j a. other_left reign.leader i others t.under_way f j (λ y z. ni (sym z ∙ a.0 y))) (
            other_store ms q pace reign t next u M.later _ _ went i Q.0 T.after T.changes T.sent Q.1 T.did_it (λ w. epoch_of w ≡ reign.epoch) reign.leader not_leader S.epoch,
            other_store ms q pace reign t next u M.later _ _ went i Q.0 T.after T.changes T.sent Q.1 T.did_it (λ w. w.last ≡ r.version) reign.leader not_leader S.last,
          )
          (other_state ms q pace reign t next u M.later _ _ went i Q.0 T.after T.changes T.sent Q.1 T.did_it (Leads ms.count q pace reign r r.next) reign.leader not_leader S.lead)
          (λ j ne taken k. other_state ms q pace reign t next u M.later _ _ went i Q.0 T.after T.changes T.sent Q.1 T.did_it (Noted j taken r.next) reign.leader not_leader k) (λ f j _ b. T.gives f j b)

      shares : Shares ms reign t.world next.world (Arrives (Deliver o.number (u + pace.clock i))) T.sent i
      shares z up =
          let same : Q.0 ≡ z = one_state (t.world.state i) Q.0 z Q.1 up in
          let all : T.after.clients ≡ z.clients = T.clients ∙ ap (λ (y : State). y.clients) same in
          (T.after, T.did_it.up, Untouched (λ _ k. k) (no_route_there ms reign (message_at t.world.messages o.number) reign.leader i x.body T.no_route it.there) (ap (λ (c : Clients). c.sessions) all) (ap (λ (c : Clients). c.next_seq) all) (none_of i T.sent T.hands_on_none))

  pub commit_comes : F.heard ≡ zero → Goes ms q pace reign t.world u (Arrives (Deliver o.number (u + pace.clock i))) r r next
  commit_comes is = took (takes_commit ms q pace reign r t u M.later next i ni F o others x rest items it C went (inside ms q pace reign r t S i qi) S.fits is)

  pub lease_comes : F.heard ≡ suc zero → Goes ms q pace reign t.world u (Arrives (Deliver o.number (u + pace.clock i))) r r next
  lease_comes is = took (takes_lease ms q pace reign r t u M.later next i ni F o others x rest items it C went (inside ms q pace reign r t S i qi) S.reached (by_lease ms q pace reign r t S K u M i qi F) (room i qi) is)

-- ---- a BEGIN

module _ (ms : Monitors) (q : List Bool) (pace : Pace) (reign : Reign) (K : IsQuick pace) (r0 : Round) (b : Begun) (t : Timed) (S : Steady ms q pace reign (record r0 { next = Some b }) t) (u : ℕ) (M : MayBe ms q pace t u)
    (room : ClocksGoOn q pace u) (next : Timed) (i : ℕ) (qi : has q i ≡ true) (ni : i ≡ reign.leader → ⊥) (F : PeonIn ms q pace reign (record r0 { next = Some b }) t i t.under_way) (o : Owed) (others : List Owed)
    (x : Item) (rest : List Item) (items : drop F.heard (to_peon reign pace (record r0 { next = Some b })) ≡ x ∷ rest) (it : IsItem ms reign t.world.messages reign.leader i (t.time + pace.delay) x o)
    (C : Carries ms reign t.world.messages reign.leader i (t.time + pace.delay) rest others)
    (went : Went ms q pace (at_time ms q pace u t) (Arrives (Deliver o.number (u + pace.clock i))) (without_first reign.leader i others t.under_way) next) where
  abbrev r : Round
  r = record r0 { next = Some b }

  abbrev now1 : ℕ
  now1 = u + pace.clock i

  abbrev v : Readings
  v = readings_of (t.world.store i)

  abbrev Q : (s : State) × (t.world.state i ≡ Some s) × FollowsSince reign.leader q (leased r F.heard + pace.clock i) s
  Q = P ms q pace reign r t u M.later next i ni F o others x rest items it C went

  pub begin_comes : F.heard ≡ suc (suc zero) → Goes ms q pace reign t.world u (Arrives (Deliver o.number (u + pace.clock i))) (record r0 { next = Some b }) (record r0 { next = Some b }) next
  begin_comes is = took ms q pace reign K r t S u M room next i qi ni F o others x rest items it C went (record {
    after = after;
    changes = Vote (suc v.last) (promise_of v) b.value ∷ [];
    sent = in_reign ms reign i reign.leader (body.Accept reign.pn (suc r0.version)) ∷ [];
    did_it = D;
    peon = new;
    gives = λ f j ne. gives_elsewhere ms reign i reign.leader (body.Accept reign.pn (suc r0.version)) f j ne;
    hands_on_none = ((λ k. k), tt);
    calls_none = ((λ k. k), tt);
    routes_none = (tt, tt);
    no_route = subst (λ (b : Body). IsRoute b → ⊥) (sym body_is) (λ k. k);
    clients = refl;
  })
    where
      after : State
      after = record (Q.0) { peon = record (Q.0.peon) { lease = None } }

      k : Keeps r (suc (suc zero)) v
      k = keeps_at ms q pace reign r t u M.later next i ni F o others x rest items it C went (suc (suc zero)) is

      list : drop (suc (suc zero)) (to_peon reign pace r) ≡ x ∷ rest
      list = items_at ms q pace reign r t u M.later next i ni F o others x rest items it C went (suc (suc zero)) is

      body_is : x.body ≡ body.Begin (promise_of v) (suc v.last) b.value
      body_is =
          let e = F.promise in
          let l = k.0 in
          ap (λ (y : Item). y.body) (sym (head_is _ x _ rest list)) ∙ sym (λ d. body.Begin (e d) (suc (l d)) b.value)

      D : Did t.world next.world i (record (Q.0) { peon = record (Q.0.peon) { lease = None } }) (Vote (suc v.last) (promise_of v) b.value ∷ []) (in_reign ms reign i reign.leader (body.Accept reign.pn (suc r0.version)) ∷ [])
      D = let lt = inside ms q pace reign r t S i qi in let G = Q.2 in
          let e = F.epoch in
          let p = F.promise in
          let l = k.0 in
          let same : record { to = reign.leader; message = record { from = i; monitors = ms.count; epoch = epoch_of v; body = body.Accept (promise_of v) (suc v.last) } } ∷ [] ≡ in_reign ms reign i reign.leader (body.Accept reign.pn (suc r0.version)) ∷ [] = (λ d. record { to = reign.leader; message = record { from = i; monitors = ms.count; epoch = e d; body = body.Accept (p d) (suc (l d)) } } ∷ []) in
          subst (Did t.world next.world i (record (Q.0) { peon = record (Q.0.peon) { lease = None } }) (Vote (suc v.last) (promise_of v) b.value ∷ [])) same
          (did ms t.world next.world (Deliver o.number now1) i lt now1 (input.Deliver (in_reign ms reign reign.leader i (body.Begin (promise_of v) (suc v.last) b.value)).message) Q.0
          (comes ms q pace reign r t u M.later next i ni F o others x rest items it C went _ body_is) Q.1 went.happened _
          (begin_row ms i lt (shared_entries (t.world.store i)) now1 v Q.0 reign.leader reign.epoch (λ e. ni (sym e)) G.follows G.leader_is F.epoch b.value))

      fits : (suc v.last ≤ 2 ^ 62) × (promise_of v ≤ 2 ^ 62)
      fits = let lead = leading ms q pace reign r t S in let a = lead.2.fits in let l = k.0 in let c = S.short in let p = F.promise in (omega arith, omega arith)

      kept : readings_of (next.world.store i) ≡ played (Vote (suc v.last) (promise_of v) b.value ∷ []) v
      kept = D.kept (fits, tt)

      soon : u ≤ b.at + pace.delay
      soon = first_of ms q pace reign r t S K u M reign.leader i S.leads qi _ _
          (subst (λ (z : ℕ). Carries ms reign t.world.messages reign.leader i (t.time + pace.delay) (drop z (to_peon reign pace r)) (t.under_way reign.leader i)) is F.to_come)

      takes : (g : ℕ) → g ≤ suc zero → Carries ms reign t.world.messages i reign.leader (t.time + pace.delay) (drop g (take (suc zero) (to_leader reign pace r))) (without_first reign.leader i others t.under_way i reign.leader)
          → Carries ms reign next.world.messages i reign.leader (next.time + pace.delay) (drop g (take (suc (suc zero)) (to_leader reign pace r))) (next.under_way i reign.leader)
      takes zero le c = lands ms q pace reign (at_time ms q pace u t) next _ _ went i _ _ _ D i reign.leader (t.time + pace.delay) (b.at + 2 * pace.delay) (drop zero (take (suc zero) (to_leader reign pace r))) (body.Accept reign.pn (suc r0.version) ∷ [])
          (let a = M.later in omega arith) (let a = soon in omega arith) c (gives_one ms reign i reign.leader (body.Accept reign.pn (suc r0.version)))
      takes (suc zero) le c = lands ms q pace reign (at_time ms q pace u t) next _ _ went i _ _ _ D i reign.leader (t.time + pace.delay) (b.at + 2 * pace.delay) [] (body.Accept reign.pn (suc r0.version) ∷ [])
          (let a = M.later in omega arith) (let a = soon in omega arith) c (gives_one ms reign i reign.leader (body.Accept reign.pn (suc r0.version)))
      takes (suc (suc g)) le c = absurd (omega arith)

      new : PeonIn ms q pace reign (record r0 { next = Some b }) next i next.under_way
      new = record {
        heard = suc (suc (suc zero));
        taken = F.taken;
        sent = omega arith;
        answered = (let a = answered_at ms q pace reign r t u M.later next i ni F o others x rest items it C went (suc (suc zero)) is in omega arith);
        follows = pack (FollowsSince reign.leader q (r.latest + pace.clock i)) (next.world.state i) _ D.up
            (begun_follows reign.leader q (r.latest + pace.clock i) Q.0 (follows_at ms q pace reign r t u M.later next i ni F o others x rest items it C went (suc (suc zero)) is));
        lease = pack (HasLease (pace.clock i) r (suc (suc (suc zero)))) (next.world.state i) _ D.up tt;
        epoch = subst (λ (z : Readings). epoch_of z ≡ reign.epoch) (sym kept) F.epoch;
        promise = subst (λ (z : Readings). promise_of z ≡ reign.pn) (sym kept) F.promise;
        keeps = subst (Keeps r (suc (suc (suc zero)))) (sym kept) (k.0, ap suc k.0);
        noted = noted_on ms q pace reign r t u M.later next i ni F o others x rest items it C went _ _ _ D i F.taken F.noted;
        to_come = same_carried ms q pace reign t next u M.later _ _ went i Q.0 _ _ _ Q.1 D reign.leader i [] (come ms q pace reign r t u M.later next i ni F o others x rest items it C went [] (rest_is _ x _ rest list))
            (gives_elsewhere ms reign i reign.leader (body.Accept reign.pn (suc r0.version)) reign.leader i (λ a _. ni (sym a)));
        to_take = takes F.taken (answered_at ms q pace reign r t u M.later next i ni F o others x rest items it C went (suc (suc zero)) is)
            (take_at ms q pace reign r t u M.later next i ni F o others x rest items it C went (suc (suc zero)) is);
      }

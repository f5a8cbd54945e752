-- What a peon does at each input, if nothing is of an epoch after the next and its leader doesn't change its store: it
-- follows on, begins to probe, or takes part in the election of the next epoch.
use Rattle.law_names.proofs.Runs.{Monitors}
use Rattle.law_names.proofs.Table.{AllByRecursion, Asked, Body, Command, Cookie, Course, Entry, Input, MOST_WAITING, Me, Phase, Place, Readings, Reply, Request, Scores, Session, State, Timer, adopt, armed, ask, at_rest, chunk, disarm, disarmed, elect, end_of, epoch_of, grant, has, hear, hear_accept, hear_ack, hear_begin, hear_chunk, hear_client, hear_collect, hear_commit, hear_cookie, hear_forward, hear_get_chunk, hear_get_cookie_full, hear_get_cookie_recent, hear_last, hear_last_chunk, hear_lease, hear_lease_ack, hear_no_cookie, hear_ping, hear_ping_reply, hear_probe, hear_probe_reply, hear_propose, hear_route, hear_victory, index_of, is_after, is_armed, is_cookie, is_even, is_heard, is_peon, is_too_long, lease_of, merge, message_to, of_leader, only, only_ping, others, pending, promise_of, propose_due, quorum_of, react, read, readable, running, scores_count, shown, since, table_or, timer_comes, unarmed, weigh}
use Rattle.mon_bytes.specs.declared.command.Command.TheVariants as command
use Rattle.mon_msg.specs.declared.input.Input.TheVariants as input
use Rattle.mon_msg.specs.declared.plan.Sent.TheVariants as sent
use Rattle.mon_types.specs.declared.names.Which.TheVariants as which
use Rattle.mon_wire.specs.declared.body.Body.TheVariants as body
use Rattle.mon_wire.specs.declared.phase.Phase.TheVariants as phase
use Rattle.mon_wire.specs.declared.phase.TheConstants.Timer.{COUNT}
use Rattle.mon_wire.specs.declared.phase.Timer.TheVariants as timer
use Rattle.mon_wire.specs.declared.request.Request.TheVariants as request
use Rattle.quorum_model.proofs.Members.{member_of}
use Rattle.quorum_stays.proofs.Timers.{armed_size, disarmed_size, ends, off, only_ping_is, same_kind_or, still_ends, still_on}
use Rattle.quorum_timed.proofs.Armed.{Timers}
use Rattle.quorum_walk.proofs.Parity.{odd_of_even}
use Rattle.quorum_walk.proofs.Walk.{Then, and_three, by_test, done, or_three, where_fits}
use Rattle.std.proofs.Common.{Bool, Err, List, None, Ok, Option, Some, [], ap, arith, eqb, false, filter, inl, inr, is_some, leb, length, ltb, map, not, refl, slice_index_or, subst, suc, sym, true, ℕ, ◌&&◌, ◌+◌, ◌^◌, ◌||◌, ◌∙◌, ◌∷◌, ◌≡◌, ◌≤◌, ◌⊎◌}
use Rattle.std.proofs.lemmas.Bool.{eqb-true, false≢true, leb-false, ltb-false, ltb-true, not-false, or_parts}
use Rattle.std.proofs.lemmas.List.{length-set}
use Rattle.std.proofs.lemmas.Option.{none-some}
use Rattle.table_rows.proofs.Electing.{probes as probes_row}
use Rattle.timed_election.proofs.Entering.{Calls, Joined, acked, called, calls, proposed}
use Rattle.timed_election.proofs.Outcomes.{Heard}
use Rattle.timed_election.proofs.Quiet.{IsPlain, IsQuiet, plain_chunk}
use Rattle.timed_election.specs.Joining.{LeavesStores}

module _ (ms : Monitors) (i : ℕ) (lt : ltb i ms.count ≡ true) (now : ℕ) (sh : List Entry) (w : Readings) (s : State) (q : List Bool) where
  abbrev me : Me
  me = member_of ms i lt

  abbrev x : Course
  x = at_rest w (record s { phase = phase.Peon })

  abbrev Js : Input → Course → Type 0
  Js = Joined ms i lt now w

  -- it probes since now
  pub record Begins (y : Course) : Type 0 where
    pub probes : y.state.phase ≡ phase.Probing
    pub outside : y.state.prober.outside ≡ only i
    pub timers : (kind : Timer) (end : ℕ) → end_of kind y.state.timers ≡ Some end → (kind ≡ timer.Probe) × (end ≡ now + 2000)
    pub changes : y.changes ≡ []
    pub out : y.out ≡ map (message_to me (epoch_of w) body.Probe) (others me)

  -- It follows its leader. The timer of its lease ends when it did before, or was armed now, at a LEASE.
  pub record Stays (y : Course) : Type 0 where
    pub follows : y.state.phase ≡ phase.Peon
    pub leader : y.state.peon.leader ≡ s.peon.leader
    pub quorum : y.state.peon.quorum ≡ s.peon.quorum
    pub kinds : length y.state.timers ≡ COUNT
    pub lease : (end_of timer.Lease y.state.timers ≡ end_of timer.Lease s.timers)
        ⊎ ((has q s.peon.leader ≡ true) × (end_of timer.Lease y.state.timers ≡ Some (now + 10000)))
    pub only : (kind : Timer) (end : ℕ) → end_of kind y.state.timers ≡ Some end → (kind ≡ timer.Lease) ⊎ (kind ≡ timer.Propose)
    pub changes : y.changes ≡ []
    pub quiet : AllByRecursion (IsQuiet w i) y.out

  pub data Follows (came : Input) (y : Course) : Type 0 where
    stays : Stays y → Follows came y
    probes : came ≡ input.Timer timer.Lease → Begins y → Follows came y
    joins : Js came y → Follows came y

  -- What comes is of a member, and of the next epoch or an earlier one. If it is the leader's, it changes no store.
  abbrev pub IsOfMember : Input → Type 0
  IsOfMember (input.Deliver m) = (has q m.from ≡ true) × (m.epoch ≤ suc (epoch_of w)) × (m.from ≡ s.peon.leader → LeavesStores m.body)
  IsOfMember other = Unit {0}

  module _ (ranks : scores_count ms.rule ≡ false) (even : is_even (epoch_of w) ≡ true) (fits : suc (epoch_of w) ≤ 2 ^ 62) (room : now + 10000 ≤ 2 ^ 62)
      (several : ltb 1 ms.count ≡ true) (follows : s.phase ≡ phase.Peon) (kinds : length s.timers ≡ COUNT)
      (only_two : (kind : Timer) (end : ℕ) → end_of kind s.timers ≡ Some end → (kind ≡ timer.Lease) ⊎ (kind ≡ timer.Propose)) (came : Input) where
    abbrev P : Course → Type 0
    P = Follows came

    pub calm : end_of timer.Ping s.timers ≡ None
    calm = by (end_of timer.Ping s.timers) refl
      where
        by : (o : Option ℕ) → end_of timer.Ping s.timers ≡ o → o ≡ None
        by None is = refl
        by (Some end) is = elim (only_two timer.Ping end is) [ inl k ↦ absurd cc | inr k ↦ absurd cc ]

    -- ---- nothing happens

    all_replies : (asked : List Asked) (r : Reply) → AllByRecursion (IsQuiet w i) (map (λ a. sent.Reply a.session r) asked)
    all_replies [] r = tt
    all_replies (a ∷ asked) r = (tt, all_replies asked r)

    follows_so : (ts : Timers) → length ts ≡ COUNT → (end_of timer.Lease ts ≡ end_of timer.Lease s.timers) ⊎ ((has q s.peon.leader ≡ true) × (end_of timer.Lease ts ≡ Some (now + 10000)))
        → ((kind : Timer) (end : ℕ) → end_of kind ts ≡ Some end → (kind ≡ timer.Lease) ⊎ (kind ≡ timer.Propose))
        → (y : Course) → y.state.phase ≡ phase.Peon → y.state.peon.leader ≡ s.peon.leader → y.state.peon.quorum ≡ s.peon.quorum → y.state.timers ≡ ts → y.changes ≡ [] → AllByRecursion (IsQuiet w i) y.out → P y
    follows_so ts size ends one y p l r t c quiet = stays (record {
      follows = p;
      leader = l;
      quorum = r;
      kinds = ap length t ∙ size;
      lease = elim ends [ inl same ↦ inl (ap (end_of timer.Lease) t ∙ same) | inr k ↦ inr (k.0, ap (end_of timer.Lease) t ∙ k.1) ];
      only = λ kind end on. one kind end (sym (ap (end_of kind) t) ∙ on);
      changes = c;
      quiet = quiet;
    })

    keeps : (y : Course) → y.state.phase ≡ phase.Peon → y.state.peon.leader ≡ s.peon.leader → y.state.peon.quorum ≡ s.peon.quorum → y.state.timers ≡ s.timers → y.changes ≡ [] → AllByRecursion (IsQuiet w i) y.out → P y
    keeps y p l r t c quiet = follows_so s.timers kinds (inl refl) only_two y p l r t c quiet

    nothing : Then P (Ok x)
    nothing = done (keeps x refl refl refl refl refl tt)

    sends : (f : ℕ) (b : Body) (y : Course) → y.state.phase ≡ phase.Peon → y.state.peon.leader ≡ s.peon.leader → y.state.peon.quorum ≡ s.peon.quorum → y.state.timers ≡ s.timers → y.changes ≡ [] → y.out ≡ message_to me (epoch_of w) b f ∷ [] → IsPlain w b → Then P (Ok y)
    sends f b y p l r t c out plain = done (keeps y p l r t c (subst (AllByRecursion (IsQuiet w i)) (sym out) ((refl, refl, plain), tt)))

    -- ---- elections

    calls_so : (r : _) → Then (Calls ms i lt now w) r → Then P r
    calls_so (Ok y) k = done (joins (calls k.holds))
    calls_so (Err e) k = record { holds = tt }

    joins_so : (r : _) → Then (Js came) r → Then P r
    joins_so (Ok y) k = done (joins k.holds)
    joins_so (Err e) k = record { holds = tt }

    module _ (f e : ℕ) (low : e ≤ suc (epoch_of w)) where
      next_is : ltb (epoch_of w) e ≡ true → e ≡ suc (epoch_of w)
      next_is t = let l = ltb-true (epoch_of w) e t in omega arith

      same_is : {A : Type 0} → ltb e (epoch_of w) ≡ false → ltb (epoch_of w) e ≡ false → is_even e ≡ false → A
      same_is a b odd =
          let k = ltb-false e (epoch_of w) a in
          let l = ltb-false (epoch_of w) e b in
          let same : e ≡ epoch_of w = omega arith in
          absurd (false≢true (sym odd ∙ ap is_even same ∙ even))

      propose_comes : (t : Option Scores) → Heard ms.count came f e (body.Propose t) → Then P (hear_propose me now f e t x)
      unfolding hear_propose
      propose_comes t H =
          by_test (is_even e) (λ _. nothing) (λ odd.
          by_test (ltb e (epoch_of w)) (λ _. by_test (is_even (epoch_of w) && not (has (quorum_of x.state) f)) (λ _. calls_so _ (called ms i lt now w ranks even fits room x.state calm refl)) (λ _. nothing)) (λ a.
          by_test (ltb (epoch_of w) e) (λ k. later (next_is k)) (λ b. same_is a b odd)))
        where
          later : e ≡ suc (epoch_of w) → Then P (weigh me now (table_or t x.state.elector.scores) f (merge t (adopt now e x)))
          later is = subst (λ (n : ℕ). Then P (weigh me now (table_or t x.state.elector.scores) f (merge t (adopt now n x)))) (sym is)
              (joins_so _ (proposed ms i lt now w ranks even fits room x.state calm refl came f t (subst (λ (n : ℕ). Heard ms.count came f n (body.Propose t)) is H)))

      ack_comes : Then P (hear_ack me now f e x)
      unfolding hear_ack
      ack_comes =
          by_test (is_even e || ltb e (epoch_of w)) (λ _. nothing) (λ k. (let o = or_parts (is_even e) (ltb e (epoch_of w)) k in
          by_test (ltb (epoch_of w) e)
          (λ l. subst (λ (n : ℕ). Then P (elect me now (adopt now n x))) (sym (next_is l)) (calls_so _ (acked ms i lt now w ranks even fits room x.state calm refl)))
          (λ b. same_is o.1 b o.0)))

      victory_comes : (r : List Bool) → Then P (hear_victory me now f e r x)
      unfolding hear_victory
      victory_comes r =
          by_test (not (is_even e) || leb e (epoch_of w)) (λ _. nothing) (λ k. (let o = or_parts (not (is_even e)) (leb e (epoch_of w)) k in
          let l = leb-false e (epoch_of w) o.1 in
          let next : e ≡ suc (epoch_of w) = omega arith in
          absurd (false≢true (sym (odd_of_even (epoch_of w) even) ∙ ap is_even (sym next) ∙ not-false (is_even e) o.0))))

    -- ---- what its leader would say

    module _ (f e : ℕ) where
      leader_is : of_leader f e x ≡ true → f ≡ s.peon.leader
      leader_is t = let k = and_three (is_peon x.state.phase) (eqb e (epoch_of w)) (eqb f s.peon.leader) t in eqb-true f s.peon.leader k.2

      collect_comes : (pn first last : ℕ) → (f ≡ s.peon.leader → ⊥) → Then P (hear_collect me now f e pn first last x)
      unfolding hear_collect
      collect_comes pn first last ne = by_test (not (of_leader f e x)) (λ _. nothing) (λ t. absurd (ne (leader_is (not-false (of_leader f e x) t))))

      begin_comes : (pn v : ℕ) (value : _) → (f ≡ s.peon.leader → ⊥) → Then P (hear_begin me f e pn v value x)
      unfolding hear_begin
      begin_comes pn v value ne =
          by_test (not (of_leader f e x && eqb pn (promise_of w) && eqb v (suc w.last))) (λ _. nothing)
          (λ t. absurd (ne (leader_is (and_three (of_leader f e x) (eqb pn (promise_of w)) (eqb v (suc w.last)) (not-false _ t)).0)))

      commit_comes : (from : ℕ) (values : _) → (f ≡ s.peon.leader → ⊥) → Then P (hear_commit f e from values x)
      unfolding hear_commit
      commit_comes from values ne =
          by_test (not (of_leader f e x) || ltb (suc w.last) from) (λ _. nothing)
          (λ t. absurd (ne (leader_is (not-false (of_leader f e x) (or_parts (not (of_leader f e x)) (ltb (suc w.last) from) t).0))))

      lease_comes : has q f ≡ true → (last : ℕ) → Then P (hear_lease me now f e last x)
      unfolding hear_lease
      lease_comes qf last =
          by_test (not (of_leader f e x) || not (eqb last w.last) || is_some (pending w)) (λ _. nothing)
          (λ t. done (follows_so (armed now timer.Lease s.timers) (armed_size now timer.Lease s.timers kinds)
          (inr (subst (λ (z : ℕ). has q z ≡ true) (leader_is (not-false (of_leader f e x) (or_three (not (of_leader f e x)) (not (eqb last w.last)) (is_some (pending w)) t).0)) qf, ends now timer.Lease s.timers kinds (omega arith)))
          (λ kind end on. elim (same_kind_or kind timer.Lease) [ inl same ↦ inl same | inr ne ↦ only_two kind end (sym (still_ends now kind timer.Lease s.timers ne) ∙ on) ])
          _ refl refl refl refl refl ((refl, refl, tt), tt)))

      route_comes : (seq : ℕ) (r : Reply) → Then P (hear_route f e seq r x)
      unfolding hear_route
      route_comes seq r = by_test (not (of_leader f e x)) (λ _. nothing) (λ _. done (keeps _ refl refl refl refl refl (all_replies (filter (λ a. eqb a.seq seq) s.clients.sessions) r)))

    -- ---- copies and scores

    probe_comes : (f : ℕ) → Then P (hear_probe me f x)
    unfolding hear_probe
    probe_comes f = by_test w.marked (λ _. nothing) (λ _. sends f (body.ProbeReply s.peon.quorum w.first w.last) _ refl refl refl refl refl refl (refl, refl))

    grants : (full : Bool) (f : ℕ) → Then P (grant me full f x)
    grants full f = where_fits P which.Cookie s.provider.next_cookie _ (λ _. sends f _ _ refl refl refl refl refl refl tt)

    full_comes : (f : ℕ) → Then P (hear_get_cookie_full me f x)
    unfolding hear_get_cookie_full
    full_comes f = by_test w.marked (λ _. nothing) (λ _. grants true f)

    recent_comes : (f last : ℕ) → Then P (hear_get_cookie_recent me f last x)
    unfolding hear_get_cookie_recent
    recent_comes f last = by_test w.marked (λ _. nothing) (λ _. by_test (ltb (suc last) w.first) (λ _. sends f _ _ refl refl refl refl refl refl tt) (λ _. grants false f))

    chunk_comes : (f : ℕ) (c : Cookie) (p : Place) → Then P (hear_get_chunk me sh f c p x)
    unfolding hear_get_chunk
    chunk_comes f c p =
        by_test w.marked (λ _. nothing) (λ _.
        by_test (not (is_cookie c (slice_index_or s.provider.cookies f None)) || ltb (suc p.version) w.first) (λ _. sends f _ _ refl refl refl refl refl refl tt)
        (λ _. sends f (chunk w.last c p (filter (is_after p.key) sh) ms.count w.record_of) _ refl refl refl refl refl refl (plain_chunk w ms.count c p (filter (is_after p.key) sh))))

    ping_comes : (f : ℕ) (table : Option Scores) → Then P (hear_ping me f table x)
    unfolding hear_ping
    ping_comes f None = nothing
    ping_comes f (Some table) = done (keeps _ refl refl refl refl refl ((refl, refl, tt), tt))

    pong_comes : (f : ℕ) (table : Option Scores) → Then P (hear_ping_reply f table x)
    unfolding hear_ping_reply
    pong_comes f None = nothing
    pong_comes f (Some table) = done (keeps _ refl refl refl refl refl tt)

    -- ---- all messages

    heard : (f e : ℕ) → has q f ≡ true → e ≤ suc (epoch_of w) → (b : Body) → (f ≡ s.peon.leader → LeavesStores b) → Heard ms.count came f e b → Then P (hear me sh now f e b x)
    unfolding hear_probe_reply hear_last hear_accept hear_lease_ack hear_forward hear_cookie hear_chunk hear_last_chunk hear_no_cookie
    heard f e qf low body.Probe k H = probe_comes f
    heard f e qf low (body.ProbeReply r first last) k H = nothing
    heard f e qf low (body.Propose t) k H = propose_comes f e low t H
    heard f e qf low body.Ack k H = ack_comes f e low
    heard f e qf low (body.Victory r) k H = victory_comes f e low r
    heard f e qf low (body.Collect pn first last) k H = collect_comes f e pn first last k
    heard f e qf low (body.Last pn first last whole from values told) k H = nothing
    heard f e qf low (body.Begin pn v value) k H = begin_comes f e pn v value k
    heard f e qf low (body.Accept pn v) k H = nothing
    heard f e qf low (body.Commit from values) k H = commit_comes f e from values k
    heard f e qf low (body.Lease last) k H = lease_comes f e qf last
    heard f e qf low (body.LeaseAck last) k H = nothing
    heard f e qf low (body.Forward seq c) k H = nothing
    heard f e qf low (body.Route seq r) k H = route_comes f e seq r
    heard f e qf low body.GetCookieFull k H = full_comes f
    heard f e qf low (body.GetCookieRecent last) k H = recent_comes f last
    heard f e qf low (body.Cookie full c last) k H = nothing
    heard f e qf low (body.GetChunk c p) k H = chunk_comes f c p
    heard f e qf low (body.Chunk c p values entries end) k H = nothing
    heard f e qf low (body.LastChunk c p values entries last) k H = nothing
    heard f e qf low (body.NoCookie c) k H = nothing
    heard f e qf low (body.Ping table) k H = ping_comes f table
    heard f e qf low (body.PingReply table) k H = pong_comes f table
    heard f e qf low (body.Request id r) k H = nothing
    heard f e qf low (body.Reply id r) k H = nothing

    -- ---- timers

    module _ (t : Timer) (is : came ≡ input.Timer t) where
      bare : (kind : Timer) (end : ℕ) → end_of kind (disarmed t s.timers) ≡ Some end → end_of kind s.timers ≡ Some end
      bare kind end on = elim (same_kind_or kind t) [
        | inl same ↦ absurd (none-some end (sym (off t s.timers kinds) ∙ subst (λ (k : Timer). end_of k (disarmed t s.timers) ≡ Some end) same on))
        | inr ne ↦ sym (still_on kind t s.timers ne) ∙ on
      ]

    lease_ends : came ≡ input.Timer timer.Lease → Then P (timer_comes me now timer.Lease (disarm timer.Lease x))
    lease_ends is = subst (Then P) (sym (probes_row me now (disarm timer.Lease x) several)) (done (probes is (record {
      probes = refl;
      outside = refl;
      timers = λ kind end on. elim (same_kind_or kind timer.Probe) [
        | inl same ↦ (same, (let two : Some end ≡ Some (now + 2000) = sym on ∙ ap (λ (k : Timer). end_of k (armed now timer.Probe bare_timers)) same ∙ ends now timer.Probe bare_timers size (omega arith) in cc))
        | inr ne ↦ absurd (let k = only_ping_is (disarmed timer.Lease s.timers) kind end (sym (still_ends now kind timer.Probe bare_timers ne) ∙ on) in
            none-some end (sym calm ∙ bare timer.Lease is timer.Ping end k.1))
      ];
      changes = refl;
      out = refl;
    })))
      where
        bare_timers : Timers
        bare_timers = only_ping (disarmed timer.Lease s.timers)

        size : length bare_timers ≡ 11
        size = length-set unarmed (index_of timer.Ping) (end_of timer.Ping (disarmed timer.Lease s.timers))

    propose_ends : came ≡ input.Timer timer.Propose → Then P (timer_comes me now timer.Propose (disarm timer.Propose x))
    unfolding propose_due
    propose_ends is = done (follows_so (disarmed timer.Propose s.timers) (disarmed_size timer.Propose s.timers kinds) (inl (still_on timer.Lease timer.Propose s.timers (λ e. omega arith)))
        (λ kind end on. only_two kind end (bare timer.Propose is kind end on)) _ refl refl refl refl refl tt)

    rung : (t : Timer) → came ≡ input.Timer t → is_armed t s.timers ≡ true → Then P (timer_comes me now t (disarm t x))
    rung t is on = by (end_of t s.timers) refl on
      where
        by : (o : Option ℕ) → end_of t s.timers ≡ o → is_some o ≡ true → Then P (timer_comes me now t (disarm t x))
        by None e k = absurd (false≢true k)
        by (Some end) e k = elim (only_two t end e) [
          | inl same ↦ subst (λ (k : Timer). came ≡ input.Timer k → Then P (timer_comes me now k (disarm k x))) (sym same) lease_ends is
          | inr same ↦ subst (λ (k : Timer). came ≡ input.Timer k → Then P (timer_comes me now k (disarm k x))) (sym same) propose_ends is
        ]

    -- ---- clients

    replies : (y : Course) → y.state.phase ≡ phase.Peon → y.state.peon.leader ≡ s.peon.leader → y.state.peon.quorum ≡ s.peon.quorum → y.state.timers ≡ s.timers → y.changes ≡ [] → AllByRecursion (IsQuiet w i) y.out → Then P (Ok y)
    replies y p l r t c quiet = done (keeps y p l r t c quiet)

    asks : (u : Session) (c : Command) → Then P (ask me now u c x)
    unfolding ask
    asks u c =
        by_test (is_too_long c) (λ _. replies _ refl refl refl refl refl (tt, tt)) (λ _.
        by_test (leb MOST_WAITING (length s.clients.sessions)) (λ _. replies _ refl refl refl refl refl (tt, tt)) (λ _.
        where_fits P which.Seq s.clients.next_seq _ (λ _. replies _ refl refl refl refl refl ((refl, refl, tt), tt))))

    reads : (u : Session) (reading : Readings → Reply) → Then P (read me now u reading x)
    reads u reading = by_test (not (readable w.last ms.count (lease_of x.state) now)) (λ _. replies _ refl refl refl refl refl (tt, tt)) (λ _. replies _ refl refl refl refl refl (tt, tt))

    asked : (u : Session) (r : Request) → Then P (hear_client me now u r x)
    unfolding hear_client
    asked u (request.Set key value) = asks u (command.Set key value)
    asked u (request.Remove key) = asks u (command.Remove key)
    asked u (request.Log text) = asks u (command.Log text)
    asked u (request.Show v) = reads u (λ z. shown z v)
    asked u (request.Since v n) = reads u (λ z. since z v n)

    comes : (c : Input) → came ≡ c → IsOfMember c → Then P (running me sh now c x)
    comes input.Start is of = nothing
    comes (input.Deliver m) is of = by_test (is_heard me m) (λ t. heard m.from m.epoch of.0 of.1 m.body of.2 (record { message = m; is = is; from = refl; monitors = eqb-true m.monitors ms.count (and_three (not (eqb m.from i)) (eqb m.monitors ms.count) _ t).1; epoch = refl; says = refl })) (λ _. nothing)
    comes (input.Timer t) is of = by_test (is_armed t s.timers) (λ on. rung t is on) (λ _. nothing)
    comes (input.Client u r) is of = asked u r

    pub followed : IsOfMember came → Then P (react me sh now w s came)
    unfolding react
    followed of = subst (λ (p : Phase). Then P (react me sh now w (record s { phase = p }) came)) (sym follows) (comes came refl of)

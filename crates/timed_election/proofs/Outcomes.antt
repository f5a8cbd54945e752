-- What a monitor that takes part in an election does at each input, if nothing is of a later epoch.
use Rattle.law_names.proofs.Runs.{Envelope, Monitors}
use Rattle.law_names.proofs.Table.{AllByRecursion, Body, Cookie, Course, Entry, Epoch, Input, Me, Message, Numbers, Phase, Place, Readings, Request, Scores, Sent, Session, State, Timer, armed, ask, at_rest, change, chunk, collect, collect_with, disarm, disarmed, elect, election_ends, end_of, epoch_of, given_entries, given_values, grant, has, hear, hear_accept, hear_ack, hear_begin, hear_chunk, hear_client, hear_collect, hear_commit, hear_cookie, hear_forward, hear_get_chunk, hear_get_cookie_full, hear_get_cookie_recent, hear_last, hear_last_chunk, hear_lease, hear_lease_ack, hear_no_cookie, hear_ping, hear_ping_reply, hear_probe, hear_probe_reply, hear_propose, hear_route, hear_victory, in_next_epoch, in_odd_epoch, is_after, is_allowed, is_alone, is_armed, is_cookie, is_even, is_finished, is_heard, is_majority, is_whole, may_defer, members, merge, message_to, next_number, no_clients, no_ranks, only, only_ping, or_zero, others, pending, promise_of, quorum_of, reach, react, reign, running, scores_count, stands_before, start_leader, table_or, timer_comes, votes, weigh, win, with_rank}
use Rattle.mon_msg.specs.declared.election.Elector.{Elector}
use Rattle.mon_msg.specs.declared.input.Input.TheVariants as input
use Rattle.mon_msg.specs.declared.plan.Sent.TheVariants as sent
use Rattle.mon_types.specs.declared.names.Which.TheVariants as which
use Rattle.mon_wire.specs.declared.body.Body.TheVariants as body
use Rattle.mon_wire.specs.declared.phase.Phase.TheVariants as phase
use Rattle.mon_wire.specs.declared.phase.Timer.TheVariants as timer
use Rattle.mon_wire.specs.declared.request.Request.TheVariants as request
use Rattle.quorum_model.proofs.Members.{member_of}
use Rattle.quorum_stays.specs.Steady.{IsOfElections}
use Rattle.quorum_timed.proofs.Armed.{Timers}
use Rattle.quorum_walk.proofs.Parity.{next_is}
use Rattle.quorum_walk.proofs.Walk.{Then, and_then, and_three, by_test, done, or_three, where_fits}
use Rattle.std.proofs.Common.{Bool, Err, List, None, Ok, Option, Some, [], ap, arith, eqb, false, filter, inl, inr, is_some, leb, ltb, map, max, not, refl, slice_index_or, subst, suc, sym, true, ℕ, ◌&&◌, ◌++◌, ◌<◌, ◌^◌, ◌||◌, ◌∙◌, ◌∷◌, ◌≡◌, ◌≤◌, ◌⊎◌}
use Rattle.std.proofs.lemmas.Bool.{and_parts, cond_both, eq-eqb, eqb-true, false≢true, leb-false, ltb-false, ltb-true, ne_eqb, or_cases}
use Rattle.timed_election.proofs.Quiet.{IsPlain, IsQuiet, plain_chunk}

-- a message of another monitor comes
pub record Heard (n : ℕ) (came : Input) (f e : ℕ) (b : Body) : Type 0 where
  pub message : Message
  pub is : came ≡ input.Deliver message
  pub from : message.from ≡ f
  pub monitors : message.monitors ≡ n
  pub epoch : message.epoch ≡ e
  pub says : message.body ≡ b

-- it takes part in the election of the same epoch, and remembers this of it
pub record Stays (stands : Bool) (those : List Bool) (whom : Option ℕ) (ts : Timers) (y : Course) : Type 0 where
  pub phase : y.state.phase ≡ phase.Electing
  pub candidate : y.state.elector.candidate ≡ stands
  pub acked : y.state.elector.acked ≡ those
  pub deferred : y.state.elector.deferred ≡ whom
  pub timers : y.state.timers ≡ ts
  pub changes : y.changes ≡ []

-- a message that a monitor may answer while it takes part in an election
abbrev pub Asks : Body → Type 0
Asks body.Probe = Unit {0}
Asks body.GetCookieFull = Unit {0}
Asks (body.GetCookieRecent last) = Unit {0}
Asks (body.GetChunk cookie p) = Unit {0}
Asks (body.Ping table) = Unit {0}
Asks other = ⊥

abbrev pub AsksIn : Input → Type 0
AsksIn (input.Deliver m) = Asks m.body
AsksIn other = ⊥

-- an answer to what comes, which asks nothing
abbrev pub IsAnswerTo : Input → Sent → Type 0
IsAnswerTo came (sent.Message to m) = AsksIn came × (Asks m.body → ⊥)
IsAnswerTo came (sent.Reply to r) = Unit {0}

-- a call, an acknowledgement, or an answer to what comes
abbrev pub VotesOrAnswers : Input → Envelope → Type 0
VotesOrAnswers came m = IsOfElections m.message.body ⊎ (AsksIn came × (Asks m.message.body → ⊥))

-- what comes is of no later epoch
abbrev pub IsLow : ℕ → Input → Type 0
IsLow epoch (input.Deliver m) = m.epoch ≤ epoch
IsLow epoch other = Unit {0}

module _ (ms : Monitors) (i : ℕ) (lt : ltb i ms.count ≡ true) (now : ℕ) (sh : List Entry) (w : Readings) (s : State) where
  abbrev pub me : Me
  me = member_of ms i lt

  abbrev at_election : State
  at_election = record s { phase = phase.Electing }

  abbrev x : Course
  x = at_rest w at_election

  abbrev pub says : Body → (to : ℕ) → Sent
  says b to = message_to me (epoch_of w) b to

  -- It leads this quorum in the next epoch, says so to all of it, and asks it what was accepted.
  pub record Wins (q : List Bool) (y : Course) : Type 0 where
    pub pn : ℕ
    pub above : promise_of w < pn
    pub next : suc (epoch_of w) ≤ 2 ^ 62
    pub short : pn ≤ 2 ^ 62
    pub phase : y.state.phase ≡ phase.Collecting
    pub leader : y.state.leader ≡ record start_leader { quorum = q; pn = pn; answered = only i; found = pending w }
    pub timers : y.state.timers ≡ armed now timer.Collect (only_ping (disarmed timer.Election s.timers))
    pub changes : y.changes ≡ Epoch (suc (epoch_of w)) ∷ Numbers pn ∷ []
    pub out : y.out ≡ map (message_to me (suc (epoch_of w)) (body.Victory q)) (members me q) ++ map (message_to me (suc (epoch_of w)) (body.Collect pn w.first w.last)) (members me q)

  -- what it does
  pub data Outcome (came : Input) (y : Course) : Type 0 where
    rests : Stays s.elector.candidate s.elector.acked s.elector.deferred s.timers y → AllByRecursion (IsQuiet w i) y.out → AllByRecursion (IsAnswerTo came) y.out → Outcome came y
    counts : (f : ℕ) → Heard ms.count came f (epoch_of w) body.Ack → s.elector.candidate ≡ true
        → Stays true (with_rank s.elector.acked f) s.elector.deferred s.timers y → y.out ≡ [] → Outcome came y
    defers : (f : ℕ) (t : Option Scores) (table : Scores) → Heard ms.count came f (epoch_of w) (body.Propose t) → (is_allowed me f && stands_before me table f i) ≡ true
        → may_defer me table f s.elector.deferred ≡ true → Stays false no_ranks (Some f) s.timers y → y.out ≡ says body.Ack f ∷ [] → Outcome came y
    calls : s.elector.candidate ≡ false → s.elector.deferred ≡ None
        → Stays true (only i) None (armed now timer.Election s.timers) y → y.out ≡ map (says (body.Propose None)) (others me) → Outcome came y
    calls_again : came ≡ input.Timer timer.Election → (s.elector.candidate && is_allowed me i && is_majority ms.count s.elector.acked) ≡ false
        → Stays true (only i) None (armed now timer.Election (disarmed timer.Election s.timers)) y → y.out ≡ map (says (body.Propose None)) (others me) → Outcome came y
    wins : came ≡ input.Timer timer.Election → s.elector.candidate ≡ true → is_majority ms.count s.elector.acked ≡ true → Wins s.elector.acked y → Outcome came y

  module _ (odd : is_even (epoch_of w) ≡ false) (ranks : scores_count ms.rule ≡ false)
      (only_one : (kind : Timer) (end : ℕ) → end_of kind s.timers ≡ Some end → kind ≡ timer.Election)
      (second : is_majority ms.count s.elector.acked ≡ true → is_alone me s.elector.acked ≡ false) (came : Input) where
    abbrev O : Course → Type 0
    O = Outcome came

    -- ---- nothing happens

    rest : (e : Elector) (y : Course) → e.candidate ≡ s.elector.candidate → e.acked ≡ s.elector.acked → e.deferred ≡ s.elector.deferred → y.state.elector ≡ e → y.state.phase ≡ phase.Electing → y.state.timers ≡ s.timers → y.changes ≡ [] → AllByRecursion (IsQuiet w i) y.out → AllByRecursion (IsAnswerTo came) y.out → O y
    rest e y a b c is p t k quiet answers = rests (record {
      phase = p;
      candidate = ap (λ (z : Elector). z.candidate) is ∙ a;
      acked = ap (λ (z : Elector). z.acked) is ∙ b;
      deferred = ap (λ (z : Elector). z.deferred) is ∙ c;
      timers = t;
      changes = k;
    }) quiet answers

    nothing : Then O (Ok x)
    nothing = done (rest s.elector x refl refl refl refl refl refl refl tt tt)

    -- ---- it calls an election

    -- it remembers this
    abbrev with_votes : Elector → Timers → Course
    with_votes e ts = record { readings = w; changes = []; state = record s { phase = phase.Electing; elector = e; timers = ts }; out = [] }

    abbrev called : Elector → Timers → Course
    called e ts = record {
      readings = w;
      changes = [];
      state = record s { phase = phase.Electing; elector = record e { candidate = true; acked = only i; deferred = None }; clients = no_clients; timers = armed now timer.Election ts };
      out = map (says (body.Propose None)) (others me);
    }

    elected : (e : Elector) (ts : Timers) → elect me now (with_votes e ts) ≡ Ok (called e ts)
    unfolding elect in_odd_epoch
    elected e ts = rw (odd, ranks) refl

    calls_so : (e : Elector) (ts : Timers) → O (called e ts) → Then O (elect me now (with_votes e ts))
    calls_so e ts k = subst (Then O) (sym (elected e ts)) (done k)

    stays_called : (e : Elector) (ts : Timers) → Stays true (only i) None (armed now timer.Election ts) (called e ts)
    stays_called e ts = record { phase = refl; candidate = refl; acked = refl; deferred = refl; timers = refl; changes = refl }

    -- ---- it wins

    next_epoch : (y : Course) → Then (λ (z : Course). (suc (epoch_of y.readings) ≤ 2 ^ 62) × (z ≡ change (Epoch (suc (epoch_of y.readings))) y)) (in_next_epoch y)
    next_epoch y = where_fits (λ (z : Course). (suc (epoch_of y.readings) ≤ 2 ^ 62) × (z ≡ change (Epoch (suc (epoch_of y.readings))) y)) which.Epoch (suc (epoch_of y.readings)) _ (λ fits. done (fits, refl))

    reigns : is_majority ms.count s.elector.acked ≡ true → suc (epoch_of w) ≤ 2 ^ 62 → Then (Wins s.elector.acked) (reign me now s.elector.acked (change (Epoch (suc (epoch_of w))) (with_votes s.elector (disarmed timer.Election s.timers))))
    unfolding reign collect collect_with
    reigns most fits =
        where_fits (Wins s.elector.acked) which.Pn (next_number (or_zero w.last_pn) (max (promise_of w) 0) i) _ (λ short.
        by_test (is_alone me s.elector.acked) (λ t. absurd (false≢true (sym (second most) ∙ t))) (λ _. done (record {
          pn = next_number (or_zero w.last_pn) (max (promise_of w) 0) i;
          above = (next_is (or_zero w.last_pn) (promise_of w) 0 i (let z = ltb-true i ms.count lt in let m = ms.most in omega arith)).1;
          next = fits;
          short = short;
          phase = refl;
          leader = refl;
          timers = refl;
          changes = refl;
          out = refl;
        })))

    won : is_majority ms.count s.elector.acked ≡ true → Then (Wins s.elector.acked) (win me now s.elector.acked (with_votes s.elector (disarmed timer.Election s.timers)))
    unfolding win
    won most = and_then (λ (z : Course). (suc (epoch_of w) ≤ 2 ^ 62) × (z ≡ change (Epoch (suc (epoch_of w))) (with_votes s.elector (disarmed timer.Election s.timers)))) (Wins s.elector.acked) (in_next_epoch (with_votes s.elector (disarmed timer.Election s.timers))) _
        (next_epoch (with_votes s.elector (disarmed timer.Election s.timers))) (λ y k. subst (λ (z : Course). Then (Wins s.elector.acked) (reign me now s.elector.acked z)) (sym k.1) (reigns most k.0))

    -- ---- elections

    module _ (f e : ℕ) (low : e ≤ epoch_of w) where
      later_not : {A : Type 0} → ltb (epoch_of w) e ≡ true → A
      later_not t = let l = ltb-true (epoch_of w) e t in absurd (omega arith)

      same : ltb e (epoch_of w) ≡ false → e ≡ epoch_of w
      same t = let l = ltb-false e (epoch_of w) t in omega arith

      weighed : (t : Option Scores) (table : Scores) (votes_so : Elector) → votes_so.candidate ≡ s.elector.candidate → votes_so.acked ≡ s.elector.acked → votes_so.deferred ≡ s.elector.deferred
          → Heard ms.count came f (epoch_of w) (body.Propose t) → Then O (weigh me now table f (with_votes votes_so s.timers))
      weighed t table v a b c H =
          by_test (is_allowed me f && stands_before me table f i)
          (λ better. by_test (may_defer me table f v.deferred)
          (λ may. done (defers f t table H better (subst (λ (d : Option ℕ). may_defer me table f d ≡ true) c may) (record { phase = refl; candidate = refl; acked = refl; deferred = refl; timers = refl; changes = refl }) refl))
          (λ _. done (rest v (with_votes v s.timers) a b c refl refl refl refl tt tt)))
          (λ _. by_test (not (is_some v.deferred) && not v.candidate)
          (λ t. (let k = and_parts (not (is_some v.deferred)) (not v.candidate) t in
          calls_so v s.timers (calls (sym a ∙ unset v.candidate k.1) (sym c ∙ none v.deferred k.0) (stays_called v s.timers) refl)))
          (λ _. done (rest v (with_votes v s.timers) a b c refl refl refl refl tt tt)))
        where
          unset : (b : Bool) → not b ≡ true → b ≡ false
          unset true e = absurd (false≢true e)
          unset false e = refl

          none : (o : Option ℕ) → not (is_some o) ≡ true → o ≡ None
          none None e = refl
          none (Some n) e = absurd (false≢true e)

      propose_comes : (t : Option Scores) → Heard ms.count came f e (body.Propose t) → Then O (hear_propose me now f e t x)
      unfolding hear_propose
      propose_comes t H =
          by_test (not (votes phase.Electing) || is_even e) (λ _. nothing) (λ _.
          by_test (ltb e (epoch_of w)) (λ _. by_test (is_even (epoch_of w) && not (has (quorum_of at_election) f)) (λ k. absurd (false≢true (sym odd ∙ (and_parts (is_even (epoch_of w)) _ k).0))) (λ _. nothing)) (λ k.
          by_test (ltb (epoch_of w) e) (λ k. later_not k)
          (λ _. weighed t (table_or t s.elector.scores) ((merge t x).state.elector) refl refl refl (subst (λ (n : ℕ). Heard ms.count came f n (body.Propose t)) (same k) H))))

      ack_comes : is_whole me (with_rank s.elector.acked f) ≡ false → Heard ms.count came f e body.Ack → Then O (hear_ack me now f e x)
      unfolding hear_ack
      ack_comes few H =
          by_test (not (votes phase.Electing) || is_even e || ltb e (epoch_of w)) (λ _. nothing) (λ k.
          by_test (ltb (epoch_of w) e) (λ k. later_not k) (λ _.
          by_test s.elector.candidate
          (λ stands. by_test (is_whole me (with_rank s.elector.acked f) && is_allowed me i)
          (λ k. absurd (false≢true (sym few ∙ (and_parts (is_whole me (with_rank s.elector.acked f)) (is_allowed me i) k).0)))
          (λ _. done (counts f (subst (λ (n : ℕ). Heard ms.count came f n body.Ack) (same (or_three (not (votes phase.Electing)) (is_even e) (ltb e (epoch_of w)) k).2) H) stands
          (record { phase = refl; candidate = stands; acked = refl; deferred = refl; timers = refl; changes = refl }) refl)))
          (λ _. nothing)))

      victory_comes : (q : List Bool) → Then O (hear_victory me now f e q x)
      unfolding hear_victory
      victory_comes q =
          by_test (not (votes phase.Electing) || not (is_even e) || leb e (epoch_of w)) (λ _. nothing)
          (λ k. (let l = leb-false e (epoch_of w) (or_three (not (votes phase.Electing)) (not (is_even e)) (leb e (epoch_of w)) k).2 in absurd (omega arith)))

    over : came ≡ input.Timer timer.Election → Then O (election_ends me now (disarm timer.Election x))
    unfolding election_ends
    over is =
        by_test (s.elector.candidate && is_allowed me i && is_majority ms.count s.elector.acked)
        (λ t. (let k = and_three s.elector.candidate (is_allowed me i) (is_majority ms.count s.elector.acked) t in
        wins_so k.0 k.2 (win me now s.elector.acked (disarm timer.Election x)) (won k.2)))
        (λ t. calls_so s.elector (disarmed timer.Election s.timers) (calls_again is t (stays_called s.elector (disarmed timer.Election s.timers)) refl))
      where
        wins_so : s.elector.candidate ≡ true → is_majority ms.count s.elector.acked ≡ true → (r : _) → Then (Wins s.elector.acked) r → Then O r
        wins_so a b (Ok y) k = done (wins is a b k.holds)
        wins_so a b (Err e) k = record { holds = tt }

    -- ---- copies

    quiet : (f : ℕ) (b : Body) → IsPlain w b → AllByRecursion (IsQuiet w i) (says b f ∷ [])
    quiet f b p = ((refl, refl, p), tt)

    sends : AsksIn came → (f : ℕ) (b : Body) (y : Course) → y.state.elector ≡ s.elector → y.state.phase ≡ phase.Electing → y.state.timers ≡ s.timers → y.changes ≡ [] → y.out ≡ says b f ∷ [] → IsPlain w b → (Asks b → ⊥) → Then O (Ok y)
    sends asks f b y is p t k out a n = done (rest s.elector y refl refl refl is p t k (subst (AllByRecursion (IsQuiet w i)) (sym out) (quiet f b a)) (subst (AllByRecursion (IsAnswerTo came)) (sym out) ((asks, n), tt)))

    probe_comes : AsksIn came → (f : ℕ) → Then O (hear_probe me f x)
    unfolding hear_probe
    probe_comes asks f = by_test w.marked (λ _. nothing) (λ _. sends asks f (body.ProbeReply no_ranks w.first w.last) _ refl refl refl refl refl (refl, refl) (λ k. k))

    grants : AsksIn came → (full : Bool) (f : ℕ) → Then O (grant me full f x)
    grants asks full f = where_fits O which.Cookie s.provider.next_cookie _ (λ _. sends asks f _ _ refl refl refl refl refl tt (λ k. k))

    full_comes : AsksIn came → (f : ℕ) → Then O (hear_get_cookie_full me f x)
    unfolding hear_get_cookie_full
    full_comes asks f = by_test w.marked (λ _. nothing) (λ _. grants asks true f)

    recent_comes : AsksIn came → (f last : ℕ) → Then O (hear_get_cookie_recent me f last x)
    unfolding hear_get_cookie_recent
    recent_comes asks f last = by_test w.marked (λ _. nothing) (λ _. by_test (ltb (suc last) w.first) (λ _. sends asks f _ _ refl refl refl refl refl tt (λ k. k)) (λ _. grants asks false f))

    -- a chunk asks nothing
    chunk_asks : (c : Cookie) (p : Place) (left : List Entry) → Asks (chunk w.last c p left ms.count w.record_of) → ⊥
    unfolding chunk
    chunk_asks c p left =
        let values = given_values w.last c p left ms.count w.record_of in
        let entries = given_entries w.last c p left ms.count values in
        cond_both (reach w.last p values && is_finished p left entries) (body.LastChunk c p values entries w.last) (body.Chunk c p values entries (is_finished p left entries)) (λ (b : Body). Asks b → ⊥) (λ _ k. k) (λ _ k. k)

    chunk_comes : AsksIn came → (f : ℕ) (c : Cookie) (p : Place) → Then O (hear_get_chunk me sh f c p x)
    unfolding hear_get_chunk
    chunk_comes asks f c p =
        let left = filter (is_after p.key) sh in
        by_test w.marked (λ _. nothing) (λ _.
        by_test (not (is_cookie c (slice_index_or s.provider.cookies f None)) || ltb (suc p.version) w.first) (λ _. sends asks f _ _ refl refl refl refl refl tt (λ k. k))
        (λ _. sends asks f (chunk w.last c p left ms.count w.record_of) _ refl refl refl refl refl (plain_chunk w ms.count c p left) (chunk_asks c p left)))

    -- ---- scores

    ping_comes : AsksIn came → (f : ℕ) (table : Option Scores) → Then O (hear_ping me f table x)
    unfolding hear_ping
    ping_comes asks f None = nothing
    ping_comes asks f (Some table) = done (rest _ _ refl refl refl refl refl refl refl ((refl, refl, tt), tt) ((asks, (λ k. k)), tt))

    reply_comes : (f : ℕ) (table : Option Scores) → Then O (hear_ping_reply f table x)
    unfolding hear_ping_reply
    reply_comes f None = nothing
    reply_comes f (Some table) = done (rest _ _ refl refl refl refl refl refl refl tt tt)

    -- ---- all messages

    -- an acknowledgement that a candidate hears counts
    pub takes_ack : (f : ℕ) → is_whole me (with_rank s.elector.acked f) ≡ false → s.elector.candidate ≡ true
        → Then (Stays true (with_rank s.elector.acked f) s.elector.deferred s.timers) (hear_ack me now f (epoch_of w) x)
    unfolding hear_ack
    takes_ack f few stands =
        by_test (not (votes phase.Electing) || is_even (epoch_of w) || ltb (epoch_of w) (epoch_of w)) (λ t. absurd (voted t)) (λ _.
        by_test (ltb (epoch_of w) (epoch_of w)) (λ t. absurd (not_below t)) (λ _.
        by_test s.elector.candidate
        (λ _. by_test (is_whole me (with_rank s.elector.acked f) && is_allowed me i)
        (λ k. absurd (false≢true (sym few ∙ (and_parts (is_whole me (with_rank s.elector.acked f)) (is_allowed me i) k).0)))
        (λ _. done (record { phase = refl; candidate = stands; acked = refl; deferred = refl; timers = refl; changes = refl })))
        (λ isnt. absurd (false≢true (sym isnt ∙ stands)))))
      where
        not_below : ltb (epoch_of w) (epoch_of w) ≡ true → ⊥
        not_below t = let l = ltb-true (epoch_of w) (epoch_of w) t in omega arith

        voted : (is_even (epoch_of w) || ltb (epoch_of w) (epoch_of w)) ≡ true → ⊥
        voted t = elim (or_cases (is_even (epoch_of w)) (ltb (epoch_of w) (epoch_of w)) t) [ inl e ↦ false≢true (sym odd ∙ e) | inr e ↦ not_below e ]

    -- a call of a monitor to which it may defer is acknowledged
    pub takes_call : (f : ℕ) (t : Option Scores) → (is_allowed me f && stands_before me (table_or t s.elector.scores) f i) ≡ true → may_defer me (table_or t s.elector.scores) f s.elector.deferred ≡ true
        → Then (λ y. Stays false no_ranks (Some f) s.timers y × (y.out ≡ says body.Ack f ∷ [])) (hear_propose me now f (epoch_of w) t x)
    unfolding hear_propose
    takes_call f t better may =
        by_test (not (votes phase.Electing) || is_even (epoch_of w)) (λ k. absurd (false≢true (sym odd ∙ k))) (λ _.
        by_test (ltb (epoch_of w) (epoch_of w)) (λ t. absurd (not_below t)) (λ _.
        by_test (ltb (epoch_of w) (epoch_of w)) (λ t. absurd (not_below t)) (λ _.
        by_test (is_allowed me f && stands_before me (table_or t s.elector.scores) f i)
        (λ _. by_test (may_defer me (table_or t s.elector.scores) f s.elector.deferred)
        (λ _. done (record { phase = refl; candidate = refl; acked = refl; deferred = refl; timers = refl; changes = refl }, refl)) (λ isnt. absurd (false≢true (sym isnt ∙ may))))
        (λ isnt. absurd (false≢true (sym isnt ∙ better))))))
      where
        not_below : ltb (epoch_of w) (epoch_of w) ≡ true → ⊥
        not_below t = let l = ltb-true (epoch_of w) (epoch_of w) t in omega arith

    module _ (few : (f : ℕ) (m : Message) → came ≡ input.Deliver m → m.from ≡ f → is_whole me (with_rank s.elector.acked f) ≡ false) where
      asks_so : (f e : ℕ) (b : Body) → Heard ms.count came f e b → Asks b → AsksIn came
      asks_so f e b H k = subst AsksIn (sym H.is) (subst Asks (sym H.says) k)

      heard : (f e : ℕ) → e ≤ epoch_of w → (b : Body) → Heard ms.count came f e b → Then O (hear me sh now f e b x)
      unfolding hear_probe_reply hear_collect hear_last hear_begin hear_accept hear_commit hear_lease hear_lease_ack hear_forward hear_route hear_cookie hear_chunk hear_last_chunk hear_no_cookie
      heard f e low body.Probe H = probe_comes (asks_so f e body.Probe H tt) f
      heard f e low (body.ProbeReply q first last) H = nothing
      heard f e low (body.Propose t) H = propose_comes f e low t H
      heard f e low body.Ack H = ack_comes f e low (few f H.message H.is H.from) H
      heard f e low (body.Victory q) H = victory_comes f e low q
      heard f e low (body.Collect pn first last) H = nothing
      heard f e low (body.Last pn first last whole from values pending) H = nothing
      heard f e low (body.Begin pn v value) H = nothing
      heard f e low (body.Accept pn v) H = nothing
      heard f e low (body.Commit from values) H = nothing
      heard f e low (body.Lease last) H = nothing
      heard f e low (body.LeaseAck last) H = nothing
      heard f e low (body.Forward seq c) H = nothing
      heard f e low (body.Route seq r) H = nothing
      heard f e low body.GetCookieFull H = full_comes (asks_so f e body.GetCookieFull H tt) f
      heard f e low (body.GetCookieRecent last) H = recent_comes (asks_so f e (body.GetCookieRecent last) H tt) f last
      heard f e low (body.Cookie full c last) H = nothing
      heard f e low (body.GetChunk c p) H = chunk_comes (asks_so f e (body.GetChunk c p) H tt) f c p
      heard f e low (body.Chunk c p values entries end) H = nothing
      heard f e low (body.LastChunk c p values entries last) H = nothing
      heard f e low (body.NoCookie c) H = nothing
      heard f e low (body.Ping table) H = ping_comes (asks_so f e (body.Ping table) H tt) f table
      heard f e low (body.PingReply table) H = reply_comes f table
      heard f e low (body.Request id r) H = nothing
      heard f e low (body.Reply id r) H = nothing

      -- ---- timers and clients

      rung : (t : Timer) → came ≡ input.Timer t → is_armed t s.timers ≡ true → Then O (timer_comes me now t (disarm t x))
      rung t is on = subst (λ (k : Timer). came ≡ input.Timer k → Then O (timer_comes me now k (disarm k x))) (sym (kind (end_of t s.timers) refl on)) over is
        where
          kind : (o : Option ℕ) → end_of t s.timers ≡ o → is_some o ≡ true → t ≡ timer.Election
          kind None e k = absurd (false≢true k)
          kind (Some end) e k = only_one t end e

      replies : (u : Session) (r : _) → Then O (Ok (record x { out = sent.Reply u r ∷ [] }))
      replies u r = done (rest s.elector _ refl refl refl refl refl refl refl (tt, tt) (tt, tt))

      asked : (u : Session) (r : Request) → Then O (hear_client me now u r x)
      unfolding hear_client ask
      asked u (request.Set key value) = replies u _
      asked u (request.Remove key) = replies u _
      asked u (request.Log text) = replies u _
      asked u (request.Show v) = replies u _
      asked u (request.Since v n) = replies u _

      comes : (c : Input) → came ≡ c → IsLow (epoch_of w) c → Then O (running me sh now c x)
      comes input.Start is low = nothing
      comes (input.Deliver m) is low = by_test (is_heard me m) (λ t. heard m.from m.epoch low m.body (record { message = m; is = is; from = refl; monitors = eqb-true m.monitors ms.count (and_three (not (eqb m.from i)) (eqb m.monitors ms.count) _ t).1; epoch = refl; says = refl })) (λ _. nothing)
      comes (input.Timer t) is low = by_test (is_armed t s.timers) (λ on. rung t is on) (λ _. nothing)
      comes (input.Client u r) is low = asked u r

      pub reacted : s.phase ≡ phase.Electing → IsLow (epoch_of w) came → Then O (react me sh now w s came)
      unfolding react
      reacted elects low = subst (λ (p : Phase). Then O (react me sh now w (record s { phase = p }) came)) (sym elects) (comes came refl low)

    -- ---- the two messages that have to be taken

    module _ (elects : s.phase ≡ phase.Electing) (f : ℕ) (other : f ≡ i → ⊥) where
      heard_letter : Body → Message
      heard_letter b = record { from = f; monitors = ms.count; epoch = epoch_of w; body = b }

      taken : (P : Course → Type 0) (b : Body) → is_heard me (heard_letter b) ≡ true → Then P (hear me sh now f (epoch_of w) b x) → Then P (react me sh now w s (input.Deliver (heard_letter b)))
      unfolding react heard_letter
      taken P b t k = subst (λ (p : Phase). Then P (react me sh now w (record s { phase = p }) (input.Deliver (heard_letter b)))) (sym elects) (by_test (is_heard me (heard_letter b)) (λ _. k) (λ isnt. absurd (false≢true (sym isnt ∙ t))))

      pub ack_taken : is_whole me (with_rank s.elector.acked f) ≡ false → s.elector.candidate ≡ true
          → Then (Stays true (with_rank s.elector.acked f) s.elector.deferred s.timers) (react me sh now w s (input.Deliver (record { from = f; monitors = ms.count; epoch = epoch_of w; body = body.Ack })))
      unfolding heard_letter
      ack_taken few stands = taken (Stays true (with_rank s.elector.acked f) s.elector.deferred s.timers) body.Ack (rw (ne_eqb f i other, eq-eqb ms.count ms.count refl) refl) (takes_ack f few stands)

      pub call_taken : (is_allowed me f && stands_before me s.elector.scores f i) ≡ true → may_defer me s.elector.scores f s.elector.deferred ≡ true
          → Then (λ y. Stays false no_ranks (Some f) s.timers y × (y.out ≡ says body.Ack f ∷ [])) (react me sh now w s (input.Deliver (record { from = f; monitors = ms.count; epoch = epoch_of w; body = body.Propose None })))
      unfolding heard_letter
      call_taken better may = taken (λ y. Stays false no_ranks (Some f) s.timers y × (y.out ≡ says body.Ack f ∷ [])) (body.Propose None) (rw (ne_eqb f i other, eq-eqb ms.count ms.count refl, ranks) refl) (takes_call f None better may)

-- What a monitor that probes does at each input: it goes on with no fewer answers, calls an election, or begins a copy.
use Rattle.law_names.proofs.Runs.{Monitors}
use Rattle.law_names.proofs.Table.{AllByRecursion, Body, Cookie, Course, Entry, Input, Me, Phase, Place, Readings, Request, Scores, Session, State, Timer, Which, ask, at_rest, chunk, count_of, elect, epoch_of, full_sync, grant, has, hear, hear_accept, hear_ack, hear_begin, hear_chunk, hear_client, hear_collect, hear_commit, hear_cookie, hear_forward, hear_get_chunk, hear_get_cookie_full, hear_get_cookie_recent, hear_last, hear_last_chunk, hear_lease, hear_lease_ack, hear_no_cookie, hear_ping, hear_ping_reply, hear_probe, hear_probe_reply, hear_propose, hear_route, hear_victory, in_odd_epoch, is_after, is_armed, is_cookie, is_heard, is_majority, lag, message_to, no_ranks, quorum_of, react, recent_sync, running, same_phase, send, with_rank}
use Rattle.mon_msg.specs.declared.input.Input.TheVariants as input
use Rattle.mon_types.specs.declared.names.Which.TheVariants as which
use Rattle.mon_wire.specs.declared.body.Body.TheVariants as body
use Rattle.mon_wire.specs.declared.phase.Phase.TheVariants as phase
use Rattle.mon_wire.specs.declared.request.Request.TheVariants as request
use Rattle.quorum_model.proofs.Members.{member_of}
use Rattle.quorum_walk.proofs.Ranks.{has_with}
use Rattle.quorum_walk.proofs.Walk.{Then, and_then, by_test, done, where_fits}
use Rattle.std.proofs.Common.{Bool, Err, List, None, Ok, Option, Result, Some, [], arith, false, filter, length, ltb, not, refl, slice_index_or, subst, suc, sym, true, ℕ, ◌&&◌, ◌+◌, ◌<◌, ◌||◌, ◌∙◌, ◌∷◌, ◌≡◌}
use Rattle.std.proofs.lemmas.Bool.{and_parts, eq-eqb, false≢true, ltb-true, ne_eqb}
use Rattle.std.proofs.lemmas.List.{get_or-set_same, length-set}
use Rattle.timed_election.proofs.Quiet.{IsPlain, IsQuiet, plain_chunk}
use Rattle.timed_election.specs.Joining.{CausesNoCopy, NeedsNoCopy}

anything : (r : Result Course Which) → Then (λ (y : Course). Unit {0}) r
anything (Ok y) = done tt
anything (Err e) = record { holds = tt }

module _ (ms : Monitors) (i : ℕ) (lt : ltb i ms.count ≡ true) (now : ℕ) (sh : List Entry) (w : Readings) (s : State) where
  abbrev me : Me
  me = member_of ms i lt

  -- it still probes, with these timers and no fewer answers
  pub record Keeps (y : Course) : Type 0 where
    pub probes : y.state.phase ≡ phase.Probing
    pub timers : y.state.timers ≡ s.timers
    pub changes : y.changes ≡ []
    pub quiet : AllByRecursion (IsQuiet w i) y.out
    pub ranks : length s.prober.outside ≡ 15 → length y.state.prober.outside ≡ 15
    pub outside : (j : ℕ) → has s.prober.outside j ≡ true → has y.state.prober.outside j ≡ true
    pub few : is_majority ms.count s.prober.outside ≡ false → is_majority ms.count y.state.prober.outside ≡ false

  -- a reply of a monitor whose versions aren't near comes
  abbrev pub IsFar : Input → Type 0
  IsFar (input.Deliver m) = CausesNoCopy w.last m.body → ⊥
  IsFar other = ⊥

  pub data Probed (came : Input) (y : Course) : Type 0 where
    keeps : Keeps y → Probed came y
    elects : (z : State) → same_phase z.phase phase.Electing ≡ false → z.timers ≡ s.timers → elect me now (at_rest w z) ≡ Ok y → same_phase y.state.phase phase.Probing ≡ false → Probed came y
    copies : IsFar came → same_phase y.state.phase phase.Probing ≡ false → Probed came y

  pub keeps_on : (came : Input) (y : Course) → Probed came y → same_phase y.state.phase phase.Probing ≡ true → Keeps y
  keeps_on came y (keeps K) t = K
  keeps_on came y (elects z away ts is left) t = absurd (false≢true (sym left ∙ t))
  keeps_on came y (copies far left) t = absurd (false≢true (sym left ∙ t))

  -- of a reply of monitor f it knows that f is outside, if it goes on
  pub record Knows (f : ℕ) (y : Course) : Type 0 where
    pub still : same_phase y.state.phase phase.Probing ≡ true → has y.state.prober.outside f ≡ true

  abbrev x : Course
  x = at_rest w (record s { phase = phase.Probing })

  electing : (P : Course → Type 0) → ((y : Course) → same_phase y.state.phase phase.Probing ≡ false → P y) → (y : Course) → Then P (elect me now y)
  unfolding elect
  electing P k y = and_then (λ (z : Course). Unit {0}) P (in_odd_epoch y) _ (anything (in_odd_epoch y)) (λ z _. done (k _ refl))

  module _ (came : Input) where
    abbrev P : Course → Type 0
    P = Probed came

    keep : (y : Course) → y.state.phase ≡ phase.Probing → y.state.timers ≡ s.timers → y.state.prober ≡ s.prober → y.changes ≡ [] → AllByRecursion (IsQuiet w i) y.out → P y
    keep y a b c d quiet = keeps (record {
      probes = a;
      timers = b;
      changes = d;
      quiet = quiet;
      ranks = λ e. subst (λ z. length (z.outside) ≡ 15) (sym c) e;
      outside = λ j e. subst (λ z. has (z.outside) j ≡ true) (sym c) e;
      few = λ e. subst (λ z. is_majority ms.count (z.outside) ≡ false) (sym c) e;
    })

    nothing : Then P (Ok x)
    nothing = done (keep x refl refl refl refl tt)

    sends : (f : ℕ) (b : Body) (y : Course) → y.state.phase ≡ phase.Probing → y.state.timers ≡ s.timers → y.state.prober ≡ s.prober → y.changes ≡ [] → y.out ≡ message_to me (epoch_of w) b f ∷ [] → IsPlain w b → Then P (Ok y)
    sends f b y a c d e out plain = done (keep y a c d e (subst (AllByRecursion (IsQuiet w i)) (sym out) ((refl, refl, plain), tt)))

    elects_so : (z : State) → same_phase z.phase phase.Electing ≡ false → z.timers ≡ s.timers → Then P (elect me now (at_rest w z))
    elects_so z away ts = by (elect me now (at_rest w z)) refl (electing (λ y. same_phase y.state.phase phase.Probing ≡ false) (λ y e. e) (at_rest w z))
      where
        by : (r : Result Course Which) → elect me now (at_rest w z) ≡ r → Then (λ y. same_phase y.state.phase phase.Probing ≡ false) r → Then P r
        by (Ok y) is k = done (elects z away ts is k.holds)
        by (Err e) is k = record { holds = tt }

    probe_comes : (f : ℕ) → Then P (hear_probe me f x)
    unfolding hear_probe
    probe_comes f = by_test w.marked (λ _. nothing) (λ _. sends f (body.ProbeReply no_ranks w.first w.last) _ refl refl refl refl refl (refl, refl))

  module _ (unmarked : w.marked ≡ false) where
    reply_comes : (came : Input) (f : ℕ) (q : List Bool) (first last : ℕ) → ((NeedsNoCopy w.last first last → ⊥) → IsFar came) → Then (Probed came) (hear_probe_reply me now f q first last x)
    unfolding hear_probe_reply full_sync recent_sync
    reply_comes came f q first last far =
        by_test w.marked (λ t. absurd (false≢true (sym unmarked ∙ t))) (λ _.
        by_test (ltb w.last first && ltb 1 first) (λ t. done (copies (far (λ k. (let c = and_parts (ltb w.last first) (ltb 1 first) t in let a = ltb-true w.last first c.0 in let b = ltb-true 1 first c.1 in let z = k.0 in omega arith))) refl)) (λ _.
        by_test (ltb (w.last + lag) last) (λ t. done (copies (far (λ k. (let a = ltb-true (w.last + lag) last t in let z = k.1 in omega arith))) refl)) (λ _.
        by_test (ltb 0 (count_of q)) (λ _. elects_so came x.state refl refl) (λ _.
        by_test (is_majority ms.count (with_rank s.prober.outside f)) (λ _. elects_so came _ refl refl)
        (λ few. done (keeps (record {
          probes = refl;
          timers = refl;
          changes = refl;
          quiet = tt;
          ranks = λ e. length-set s.prober.outside f true ∙ e;
          outside = λ j e. has_with s.prober.outside f j e;
          few = λ _. few;
        })))))))

    reply_counts : (f : ℕ) (q : List Bool) (first last : ℕ) → has (with_rank s.prober.outside f) f ≡ true → Then (Knows f) (hear_probe_reply me now f q first last x)
    unfolding hear_probe_reply full_sync recent_sync
    reply_counts f q first last has_f =
        by_test w.marked (λ t. absurd (false≢true (sym unmarked ∙ t))) (λ _.
        by_test (ltb w.last first && ltb 1 first) (λ _. done (gone _ refl)) (λ _.
        by_test (ltb (w.last + lag) last) (λ _. done (gone _ refl)) (λ _.
        by_test (ltb 0 (count_of q)) (λ _. electing (Knows f) gone x) (λ _.
        by_test (is_majority ms.count (with_rank s.prober.outside f)) (λ _. electing (Knows f) gone _) (λ _. done (record { still = λ _. has_f }))))))
      where
        gone : (y : Course) → same_phase y.state.phase phase.Probing ≡ false → Knows f y
        gone y e = record { still = λ t. absurd (false≢true (sym e ∙ t)) }

    module _ (came : Input) where
      abbrev R : Course → Type 0
      R = Probed came

      grants : (full : Bool) (f : ℕ) → Then R (grant me full f x)
      grants full f = where_fits R which.Cookie s.provider.next_cookie _ (λ _. sends came f _ _ refl refl refl refl refl tt)

      full_comes : (f : ℕ) → Then R (hear_get_cookie_full me f x)
      unfolding hear_get_cookie_full
      full_comes f = by_test w.marked (λ _. nothing came) (λ _. grants true f)

      recent_comes : (f last : ℕ) → Then R (hear_get_cookie_recent me f last x)
      unfolding hear_get_cookie_recent
      recent_comes f last = by_test w.marked (λ _. nothing came) (λ _. by_test (ltb (suc last) w.first) (λ _. sends came f _ _ refl refl refl refl refl tt) (λ _. grants false f))

      chunk_comes : (f : ℕ) (c : Cookie) (p : Place) → Then R (hear_get_chunk me sh f c p x)
      unfolding hear_get_chunk
      chunk_comes f c p =
          by_test w.marked (λ _. nothing came) (λ _.
          by_test (not (is_cookie c (slice_index_or s.provider.cookies f None)) || ltb (suc p.version) w.first) (λ _. sends came f _ _ refl refl refl refl refl tt)
          (λ _. sends came f (chunk w.last c p (filter (is_after p.key) sh) ms.count w.record_of) _ refl refl refl refl refl (plain_chunk w ms.count c p (filter (is_after p.key) sh))))

      ping_comes : (f : ℕ) (table : Option Scores) → Then R (hear_ping me f table x)
      unfolding hear_ping
      ping_comes f None = nothing came
      ping_comes f (Some table) = done (keep came _ refl refl refl refl ((refl, refl, tt), tt))

      pong_comes : (f : ℕ) (table : Option Scores) → Then R (hear_ping_reply f table x)
      unfolding hear_ping_reply
      pong_comes f None = nothing came
      pong_comes f (Some table) = done (keep came _ refl refl refl refl tt)

      heard : (f e : ℕ) (b : Body) → ((CausesNoCopy w.last b → ⊥) → IsFar came) → Then R (hear me sh now f e b x)
      unfolding hear_propose hear_ack hear_victory hear_collect hear_last hear_begin hear_accept hear_commit hear_lease hear_lease_ack hear_forward hear_route hear_cookie hear_chunk hear_last_chunk hear_no_cookie
      heard f e body.Probe far = probe_comes came f
      heard f e (body.ProbeReply q first last) far = reply_comes came f q first last far
      heard f e (body.Propose t) far = nothing came
      heard f e body.Ack far = nothing came
      heard f e (body.Victory q) far = nothing came
      heard f e (body.Collect pn first last) far = nothing came
      heard f e (body.Last pn first last whole from values pending) far = nothing came
      heard f e (body.Begin pn v value) far = nothing came
      heard f e (body.Accept pn v) far = nothing came
      heard f e (body.Commit from values) far = nothing came
      heard f e (body.Lease last) far = nothing came
      heard f e (body.LeaseAck last) far = nothing came
      heard f e (body.Forward seq c) far = nothing came
      heard f e (body.Route seq r) far = nothing came
      heard f e body.GetCookieFull far = full_comes f
      heard f e (body.GetCookieRecent last) far = recent_comes f last
      heard f e (body.Cookie full c last) far = nothing came
      heard f e (body.GetChunk c p) far = chunk_comes f c p
      heard f e (body.Chunk c p values entries end) far = nothing came
      heard f e (body.LastChunk c p values entries last) far = nothing came
      heard f e (body.NoCookie c) far = nothing came
      heard f e (body.Ping table) far = ping_comes f table
      heard f e (body.PingReply table) far = pong_comes f table
      heard f e (body.Request id r) far = nothing came
      heard f e (body.Reply id r) far = nothing came

      asked : (u : Session) (r : Request) → Then R (hear_client me now u r x)
      unfolding hear_client ask
      asked u (request.Set key value) = done (keep came _ refl refl refl refl (tt, tt))
      asked u (request.Remove key) = done (keep came _ refl refl refl refl (tt, tt))
      asked u (request.Log text) = done (keep came _ refl refl refl refl (tt, tt))
      asked u (request.Show v) = done (keep came _ refl refl refl refl (tt, tt))
      asked u (request.Since v n) = done (keep came _ refl refl refl refl (tt, tt))

      comes : (c : Input) → came ≡ c → ((t : Timer) → came ≡ input.Timer t → is_armed t s.timers ≡ true → ⊥) → Then R (running me sh now c x)
      comes input.Start is k = nothing came
      comes (input.Deliver m) is k = by_test (is_heard me m) (λ _. heard m.from m.epoch m.body (λ far. subst IsFar (sym is) far)) (λ _. nothing came)
      comes (input.Timer t) is k = by_test (is_armed t s.timers) (λ on. absurd (k t is on)) (λ _. nothing came)
      comes (input.Client u r) is k = asked u r

      pub probed : s.phase ≡ phase.Probing → ((t : Timer) → came ≡ input.Timer t → is_armed t s.timers ≡ true → ⊥) → Then R (react me sh now w s came)
      unfolding react
      probed is k = subst (λ (p : Phase). Then R (react me sh now w (record s { phase = p }) came)) (sym is) (comes came refl k)

    -- a reply that it hears counts
    pub reply_taken : s.phase ≡ phase.Probing → (f e : ℕ) (q : List Bool) (first last : ℕ) → (f ≡ i → ⊥) → f < length s.prober.outside
        → Then (Knows f) (react me sh now w s (input.Deliver (record { from = f; monitors = ms.count; epoch = e; body = body.ProbeReply q first last })))
    unfolding react
    reply_taken is f e q first last other low =
        let t : is_heard me (record { from = f; monitors = ms.count; epoch = e; body = body.ProbeReply q first last }) ≡ true = rw (ne_eqb f i other, eq-eqb ms.count ms.count refl) refl in
        subst (λ (p : Phase). Then (Knows f) (react me sh now w (record s { phase = p }) (input.Deliver (record { from = f; monitors = ms.count; epoch = e; body = body.ProbeReply q first last })))) (sym is)
        (by_test (is_heard me (record { from = f; monitors = ms.count; epoch = e; body = body.ProbeReply q first last }))
        (λ _. reply_counts f q first last (get_or-set_same s.prober.outside f true false low)) (λ isnt. absurd (false≢true (sym isnt ∙ t))))

    -- a monitor that has started answers PROBE
    pub probe_answered : same_phase s.phase phase.Booting ≡ false → (f e : ℕ) → (f ≡ i → ⊥)
        → react me sh now w s (input.Deliver (record { from = f; monitors = ms.count; epoch = e; body = body.Probe })) ≡ Ok (send me f (body.ProbeReply (quorum_of s) w.first w.last) (at_rest w s))
    unfolding react hear_probe
    probe_answered started f e other = rw (started, ne_eqb f i other, eq-eqb ms.count ms.count refl, unmarked) refl

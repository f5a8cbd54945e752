-- A marked monitor sends others nothing of the log: it asks, and refuses clients.
use Rattle.law_names.proofs.Table.{Body, Command, Cookie, Course, Entry, Input, Me, Op, Phase, Place as ChunkPlace, Readings, Reply, Request, Scores, Sent, Session, State, SyncStage, Timer, Told, Which, ask, ask_chunk, at_rest, awaits_cookie, before_start, bootstrap, copy, disarm, election_ends, elector_is, end_of, epoch_of, first_place, full_sync, hear, hear_accept, hear_ack, hear_begin, hear_chunk, hear_client, hear_collect, hear_commit, hear_cookie, hear_forward, hear_get_chunk, hear_get_cookie_full, hear_get_cookie_recent, hear_last, hear_last_chunk, hear_lease, hear_lease_ack, hear_no_cookie, hear_ping, hear_ping_reply, hear_probe, hear_probe_reply, hear_propose, hear_route, hear_victory, is_cookie, is_heard, is_ours, learn, measure, message_to, next_place, note_table, of_provider, others, own_table, ping, propose_due, react, read, renew, replay, replay_any, replay_or_end, replay_step, requester_is, running, same_cookie, same_flag, same_phase, shown, since, start, step_in, step_of, take, timer_comes, ◌▸◌}
use Rattle.log_copies.proofs.Acts.{Then, and_then, done, where_fits}
use Rattle.log_copies.proofs.Aside.{IsAside}
use Rattle.log_copies.proofs.Rows.{branch}
use Rattle.log_copies.proofs.Sending.{AllMatch, BodyMatches, ReplyMatches, each_tells, more_tell}
use Rattle.mon_bytes.specs.declared.command.Command.TheVariants as command
use Rattle.mon_msg.specs.Protocol.Places as places
use Rattle.mon_msg.specs.declared.input.Input.TheVariants as input
use Rattle.mon_msg.specs.declared.plan.Sent.TheVariants as sent
use Rattle.mon_msg.specs.declared.synchronization.SyncStage.TheVariants as sync
use Rattle.mon_types.specs.declared.names.Which.TheVariants as which
use Rattle.mon_wire.specs.declared.body.Body.TheVariants as body
use Rattle.mon_wire.specs.declared.phase.Phase.TheVariants as phase
use Rattle.mon_wire.specs.declared.phase.Timer.TheVariants as timer
use Rattle.mon_wire.specs.declared.reply.Reply.TheVariants as reply
use Rattle.mon_wire.specs.declared.request.Request.TheVariants as request
use Rattle.std.proofs.Common.{Bool, List, None, Ok, Option, Result, Some, [], cond, false, inl, inr, is_some, leb, length, ltb, map, not, subst, suc, sym, true, ℕ, ◌&&◌, ◌++◌, ◌+◌, ◌-◌, ◌<◌, ◌||◌, ◌∙◌, ◌∷◌, ◌≡◌, ◌⊎◌}
use Rattle.std.proofs.lemmas.Bool.{lt-ltb}

module _ (log : List (List ℕ)) (me : Me) (several : 1 < me.member.monitors) (now : ℕ) where
  -- the parts of the log in what was sent so far are the log's
  record MatchesAll (out : List Sent) : Type 0 where
    tells : AllMatch log out

  abbrev Matches : Course → Type 0
  Matches x = MatchesAll x.out

  nothing : MatchesAll []
  nothing = record { tells = tt }

  more : {out : List Sent} (sends : List Sent) → AllMatch log sends → MatchesAll out → MatchesAll (out ++ sends)
  more {out} sends h H = record { tells = more_tell log out sends H.tells h }

  says : {out : List Sent} (e : ℕ) (b : Body) (to : ℕ) → BodyMatches log b → MatchesAll out → MatchesAll (out ++ message_to me e b to ∷ [])
  says e b to h H = more (message_to me e b to ∷ []) (h, tt) H

  says_each : {out : List Sent} (e : ℕ) (b : Body) (ks : List ℕ) → BodyMatches log b → MatchesAll out → MatchesAll (out ++ map (message_to me e b) ks)
  says_each e b ks h H = more (map (message_to me e b) ks) (each_tells log me e b ks h) H

  replies : {out : List Sent} (s : Session) (r : Reply) → ReplyMatches log r → MatchesAll out → MatchesAll (out ++ sent.Reply s r ∷ [])
  replies s r h H = more (sent.Reply s r ∷ []) (h, tt) H

  stay : (x : Course) → Matches x → Then Matches (Ok x)
  stay x H = done Matches x H

  stay_if : (b : Bool) (x : Course) (r : Result Course Which) → b ≡ true → Matches x → Then Matches (cond b (Ok x) r)
  stay_if true x r h H = stay x H
  stay_if false x r h H = absurd cc

  anew : (x : Course) → Matches x → Then Matches (bootstrap me now x)
  unfolding bootstrap
  anew x H = rw (lt-ltb 1 me.member.monitors several) (done Matches _ (says_each (epoch_of x.readings) body.Probe (others me) tt H))

  asks_copy : (f : ℕ) (x : Course) → Matches x → Matches (full_sync me now f x)
  unfolding full_sync
  asks_copy f x H = says (epoch_of x.readings) body.GetCookieFull f tt H

  -- ---- its own copy

  cookie_comes : (f : ℕ) (full : Bool) (c : Cookie) (last : ℕ) (x : Course) → Matches x → Then Matches (hear_cookie me now f full c last x)
  unfolding hear_cookie
  cookie_comes f full c last x H =
      branch {b = not (of_provider f x && awaits_cookie x.state.requester.stage && same_flag full x.state.requester.full) || (full && ltb last x.readings.floor)} (λ t. stay x H)
      (λ t. done Matches _ (says (epoch_of x.readings) (body.GetChunk c (first_place full last x.readings.last)) x.state.requester.provider tt H))

  learns : (v : ℕ) (values : List (List Op)) (x : Course) → Matches x → Then Matches (learn v values x)
  unfolding learn
  learns v [] x H = stay x H
  learns v (value ∷ values) x H = where_fits Matches which.Version (v + length values) _ (done Matches _ H)

  copies : (b : Bool) (v : ℕ) (values : List (List Op)) (entries : List Entry) (x : Course) → Matches x → Then Matches (copy b v values entries x)
  copies true v values entries x H = done Matches _ H
  copies false v values entries x H = learns v values x H

  takes : (p : ChunkPlace) (values : List (List Op)) (entries : List Entry) (end : Bool) (x : Course) → Matches x → Then Matches (take p values entries end x)
  takes p values entries end x H =
      where_fits Matches which.Version (p.version + length values) _
      (and_then Matches Matches (copy x.state.requester.full (suc p.version) values entries x) (λ y. Ok (y ▸ requester_is (record y.state.requester { place = next_place p (p.version + length values) entries end })))
      (copies x.state.requester.full (suc p.version) values entries x H) (λ y K. done Matches _ K))

  chunk_comes : (f : ℕ) (c : Cookie) (p : ChunkPlace) (values : List (List Op)) (entries : List Entry) (end : Bool) (x : Course) → Matches x → Then Matches (hear_chunk me now f c p values entries end x)
  unfolding hear_chunk
  chunk_comes f c p values entries end x H =
      branch {b = is_ours f c p x}
      (λ t. and_then Matches Matches (take p values entries end x) (λ y. Ok (ask_chunk me now c y.state.requester.place y)) (takes p values entries end x H)
      (λ y K. done Matches _ (says (epoch_of y.readings) (body.GetChunk c y.state.requester.place) y.state.requester.provider tt K))) (λ t. stay x H)

  last_chunk_comes : (f : ℕ) (c : Cookie) (p : ChunkPlace) (values : List (List Op)) (entries : List Entry) (own : ℕ) (x : Course) → Matches x → Then Matches (hear_last_chunk me now f c p values entries own x)
  unfolding hear_last_chunk
  last_chunk_comes f c p values entries own x H =
      branch {b = is_ours f c p x} (λ t. and_then Matches Matches (take p values entries true x) (replay_or_end me now own) (takes p values entries true x H) (λ y K.
      branch {b = y.state.requester.full} (λ u. where_fits Matches which.Version (suc y.state.requester.start) _ (done Matches _ K)) (λ u. anew y K))) (λ t. stay x H)

  no_cookie : (f : ℕ) (c : Cookie) (x : Course) → Matches x → Then Matches (hear_no_cookie me now f c x)
  unfolding hear_no_cookie
  no_cookie f c x H =
      branch {b = of_provider f x && (is_cookie c x.state.requester.cookie || (awaits_cookie x.state.requester.stage && not x.state.requester.full && same_cookie c places.no_cookie))}
      (λ t. anew x H) (λ t. stay x H)

  replays : (next end : ℕ) (values : List (List Op)) (x : Course) → Matches x → Then Matches (replay me now next end values x)
  replays next end values x H = branch {b = ltb end (next + length values)} (λ t. anew _ H) (λ t. done Matches _ H)

  steps_in : (g : SyncStage) (x : Course) → Matches x → Then Matches (step_in me now g x)
  steps_in sync.Cookie x H = stay x H
  steps_in sync.Chunks x H = stay x H
  steps_in (sync.Replay next end) x H = any (step_of x.readings.record_of (suc end - next) next)
    where
      any : (values : Option (List (List Op))) → Then Matches (replay_any me now next end values x)
      any None = anew x H
      any (Some values) = replays next end values x H

  steps : (x : Course) → Matches x → Then Matches (replay_step me now x)
  unfolding replay_step
  steps x H = branch {b = same_phase x.state.phase phase.Synchronizing} (λ t. steps_in x.state.requester.stage x H) (λ t. stay x H)

  pings : (f : ℕ) (table : Option Scores) (x : Course) → Matches x → Then Matches (hear_ping me f table x)
  unfolding hear_ping
  pings f None x H = stay x H
  pings f (Some table) x H = done Matches _ (says (epoch_of x.readings) (body.PingReply (own_table me (note_table f table x))) f tt H)

  ping_reply : (f : ℕ) (table : Option Scores) (x : Course) → Matches x → Then Matches (hear_ping_reply f table x)
  unfolding hear_ping_reply
  ping_reply f None x H = stay x H
  ping_reply f (Some table) x H = done Matches _ H

  -- ---- whatever else comes

  module _ (x : Course) (A : IsAside x.state.phase) (marked : x.readings.marked ≡ true) (H : Matches x) where
    probe_comes : (f : ℕ) → Then Matches (hear_probe me f x)
    unfolding hear_probe
    probe_comes f = stay_if x.readings.marked x _ marked H

    probe_reply : (f : ℕ) (quorum : List Bool) (first last : ℕ) → Then Matches (hear_probe_reply me now f quorum first last x)
    unfolding hear_probe_reply
    probe_reply f quorum first last =
        branch {b = not (same_phase x.state.phase phase.Probing)} (λ t. stay x H)
        (λ t. branch {b = x.readings.marked} (λ u. branch {b = leb 1 last && leb x.readings.floor last} (λ v. done Matches _ (asks_copy f x H)) (λ v. stay x H))
        (λ u. let g : true ≡ false = sym marked ∙ u in absurd cc))

    propose : (f t : ℕ) (table : Option Scores) → Then Matches (hear_propose me now f t table x)
    unfolding hear_propose
    propose f t table = rw A.votes (stay x H)

    ack : (f t : ℕ) → Then Matches (hear_ack me now f t x)
    unfolding hear_ack
    ack f t = rw A.votes (stay x H)

    victory : (f t : ℕ) (q : List Bool) → Then Matches (hear_victory me now f t q x)
    unfolding hear_victory
    victory f t q = rw A.votes (stay x H)

    collect : (f t pn first last : ℕ) → Then Matches (hear_collect me now f t pn first last x)
    unfolding hear_collect
    collect f t pn first last = rw A.peon (stay x H)

    last : (f t pn first own : ℕ) (whole : Bool) (from : ℕ) (values : List (List Op)) (told : Option Told) → Then Matches (hear_last me now f t pn first own whole from values told x)
    unfolding hear_last
    last f t pn first own whole from values told = rw A.collecting (stay x H)

    begin : (f t pn v : ℕ) (value : List Op) → Then Matches (hear_begin me f t pn v value x)
    unfolding hear_begin
    begin f t pn v value = rw A.peon (stay x H)

    accept : (f t pn v : ℕ) → Then Matches (hear_accept me now f t pn v x)
    unfolding hear_accept
    accept f t pn v = rw (A.previous, A.updating) (stay x H)

    commit : (f t from : ℕ) (values : List (List Op)) → Then Matches (hear_commit f t from values x)
    unfolding hear_commit
    commit f t from values = rw A.peon (stay x H)

    lease : (f t own : ℕ) → Then Matches (hear_lease me now f t own x)
    unfolding hear_lease
    lease f t own = rw A.peon (stay x H)

    lease_ack : (f t own : ℕ) → Then Matches (hear_lease_ack me f t own x)
    unfolding hear_lease_ack
    lease_ack f t own = rw A.active (stay x H)

    forward : (f t seq : ℕ) (c : Command) → Then Matches (hear_forward me now f t seq c x)
    unfolding hear_forward
    forward f t seq c = rw (A.collecting, A.previous, A.active, A.updating) (stay x H)

    route : (f t seq : ℕ) (r : Reply) → Then Matches (hear_route f t seq r x)
    unfolding hear_route
    route f t seq r = rw A.peon (stay x H)

    get_cookie_full : (f : ℕ) → Then Matches (hear_get_cookie_full me f x)
    unfolding hear_get_cookie_full
    get_cookie_full f = stay_if x.readings.marked x _ marked H

    get_cookie_recent : (f own : ℕ) → Then Matches (hear_get_cookie_recent me f own x)
    unfolding hear_get_cookie_recent
    get_cookie_recent f own = stay_if x.readings.marked x _ marked H

    get_chunk : (shared : List Entry) (f : ℕ) (c : Cookie) (p : ChunkPlace) → Then Matches (hear_get_chunk me shared f c p x)
    unfolding hear_get_chunk
    get_chunk shared f c p = stay_if x.readings.marked x _ marked H

    hears : (shared : List Entry) (f t : ℕ) (b : Body) → Then Matches (hear me shared now f t b x)
    hears shared f t body.Probe = probe_comes f
    hears shared f t (body.ProbeReply quorum first own) = probe_reply f quorum first own
    hears shared f t (body.Propose table) = propose f t table
    hears shared f t body.Ack = ack f t
    hears shared f t (body.Victory quorum) = victory f t quorum
    hears shared f t (body.Collect pn first own) = collect f t pn first own
    hears shared f t (body.Last pn first own whole from values pending) = last f t pn first own whole from values pending
    hears shared f t (body.Begin pn v value) = begin f t pn v value
    hears shared f t (body.Accept pn v) = accept f t pn v
    hears shared f t (body.Commit from values) = commit f t from values
    hears shared f t (body.Lease own) = lease f t own
    hears shared f t (body.LeaseAck own) = lease_ack f t own
    hears shared f t (body.Forward seq c) = forward f t seq c
    hears shared f t (body.Route seq r) = route f t seq r
    hears shared f t body.GetCookieFull = get_cookie_full f
    hears shared f t (body.GetCookieRecent own) = get_cookie_recent f own
    hears shared f t (body.Cookie full cookie own) = cookie_comes f full cookie own x H
    hears shared f t (body.GetChunk cookie p) = get_chunk shared f cookie p
    hears shared f t (body.Chunk cookie p values entries end) = chunk_comes f cookie p values entries end x H
    hears shared f t (body.LastChunk cookie p values entries own) = last_chunk_comes f cookie p values entries own x H
    hears shared f t (body.NoCookie cookie) = no_cookie f cookie x H
    hears shared f t (body.Ping table) = pings f table x H
    hears shared f t (body.PingReply table) = ping_reply f table x H
    hears shared f t (body.Request id r) = stay x H
    hears shared f t (body.Reply id r) = stay x H

    asks : (s : Session) (c : Command) → Then Matches (ask me now s c x)
    unfolding ask
    asks s c = rw (A.leading, A.peon) (done Matches _ (replies s reply.Unavailable tt H))

    reads : (s : Session) (reading : Readings → Reply) → Then Matches (read me now s reading x)
    reads s reading = rw (A.leading, A.peon) (done Matches _ (replies s reply.Unavailable tt H))

    clients : (s : Session) (r : Request) → Then Matches (hear_client me now s r x)
    unfolding hear_client
    clients s (request.Set key value) = asks s (command.Set key value)
    clients s (request.Remove key) = asks s (command.Remove key)
    clients s (request.Log text) = asks s (command.Log text)
    clients s (request.Show service) = reads s (λ w. shown w service)
    clients s (request.Since service v) = reads s (λ w. since w service v)

    rings : (t : Timer) → Then Matches (timer_comes me now t x)
    unfolding election_ends renew propose_due ping
    rings timer.Election = rw A.electing (stay x H)
    rings timer.Renew = rw A.active (stay x H)
    rings timer.Step = steps x H
    rings timer.Propose = rw A.active (stay x H)
    rings timer.Ping = done Matches _ (says_each (epoch_of x.readings) (body.Ping (own_table me (elector_is (measure me now x.state.elector) x))) (others me) tt H)
    rings other = anew x H

  -- ---- one that starts

  starts : (x : Course) → Matches x → Then Matches (start me now x)
  unfolding start
  starts x H = where_fits Matches which.Boot (suc x.readings.boot) _ (anew _ H)

  starting : (came : Input) (x : Course) → Matches x → Then Matches (before_start me now came x)
  starting input.Start x H = starts x H
  starting (input.Deliver d) x H = stay x H
  starting (input.Timer t) x H = stay x H
  starting (input.Client session r) x H = done Matches _ (replies session reply.Unavailable tt H)

  -- ---- whatever comes

  pub asks_only : (shared : List Entry) (w : Readings) (s : State) → w.marked ≡ true → IsAside s.phase ⊎ (s.phase ≡ phase.Booting) → (came : Input) (y : Course) → react me shared now w s came ≡ Ok y → AllMatch log y.out
  unfolding react
  asks_only shared w s marked A came y e = let h = (walked).holds y e in h.tells
    where
      aside : same_phase s.phase phase.Booting ≡ false → IsAside s.phase
      aside running = by A
        where
          by : IsAside s.phase ⊎ (s.phase ≡ phase.Booting) → IsAside s.phase
          by (inl a) = a
          by (inr is) = let g : true ≡ false = subst (λ (p : Phase). same_phase p phase.Booting ≡ false) is running in absurd cc

      runs : IsAside s.phase → (came : Input) → Then Matches (running me shared now came (at_rest w s))
      runs B input.Start = stay (at_rest w s) nothing
      runs B (input.Deliver d) = branch {b = is_heard me d} (λ t. hears (at_rest w s) B marked nothing shared d.from d.epoch d.body) (λ t. stay (at_rest w s) nothing)
      runs B (input.Timer t) = branch {b = is_some (end_of t s.timers)} (λ u. rings (disarm t (at_rest w s)) B marked nothing t) (λ u. stay (at_rest w s) nothing)
      runs B (input.Client session r) = clients (at_rest w s) B marked nothing session r

      walked : Then Matches (cond (same_phase s.phase phase.Booting) (before_start me now came (at_rest w s)) (running me shared now came (at_rest w s)))
      walked = branch {b = same_phase s.phase phase.Booting} (λ t. starting came (at_rest w s) nothing) (λ t. runs (aside t) came)

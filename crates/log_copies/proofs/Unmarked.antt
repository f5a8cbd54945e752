-- Every event of an unmarked monitor that has versions of the log leaves it versions of the log, or it begins a full
-- synchronization.
use Rattle.law_names.proofs.Runs.{AllValues}
use Rattle.law_names.proofs.Table.{Body, Boot, Course, Entry, Epoch, Input, Me, Readings, Reply, Request, Session, State, Store, Timer, Which, are_within, arm_if, at_rest, before_start, cell, change, change_if, count_of, disarm, elector_is, end_of, epoch_of, extend, first_elector, floor_of, full_sync, hear, hear_client, hear_probe_reply, is_even, is_heard, is_leading, is_majority, is_whole, lag, marks, measure, members, others, own_table, ping, prober_is, react, readings_of, recent_sync, renew, running, same_phase, scores_count, shared_entries, shown, since, start, timer_comes, votes, with_rank, ◌▸◌}
use Rattle.log_copies.proofs.Acts.{Then, asks_versions, changes, changes_if, done, says_each, where_fits, within}
use Rattle.log_copies.proofs.Agreeing.{Here, IsRecent, again, chunk_comes, cookie_comes, get_chunk, get_cookie_full, get_cookie_recent, last_chunk_comes, lease_ack_comes, lease_comes, no_cookie, ping_comes, ping_reply, probe_comes, reads, route_comes, stay, steps_none}
use Rattle.log_copies.proofs.Copying.{begun}
use Rattle.log_copies.proofs.Matching.{IsTold, monitor_keeps, shown_told, since_told}
use Rattle.log_copies.proofs.Rows.{HasOthers, accept_comes, acked, anew_votes, asked, begin_comes, branch, collect_comes, commit_comes, election_over, forwarded, last_comes, proposed, proposes_due, tells_reply, victory}
use Rattle.log_copies.proofs.Sending.{AllMatch, ReplyMatches, reply_tells}
use Rattle.log_copies.proofs.Shape.{monitor_shaped}
use Rattle.log_copies.proofs.UnderWay.{UnderWay}
use Rattle.log_copies.specs.Synchronizing.{written}
use Rattle.log_copies.specs.Versions.{HasVersions}
use Rattle.log_model.proofs.Records.{AreVersions, IsVersion}
use Rattle.mon_bytes.specs.declared.command.Command.TheVariants as command
use Rattle.mon_msg.proofs.Joining.{apply-joined}
use Rattle.mon_msg.specs.Protocol.Probing.{join_outside}
use Rattle.mon_msg.specs.declared.input.Input.TheVariants as input
use Rattle.mon_tx.specs.declared.key.Area.TheVariants as area
use Rattle.mon_tx.specs.declared.key.Key.TheVariants as key
use Rattle.mon_types.specs.declared.names.Which.TheVariants as which
use Rattle.mon_wire.specs.declared.body.Body.TheVariants as body
use Rattle.mon_wire.specs.declared.phase.Phase.TheVariants as phase
use Rattle.mon_wire.specs.declared.phase.Timer.TheVariants as timer
use Rattle.mon_wire.specs.declared.reply.Reply.TheVariants as reply
use Rattle.mon_wire.specs.declared.request.Request.TheVariants as request
use Rattle.std.proofs.Common.{Bool, IfSome, List, Ok, Result, [], ap, arith, cond, false, inl, inr, is_some, length, ltb, not, refl, subst, suc, sym, true, ℕ, ◌&&◌, ◌+◌, ◌<◌, ◌^◌, ◌∙◌, ◌≡◌, ◌≤◌, ◌⊎◌}

-- a monitor that isn't marked, with versions of the log
pub record OnLog (log : List (List ℕ)) (m : Store) : Type 0 where
  pub last : ℕ
  pub versions : HasVersions log last m
  pub unmarked : (readings_of m).marked ≡ false

-- ---- what other parts of the invariant say of the monitor, and of what arrives at it

pub record Situated (me : Me) (w : Readings) (s : State) : Type 0 where
  pub leads : is_leading s.phase ≡ true → HasOthers me s.leader.quorum
  pub elects : same_phase s.phase phase.Electing ≡ true → is_majority me.member.monitors s.elector.acked ≡ true → HasOthers me s.elector.acked
  pub recent : same_phase s.phase phase.Synchronizing ≡ true → IsRecent w s.requester

-- Values in messages are the log's, in order. The leader's own value is the log's next one, once its whole quorum
-- accepted it.
abbrev pub BodyFits : List (List ℕ) → Me → Readings → State → (f : ℕ) → Body → Type 0
BodyFits log me w s f body.Ack = votes s.phase ≡ true → is_even (epoch_of w) ≡ false → is_whole me (with_rank s.elector.acked f) ≡ true → HasOthers me (with_rank s.elector.acked f)
BodyFits log me w s f (body.Last pn first last whole from values pending) = (from ≤ suc w.last) × AreVersions log from values
BodyFits log me w s f (body.Accept pn v) =
    are_within me.member.monitors s.leader.quorum (with_rank s.leader.accepted f) ≡ true → IfSome s.leader.value (λ value. IsVersion log (suc w.last) value)
BodyFits log me w s f (body.Commit from values) = AreVersions log from values
BodyFits log me w s f (body.Route seq r) = ReplyMatches log r
BodyFits log me w s f (body.GetChunk cookie p) = p.version ≤ w.last
BodyFits log me w s f (body.Chunk cookie p values entries end) = AreVersions log (suc p.version) values
BodyFits log me w s f (body.LastChunk cookie p values entries last) = AreVersions log (suc p.version) values
BodyFits log me w s f other = Unit {0}

abbrev pub InputFits : List (List ℕ) → Me → Readings → State → Input → Type 0
InputFits log me w s (input.Deliver d) = BodyFits log me w s d.from d.body
InputFits log me w s other = Unit {0}

module _ (log : List (List ℕ)) (fits : length log ≤ 2 ^ 62) (all : AllValues log) (m : Store) (me : Me) (several : 1 < me.member.monitors) (now : ℕ) where
  abbrev On : Course → Type 0
  On x = Here log fits all m me several now x

  -- it begins a full synchronization, and does nothing else
  record Marks (x y : Course) : Type 0 where
    from : ℕ
    is : y ≡ full_sync me now from x

  abbrev Out : Course → Course → Type 0
  Out x y = On y ⊎ Marks x y

  weaker : {x : Course} {r : Result Course Which} → Then On r → Then (Out x) r
  weaker h = record { holds = λ y e. inl (h.holds y e) }

  copies : (f : ℕ) (x : Course) → Then (Out x) (Ok (full_sync me now f x))
  copies f x = done (Out x) (full_sync me now f x) (inr (record { from = f; is = refl }))

  probe_reply : (f : ℕ) (quorum : List Bool) (first last : ℕ) (x : Course) → x.readings.marked ≡ false → On x → Then (Out x) (hear_probe_reply me now f quorum first last x)
  unfolding hear_probe_reply
  probe_reply f quorum first last x unmarked H =
      branch {b = not (same_phase x.state.phase phase.Probing)} (λ t. weaker (stay log fits all m me several now H)) (λ t.
      branch {b = x.readings.marked} (λ u. let g : true ≡ false = sym u ∙ unmarked in absurd cc) (λ u.
      branch {b = ltb x.readings.last first && ltb 1 first} (λ v. copies f x) (λ v.
      branch {b = ltb (x.readings.last + lag) last} (λ k. weaker (done On (recent_sync me now f x) (asks_versions log fits all m me several now f x H))) (λ k.
      branch {b = ltb 0 (count_of quorum)} (λ j. weaker (anew_votes log fits all m me several now x H)) (λ j. weaker (joins x H))))))
    where
      joins : (x : Course) → On x → Then On (join_outside me now f x)
      joins x H =
          let outside = with_rank x.state.prober.outside f in
          let y = prober_is (record { outside = outside }) x in
          branch {b = is_majority me.member.monitors outside} (λ t. anew_votes log fits all m me several now y H) (λ t. stay log fits all m me several now H)

  -- ---- a monitor that runs

  module _ (s : State) (unmarked : (readings_of m).marked ≡ false) (V : HasVersions log (readings_of m).last m) (S : Situated me (readings_of m) s) where
    abbrev shared : List Entry
    shared = shared_entries m

    heard : (f t : ℕ) (b : Body) (x : Course) → x ≡ at_rest (readings_of m) s → On x → BodyFits log me (readings_of m) s f b → Then (Out x) (hear me shared now f t b x)
    heard f t b x is H h = subst (λ (z : Course). On z → Then (Out z) (hear me shared now f t b z)) (sym is) (λ K. by f t b h K) H
      where
        by : (f t : ℕ) (b : Body) → BodyFits log me (readings_of m) s f b → On (at_rest (readings_of m) s) → Then (Out (at_rest (readings_of m) s)) (hear me shared now f t b (at_rest (readings_of m) s))
        by f t body.Probe h H = weaker (probe_comes log fits all m me several now f (at_rest (readings_of m) s) H)
        by f t (body.ProbeReply quorum first last) h H = probe_reply f quorum first last (at_rest (readings_of m) s) unmarked H
        by f t (body.Propose table) h H = weaker (proposed log fits all m me several now f t table (at_rest (readings_of m) s) H)
        by f t body.Ack h H = weaker (acked log fits all m me several now f t (at_rest (readings_of m) s) h H)
        by f t (body.Victory quorum) h H = weaker (victory log fits all m me several now f t quorum (at_rest (readings_of m) s) H)
        by f t (body.Collect pn first last) h H = weaker (collect_comes log fits all m me several now f t pn first last (at_rest (readings_of m) s) H)
        by f t (body.Last pn first last whole from values told) h H = weaker (last_comes log fits all m me several now f t pn first last whole from values told (at_rest (readings_of m) s) S.leads h.0 h.1 H)
        by f t (body.Begin pn v value) h H = weaker (begin_comes log fits all m me several now f t pn v value (at_rest (readings_of m) s) H)
        by f t (body.Accept pn v) h H = weaker (accept_comes log fits all m me several now f t pn v (at_rest (readings_of m) s) h H)
        by f t (body.Commit from values) h H = weaker (commit_comes log fits all m me several now f t from values (at_rest (readings_of m) s) h H)
        by f t (body.Lease last) h H = weaker (lease_comes log fits all m me several now f t last (at_rest (readings_of m) s) H)
        by f t (body.LeaseAck last) h H = weaker (lease_ack_comes log fits all m me several now f t last (at_rest (readings_of m) s) H)
        by f t (body.Forward seq c) h H = weaker (forwarded log fits all m me several now f t seq c (at_rest (readings_of m) s) S.leads H)
        by f t (body.Route seq r) h H = weaker (route_comes log fits all m me several now f t seq r (at_rest (readings_of m) s) h H)
        by f t body.GetCookieFull h H = weaker (get_cookie_full log fits all m me several now f (at_rest (readings_of m) s) H)
        by f t (body.GetCookieRecent last) h H = weaker (get_cookie_recent log fits all m me several now f last (at_rest (readings_of m) s) H)
        by f t (body.Cookie full cookie last) h H = weaker (cookie_comes log fits all m me several now f full cookie last (at_rest (readings_of m) s) H)
        by f t (body.GetChunk cookie p) h H = weaker (get_chunk log fits all m me several now f cookie p (at_rest (readings_of m) s) V refl h H)
        by f t (body.Chunk cookie p values entries end) h H = weaker (chunk_comes log fits all m me several now (at_rest (readings_of m) s) S.recent H f cookie p values entries end h)
        by f t (body.LastChunk cookie p values entries last) h H = weaker (last_chunk_comes log fits all m me several now (at_rest (readings_of m) s) S.recent H f cookie p values entries last h)
        by f t (body.NoCookie cookie) h H = weaker (no_cookie log fits all m me several now f cookie (at_rest (readings_of m) s) H)
        by f t (body.Ping table) h H = weaker (ping_comes log fits all m me several now f table (at_rest (readings_of m) s) H)
        by f t (body.PingReply table) h H = weaker (ping_reply log fits all m me several now f table (at_rest (readings_of m) s) H)
        by f t (body.Request id r) h H = weaker (stay log fits all m me several now H)
        by f t (body.Reply id r) h H = weaker (stay log fits all m me several now H)

    module _ (H : On (at_rest (readings_of m) s)) where
      abbrev x0 : Course
      x0 = at_rest (readings_of m) s

      tells : (r : Reply) → IsTold log (readings_of m).last r → ReplyMatches log r
      tells r h = reply_tells log r (record { version = (readings_of m).last; within = V.within; told = h })

      client : (session : Session) (r : Request) → Then On (hear_client me now session r x0)
      unfolding hear_client
      client session (request.Set k v) = asked log fits all m me several now session (command.Set k v) x0 S.leads H
      client session (request.Remove k) = asked log fits all m me several now session (command.Remove k) x0 S.leads H
      client session (request.Log text) = asked log fits all m me several now session (command.Log text) x0 S.leads H
      client session (request.Show service) = reads log fits all m me several now session (λ w. shown w service) x0 (tells (shown (readings_of m) service) (shown_told log fits all (readings_of m).last m V service)) H
      client session (request.Since service v) = reads log fits all m me several now session (λ w. since w service v) x0 (tells (since (readings_of m) service v) (since_told log fits all (readings_of m).last m V service v)) H

      extends : On x0 → On (extend me now (disarm timer.Renew x0))
      unfolding extend
      extends H = says_each log fits all m me (epoch_of (readings_of m)) (body.Lease (readings_of m).last) (members me s.leader.quorum) (within log fits all m H) H

      rung : (t : Timer) → Then On (timer_comes me now t (disarm t x0))
      unfolding renew ping
      rung timer.Probe = again log fits all m me several now (disarm timer.Probe x0) H
      rung timer.Election = election_over log fits all m me several now (disarm timer.Election x0) S.elects H
      rung timer.Collect = again log fits all m me several now (disarm timer.Collect x0) H
      rung timer.Accept = again log fits all m me several now (disarm timer.Accept x0) H
      rung timer.Renew = branch {b = not (same_phase s.phase phase.Active)} (λ t. stay log fits all m me several now H) (λ t. done On _ (extends H))
      rung timer.LeaseAck = again log fits all m me several now (disarm timer.LeaseAck x0) H
      rung timer.Lease = again log fits all m me several now (disarm timer.Lease x0) H
      rung timer.Sync = again log fits all m me several now (disarm timer.Sync x0) H
      rung timer.Step = steps_none log fits all m me several now (disarm timer.Step x0) S.recent H
      rung timer.Propose = proposes_due log fits all m me several now (disarm timer.Propose x0) S.leads H
      rung timer.Ping = done On _ (says_each log fits all m me (epoch_of (readings_of m)) (body.Ping (own_table me (elector_is (measure me now s.elector) (disarm timer.Ping x0)))) (others me) tt H)

      runs : (came : Input) → InputFits log me (readings_of m) s came → Then (Out x0) (running me shared now came x0)
      runs input.Start h = weaker (stay log fits all m me several now H)
      runs (input.Deliver d) h = branch {b = is_heard me d} (λ t. heard d.from d.epoch d.body x0 refl H h) (λ t. weaker (stay log fits all m me several now H))
      runs (input.Timer t) h = weaker (branch {b = is_some (end_of t s.timers)} (λ u. rung t) (λ u. stay log fits all m me several now H))
      runs (input.Client session r) h = weaker (client session r)

  -- ---- and one that starts

  starts : (s : State) → On (at_rest (readings_of m) s) → Then On (start me now (at_rest (readings_of m) s))
  unfolding start
  starts s H =
      let boot = suc (readings_of m).boot in
      let x1 : Course = change (Boot boot) (at_rest (readings_of m) s) in
      let x2 : Course = change_if (not (is_some (readings_of m).epoch)) (Epoch 1) x1 in
      where_fits On which.Boot boot _
      (again log fits all m me several now (x2 ▸ elector_is (first_elector me now boot s.elector) ▸ arm_if (scores_count me.rule) now timer.Ping)
      (changes_if log fits all m (not (is_some (readings_of m).epoch)) (Epoch 1) x1 tt (changes log fits all m (Boot boot) (readings_of m) [] tt H)))

  starting : (s : State) (came : Input) → On (at_rest (readings_of m) s) → Then On (before_start me now came (at_rest (readings_of m) s))
  starting s input.Start H = starts s H
  starting s (input.Deliver d) H = stay log fits all m me several now H
  starting s (input.Timer t) H = stay log fits all m me several now H
  starting s (input.Client session r) H = done On _ (tells_reply log fits all m me several now session reply.Unavailable tt H)

  -- ---- whatever comes

  -- it has versions of the log, or takes a copy
  abbrev pub Outcome : Course → Type 0
  Outcome y = OnLog log (written m y) ⊎ UnderWay log (readings_of m) (floor_of (readings_of m)) (written m y) y.state

  asks_copy : (f : ℕ) (s : State) → AllMatch log (full_sync me now f (at_rest (readings_of m) s)).out
  unfolding full_sync
  asks_copy f s = (tt, tt)

  still : (readings_of m).marked ≡ false → (n : Store) → cell n area.Sync key.InSync ≡ cell m area.Sync key.InSync → (readings_of n).marked ≡ false
  unfolding readings_of
  still unmarked n same = ap marks same ∙ unmarked

  pub agrees : (s : State) → HasVersions log (readings_of m).last m → (readings_of m).marked ≡ false → Situated me (readings_of m) s → (came : Input) → InputFits log me (readings_of m) s came → (y : Course)
      → react me (shared_entries m) now (readings_of m) s came ≡ Ok y → Outcome y × AllMatch log y.out
  unfolding react
  agrees s V unmarked S came h y e = by ((walked).holds y e)
    where
      here : On (at_rest (readings_of m) s)
      here = record { mark = ap (λ (n : Store). cell n area.Sync key.InSync) (apply-joined [] m); has = subst (HasVersions log (readings_of m).last) (sym (apply-joined [] m)) V; keeps = monitor_keeps log fits all (readings_of m).last m V; tells = tt }

      walked : Then (Out (at_rest (readings_of m) s)) (cond (same_phase s.phase phase.Booting) (before_start me now came (at_rest (readings_of m) s)) (running me (shared_entries m) now came (at_rest (readings_of m) s)))
      walked = branch {b = same_phase s.phase phase.Booting} (λ t. weaker (starting s came here)) (λ t. runs s unmarked V S here came h)

      by : Out (at_rest (readings_of m) s) y → Outcome y × AllMatch log y.out
      by (inl H) = (inl (record { last = y.readings.last; versions = H.has; unmarked = still unmarked (written m y) H.mark }), H.tells)
      by (inr M) = (
        inr (subst (λ (z : Course). UnderWay log (readings_of m) (floor_of (readings_of m)) (written m z) z.state) (sym M.is)
            (begun log fits all me (readings_of m) (floor_of (readings_of m)) now M.from m s (record { last_pn = refl; promise = refl; epoch = refl }) (omega arith)
            (monitor_shaped log fits all (readings_of m).last V.within m V.folded))),
        subst (λ (z : Course). AllMatch log z.out) (sym M.is) (asks_copy M.from s),
      )

-- What is seen of a monitor after each event is true, or lags.
use Rattle.law_names.proofs.Table.{AllByRecursion, Asked, Body, Command, CommandRefused, Cookie, Course, Entry, Input, MOST_WAITING, Me, Message, Op, Origin, Phase, Place as ChunkPlace, Promise, Readings, Reply, Request, Scores, Sent, Session, State, SyncStage, Timer, Told, Waiting, all_accepted, all_answered, answer_to, ask, asked_of, at_leader, at_peon, at_rest, awaits_cookie, before_start, begin_made, bootstrap, cancel, chunk, commit_any, copy, count_of, counts, disarm, elect, election_ends, elector_is, end_of, epoch_of, epoch_or_first, first_place, full_sync, grant, has, has_queue, hear, hear_accept, hear_ack, hear_begin, hear_chunk, hear_client, hear_collect, hear_commit, hear_cookie, hear_forward, hear_get_chunk, hear_get_cookie_full, hear_get_cookie_recent, hear_last, hear_last_chunk, hear_lease, hear_lease_ack, hear_no_cookie, hear_ping, hear_ping_reply, hear_probe, hear_probe_reply, hear_propose, hear_route, hear_victory, hear_whole, is_after, is_allowed, is_alone, is_cookie, is_even, is_heard, is_leading, is_majority, is_member, is_ours, is_peon, is_standing, is_too_long, is_whole, lag, last_answer, leader_is, learn, lease_of, may_propose, measure, merge, message_to, news, news_from, no_cookie, note, note_pending, note_table, of_leader, of_member, of_provider, others, own_table, pending, ping, played, promise, promise_of, propose, propose_due, propose_first, propose_next, quorum_of, react, read, readable, recent_sync, record_changes, refusal, renew, replay_any, replay_step, reply_to, running, same_cookie, same_flag, same_phase, say, service_last, service_of, shown, since, start, step_in, step_of, table_or, take, timer_comes, too_long, value, votes, with_rank, ◌▸◌}
use Rattle.mon_bytes.specs.declared.command.Command.TheVariants as command
use Rattle.mon_decode.specs.Headers.{heading, kind_in}
use Rattle.mon_msg.specs.declared.input.Input.TheVariants as input
use Rattle.mon_msg.specs.declared.paxos.LeaderStage.TheVariants as stage
use Rattle.mon_msg.specs.declared.plan.Origin.TheVariants as origin
use Rattle.mon_msg.specs.declared.plan.Sent.TheVariants as sent
use Rattle.mon_msg.specs.declared.synchronization.SyncStage.TheVariants as sync
use Rattle.mon_types.specs.declared.names.Which.TheVariants as which
use Rattle.mon_watch.specs.Seen.{after_header, shown as shown_in}
use Rattle.mon_watch.specs.declared.seen.Seen.{Seen}
use Rattle.mon_wire.specs.declared.body.Body.TheVariants as body
use Rattle.mon_wire.specs.declared.phase.Phase.TheVariants as phase
use Rattle.mon_wire.specs.declared.phase.Timer.TheVariants as timer
use Rattle.mon_wire.specs.declared.reply.Reply.TheVariants as reply
use Rattle.mon_wire.specs.declared.request.Request.TheVariants as request
use Rattle.quorum_history.proofs.Phases.{active_is, collecting_is, electing_is, peon_is_peon}
use Rattle.quorum_walk.proofs.FineCourses.{BodyFine, EntryFine, Made, RecordsFine, Val}
use Rattle.quorum_walk.proofs.FineReading.{all_spare, entries_spare, step_of_fine}
use Rattle.quorum_walk.proofs.FineTable.{ComesFine}
use Rattle.quorum_walk.proofs.Lists.{all_drop, all_of}
use Rattle.quorum_walk.proofs.Parity.{odd_before}
use Rattle.quorum_walk.proofs.Sparing.{Own, copied_own, learned_own, records_own}
use Rattle.quorum_walk.proofs.Walk.{Then, and_then, and_three, by_test, done, or_three, where_fits}
use Rattle.std.proofs.Common.{Bool, Err, IfSome, List, None, Ok, Option, Result, Some, [], ap, cond, eqb, false, filter, inl, inr, is_some, leb, length, ltb, map, not, refl, slice_index_or, slice_set, subst, suc, sym, true, ℕ, ◌&&◌, ◌+◌, ◌-◌, ◌||◌, ◌∙◌, ◌∷◌, ◌≡◌, ◌⊎◌}
use Rattle.std.proofs.lemmas.Bool.{and_parts, eqb-true, false≢true, not-false, or_parts}
use Rattle.watch_laws.proofs.Acts as acts
use Rattle.watch_laws.proofs.Acts.{Kept, learns_sparing, then_map}
use Rattle.watch_laws.proofs.Phases.{accepted_is, answer_is, chunk_silent, same_parity, votes_electing}
use Rattle.watch_laws.proofs.Showing.{At, IsIdle, IsSilent, Shown, all, idle_alone, saying, shown_by, shown_one, source_one}
use Rattle.watch_laws.specs.Watching.{ReadsShort}

module _ (me : Me) (now : ℕ) (is_read : Message → Bool) (R : ReadsShort is_read) (several : ltb 1 me.member.monitors ≡ true) (strict : Bool) (seen : Seen) (w : Readings) (s : State) where
  abbrev Keeps : Course → Type 0
  Keeps = acts.Keeps me now is_read R several strict seen

  abbrev x0 : Course
  x0 = at_rest w s

  -- what is seen, with this epoch and phase
  abbrev Now : Seen → ℕ → Phase → Type 0
  Now z e p = At me is_read strict z e p s.leader.quorum s.peon.leader s.requester.provider

  bootstraps : (x : Course) → Then Keeps (bootstrap me now x)
  bootstraps = acts.bootstraps me now is_read R several strict seen

  elects : (x : Course) → Then Keeps (elect me now x)
  elects = acts.elects me now is_read R several strict seen

  starts : Then Keeps (start me now x0)
  unfolding start
  starts = where_fits Keeps which.Boot (suc w.boot) _ (λ _. bootstraps _)

  module _ (K : Keeps x0) (loose : (strict ≡ false) ⊎ (seen.phase ≡ phase.Booting)) (even : is_member s.phase ≡ true → is_even (epoch_of w) ≡ true) where
    rests : Then Keeps (Ok x0)
    rests = done K

    quiet : (x : Course) (sends : List Sent) → AllByRecursion IsSilent sends → Keeps x → Keeps (say sends x)
    quiet = acts.quiet me now is_read R several strict seen

    idle : s.phase ≡ phase.Electing → IsIdle strict seen
    idle e = by (subst (Now seen (epoch_of w)) e K)
      where
        by : (seen.phase ≡ phase.Booting) ⊎ Shown phase.Electing (epoch_of w) None seen → IsIdle strict seen
        by (inl b) = inl b
        by (inr h) = elim loose [ inl f ↦ inr (h.phase, f) | inr b ↦ inl b ]

    -- who votes in an odd epoch elects
    electing : votes s.phase ≡ true → is_even (epoch_of w) ≡ false → s.phase ≡ phase.Electing
    electing t odd = votes_electing s.phase t (λ m. false≢true (sym odd ∙ even m))

    company : (s.phase ≡ phase.Collecting) ⊎ ((s.phase ≡ phase.Previous) ⊎ ((s.phase ≡ phase.Active) ⊎ (s.phase ≡ phase.Updating))) → is_alone me s.leader.quorum ≡ true → IsIdle strict seen
    company = idle_alone me is_read strict seen (epoch_of w) s.phase s.leader.quorum s.peon.leader s.requester.provider K

    -- ---- elections and probes

    probed : (f : ℕ) → Then Keeps (hear_probe me f x0)
    unfolding hear_probe
    probed f = by_test w.marked (λ _. rests) (λ _. done (quiet x0 (message_to me (epoch_of w) (body.ProbeReply (quorum_of s) w.first w.last) f ∷ []) (refl, tt) K))

    probe_answered : (f : ℕ) (q : List Bool) (first last : ℕ) → Then Keeps (hear_probe_reply me now f q first last x0)
    unfolding hear_probe_reply full_sync recent_sync
    probe_answered f q first last =
        by_test (not (same_phase s.phase phase.Probing)) (λ _. rests) (λ _.
        by_test w.marked (λ _. by_test (leb 1 last && leb w.floor last) (λ _. full) (λ _. rests)) (λ _.
        by_test (ltb w.last first && ltb 1 first) (λ _. full) (λ _.
        by_test (ltb (w.last + lag) last) (λ _. recent) (λ _.
        by_test (ltb 0 (count_of q)) (λ _. elects x0) (λ _.
        by_test (is_majority me.member.monitors (with_rank s.prober.outside f)) (λ _. elects _) (λ _. done K))))))
      where
        full : Then Keeps (Ok (full_sync me now f x0))
        full = done (inr (shown_one me is_read phase.Synchronizing (epoch_of w) None (saying me (epoch_of w) body.GetCookieFull) f (R (saying me (epoch_of w) body.GetCookieFull) refl) refl refl refl seen, source_one me is_read (saying me (epoch_of w) body.GetCookieFull) f (R (saying me (epoch_of w) body.GetCookieFull) refl) refl seen))

        recent : Then Keeps (Ok (recent_sync me now f x0))
        recent =
            let m = saying me (epoch_of w) (body.GetCookieRecent w.last) in
            done (inr (shown_one me is_read phase.Synchronizing (epoch_of w) None m f (R m refl) refl refl refl seen, source_one me is_read m f (R m refl) refl seen))

    proposed : (f e : ℕ) (table : Option Scores) → Then Keeps (hear_propose me now f e table x0)
    unfolding hear_propose
    proposed f e table =
        by_test (not (votes s.phase) || is_even e) (λ _. rests) (λ heard.
        by_test (ltb e (epoch_of w)) (λ _. by_test (is_even (epoch_of w) && not (has (quorum_of s) f)) (λ _. elects x0) (λ _. rests)) (λ low.
        by_test (ltb (epoch_of w) e) (λ _. acts.weighs_joined me now is_read R several strict seen (table_or table s.elector.scores) table f e x0)
        (λ high. let t = or_parts (not (votes s.phase)) (is_even e) heard in
        acts.weighs me now is_read R several strict seen (table_or table s.elector.scores) f (merge table x0) (electing (not-false (votes s.phase) t.0) (same_parity e (epoch_of w) low high t.1)) K)))

    acked : (f e : ℕ) → Then Keeps (hear_ack me now f e x0)
    unfolding hear_ack
    acked f e =
        by_test (not (votes s.phase) || is_even e || ltb e (epoch_of w)) (λ _. rests) (λ heard.
        by_test (ltb (epoch_of w) e) (λ _. elects _) (λ high.
        by_test s.elector.candidate (λ _. by_test (is_whole me (with_rank s.elector.acked f) && is_allowed me me.member.rank)
        (λ _. let t = or_three (not (votes s.phase)) (is_even e) (ltb e (epoch_of w)) heard in
        acts.wins me now is_read R several strict seen (with_rank s.elector.acked f) _ (idle (electing (not-false (votes s.phase) t.0) (same_parity e (epoch_of w) t.2 high t.1)))) (λ _. done K)) (λ _. rests)))

    victory : (f e : ℕ) (q : List Bool) → Then Keeps (hear_victory me now f e q x0)
    unfolding hear_victory
    victory f e q =
        by_test (not (votes s.phase) || not (is_even e) || leb e (epoch_of w)) (λ _. rests) (λ heard.
        by_test (not (eqb e (suc (epoch_of w)))) (λ _. elects _) (λ next. by_test (has q me.member.rank && has q f && is_majority me.member.monitors q)
        (λ _. let t = or_three (not (votes s.phase)) (not (is_even e)) (leb e (epoch_of w)) heard in
        done (inl (idle (electing (not-false (votes s.phase) t.0) (odd_before (epoch_of w) (ap is_even (sym (eqb-true e (suc (epoch_of w)) (not-false _ next))) ∙ not-false (is_even e) t.1)))))) (λ _. rests)))

    election_over : (ts : List (Option ℕ)) → Then Keeps (election_ends me now (at_rest w (record s { timers = ts })))
    unfolding election_ends
    election_over ts =
        by_test (not (same_phase s.phase phase.Electing)) (λ _. done K)
        (λ t. by_test (s.elector.candidate && is_allowed me me.member.rank && is_majority me.member.monitors s.elector.acked)
        (λ _. acts.wins me now is_read R several strict seen s.elector.acked _ (idle (electing_is s.phase (not-false _ t)))) (λ _. elects _))

    -- ---- a peon

    module _ (f e : ℕ) (L : of_leader f e x0 ≡ true) where
      peon : is_peon s.phase ≡ true
      peon = (and_three (is_peon s.phase) (eqb e (epoch_of w)) (eqb f s.peon.leader) L).0

      its_leader : f ≡ s.peon.leader
      its_leader = eqb-true f s.peon.leader (and_three (is_peon s.phase) (eqb e (epoch_of w)) (eqb f s.peon.leader) L).2

      -- it answers its leader; nothing changes if that isn't read
      answers : (now_in : ℕ) → now_in ≡ epoch_of w → (b : Body) → shown_in (kind_in b) ≡ Some phase.Peon → Now (all me is_read (message_to me now_in b f ∷ []) seen) now_in s.phase
      answers now_in same b r = by (is_read (saying me now_in b))
        where
          by : (c : Bool) → Now (cond c (after_header me.member.rank f (Some (heading (saying me now_in b))) seen) seen) now_in s.phase
          by true = subst (Now (after_header me.member.rank f (Some (heading (saying me now_in b))) seen) now_in) (sym (peon_is_peon s.phase peon))
              (inr (shown_by me is_read phase.Peon now_in (Some s.peon.leader) (saying me now_in b) f refl (ap Some its_leader) true refl (shown_in (kind_in b)) r seen))
          by false = subst (λ (z : ℕ). Now seen z s.phase) (sym same) K

    collect_heard : (f e pn first last : ℕ) → Then Keeps (hear_collect me now f e pn first last x0)
    unfolding hear_collect
    collect_heard f e pn first last = by_test (not (of_leader f e x0)) (λ _. rests) (λ heard. by_test (ltb (suc w.last) first) (λ _. bootstraps x0) (λ _. where_fits Keeps which.Version (suc last) _
        (λ _. done (let y = x0 ▸ cancel ▸ promise pn in answers f e (not-false _ heard) (epoch_of y.readings) (promised (ltb (promise_of w) pn)) (last_answer me.member.monitors y.readings (suc last)) (answer_is me.member.monitors y.readings (suc last))))))
      where
        promised : (b : Bool) → epoch_of (played (cond b (Promise pn ∷ []) []) w) ≡ epoch_of w
        promised true = refl
        promised false = refl

    begin_heard : (f e pn v : ℕ) (value : List Op) → Then Keeps (hear_begin me f e pn v value x0)
    unfolding hear_begin
    begin_heard f e pn v value = by_test (not (of_leader f e x0 && eqb pn (promise_of w) && eqb v (suc w.last))) (λ _. rests)
        (λ heard. done (answers f e (and_three (of_leader f e x0) (eqb pn (promise_of w)) (eqb v (suc w.last)) (not-false _ heard)).0 (epoch_of w) refl (body.Accept pn v) refl))

    kept : (y : Course) → Kept x0 y → Keeps y
    kept y k = acts.kept me now is_read R several strict seen x0 y k K

    commit_heard : (f e from : ℕ) (values : List (List Op)) → AllByRecursion Val values → Then Keeps (hear_commit f e from values x0)
    unfolding hear_commit
    commit_heard f e from values V = by_test (not (of_leader f e x0) || ltb (suc w.last) from) (λ _. rests)
        (λ _. then_map (Kept x0) Keeps _ kept (learns_sparing (suc w.last) (news w.last from values) x0 (all_spare _ (all_drop Val _ values V))))

    lease_heard : (f e last : ℕ) → Then Keeps (hear_lease me now f e last x0)
    unfolding hear_lease
    lease_heard f e last = by_test (not (of_leader f e x0) || not (eqb last w.last) || is_some (pending w)) (λ _. rests)
        (λ heard. done (answers f e (not-false _ (or_three (not (of_leader f e x0)) (not (eqb last w.last)) (is_some (pending w)) heard).0) (epoch_of w) refl (body.LeaseAck w.last) refl))

    -- ---- a leader

    abbrev Noted : Course → Type 0
    Noted y = Keeps y × (y.state.phase ≡ phase.Collecting)

    last_heard : (f e pn first last : ℕ) (whole : Bool) (from : ℕ) (values : List (List Op)) (told : Option Told) → AllByRecursion Val values → Then Keeps (hear_last me now f e pn first last whole from values told x0)
    unfolding hear_last
    last_heard f e pn first last whole from values told V =
        by_test (not (of_member (phase.Collecting ∷ []) f e x0)) (λ _. rests) (λ heard.
        by_test (ltb s.leader.pn pn) (λ _. acts.collects me now is_read R several strict seen s.leader.quorum pn x0 (company (inl (is heard)))) (λ _.
        by_test (ltb pn s.leader.pn) (λ _. rests) (λ _.
        by_test (ltb (suc w.last) first && ltb w.last last) (λ _. bootstraps x0) (λ _.
        and_then (Kept x0) Keeps (learn (news_from w.last from) (news w.last from values) x0) _ (learns_sparing (news_from w.last from) (news w.last from values) x0 (all_spare _ (all_drop Val _ values V)))
        (λ y k. by_test whole (λ _. heard_whole y (kept y k) (in_phase y k heard)) (λ _. acts.collects me now is_read R several strict seen y.state.leader.quorum 0 y (acts.alone_in me now is_read R several strict seen y (kept y k) (in_phase y k heard))))))))
      where
        is : not (of_member (phase.Collecting ∷ []) f e x0) ≡ false → s.phase ≡ phase.Collecting
        is heard = collecting_is s.phase (and_three (same_phase s.phase phase.Collecting || false) (eqb e (epoch_of w)) (has s.leader.quorum f) (not-false _ heard)).0

        in_phase : (y : Course) → Kept x0 y → not (of_member (phase.Collecting ∷ []) f e x0) ≡ false → y.state.phase ≡ phase.Collecting
        in_phase y k heard = ap (λ (z : State). z.phase) k.state ∙ is heard

        notes : (o : Option Told) (y : Course) → Noted y → Then Noted (note_pending f last o y)
        notes None y k = done k
        notes (Some u) y k = where_fits Noted which.Version (suc last) _ (λ _. done k)

        heard_whole : (y : Course) → Keeps y → y.state.phase ≡ phase.Collecting → Then Keeps (hear_whole me now f last told y)
        heard_whole y k p = and_then Noted Keeps (note f last told y) _ (notes (counts told) y (k, p))
            (λ z N. by_test (all_answered me z) (λ _. acts.settles me now is_read R several strict seen z (acts.alone_in me now is_read R several strict seen z N.0 N.1) (acts.collecting me now is_read R several strict seen z N.0 N.1)) (λ _. done N.0))

    abbrev counted : ℕ → Course
    counted f = x0 ▸ leader_is (record s.leader { accepted = with_rank s.leader.accepted f })

    accept_heard : (f e pn v : ℕ) → Then Keeps (hear_accept me now f e pn v x0)
    unfolding hear_accept
    accept_heard f e pn v =
        by_test (not (of_member (phase.Previous ∷ phase.Updating ∷ []) f e x0 && eqb pn s.leader.pn && eqb v (suc w.last))) (λ _. rests)
        (λ heard. by_test (all_accepted me (counted f)) (λ _. any s.leader.value (is heard)) (λ _. done K))
      where
        is : not (of_member (phase.Previous ∷ phase.Updating ∷ []) f e x0 && eqb pn s.leader.pn && eqb v (suc w.last)) ≡ false → (s.phase ≡ phase.Previous) ⊎ (s.phase ≡ phase.Updating)
        is heard =
            let member = (and_three (of_member (phase.Previous ∷ phase.Updating ∷ []) f e x0) (eqb pn s.leader.pn) (eqb v (suc w.last)) (not-false _ heard)).0 in
            accepted_is s.phase (and_three (same_phase s.phase phase.Previous || (same_phase s.phase phase.Updating || false)) (eqb e (epoch_of w)) (has s.leader.quorum f) member).0

        led : (s.phase ≡ phase.Previous) ⊎ (s.phase ≡ phase.Updating) → is_alone me s.leader.quorum ≡ true → IsIdle strict seen
        led (inl e) = company (inr (inl e))
        led (inr e) = company (inr (inr (inr e)))

        any : (o : Option (List Op)) → (s.phase ≡ phase.Previous) ⊎ (s.phase ≡ phase.Updating) → Then Keeps (commit_any me now o (counted f))
        any None p = done K
        any (Some value) p = acts.commits me now is_read R several strict seen value (counted f) (led p)

    lease_ack_heard : (f e last : ℕ) → Then Keeps (hear_lease_ack me f e last x0)
    unfolding hear_lease_ack
    lease_ack_heard f e last = by_test (not (of_member (phase.Active ∷ []) f e x0 && eqb last w.last)) (λ _. rests) (λ _. done K)

    renews : (ts : List (Option ℕ)) → Then Keeps (renew me now (at_rest w (record s { timers = ts })))
    unfolding renew
    renews ts = by_test (not (same_phase s.phase phase.Active)) (λ _. done K)
        (λ t. let p = active_is s.phase (not-false _ t) in done (acts.extends me now is_read R several strict seen (at_rest w (record s { timers = ts })) p (company (inr (inr (inl p))))))

    -- ---- commands

    module _ (z : State) (Z : Keeps (at_rest w z)) where
      answered : (o : Origin) (r : Reply) → Then Keeps (Ok (say (answer_to me (epoch_of w) o r ∷ []) (at_rest w z)))
      answered o r = done (quiet (at_rest w z) (answer_to me (epoch_of w) o r ∷ []) (acts.silent_answer me now is_read R several strict seen (epoch_of w) o r) Z)

      proposes : (c : Command) (o : Origin) → z.phase ≡ phase.Active → Then Keeps (propose me now c o (at_rest w z))
      unfolding propose
      proposes c o p = where_fits Keeps which.Version (suc (service_last w (service_of c))) _ (λ _. by (value w c (asked_of me o)))
        where
          by : (r : Result (List Op) CommandRefused) → Then Keeps (begin_made me now o r (at_rest w z))
          by (Ok ops) = acts.begins me now is_read R several strict seen stage.Updating ops (Some o) (at_rest w z)
              (idle_alone me is_read strict seen (epoch_of w) z.phase z.leader.quorum z.peon.leader z.requester.provider Z (inr (inr (inl p))))
              (subst (λ (y : Phase). At me is_read strict seen (epoch_of w) y z.leader.quorum z.peon.leader z.requester.provider) p Z)
          by (Err e) = done (quiet (at_rest w z) (answer_to me (epoch_of w) o (refusal e) ∷ []) (acts.silent_answer me now is_read R several strict seen (epoch_of w) o (refusal e)) Z)

      at_leads : (c : Command) (o : Origin) → Then Keeps (at_leader me now c o (at_rest w z))
      at_leads c o =
          by_test (is_too_long c) (λ _. answered o (too_long c)) (λ _.
          by_test (may_propose me now (at_rest w z) && not (has_queue (at_rest w z))) (λ t. proposes c o (active_is z.phase (and_parts _ (is_standing me now z) (and_parts (may_propose me now (at_rest w z)) _ t).0).0)) (λ _.
          by_test (leb MOST_WAITING (length z.clients.queue)) (λ _. answered o (reply.Busy MOST_WAITING)) (λ _. done Z)))

    forward_heard : (f e seq : ℕ) (c : Command) → Then Keeps (hear_forward me now f e seq c x0)
    unfolding hear_forward
    forward_heard f e seq c =
        by_test (not (of_member (phase.Collecting ∷ phase.Previous ∷ phase.Active ∷ phase.Updating ∷ []) f e x0 && ltb (slice_index_or s.clients.taken f 0) seq)) (λ _. rests)
        (λ _. at_leads (record s { clients = record s.clients { taken = slice_set s.clients.taken f seq } }) K c (origin.Forwarded f seq))

    due : (ts : List (Option ℕ)) → Then Keeps (propose_due me now (at_rest w (record s { timers = ts })))
    unfolding propose_due propose_next
    due ts = by_test (may_propose me now (at_rest w (record s { timers = ts }))) (λ t. first s.clients.queue (active_is s.phase (and_parts _ (is_standing me now (record s { timers = ts })) t).0)) (λ _. done K)
      where
        first : (ws : List Waiting) → s.phase ≡ phase.Active → Then Keeps (propose_first me now ws (at_rest w (record s { timers = ts })))
        first [] p = done K
        first (x ∷ ws) p = proposes (record s { timers = ts; clients = record s.clients { queue = ws } }) K x.command x.origin p

    route_heard : (f e seq : ℕ) (r : Reply) → Then Keeps (hear_route f e seq r x0)
    unfolding hear_route
    route_heard f e seq r = by_test (not (of_leader f e x0)) (λ _. rests) (λ _. done (quiet x0 (map (λ (a : Asked). sent.Reply a.session r) (filter (λ (a : Asked). eqb a.seq seq) s.clients.sessions))
        (all_of IsSilent (λ (a : Asked). sent.Reply a.session r) (λ a. tt) (filter (λ (a : Asked). eqb a.seq seq) s.clients.sessions)) K))

    -- ---- a client

    module _ (u : Session) where
      replied : (r : Reply) → Then Keeps (Ok (reply_to u r x0))
      replied r = done (quiet x0 (sent.Reply u r ∷ []) (tt, tt) K)

      at_peons : (c : Command) → Then Keeps (at_peon me c u x0)
      at_peons c =
          by_test (is_too_long c) (λ _. replied (too_long c)) (λ _.
          by_test (leb MOST_WAITING (length s.clients.sessions)) (λ _. replied (reply.Busy MOST_WAITING)) (λ _. where_fits Keeps which.Seq s.clients.next_seq _
          (λ _. done (quiet x0 (message_to me (epoch_of w) (body.Forward s.clients.next_seq c) s.peon.leader ∷ []) (refl, tt) K))))

      asks : (c : Command) → Then Keeps (ask me now u c x0)
      unfolding ask
      asks c = by_test (is_leading s.phase) (λ _. at_leads s K c (origin.Session u)) (λ _. by_test (is_peon s.phase) (λ _. at_peons c) (λ _. replied reply.Unavailable))

      reads : (reading : Readings → Reply) → Then Keeps (read me now u reading x0)
      reads reading =
          by_test (not (is_member s.phase)) (λ _. replied reply.Unavailable) (λ _.
          by_test (not (readable w.last me.member.monitors (lease_of s) now)) (λ _. replied (reply.NotReadable w.last (is_standing me now s))) (λ _. replied (reading w)))

      clients : (r : Request) → Then Keeps (hear_client me now u r x0)
      unfolding hear_client
      clients (request.Set key value) = asks (command.Set key value)
      clients (request.Remove key) = asks (command.Remove key)
      clients (request.Log text) = asks (command.Log text)
      clients (request.Show v) = reads (λ z. shown z v)
      clients (request.Since v n) = reads (λ z. since z v n)

    -- ---- synchronization

    grants : (full : Bool) (f : ℕ) → Then Keeps (grant me full f x0)
    grants full f = where_fits Keeps which.Cookie s.provider.next_cookie _ (λ _. done (quiet x0 (message_to me (epoch_of w) (body.Cookie full (record { boot = w.boot; seq = s.provider.next_cookie }) w.last) f ∷ []) (refl, tt) K))

    full_cookie : (f : ℕ) → Then Keeps (hear_get_cookie_full me f x0)
    unfolding hear_get_cookie_full
    full_cookie f = by_test w.marked (λ _. rests) (λ _. grants true f)

    recent_cookie : (f last : ℕ) → Then Keeps (hear_get_cookie_recent me f last x0)
    unfolding hear_get_cookie_recent
    recent_cookie f last = by_test w.marked (λ _. rests) (λ _. by_test (ltb (suc last) w.first) (λ _. done (quiet x0 (message_to me (epoch_of w) (body.NoCookie no_cookie) f ∷ []) (refl, tt) K)) (λ _. grants false f))

    chunk_asked : (shared : List Entry) (f : ℕ) (c : Cookie) (p : ChunkPlace) → Then Keeps (hear_get_chunk me shared f c p x0)
    unfolding hear_get_chunk
    chunk_asked shared f c p = by_test w.marked (λ _. rests) (λ _. by_test (not (is_cookie c (slice_index_or s.provider.cookies f None)) || ltb (suc p.version) w.first)
        (λ _. done (quiet x0 (message_to me (epoch_of w) (body.NoCookie c) f ∷ []) (refl, tt) K))
        (λ _. done (quiet x0 (message_to me (epoch_of w) (chunk w.last c p (filter (is_after p.key) shared) me.member.monitors w.record_of) f ∷ []) (chunk_silent w.last c p (filter (is_after p.key) shared) me.member.monitors w.record_of, tt) K)))

    cookie_heard : (f : ℕ) (full : Bool) (c : Cookie) (last : ℕ) → Then Keeps (hear_cookie me now f full c last x0)
    unfolding hear_cookie
    cookie_heard f full c last = by_test (not (of_provider f x0 && awaits_cookie s.requester.stage && same_flag full s.requester.full) || (full && ltb last w.floor)) (λ _. rests)
        (λ _. done (quiet x0 (message_to me (epoch_of w) (body.GetChunk c (first_place full last w.last)) s.requester.provider ∷ []) (refl, tt) K))

    no_cookie_heard : (f : ℕ) (c : Cookie) → Then Keeps (hear_no_cookie me now f c x0)
    unfolding hear_no_cookie
    no_cookie_heard f c = by_test (of_provider f x0 && (is_cookie c s.requester.cookie || (awaits_cookie s.requester.stage && not s.requester.full && same_cookie c no_cookie))) (λ _. bootstraps x0) (λ _. rests)

    copies : (full : Bool) (v : ℕ) (values : List (List Op)) (es : List Entry) → AllByRecursion Val values → AllByRecursion EntryFine es → Then (Kept x0) (copy full v values es x0)
    copies true v values es V E =
        done (record { state = refl; out = refl; epoch = ap (λ (o : Own). epoch_or_first o.epoch) (copied_own es (played (record_changes v values) w) (entries_spare es E) ∙ records_own v values w) })
    copies false v values es V E = learns_sparing v values x0 (all_spare values V)

    takes : (p : ChunkPlace) (values : List (List Op)) (es : List Entry) (end : Bool) → AllByRecursion Val values → AllByRecursion EntryFine es → Then Keeps (take p values es end x0)
    takes p values es end V E = where_fits Keeps which.Version (p.version + length values) _ (λ _.
        and_then (Kept x0) Keeps (copy s.requester.full (suc p.version) values es x0) _ (copies s.requester.full (suc p.version) values es V E) (λ y k. done (kept y k)))

    chunk_heard : (f : ℕ) (c : Cookie) (p : ChunkPlace) (values : List (List Op)) (es : List Entry) (end : Bool) → AllByRecursion Val values → AllByRecursion EntryFine es → Then Keeps (hear_chunk me now f c p values es end x0)
    unfolding hear_chunk
    chunk_heard f c p values es end V E = by_test (is_ours f c p x0) (λ _. and_then Keeps Keeps (take p values es end x0) _ (takes p values es end V E)
        (λ y k. done (quiet y (message_to me (epoch_of y.readings) (body.GetChunk c y.state.requester.place) y.state.requester.provider ∷ []) (refl, tt) k))) (λ _. rests)

    last_chunk_heard : (f : ℕ) (c : Cookie) (p : ChunkPlace) (values : List (List Op)) (es : List Entry) (last : ℕ) → AllByRecursion Val values → AllByRecursion EntryFine es → Then Keeps (hear_last_chunk me now f c p values es last x0)
    unfolding hear_last_chunk
    last_chunk_heard f c p values es last V E = by_test (is_ours f c p x0)
        (λ _. and_then Keeps Keeps (take p values es true x0) _ (takes p values es true V E) (λ y k. by_test y.state.requester.full
        (λ _. where_fits Keeps which.Version (suc y.state.requester.start) _ (λ _. done k)) (λ _. bootstraps y))) (λ _. rests)

    replays : (ts : List (Option ℕ)) → RecordsFine w.record_of → Then Keeps (replay_step me now (at_rest w (record s { timers = ts })))
    unfolding replay_step
    replays ts fine = by_test (same_phase s.phase phase.Synchronizing) (λ _. in_stage s.requester.stage) (λ _. done K)
      where
        any : (next end : ℕ) (o : Option (List (List Op))) → IfSome o (AllByRecursion Val) → Then Keeps (replay_any me now next end o (at_rest w (record s { timers = ts })))
        any next end None V = bootstraps _
        any next end (Some values) V = by_test (ltb end (next + length values)) (λ _. bootstraps _)
            (λ _. done (subst (λ (e : ℕ). Now seen e s.phase) (sym (ap (λ (o : Own). epoch_or_first o.epoch) (learned_own next values w (all_spare values V)))) K))

        in_stage : (z : SyncStage) → Then Keeps (step_in me now z (at_rest w (record s { timers = ts })))
        in_stage sync.Cookie = done K
        in_stage sync.Chunks = done K
        in_stage (sync.Replay next end) = any next end (step_of w.record_of (suc end - next) next) (step_of_fine w.record_of fine (suc end - next) next)

    -- ---- the table

    ping_heard : (f : ℕ) (table : Option Scores) → Then Keeps (hear_ping me f table x0)
    unfolding hear_ping
    ping_heard f None = rests
    ping_heard f (Some table) = done (quiet (note_table f table x0) (message_to me (epoch_of w) (body.PingReply (own_table me (note_table f table x0))) f ∷ []) (refl, tt) K)

    ping_answered : (f : ℕ) (table : Option Scores) → Then Keeps (hear_ping_reply f table x0)
    unfolding hear_ping_reply
    ping_answered f None = rests
    ping_answered f (Some table) = done K

    module _ (made : Made) (shared : List Entry) (sharing : AllByRecursion EntryFine shared) where
      hears : (f e : ℕ) (m : Body) → BodyFine m → Then Keeps (hear me shared now f e m x0)
      hears f e body.Probe D = probed f
      hears f e (body.ProbeReply q first last) D = probe_answered f q first last
      hears f e (body.Propose table) D = proposed f e table
      hears f e body.Ack D = acked f e
      hears f e (body.Victory q) D = victory f e q
      hears f e (body.Collect pn first last) D = collect_heard f e pn first last
      hears f e (body.Last pn first last whole from values told) D = last_heard f e pn first last whole from values told D.0
      hears f e (body.Begin pn v x) D = begin_heard f e pn v x
      hears f e (body.Accept pn v) D = accept_heard f e pn v
      hears f e (body.Commit from values) D = commit_heard f e from values D
      hears f e (body.Lease last) D = lease_heard f e last
      hears f e (body.LeaseAck last) D = lease_ack_heard f e last
      hears f e (body.Forward seq c) D = forward_heard f e seq c
      hears f e (body.Route seq r) D = route_heard f e seq r
      hears f e body.GetCookieFull D = full_cookie f
      hears f e (body.GetCookieRecent last) D = recent_cookie f last
      hears f e (body.Cookie full c last) D = cookie_heard f full c last
      hears f e (body.GetChunk c p) D = chunk_asked shared f c p
      hears f e (body.Chunk c p values es end) D = chunk_heard f c p values es end D.0 D.1
      hears f e (body.LastChunk c p values es last) D = last_chunk_heard f c p values es last D.0 D.1
      hears f e (body.NoCookie c) D = no_cookie_heard f c
      hears f e (body.Ping table) D = ping_heard f table
      hears f e (body.PingReply table) D = ping_answered f table
      hears f e (body.Request id r) D = rests
      hears f e (body.Reply id r) D = rests

      rings : RecordsFine w.record_of → (z : Timer) → Then Keeps (timer_comes me now z (disarm z x0))
      unfolding ping
      rings fine timer.Probe = bootstraps _
      rings fine timer.Election = election_over (disarm timer.Election x0).state.timers
      rings fine timer.Collect = bootstraps _
      rings fine timer.Accept = bootstraps _
      rings fine timer.Renew = renews (disarm timer.Renew x0).state.timers
      rings fine timer.LeaseAck = bootstraps _
      rings fine timer.Lease = bootstraps _
      rings fine timer.Sync = bootstraps _
      rings fine timer.Step = replays (disarm timer.Step x0).state.timers fine
      rings fine timer.Propose = due (disarm timer.Propose x0).state.timers
      rings fine timer.Ping =
          let table = own_table me (elector_is (measure me now s.elector) x0) in
          done (quiet x0 (map (message_to me (epoch_of w) (body.Ping table)) (others me)) (acts.silent_each me now is_read R several strict seen (epoch_of w) (body.Ping table) refl (others me)) K)

      before : (c : Input) → Then Keeps (before_start me now c x0)
      before input.Start = starts
      before (input.Deliver m) = rests
      before (input.Timer z) = rests
      before (input.Client u r) = replied u reply.Unavailable

      runs : RecordsFine w.record_of → (c : Input) → ComesFine me now w made shared sharing c → Then Keeps (running me shared now c x0)
      runs fine input.Start D = rests
      runs fine (input.Deliver m) D = by_test (is_heard me m) (λ _. hears m.from m.epoch m.body D.1.1) (λ _. rests)
      runs fine (input.Timer z) D = by_test (is_some (end_of z s.timers)) (λ _. rings fine z) (λ _. rests)
      runs fine (input.Client u r) D = clients u r

      -- what was so before an event is so after it
      pub reacts : RecordsFine w.record_of → (c : Input) → ComesFine me now w made shared sharing c → Then Keeps (react me shared now w s c)
      unfolding react
      reacts fine c D = by_test (same_phase s.phase phase.Booting) (λ _. before c) (λ _. runs fine c D)

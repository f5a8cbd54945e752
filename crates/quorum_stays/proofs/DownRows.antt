-- The rows of a leader that lost a monitor of its quorum: it still awaits that monitor's answer, or doesn't serve with it any more.
use Rattle.law_names.proofs.Table.{Command, CommandRefused, Cookie, Course, Entry, Epoch, Leader, MOST_WAITING, Me, Op, Origin, Phase, Place, Readings, Reply, Request, Scores, Session, Told, Waiting as Waiting_, adopt, all_accepted, are_within, ask, asked_of, at_leader, at_peon, awaits_cookie, begin_made, bootstrap, change, clients_are, commit_any, disarm, disarmed, elect, election_ends, elector_is, end_of, epoch_of, extend, grant, has, has_queue, hear_accept, hear_ack, hear_begin, hear_chunk, hear_client, hear_collect, hear_commit, hear_cookie, hear_forward, hear_get_chunk, hear_get_cookie_full, hear_get_cookie_recent, hear_last, hear_last_chunk, hear_lease, hear_lease_ack, hear_no_cookie, hear_ping, hear_ping_reply, hear_probe, hear_probe_reply, hear_propose, hear_route, hear_victory, index_of, is_allowed, is_cookie, is_even, is_leading, is_majority, is_member, is_one_of, is_ours, is_peon, is_too_long, is_whole, leader_is, lease_of, may_defer, may_propose, merge, news, no_cookie, of_leader, of_member, of_provider, pending, ping, promise_of, propose, propose_due, propose_first, propose_next, quorum_of, read, readable, renew, replay_step, same_cookie, same_flag, same_phase, same_place, service_last, service_of, shown, since, stands_before, table_or, takes_chunks, value, votes, weigh, with_rank}
use Rattle.mon_bytes.specs.declared.command.Command.TheVariants as command
use Rattle.mon_msg.specs.declared.plan.Origin.TheVariants as origin
use Rattle.mon_types.specs.declared.names.Which.TheVariants as which
use Rattle.mon_wire.specs.declared.phase.Phase.TheVariants as phase
use Rattle.mon_wire.specs.declared.phase.Timer.TheVariants as timer
use Rattle.mon_wire.specs.declared.request.Request.TheVariants as request
use Rattle.quorum_stays.proofs.DownActs.{Awaits, MayBegin, Serves, Stays, Terms, V, W, accepting, acknowledging, active_is, adopt_stays, arm_if_serves, arm_serves, begin_serves, bootstrap_stays, commit_serves, disarm_serves, elect_stays, extend_serves, keep, of_serving, other, proposing, renewing, win_stays, with_lacks}
use Rattle.quorum_stays.proofs.Timers.{disarmed_size, maybe_armed, no_end, off, still_on}
use Rattle.quorum_stays.specs.Reading.{Reads}
use Rattle.quorum_timed.proofs.Acts.{learn_stays}
use Rattle.quorum_timed.proofs.Armed.{Timers}
use Rattle.quorum_walk.proofs.Ranks.{within_at}
use Rattle.quorum_walk.proofs.Walk.{Then, and_three, by_test, done, where_fits}
use Rattle.std.proofs.Common.{Bool, Err, List, None, Ok, Option, Result, Some, [], ap, arith, cond, eqb, false, inl, inr, is_some, leb, length, ltb, not, refl, slice_index_or, slice_set, suc, sym, true, ℕ, ◌&&◌, ◌+◌, ◌<◌, ◌||◌, ◌∙◌, ◌∷◌, ◌≡◌, ◌≤◌, ◌⊎◌}
use Rattle.std.proofs.lemmas.Bool.{and_parts, cond_both, eqb-false, false≢true, not-false, not-true}

-- these acknowledged the lease
abbrev acked : List Bool → Leader → Leader
acked acks l = record l { acks = acks }

module _ (b : Terms) (me : Me) (now : ℕ) (other_rank : b.lost ≡ me.member.rank → ⊥) (in_map : b.lost < me.member.monitors) (many : ltb 1 me.member.monitors ≡ true) where
  abbrev Still : Course → Type 0
  Still = V b me now other_rank in_map

  abbrev Ends : Course → Type 0
  Ends = W b me now other_rank in_map

  elects : (x : Course) → Then Ends (elect me now x)
  elects = elect_stays b me now other_rank in_map

  bootstraps : (x : Course) → Then Ends (bootstrap me now x)
  bootstraps = bootstrap_stays b me now other_rank in_map many

  -- ---- phases

  not_in : (P : Phase → Bool) → P phase.Active ≡ false → P phase.Updating ≡ false → (x : Course) → Still x → P x.state.phase ≡ true → ⊥
  not_in P a u x S t = false≢true (sym (of_serving (λ p. P p ≡ false) a u S.awaits) ∙ t)

  not_copying : (x : Course) → Still x → same_phase x.state.phase phase.Synchronizing ≡ true → ⊥
  not_copying = not_in (λ p. same_phase p phase.Synchronizing) refl refl

  -- ---- elections

  weigh_stays : (table : Scores) (f : ℕ) (x : Course) → Ends x → Then Ends (weigh me now table f x)
  weigh_stays table f x A =
      by_test (is_allowed me f && stands_before me table f me.member.rank)
      (λ _. by_test (may_defer me table f x.state.elector.deferred) (λ _. done A) (λ _. done A))
      (λ _. by_test (not (is_some x.state.elector.deferred) && not x.state.elector.candidate) (λ _. elects x) (λ _. done A))

  pub hear_propose_stays : (f e : ℕ) (table : Option Scores) (x : Course) → Still x → Then Ends (hear_propose me now f e table x)
  unfolding hear_propose
  hear_propose_stays f e table x A =
      by_test (not (votes x.state.phase) || is_even e) (λ _. done (keep A)) (λ _.
      by_test (ltb e (epoch_of x.readings)) (λ _. by_test (is_even (epoch_of x.readings) && not (has (quorum_of x.state) f)) (λ _. elects x) (λ _. done (keep A))) (λ _.
      by_test (ltb (epoch_of x.readings) e) (λ _. weigh_stays (table_or table x.state.elector.scores) f (merge table (adopt now e x)) (adopt_stays b me now other_rank in_map e x)) (λ _. weigh_stays (table_or table x.state.elector.scores) f (merge table x) (keep A))))

  pub hear_ack_stays : (f e : ℕ) (x : Course) → Still x → Then Ends (hear_ack me now f e x)
  unfolding hear_ack
  hear_ack_stays f e x A =
      let acked = with_rank x.state.elector.acked f in
      let y : Course = elector_is (record x.state.elector { acked = acked }) x in
      by_test (not (votes x.state.phase) || is_even e || ltb e (epoch_of x.readings)) (λ _. done (keep A)) (λ _.
      by_test (ltb (epoch_of x.readings) e) (λ _. elects (adopt now e x)) (λ _.
      by_test x.state.elector.candidate (λ _. by_test (is_whole me acked && is_allowed me me.member.rank) (λ _. win_stays b me now other_rank in_map acked y) (λ _. done (keep A))) (λ _. done (keep A))))

  pub election_ends_stays : (x : Course) → Still x → Then Ends (election_ends me now (disarm timer.Election x))
  unfolding election_ends
  election_ends_stays x A =
      let y : Course = disarm timer.Election x in
      by_test (not (same_phase x.state.phase phase.Electing)) (λ t. done (keep (disarm_serves timer.Election x.state.timers (other refl refl refl) A))) (λ _.
      by_test (x.state.elector.candidate && is_allowed me me.member.rank && is_majority me.member.monitors x.state.elector.acked) (λ _. win_stays b me now other_rank in_map x.state.elector.acked y) (λ _. elects y))

  pub hear_victory_stays : (f e : ℕ) (ranks : List Bool) (x : Course) → Still x → Then Ends (hear_victory me now f e ranks x)
  unfolding hear_victory
  hear_victory_stays f e ranks x A =
      by_test (not (votes x.state.phase) || not (is_even e) || leb e (epoch_of x.readings)) (λ _. done (keep A)) (λ _.
      by_test (not (eqb e (suc (epoch_of x.readings)))) (λ _. elects (change (Epoch e) x)) (λ _.
      by_test (has ranks me.member.rank && has ranks f && is_majority me.member.monitors ranks) (λ _. done (record { still = λ t _. absurd (false≢true t) })) (λ _. done (keep A))))

  -- ---- peons

  pub hear_collect_stays : (f e : ℕ) (pn first last : ℕ) (x : Course) → Still x → Then Ends (hear_collect me now f e pn first last x)
  unfolding hear_collect
  hear_collect_stays f e pn first last x A =
      by_test (not (of_leader f e x)) (λ _. done (keep A)) (λ _.
      by_test (ltb (suc x.readings.last) first) (λ _. bootstraps x) (λ _.
      where_fits Ends which.Version (suc last) _ (λ _. done (keep A))))

  pub hear_begin_stays : (f e : ℕ) (pn v : ℕ) (value : List Op) (x : Course) → Still x → Then Ends (hear_begin me f e pn v value x)
  unfolding hear_begin
  hear_begin_stays f e pn v value x A =
      by_test (not (of_leader f e x && eqb pn (promise_of x.readings) && eqb v (suc x.readings.last))) (λ _. done (keep A)) (λ _. done (keep A))

  pub hear_commit_stays : (f e : ℕ) (from : ℕ) (values : List (List Op)) (x : Course) → Still x → Then Ends (hear_commit f e from values x)
  unfolding hear_commit
  hear_commit_stays f e from values x A =
      by_test (not (of_leader f e x) || ltb (suc x.readings.last) from) (λ _. done (keep A))
      (λ _. learn_stays (λ s. Stays b now s.phase s.leader s.clients.queue s.timers) (suc x.readings.last) (news x.readings.last from values) x (keep A))

  pub hear_lease_stays : (f e : ℕ) (last : ℕ) (x : Course) → Still x → Then Ends (hear_lease me now f e last x)
  unfolding hear_lease
  hear_lease_stays f e last x A = by_test (not (of_leader f e x) || not (eqb last x.readings.last) || is_some (pending x.readings)) (λ _. done (keep A))
      (λ _. done (keep (arm_serves now timer.Lease x.state.timers (other refl refl refl) A)))

  -- ---- leaders

  pub hear_last_stays : (f e : ℕ) (pn first last : ℕ) (whole : Bool) (from : ℕ) (values : List (List Op)) (told : Option Told) (x : Course) → Still x → Then Ends (hear_last me now f e pn first last whole from values told x)
  unfolding hear_last
  hear_last_stays f e pn first last whole from values told x A =
      by_test (not (of_member (phase.Collecting ∷ []) f e x)) (λ _. done (keep A)) (λ t.
      absurd (let k = and_three (is_one_of (phase.Collecting ∷ []) x.state.phase) (eqb e (epoch_of x.readings)) (has x.state.leader.quorum f) (not-false _ t) in
      not_in (is_one_of (phase.Collecting ∷ [])) refl refl x A k.0))

  pub hear_accept_stays : (f e : ℕ) (pn v : ℕ) → (f ≡ b.lost → ⊥) → (x : Course) → Still x → Then Ends (hear_accept me now f e pn v x)
  unfolding hear_accept
  hear_accept_stays f e pn v ne x A =
      by_test (not counts) (λ _. done (keep A)) (λ t. taken (updating t) A.awaits)
    where
      counts : Bool
      counts = of_member (phase.Previous ∷ phase.Updating ∷ []) f e x && eqb pn x.state.leader.pn && eqb v (suc x.readings.last)

      accepted : List Bool
      accepted = with_rank x.state.leader.accepted f

      y : Course
      y = leader_is (record x.state.leader { accepted = accepted }) x

      updating : not counts ≡ false → is_one_of (phase.Previous ∷ phase.Updating ∷ []) x.state.phase ≡ true
      updating t =
          let k = and_three (of_member (phase.Previous ∷ phase.Updating ∷ []) f e x) (eqb pn x.state.leader.pn) (eqb v (suc x.readings.last)) (not-false counts t) in
          (and_three (is_one_of (phase.Previous ∷ phase.Updating ∷ []) x.state.phase) (eqb e (epoch_of x.readings)) (has x.state.leader.quorum f) k.0).0

      no_active : {A : Type 0} → is_one_of (phase.Previous ∷ phase.Updating ∷ []) x.state.phase ≡ true → x.state.phase ≡ phase.Active → A
      no_active t is = absurd (false≢true (sym (ap (is_one_of (phase.Previous ∷ phase.Updating ∷ [])) is) ∙ t))

      commits : (value : Option (List Op)) → x.state.phase ≡ phase.Updating → now ≤ b.first + b.late → Serves b now x.state.phase y.state.leader x.state.clients.queue x.state.timers → Then Ends (commit_any me now value y)
      commits None is le S = done (keep S)
      commits (Some value) is le S = commit_serves b me now other_rank in_map value y A.among is le A.commands A.size

      taken : is_one_of (phase.Previous ∷ phase.Updating ∷ []) x.state.phase ≡ true → Awaits b now x.state.phase x.state.leader x.state.timers
          → Then Ends (cond (all_accepted me y) (commit_any me now x.state.leader.value y) (Ok y))
      taken t (renewing is le r a) = no_active t is
      taken t (acknowledging is le lacks on a) = no_active t is
      taken t (accepting is le ends) =
          let S : Serves b now x.state.phase y.state.leader x.state.clients.queue x.state.timers = record { among = A.among; size = A.size; awaits = accepting is le ends; commands = A.commands; lease = A.lease } in
          by_test (all_accepted me y) (λ _. commits x.state.leader.value is le S) (λ _. done (keep S))
      taken t (proposing is lacks ends) =
          let still = with_lacks b me now other_rank in_map x.state.leader.accepted f ne lacks in
          by_test (all_accepted me y) (λ all. absurd (false≢true (sym still ∙ within_at me.member.monitors x.state.leader.quorum accepted b.lost all in_map A.among)))
          (λ _. done (keep (record { among = A.among; size = A.size; awaits = proposing is still ends; commands = A.commands; lease = A.lease })))

  pub hear_lease_ack_stays : (f e : ℕ) (last : ℕ) → (f ≡ b.lost → ⊥) → (x : Course) → Still x → Then Ends (hear_lease_ack me f e last x)
  unfolding hear_lease_ack
  hear_lease_ack_stays f e last ne x A =
      by_test (not (of_member (phase.Active ∷ []) f e x && eqb last x.readings.last)) (λ _. done (keep A)) (λ _. done (keep (by A.awaits)))
    where
      acks : List Bool
      acks = with_rank x.state.leader.acks f

      all : Bool
      all = are_within me.member.monitors x.state.leader.quorum acks

      ts : Timers
      ts = x.state.timers

      bare : Timers
      bare = disarmed timer.LeaseAck ts

      renew_on : end_of timer.Renew bare ≡ end_of timer.Renew ts
      renew_on = still_on timer.Renew timer.LeaseAck ts (eqb-false (index_of timer.Renew) (index_of timer.LeaseAck) refl)

      accept_on : end_of timer.Accept bare ≡ end_of timer.Accept ts
      accept_on = still_on timer.Accept timer.LeaseAck ts (eqb-false (index_of timer.Accept) (index_of timer.LeaseAck) refl)

      -- it serves with these timers
      serves : (after : Timers) → length after ≡ 11 → Awaits b now x.state.phase (acked acks x.state.leader) after → Serves b now x.state.phase (acked acks x.state.leader) x.state.clients.queue after
      serves after size awaits = record { among = A.among; size = size; awaits = awaits; commands = A.commands; lease = A.lease }

      bare_size : length bare ≡ 11
      bare_size = disarmed_size timer.LeaseAck ts A.size

      by : Awaits b now x.state.phase x.state.leader ts → Serves b now x.state.phase (acked acks x.state.leader) x.state.clients.queue (cond all bare ts)
      by (renewing is le ends wait) = cond_both all bare ts (Serves b now x.state.phase (acked acks x.state.leader) x.state.clients.queue)
          (λ _. serves bare bare_size (renewing is le (λ end e. ends end (sym renew_on ∙ e)) (λ end e. no_end _ end (off timer.LeaseAck ts A.size) e)))
          (λ _. serves ts A.size (renewing is le ends wait))
      by (acknowledging is le lacks on wait) =
          let still = with_lacks b me now other_rank in_map x.state.leader.acks f ne lacks in
          cond_both all bare ts (Serves b now x.state.phase (acked acks x.state.leader) x.state.clients.queue)
          (λ t. absurd (false≢true (sym still ∙ within_at me.member.monitors x.state.leader.quorum acks b.lost t in_map A.among)))
          (λ _. serves ts A.size (acknowledging is le still on wait))
      by (accepting is le ends) = cond_both all bare ts (Serves b now x.state.phase (acked acks x.state.leader) x.state.clients.queue)
          (λ _. serves bare bare_size (accepting is le (λ end e. ends end (sym accept_on ∙ e)))) (λ _. serves ts A.size (accepting is le ends))
      by (proposing is lacks ends) = cond_both all bare ts (Serves b now x.state.phase (acked acks x.state.leader) x.state.clients.queue)
          (λ _. serves bare bare_size (proposing is lacks (λ end e. ends end (sym accept_on ∙ e)))) (λ _. serves ts A.size (proposing is lacks ends))

  pub renew_stays : (x : Course) → Still x → Then Ends (renew me now (disarm timer.Renew x))
  unfolding renew extend
  renew_stays x A =
      by_test (not (same_phase x.state.phase phase.Active))
      (λ t. done (keep (resting (not-true _ t) A.awaits)))
      (λ t. done (keep (renewed (active_is x.state.phase (not-false _ t)) A.awaits)))
    where
      ts : Timers
      ts = x.state.timers

      bare : Timers
      bare = disarmed timer.Renew ts

      y : Course
      y = disarm timer.Renew x

      ack_on : end_of timer.LeaseAck bare ≡ end_of timer.LeaseAck ts
      ack_on = still_on timer.LeaseAck timer.Renew ts (eqb-false (index_of timer.LeaseAck) (index_of timer.Renew) refl)

      accept_on : end_of timer.Accept bare ≡ end_of timer.Accept ts
      accept_on = still_on timer.Accept timer.Renew ts (eqb-false (index_of timer.Accept) (index_of timer.Renew) refl)

      bare_size : length bare ≡ 11
      bare_size = disarmed_size timer.Renew ts A.size

      clash : {B : Type 0} → same_phase x.state.phase phase.Active ≡ false → x.state.phase ≡ phase.Active → B
      clash t is = absurd (false≢true (sym t ∙ ap (λ (p : Phase). same_phase p phase.Active) is))

      resting : same_phase x.state.phase phase.Active ≡ false → Awaits b now x.state.phase x.state.leader ts → Serves b now x.state.phase x.state.leader x.state.clients.queue bare
      resting t (renewing is le ends wait) = clash t is
      resting t (acknowledging is le lacks on wait) = clash t is
      resting t (accepting is le ends) = record { among = A.among; size = bare_size; awaits = accepting is le (λ end e. ends end (sym accept_on ∙ e)); commands = A.commands; lease = A.lease }
      resting t (proposing is lacks ends) = record { among = A.among; size = bare_size; awaits = proposing is lacks (λ end e. ends end (sym accept_on ∙ e)); commands = A.commands; lease = A.lease }

      renewed : x.state.phase ≡ phase.Active → Awaits b now x.state.phase x.state.leader ts
          → Serves b now x.state.phase (extend me now y).state.leader x.state.clients.queue (maybe_armed (has_queue x) now (extend me now y).state.timers)
      renewed is (renewing e le ends wait) =
          let k = b.acknowledged in
          extend_serves b me now other_rank in_map y A.among is (omega arith) A.commands bare_size (λ end e. wait end (sym ack_on ∙ e)) (λ _. omega arith)
      renewed is (acknowledging e le lacks on wait) =
          extend_serves b me now other_rank in_map y A.among is le A.commands bare_size (λ end e. wait end (sym ack_on ∙ e)) (λ t. absurd (false≢true (sym t ∙ ap is_some ack_on ∙ on)))
      renewed is (accepting e le ends) = absurd (let z : phase.Active ≡ phase.Updating = sym is ∙ e in cc)
      renewed is (proposing e lacks ends) = absurd (let z : phase.Active ≡ phase.Updating = sym is ∙ e in cc)

  -- ---- clients

  propose_stays : MayBegin b → (c : Command) (o : Origin) (x : Course) → x.state.phase ≡ phase.Active → Still x → Then Ends (propose me now c o x)
  unfolding propose
  propose_stays may c o x is A = where_fits Ends which.Version (suc (service_last x.readings (service_of c))) _ (λ _. by (value x.readings c (asked_of me o)))
    where
      by : (r : Result (List Op) CommandRefused) → Then Ends (begin_made me now o r x)
      by (Ok v) = begin_serves b me now other_rank in_map v (Some o) x A is may
      by (Err e) = done (keep (arm_if_serves (has_queue x) now timer.Propose x.state.timers (other refl refl refl) A))

  at_leader_stays : MayBegin b → (c : Command) (o : Origin) (x : Course) → Still x → Then Ends (at_leader me now c o x)
  at_leader_stays may c o x A =
      by_test (is_too_long c) (λ _. done (keep A)) (λ _.
      by_test (may_propose me now x && not (has_queue x)) (λ t. propose_stays may c o x (active_is x.state.phase (proposes x t)) A) (λ _.
      by_test (leb MOST_WAITING (length x.state.clients.queue)) (λ _. done (keep A))
      (λ _. done (keep (record { among = A.among; size = A.size; awaits = A.awaits; commands = inr may; lease = A.lease })))))
    where
      proposes : (x : Course) → (may_propose me now x && not (has_queue x)) ≡ true → same_phase x.state.phase phase.Active ≡ true
      proposes x t = (and_parts (same_phase x.state.phase phase.Active) _ (and_parts (may_propose me now x) (not (has_queue x)) t).0).0

  at_peon_stays : (c : Command) (s : Session) (x : Course) → Still x → Then Ends (at_peon me c s x)
  at_peon_stays c s x A =
      by_test (is_too_long c) (λ _. done (keep A)) (λ _.
      by_test (leb MOST_WAITING (length x.state.clients.sessions)) (λ _. done (keep A))
      (λ _. where_fits Ends which.Seq x.state.clients.next_seq _ (λ _. done (keep A))))

  ask_stays : MayBegin b → (s : Session) (c : Command) (x : Course) → Still x → Then Ends (ask me now s c x)
  unfolding ask
  ask_stays may s c x A =
      by_test (is_leading x.state.phase) (λ _. at_leader_stays may c (origin.Session s) x A)
      (λ _. by_test (is_peon x.state.phase) (λ _. at_peon_stays c s x A) (λ _. done (keep A)))

  pub hear_forward_stays : MayBegin b → (f e : ℕ) (seq : ℕ) (c : Command) (x : Course) → Still x → Then Ends (hear_forward me now f e seq c x)
  unfolding hear_forward
  hear_forward_stays may f e seq c x A =
      by_test (not (of_member (phase.Collecting ∷ phase.Previous ∷ phase.Active ∷ phase.Updating ∷ []) f e x && ltb (slice_index_or x.state.clients.taken f 0) seq)) (λ _. done (keep A))
      (λ _. at_leader_stays may c (origin.Forwarded f seq) (clients_are (record x.state.clients { taken = slice_set x.state.clients.taken f seq }) x) A)

  pub hear_route_stays : (f e : ℕ) (seq : ℕ) (r : Reply) (x : Course) → Still x → Then Ends (hear_route f e seq r x)
  unfolding hear_route
  hear_route_stays f e seq r x A = by_test (not (of_leader f e x)) (λ _. done (keep A)) (λ _. done (keep A))

  propose_first_stays : (ws : List Waiting_) (x : Course) → x.state.clients.queue ≡ ws → x.state.phase ≡ phase.Active → Still x → Then Ends (propose_first me now ws x)
  propose_first_stays [] x e is A = done (keep A)
  propose_first_stays (w ∷ ws) x e is A = waits A.commands
    where
      waits : (x.state.clients.queue ≡ []) ⊎ MayBegin b → Then Ends (propose_first me now (w ∷ ws) x)
      waits (inl none) = absurd (let z : (w ∷ ws) ≡ [] = sym e ∙ none in cc)
      waits (inr may) = propose_stays may w.command w.origin (clients_are (record x.state.clients { queue = ws }) x) is
          (record { among = A.among; size = A.size; awaits = A.awaits; commands = inr may; lease = A.lease })

  pub propose_due_stays : (x : Course) → Still x → Then Ends (propose_due me now x)
  unfolding propose_due propose_next
  propose_due_stays x A = by_test (may_propose me now x)
      (λ t. propose_first_stays x.state.clients.queue x refl (active_is x.state.phase (and_parts (same_phase x.state.phase phase.Active) _ t).0) A) (λ _. done (keep A))

  read_stays : (s : Session) (reading : Readings → Reply) (x : Course) → Still x → Then Ends (read me now s reading x)
  read_stays s reading x A =
      by_test (not (is_member x.state.phase)) (λ _. done (keep A)) (λ _.
      by_test (not (readable x.readings.last me.member.monitors (lease_of x.state) now)) (λ _. done (keep A)) (λ _. done (keep A)))

  -- a command may be begun, or the request is a read
  pub hear_client_stays : (s : Session) (r : Request) → Reads r ⊎ MayBegin b → (x : Course) → Still x → Then Ends (hear_client me now s r x)
  unfolding hear_client
  hear_client_stays s (request.Set key value) (inr may) x A = ask_stays may s (command.Set key value) x A
  hear_client_stays s (request.Remove key) (inr may) x A = ask_stays may s (command.Remove key) x A
  hear_client_stays s (request.Log text) (inr may) x A = ask_stays may s (command.Log text) x A
  hear_client_stays s (request.Show v) k x A = read_stays s (λ w. shown w v) x A
  hear_client_stays s (request.Since v n) k x A = read_stays s (λ w. since w v n) x A
  hear_client_stays s other (inl reads) x A = absurd reads

  -- ---- probing

  pub hear_probe_stays : (f : ℕ) (x : Course) → Still x → Then Ends (hear_probe me f x)
  unfolding hear_probe
  hear_probe_stays f x A = by_test x.readings.marked (λ _. done (keep A)) (λ _. done (keep A))

  pub hear_probe_reply_stays : (f : ℕ) (ranks : List Bool) (first last : ℕ) (x : Course) → Still x → Then Ends (hear_probe_reply me now f ranks first last x)
  unfolding hear_probe_reply
  hear_probe_reply_stays f ranks first last x A =
      by_test (not (same_phase x.state.phase phase.Probing)) (λ _. done (keep A))
      (λ t. absurd (not_in (λ p. same_phase p phase.Probing) refl refl x A (not-false _ t)))

  -- ---- synchronization

  grant_stays : (full : Bool) (f : ℕ) (x : Course) → Still x → Then Ends (grant me full f x)
  grant_stays full f x A = where_fits Ends which.Cookie x.state.provider.next_cookie _ (λ _. done (keep A))

  pub get_cookie_full_stays : (f : ℕ) (x : Course) → Still x → Then Ends (hear_get_cookie_full me f x)
  unfolding hear_get_cookie_full
  get_cookie_full_stays f x A = by_test x.readings.marked (λ _. done (keep A)) (λ _. grant_stays true f x A)

  pub get_cookie_recent_stays : (f : ℕ) (last : ℕ) (x : Course) → Still x → Then Ends (hear_get_cookie_recent me f last x)
  unfolding hear_get_cookie_recent
  get_cookie_recent_stays f last x A = by_test x.readings.marked (λ _. done (keep A)) (λ _. by_test (ltb (suc last) x.readings.first) (λ _. done (keep A)) (λ _. grant_stays false f x A))

  pub get_chunk_stays : (entries : List Entry) (f : ℕ) (c : Cookie) (p : Place) (x : Course) → Still x → Then Ends (hear_get_chunk me entries f c p x)
  unfolding hear_get_chunk
  get_chunk_stays entries f c p x A =
      by_test x.readings.marked (λ _. done (keep A)) (λ _.
      by_test (not (is_cookie c (slice_index_or x.state.provider.cookies f None)) || ltb (suc p.version) x.readings.first) (λ _. done (keep A)) (λ _. done (keep A)))

  -- a message of the provider comes while it synchronizes
  by_provider : (f : ℕ) (x : Course) → of_provider f x ≡ true → same_phase x.state.phase phase.Synchronizing ≡ true
  by_provider f x t = (and_parts (same_phase x.state.phase phase.Synchronizing) (eqb f x.state.requester.provider) t).0

  pub hear_cookie_stays : (f : ℕ) (full : Bool) (c : Cookie) (last : ℕ) (x : Course) → Still x → Then Ends (hear_cookie me now f full c last x)
  unfolding hear_cookie
  hear_cookie_stays f full c last x A =
      by_test (not (of_provider f x && awaits_cookie x.state.requester.stage && same_flag full x.state.requester.full) || (full && ltb last x.readings.floor)) (λ _. done (keep A))
      (λ t. done (keep (arm_serves now timer.Sync x.state.timers (other refl refl refl) A)))

  pub hear_no_cookie_stays : (f : ℕ) (c : Cookie) (x : Course) → Still x → Then Ends (hear_no_cookie me now f c x)
  unfolding hear_no_cookie
  hear_no_cookie_stays f c x A =
      by_test (of_provider f x && (is_cookie c x.state.requester.cookie || (awaits_cookie x.state.requester.stage && not x.state.requester.full && same_cookie c no_cookie))) (λ _. bootstraps x) (λ _. done (keep A))

  ours : (f : ℕ) (c : Cookie) (p : Place) (x : Course) → is_ours f c p x ≡ true → same_phase x.state.phase phase.Synchronizing ≡ true
  ours f c p x t =
      let r = x.state.requester in
      let u = and_parts (of_provider f x && takes_chunks r.stage && is_cookie c r.cookie) (same_place p r.place) t in
      by_provider f x (and_three (of_provider f x) (takes_chunks r.stage) (is_cookie c r.cookie) u.0).0

  pub hear_chunk_stays : (f : ℕ) (c : Cookie) (p : Place) (values : List (List Op)) (entries : List Entry) (is_done : Bool) (x : Course) → Still x → Then Ends (hear_chunk me now f c p values entries is_done x)
  unfolding hear_chunk
  hear_chunk_stays f c p values entries is_done x A = by_test (is_ours f c p x) (λ t. absurd (not_copying x A (ours f c p x t))) (λ _. done (keep A))

  pub hear_last_chunk_stays : (f : ℕ) (c : Cookie) (p : Place) (values : List (List Op)) (entries : List Entry) (last : ℕ) (x : Course) → Still x → Then Ends (hear_last_chunk me now f c p values entries last x)
  unfolding hear_last_chunk
  hear_last_chunk_stays f c p values entries last x A = by_test (is_ours f c p x) (λ t. absurd (not_copying x A (ours f c p x t))) (λ _. done (keep A))

  pub replay_step_stays : (x : Course) → Still x → Then Ends (replay_step me now (disarm timer.Step x))
  unfolding replay_step
  replay_step_stays x A = by_test (same_phase x.state.phase phase.Synchronizing) (λ t. absurd (not_copying x A t))
      (λ t. done (keep (disarm_serves timer.Step x.state.timers (other refl refl refl) A)))

  -- ---- pings

  pub hear_ping_stays : (f : ℕ) (table : Option Scores) (x : Course) → Still x → Then Ends (hear_ping me f table x)
  unfolding hear_ping
  hear_ping_stays f None x A = done (keep A)
  hear_ping_stays f (Some table) x A = done (keep A)

  pub hear_ping_reply_stays : (f : ℕ) (table : Option Scores) (x : Course) → Still x → Then Ends (hear_ping_reply f table x)
  unfolding hear_ping_reply
  hear_ping_reply_stays f None x A = done (keep A)
  hear_ping_reply_stays f (Some table) x A = done (keep A)

  pub ping_stays : (x : Course) → Still x → Then Ends (ping me now x)
  unfolding ping
  ping_stays x A = done (keep (arm_serves now timer.Ping x.state.timers (other refl refl refl) A))

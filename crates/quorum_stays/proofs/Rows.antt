-- What a leader and a peon do in a round, as equations.
use Rattle.law_names.proofs.Runs.{Monitors}
use Rattle.law_names.proofs.Table.{Course, Entry, Last, Learn, Me, Op, Phase, Readings, State, Vote, answers_to, are_within, arm, armed, at_rest, be_active, cancel, change, change_all, disarmed, end_of, epoch_of, extend, has, is_empty, leader_is, members, message_to, only, only_ping, pending, peon_is, played, promise_of, react, send, with_rank, ◌▸◌}
use Rattle.mon_lease.specs.Lease as lease
use Rattle.mon_msg.specs.Protocol.Course.{disarm_if}
use Rattle.mon_msg.specs.declared.input.Input.TheVariants as input
use Rattle.mon_msg.specs.declared.paxos.LeaderStage.TheVariants as stage
use Rattle.mon_wire.specs.declared.body.Body.TheVariants as body
use Rattle.mon_wire.specs.declared.phase.Phase.TheVariants as phase
use Rattle.mon_wire.specs.declared.phase.Timer.TheVariants as timer
use Rattle.mon_wire.specs.declared.reply.Reply.TheVariants as reply
use Rattle.quorum_model.proofs.Members.{member_of}
use Rattle.quorum_stays.proofs.Timers.{extended_timers, maybe_armed}
use Rattle.std.proofs.Common.{Bool, List, None, Ok, Some, [], ap, false, inl, inr, is_some, ltb, map, not, refl, subst, suc, sym, true, ℕ, ◌++◌, ◌^◌, ◌∙◌, ◌∷◌, ◌≡◌, ◌≤◌, ◌⊎◌}
use Rattle.table_rows.proofs.Hearing.{IsLeader, IsMember}
use Rattle.table_rows.proofs.Serving as rows

module _ (ms : Monitors) (i : ℕ) (lt : ltb i ms.count ≡ true) (sh : List Entry) (now : ℕ) (w : Readings) (s : State) where
  abbrev me : Me
  me = member_of ms i lt

  -- ---- a peon

  module _ (f e : ℕ) (nf : f ≡ i → ⊥) (follows : s.phase ≡ phase.Peon) (leader : s.peon.leader ≡ f) (epoch : epoch_of w ≡ e) where
    led : IsLeader me w s f e
    led = record { other = nf; follows = follows; epoch = epoch; leader = leader }

    pub commit_row : (x : List Op) → suc w.last ≤ 2 ^ 62
        → react me sh now w s (input.Deliver (record { from = f; monitors = ms.count; epoch = e; body = body.Commit (suc w.last) (x ∷ []) }))
        ≡ Ok (at_rest w s ▸ change_all (Learn (suc w.last) x ∷ []) ▸ change (Last (suc w.last)))
    commit_row x fits = rows.commit_row me sh now led (suc w.last) x refl fits

    pub lease_row : is_some (pending w) ≡ false
        → react me sh now w s (input.Deliver (record { from = f; monitors = ms.count; epoch = e; body = body.Lease w.last }))
        ≡ Ok (at_rest w s ▸ peon_is (record s.peon { lease = lease.extended now }) ▸ arm now timer.Lease ▸ send me f (body.LeaseAck w.last))
    lease_row settled = rows.lease_row me sh now led w.last refl settled

    pub begin_row : (x : List Op)
        → react me sh now w s (input.Deliver (record { from = f; monitors = ms.count; epoch = e; body = body.Begin (promise_of w) (suc w.last) x }))
        ≡ Ok (at_rest w s ▸ change (Vote (suc w.last) (promise_of w) x) ▸ cancel ▸ send me f (body.Accept (promise_of w) (suc w.last)))
    begin_row x = rows.begin_row me sh now led (promise_of w) (suc w.last) x refl refl

  -- ---- the leader

  module _ (f e : ℕ) (nf : f ≡ i → ⊥) (member : has s.leader.quorum f ≡ true) (epoch : epoch_of w ≡ e) where
    is_member : s.phase ≡ phase.Active → IsMember me w s phase.Active f e
    is_member leads = record { other = nf; leads = leads; epoch = epoch; member = member }

    pub ack_row : s.phase ≡ phase.Active
        → react me sh now w s (input.Deliver (record { from = f; monitors = ms.count; epoch = e; body = body.LeaseAck w.last }))
        ≡ Ok (at_rest w s ▸ leader_is (record s.leader { acks = with_rank s.leader.acks f }) ▸ disarm_if (are_within ms.count s.leader.quorum (with_rank s.leader.acks f)) timer.LeaseAck)
    ack_row leads = rows.lease_ack_row me sh now (is_member leads) w.last refl

    -- one that comes while a value is in progress
    pub late_ack_row : (v : ℕ) → s.phase ≡ phase.Updating
        → react me sh now w s (input.Deliver (record { from = f; monitors = ms.count; epoch = e; body = body.LeaseAck v })) ≡ Ok (at_rest w s)
    late_ack_row v leads = rows.late_lease_ack_row me sh now w s e nf leads v

  -- the leases are renewed
  abbrev pub renews : Course
  renews = record {
    readings = w;
    changes = [];
    state = record s {
      leader = record s.leader { lease = lease.extended now; acks = only i };
      timers = maybe_armed (not (is_empty s.clients.queue)) now (extended_timers now (is_empty (members me s.leader.quorum)) (disarmed timer.Renew s.timers));
    };
    out = map (message_to me (epoch_of w) (body.Lease w.last)) (members me s.leader.quorum);
  }

  pub renew_row : s.phase ≡ phase.Active → is_some (end_of timer.Renew s.timers) ≡ true → react me sh now w s (input.Timer timer.Renew) ≡ Ok renews
  unfolding extend
  renew_row leads armed = rows.renew_row me sh now w s leads armed

  -- ---- a value in progress

  module _ (p : Phase) (begun : (p ≡ phase.Previous) ⊎ (p ≡ phase.Updating)) (q : List Bool) (pn : ℕ) (x : List Op) where
    abbrev pub proposing : State
    proposing = record s { phase = p; leader = record s.leader { quorum = q; pn = pn; value = Some x } }

    module _ (f e : ℕ) (nf : f ≡ i → ⊥) (member : has q f ≡ true) (epoch : epoch_of w ≡ e) where
      proposes_to : IsMember me w proposing p f e
      proposes_to = record { other = nf; leads = refl; epoch = epoch; member = member }

      pub accept_row : are_within ms.count q (with_rank s.leader.accepted f) ≡ false
          → react me sh now w proposing (input.Deliver (record { from = f; monitors = ms.count; epoch = e; body = body.Accept pn (suc w.last) }))
          ≡ Ok (at_rest w proposing ▸ leader_is (record (proposing.leader) { accepted = with_rank s.leader.accepted f }))
      accept_row more = rows.accept_row me sh now begun proposes_to pn (suc w.last) refl refl more

      -- what the store's readers return after the commit
      abbrev pub after_commit : Readings
      after_commit = played (Learn (suc w.last) x ∷ Last (suc w.last) ∷ []) w

      abbrev pub commits : Course
      commits = record {
        readings = after_commit;
        changes = Learn (suc w.last) x ∷ Last (suc w.last) ∷ [];
        state = record s {
          phase = phase.Active;
          leader = record s.leader {
            quorum = q;
            pn = pn;
            stage = stage.Active;
            accepted = with_rank s.leader.accepted f;
            value = None;
            origin = None;
            lease = lease.extended now;
            acks = only i;
          };
          timers = maybe_armed (not (is_empty s.clients.queue)) now (extended_timers now (is_empty (members me q)) (only_ping (disarmed timer.Accept s.timers)));
        };
        out = (map (message_to me (epoch_of after_commit) (body.Commit (suc w.last) (x ∷ []))) (members me q)
            ++ map (message_to me (epoch_of after_commit) (body.Lease (suc w.last))) (members me q))
            ++ answers_to me (epoch_of after_commit) s.leader.origin (reply.Done (suc w.last));
      }

      committed : (p ≡ phase.Previous) ⊎ (p ≡ phase.Updating) → rows.told_all me now (suc w.last) x (rows.learned (suc w.last) x (rows.accepted w proposing f)) ≡ commits
      unfolding be_active extend
      committed (inl is) = subst (λ (z : Phase). rows.told_all me now (suc w.last) x (rows.learned (suc w.last) x (rows.accepted w (record s { phase = z; leader = record s.leader { quorum = q; pn = pn; value = Some x } }) f)) ≡ commits) (sym is) refl
      committed (inr is) = subst (λ (z : Phase). rows.told_all me now (suc w.last) x (rows.learned (suc w.last) x (rows.accepted w (record s { phase = z; leader = record s.leader { quorum = q; pn = pn; value = Some x } }) f)) ≡ commits) (sym is) refl

      pub last_accept_row : are_within ms.count q (with_rank s.leader.accepted f) ≡ true → suc w.last ≤ 2 ^ 62
          → react me sh now w proposing (input.Deliver (record { from = f; monitors = ms.count; epoch = e; body = body.Accept pn (suc w.last) })) ≡ Ok commits
      last_accept_row all fits =
          rows.last_accept_row me sh now begun proposes_to pn (suc w.last) refl refl all x refl ∙ rows.commits me now x (rows.accepted w proposing f) fits ∙ ap Ok (committed begun)

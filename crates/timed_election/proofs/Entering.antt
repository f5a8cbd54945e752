-- How a monitor in an even epoch takes part in the election of the next one: it calls it, or defers to a candidate.
use Rattle.law_names.proofs.Runs.{Monitors}
use Rattle.law_names.proofs.Table.{Course, Epoch, Input, Me, Readings, Scores, State, Timer, adopt, armed, at_rest, elect, end_of, epoch_of, index_of, is_allowed, is_even, may_defer, merge, message_to, no_ranks, only, only_ping, others, same_phase, scores_count, stands_before, table_or, unarmed, weigh}
use Rattle.mon_wire.specs.declared.body.Body.TheVariants as body
use Rattle.mon_wire.specs.declared.phase.Phase.TheVariants as phase
use Rattle.mon_wire.specs.declared.phase.Timer.TheVariants as timer
use Rattle.quorum_model.proofs.Members.{member_of}
use Rattle.quorum_stays.proofs.Timers.{armed_size, ends, only_ping_is, same_kind_or, still_ends}
use Rattle.quorum_timed.proofs.Armed.{Timers}
use Rattle.quorum_walk.proofs.Parity.{odd_of_even}
use Rattle.quorum_walk.proofs.Walk.{Then, by_test, done}
use Rattle.std.proofs.Common.{Bool, Err, List, None, Ok, Option, Some, [], ap, arith, cond, false, inl, inr, is_some, length, ltb, map, not, refl, subst, suc, sym, true, ℕ, ◌&&◌, ◌+◌, ◌^◌, ◌∙◌, ◌∷◌, ◌≡◌, ◌≤◌}
use Rattle.std.proofs.lemmas.Bool.{false≢true}
use Rattle.std.proofs.lemmas.List.{length-set}
use Rattle.std.proofs.lemmas.Option.{none-some}
use Rattle.table_rows.proofs.Electing.{elects_next, elects_now}
use Rattle.timed_election.proofs.Outcomes.{Heard}

module _ (ms : Monitors) (i : ℕ) (lt : ltb i ms.count ≡ true) (now : ℕ) (w : Readings) where
  abbrev me : Me
  me = member_of ms i lt

  abbrev pub next : ℕ
  next = suc (epoch_of w)

  -- the timer of the election was armed now, and no other is armed
  pub record IsFresh (ts : Timers) : Type 0 where
    pub kinds : length ts ≡ 11
    pub ends : end_of timer.Election ts ≡ Some (now + 5000)
    pub only : (kind : Timer) (end : ℕ) → end_of kind ts ≡ Some end → kind ≡ timer.Election

  -- it takes part in the election of the next epoch, and remembers this of it
  pub record Joins (stands : Bool) (those : List Bool) (whom : Option ℕ) (y : Course) : Type 0 where
    pub phase : y.state.phase ≡ phase.Electing
    pub candidate : y.state.elector.candidate ≡ stands
    pub acked : y.state.elector.acked ≡ those
    pub deferred : y.state.elector.deferred ≡ whom
    pub timers : IsFresh y.state.timers
    pub changes : y.changes ≡ Epoch next ∷ []

  -- it calls the election
  pub record Calls (y : Course) : Type 0 where
    pub joins : Joins true (only i) None y
    pub out : y.out ≡ map (message_to me next (body.Propose None)) (others me)

  -- it calls it, or defers to a candidate who called it
  pub data Joined (came : Input) (y : Course) : Type 0 where
    calls : Calls y → Joined came y
    defers : (f : ℕ) (t : Option Scores) (table : Scores) → Heard ms.count came f next (body.Propose t) → (is_allowed me f && stands_before me table f i) ≡ true
        → Joins false no_ranks (Some f) y → y.out ≡ message_to me next body.Ack f ∷ [] → Joined came y

  module _ (ranks : scores_count ms.rule ≡ false) (even : is_even (epoch_of w) ≡ true) (fits : suc (epoch_of w) ≤ 2 ^ 62) (room : now + 10000 ≤ 2 ^ 62) where
    odd : is_even next ≡ false
    odd = odd_of_even (epoch_of w) even

    -- ---- timers

    armed_one : (ts : Timers) → length ts ≡ 11 → ((kind : Timer) (end : ℕ) → end_of kind ts ≡ Some end → kind ≡ timer.Election) → IsFresh (armed now timer.Election ts)
    armed_one ts size only_one = record {
      kinds = armed_size now timer.Election ts size;
      ends = ends now timer.Election ts size (omega arith);
      only = λ kind end on. elim (same_kind_or kind timer.Election) [
        | inl same ↦ same
        | inr ne ↦ only_one kind end (sym (still_ends now kind timer.Election ts ne) ∙ on)
      ];
    }

    fresh : (ts : Timers) → end_of timer.Ping ts ≡ None → IsFresh (armed now timer.Election (only_ping ts))
    fresh ts calm = armed_one (only_ping ts) (length-set unarmed (index_of timer.Ping) (end_of timer.Ping ts)) (λ kind end on. absurd (none-some end (sym calm ∙ (only_ping_is ts kind end on).1)))

    -- ---- a call

    -- what its changes are after it joined
    abbrev joined : State → Course
    joined z = record { readings = record w { epoch = Some next }; changes = Epoch next ∷ []; state = z; out = [] }

    module _ (z : State) (calm : end_of timer.Ping z.timers ≡ None) (away : same_phase z.phase phase.Electing ≡ false) where
      begun : IsFresh (armed now timer.Election (cond (same_phase z.phase phase.Electing) z.timers (only_ping z.timers)))
      begun = subst (λ (b : Bool). IsFresh (armed now timer.Election (cond b z.timers (only_ping z.timers)))) (sym away) (fresh z.timers calm)

      pub called : Then Calls (elect me now (at_rest w z))
      called = subst (Then Calls) (sym (elects_next me now (at_rest w z) even fits)) (done (record {
        joins = record { phase = refl; candidate = refl; acked = refl; deferred = refl; timers = begun; changes = refl };
        out = rw ranks refl;
      }))

    called_later : (z : State) → same_phase z.phase phase.Electing ≡ true → IsFresh z.timers → Then Calls (elect me now (joined z))
    called_later z here F = subst (Then Calls) (sym (elects_now me now (joined z) odd)) (done (record {
      joins = record {
        phase = refl;
        candidate = refl;
        acked = refl;
        deferred = refl;
        timers = subst (λ (b : Bool). IsFresh (armed now timer.Election (cond b z.timers (only_ping z.timers)))) (sym here) (armed_one z.timers F.kinds F.only);
        changes = refl;
      };
      out = rw ranks refl;
    }))

    -- ---- a candidate's call

    weighed : (came : Input) (f : ℕ) (t : Option Scores) (table : Scores) (z : State) → same_phase z.phase phase.Electing ≡ true → IsFresh z.timers → z.elector.candidate ≡ false → z.elector.deferred ≡ None
        → z.phase ≡ phase.Electing → Heard ms.count came f next (body.Propose t) → Then (Joined came) (weigh me now table f (joined z))
    weighed came f t table z here F stands whom is H =
        by_test (is_allowed me f && stands_before me table f i)
        (λ better. by_test (may_defer me table f z.elector.deferred)
        (λ _. done (defers f t table H better (record { phase = is; candidate = refl; acked = refl; deferred = refl; timers = F; changes = refl }) refl))
        (λ isnt. absurd (false≢true (sym isnt ∙ ap (may_defer me table f) whom))))
        (λ _. by_test (not (is_some z.elector.deferred) && not z.elector.candidate)
        (λ _. calls_so (elect me now (joined z)) (called_later z here F))
        (λ isnt. absurd (false≢true (sym isnt ∙ (λ j. not (is_some (whom j)) && not (stands j))))))
      where
        calls_so : (r : _) → Then Calls r → Then (Joined came) r
        calls_so (Ok y) k = done (calls k.holds)
        calls_so (Err e) k = record { holds = tt }

    module _ (z : State) (calm : end_of timer.Ping z.timers ≡ None) (away : same_phase z.phase phase.Electing ≡ false) where
      pub proposed : (came : Input) (f : ℕ) (t : Option Scores) → Heard ms.count came f next (body.Propose t) → Then (Joined came) (weigh me now (table_or t z.elector.scores) f (merge t (adopt now next (at_rest w z))))
      unfolding adopt
      proposed came f t H = weighed came f t (table_or t z.elector.scores) _ refl (begun z calm away) refl refl refl H

      pub acked : Then Calls (elect me now (adopt now next (at_rest w z)))
      unfolding adopt
      acked = called_later _ refl (begun z calm away)

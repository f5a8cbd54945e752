-- An election goes on, event by event, until the best member wins it.
use Rattle.law_names.proofs.Runs.{Envelope, Event, Monitors, message_at, messages_of}
use Rattle.law_names.proofs.Table.{AllByRecursion, State, has, readings_of, shared_entries}
use Rattle.log_model.proofs.Lists.{all_map}
use Rattle.quorum_stays.proofs.Staying.{goes_on, time_of_next}
use Rattle.quorum_stays.proofs.SteppingDown.{here}
use Rattle.quorum_stays.specs.Reading.{ClocksGoOn}
use Rattle.quorum_stays.specs.Steady.{Reign}
use Rattle.quorum_timed.specs.Begins.{IsBetween, IsQuick}
use Rattle.quorum_timed.specs.Timed.{Comes, Leads, MayBe, Pace, Timed, at_time}
use Rattle.std.proofs.Common.{Bool, IsSomeAnd, List, [], ap, arith, inl, inr, refl, suc, sym, true, ℕ, ◌++◌, ◌+◌, ◌<◌, ◌∙◌, ◌∷◌, ◌≡◌, ◌≤◌, ◌⊎◌}
use Rattle.std.proofs.lemmas.Bool.{lt-ltb}
use Rattle.std.proofs.lemmas.List.{append_assoc}
use Rattle.timed_election.proofs.Coming.{Handled, handled}
use Rattle.timed_election.proofs.Events.{Result, result, turns, won}
use Rattle.timed_election.proofs.Lists.{closed, opened}
use Rattle.timed_election.proofs.Outcomes.{VotesOrAnswers}
use Rattle.timed_election.proofs.Parts.{joined}
use Rattle.timed_election.proofs.Times.{over_by}
use Rattle.timed_election.proofs.Turning.{turned}
use Rattle.timed_election.proofs.Winning.{is_raised, is_won, sent_away}
use Rattle.timed_election.specs.Election.{CanElect, Election, Elects, IsOfElection, IsRaised, IsWon, IsWonBy, TakesPart}

module _ (ms : Monitors) (q : List Bool) (pace : Pace) (quick : IsQuick pace) (E : Election) where
  -- ---- one event

  module _ (t : Timed) (X : Elects ms q pace E t) (u : ℕ) (M : MayBe ms q pace t u) (next : Timed) (room : ClocksGoOn q pace u) where
    abbrev C : CanElect ms q E.best
    C = X.can

    between : (f i : ℕ) → has q f ≡ true → has q i ≡ true → AllByRecursion (λ o. IsBetween t.world f i o.number) (t.under_way f i)
    between f i qf qi = all_map (IsOfElection E t.world.messages f i (t.time + pace.delay)) (λ o. IsBetween t.world f i o.number) (λ o O. closed (λ (m : Envelope). (m.message.from ≡ f) × (m.to ≡ i)) (message_at t.world.messages o.number) O.envelope O.there (O.sender, O.receiver)) (t.under_way f i) (X.under_way f i qf qi)

    ups : (i : ℕ) → has q i ≡ true → IsSomeAnd (t.world.state i) (λ s. Unit {0})
    ups i qi = let P = opened (TakesPart q pace E i) (t.world.state i) (X.part i qi) in closed (λ (s : State). Unit {0}) (t.world.state i) P.0 P.1 tt

    -- an event with which the election goes on
    pub record Goes (e : Event) (H : Handled ms q pace C.members t u next e) : Type 0 where
      pub elects : Elects ms q pace E next
      pub changes : H.course.changes ≡ []
      pub answers : AllByRecursion (VotesOrAnswers H.came) (messages_of H.course.out)

    -- The event with which it is won. What the winner sends is of the next epoch.
    pub record WinsBy (e : Event) (H : Handled ms q pace C.members t u next e) : Type 0 where
      pub winner : H.i ≡ E.best
      pub over : E.from + 5000 ≤ u
      pub won : IsWon ms q pace E next
      pub number : ℕ
      pub raised : IsRaised E number (readings_of (t.world.store E.best)) (readings_of (next.world.store E.best))
      pub fresh : AllByRecursion (λ (m : Envelope). (m.message.from ≡ H.i) × (m.to ≡ H.i → ⊥) × (m.message.epoch ≡ suc E.epoch)) (messages_of H.course.out)

    stepped : (e : Event) → Comes ms q pace (at_time ms q pace u t) next e → (H : Handled ms q pace C.members t u next e) × (Goes e H ⊎ WinsBy e H)
    stepped e comes = (H, by (result ms q pace quick E t X u M H.i H.member (lt-ltb H.i ms.count (C.members H.i H.member)) H.came e H.left H.state H.up H.how (shared_entries (t.world.store H.i)) H.course H.reacts (room H.i H.member)))
      where
        H : Handled ms q pace C.members t u next e
        H = handled ms q pace C.members t u between ups next e comes

        by : Result ms q pace quick E t X u M H.i H.member (lt-ltb H.i ms.count (C.members H.i H.member)) H.came e H.left H.state H.up H.how (shared_entries (t.world.store H.i)) H.course H.reacts (room H.i H.member) → Goes e H ⊎ WinsBy e H
        by (turns unchanged T) = inl (record {
          elects = turned ms q pace quick E t X u M next e H.left H.went H.i H.member (lt-ltb H.i ms.count (C.members H.i H.member)) H.came H.state H.up H.how H.course H.reacts (room H.i H.member) H.did unchanged T;
          changes = unchanged;
          answers = T.answers;
        })
        by (won best over all W) = inr (record {
          winner = best;
          over = over;
          won = is_won ms q pace quick E t X u M next e H.left H.went H.i H.member (lt-ltb H.i ms.count (C.members H.i H.member)) H.came H.state H.up H.how H.course H.reacts (room H.i H.member) H.did best over all W;
          number = W.pn;
          raised = is_raised ms q pace quick E t X u M next e H.left H.went H.i H.member (lt-ltb H.i ms.count (C.members H.i H.member)) H.came H.state H.up H.how H.course H.reacts (room H.i H.member) H.did best over all W;
          fresh = sent_away ms q pace quick E t X u M next e H.left H.went H.i H.member (lt-ltb H.i ms.count (C.members H.i H.member)) H.came H.state H.up H.how H.course H.reacts (room H.i H.member) H.did best over all W;
        })

  -- ---- the run

  -- times don't depend on who leads
  nobody : Reign
  nobody = record { leader = E.best; epoch = E.epoch; pn = 0 }

  -- What all events but the last one keep holds until then.
  module _ (P : Timed → Type 0)
      (lasts : (t : Timed) (X : Elects ms q pace E t) (u : ℕ) (M : MayBe ms q pace t u) (next : Timed) (e : Event) (H : Handled ms q pace X.can.members t u next e) → H.course.changes ≡ []
      → AllByRecursion (VotesOrAnswers H.came) (messages_of H.course.out) → P t → P next) where
    -- the election is won by the last of these events
    pub record WonAfter (t last : Timed) (more : List (ℕ × Event)) (by : ℕ) : Type 0 where
      pub before : List (ℕ × Event)
      pub at : ℕ
      pub event : Event
      pub after : List (ℕ × Event)
      pub parts : more ≡ before ++ (at, event) ∷ after
      pub eve : Timed
      pub run : Leads ms q pace t before eve
      pub elects : Elects ms q pace E eve
      pub lasting : P eve
      pub on : MayBe ms q pace eve at
      pub room : ClocksGoOn q pace at
      pub reached : Timed
      pub handled : Handled ms q pace elects.can.members eve at reached event
      pub comes : Comes ms q pace (at_time ms q pace at eve) reached event
      pub wins : WinsBy eve elects at on reached room event handled
      pub in_time : reached.time ≤ by
      pub rest : Leads ms q pace reached after last

    pub ends_after : (t last : Timed) (more : List (ℕ × Event)) → Elects ms q pace E t → P t → Leads ms q pace t more last → ClocksGoOn q pace last.time → E.by + 5000 + pace.late < last.time
        → WonAfter t last more (E.by + 5000 + pace.late)
    ends_after t last [] X p L room late = let k = over_by ms q pace quick E t X last.time L.0 in absurd (omega arith)
    ends_after t last ((u, e) ∷ more) X p L room late = by (stepped t X u L.0 L.1.0 room_now e L.1.1) (λ Y k. ends_after L.1.0 last more Y k L.1.2 room late)
      where
        M : MayBe ms q pace t u
        M = L.0

        next : Timed
        next = L.1.0

        time_is : next.time ≡ u
        time_is = time_of_next ms q pace nobody quick (at_time ms q pace u t) next e L.1.1

        passes : u ≤ last.time
        passes = let a = time_is in let c = goes_on ms q pace nobody quick more next last L.1.2 in omega arith

        room_now : ClocksGoOn q pace u
        room_now i qi = let k = room i qi in let l = passes in omega arith

        by : (H : Handled ms q pace X.can.members t u next e) × (Goes t X u L.0 L.1.0 room_now e H ⊎ WinsBy t X u L.0 L.1.0 room_now e H) → (Elects ms q pace E next → P next → WonAfter next last more (E.by + 5000 + pace.late))
            → WonAfter t last ((u, e) ∷ more) (E.by + 5000 + pace.late)
        by (H, inl G) rest = (let W = rest G.elects (lasts t X u M next e H G.changes G.answers p) in record {
          before = (u, e) ∷ W.before;
          at = W.at;
          event = W.event;
          after = W.after;
          parts = ap (λ (z : List (ℕ × Event)). (u, e) ∷ z) W.parts;
          eve = W.eve;
          run = (M, (next, L.1.1, W.run));
          elects = W.elects;
          lasting = W.lasting;
          on = W.on;
          room = W.room;
          reached = W.reached;
          handled = W.handled;
          comes = W.comes;
          wins = W.wins;
          in_time = W.in_time;
          rest = W.rest;
        })
        by (H, inr W) rest = record {
          before = [];
          at = u;
          event = e;
          after = more;
          parts = refl;
          eve = t;
          run = (here ms q pace t last ((u, e) ∷ more) L, refl);
          elects = X;
          lasting = p;
          on = M;
          room = room_now;
          reached = next;
          handled = H;
          comes = L.1.1;
          wins = W;
          in_time = (let k = over_by ms q pace quick E t X u M in let z = time_is in omega arith);
          rest = L.1.2;
        }

  -- ---- the law

  pub ends : (t last : Timed) (more : List (ℕ × Event)) → Elects ms q pace E t → Leads ms q pace t more last → ClocksGoOn q pace last.time → E.by + 5000 + pace.late < last.time → IsWonBy ms q pace E t more (E.by + 5000 + pace.late)
  ends t last more X L room late =
      let W = ends_after (λ _. Unit {0}) (λ _ _ _ _ _ _ _ _ _ _. tt) t last more X tt L room late in record {
        before = W.before ++ (W.at, W.event) ∷ [];
        after = W.after;
        parts = W.parts ∙ sym (append_assoc W.before ((W.at, W.event) ∷ []) W.after);
        reached = W.reached;
        run = joined ms q pace W.before t W.eve W.reached ((W.at, W.event) ∷ []) W.run (W.on, (W.reached, W.comes, (here ms q pace W.reached last W.after W.rest, refl)));
        by = W.in_time;
        won = (W.wins).won;
      }

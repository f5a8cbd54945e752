-- What is under way between two members is of the one and to the other, as long as a timed run goes on.
use Rattle.law_names.proofs.Runs.{Arrives, Down, Envelope, Event, Full, Meeting, Monitors, NoMessage, Plain, Reacts, Stop, World, after_meeting, happens, in_world, meets, message_at, messages_of, most_size, moved, size_of, unmoved}
use Rattle.law_names.proofs.Table.{AllByRecursion, Reaction, apply, has}
use Rattle.log_model.proofs.Lists.{all_append, all_map}
use Rattle.quorum_stays.proofs.Carrying.{more_messages}
use Rattle.quorum_stays.proofs.Leaving.{parts}
use Rattle.quorum_stays.proofs.Onward.{all_left}
use Rattle.quorum_stays.proofs.UnderWay.{all_numbers, all_owed, new_are, new_there, numbers}
use Rattle.quorum_timed.specs.Begins.{Begins, IsBetween}
use Rattle.quorum_timed.specs.Timed.{Again, Arriving, Asking, Comes, Firing, Leads, Owed, Pace, Timed, Went, at_time, new_between, owed_by, without_first}
use Rattle.std.proofs.Common.{Bool, Err, List, Ok, Result, Some, [], ap, arith, length, nat_lt, refl, slice_get, subst, suc, sym, true, ℕ, ◌++◌, ◌+◌, ◌∙◌, ◌∷◌, ◌≡◌}
use Rattle.std.proofs.lemmas.Bool.{cond_both}
use Rattle.std.proofs.lemmas.List.{append-nil}
use Rattle.timed_election.proofs.Lists.{closed, opened}
use Rattle.timed_failover.specs.Collecting.{AreBetween}

-- ---- an event sends messages, and takes none away

abbrev Sent : World → World → Type 0
Sent w next = (new : List Envelope) × (next.messages ≡ w.messages ++ new)

module _ (ms : Monitors) (w : World) (p : Plain) (next : World) where
  unmoved_sent : ◌≡◌ {A = Result World Stop} (Ok (unmoved w p)) (Ok next) → Sent w next
  unfolding unmoved
  unmoved_sent e = let same : unmoved w p ≡ next = cc in ([], ap (λ (z : World). z.messages) (sym same) ∙ sym (append-nil w.messages))

  moved_sent : (i : ℕ) (r : Reaction) → ◌≡◌ {A = Result World Stop} (Ok (moved w p i r)) (Ok next) → Sent w next
  unfolding moved
  moved_sent i r e = let same : moved w p i r ≡ next = cc in (messages_of r.sends, ap (λ (z : World). z.messages) (sym same) ∙ refl)

  meets_sent : (m : Meeting) → after_meeting w (Arrives p) m ≡ Ok next → Sent w next
  meets_sent NoMessage e = unmoved_sent e
  meets_sent Down e = unmoved_sent e
  meets_sent (Reacts i input (Err which)) e = absurd cc
  meets_sent (Reacts i input (Ok r)) e =
      cond_both (nat_lt most_size (size_of (apply r.transaction (w.store i)))) (Err (Full (size_of (apply r.transaction (w.store i))))) (Ok r) (λ (o : Result Reaction Stop). in_world (moved w p i) o ≡ Ok next → Sent w next)
      (λ _ k. absurd cc) (λ _ k. moved_sent i r k) e

  happens_sent : happens ms w (Arrives p) ≡ Ok next → Sent w next
  happens_sent e = meets_sent (meets ms w p) e

-- ---- in a timed run

module _ (ms : Monitors) (q : List Bool) (pace : Pace) where
  went_between : (t next : Timed) (e : Event) (p : Plain) → e ≡ Arrives p → (left : ℕ → ℕ → List Owed) → Went ms q pace t e left next
      → ((f i : ℕ) → has q f ≡ true → has q i ≡ true → AllByRecursion (λ o. IsBetween t.world f i o.number) (left f i)) → AreBetween q next
  went_between t next e p is left went stay f i qf qi =
      let S = happens_sent ms t.world p next.world (subst (λ (z : Event). happens ms t.world z ≡ Ok next.world) is went.happened) in
      let ns = numbers f i (suc (length t.world.messages)) S.0 in
      let now : next.under_way f i ≡ left f i ++ owed_by (t.time + pace.delay) ns =
      went.sent f i
      ∙ ap (λ (m : List Envelope). left f i ++ owed_by (t.time + pace.delay) (new_between (length t.world.messages) f i m)) S.1
      ∙ ap (λ (z : List ℕ). left f i ++ owed_by (t.time + pace.delay) z) (new_are f i t.world.messages S.0) in
      subst (AllByRecursion (λ o. IsBetween next.world f i o.number)) (sym now)
      (all_append (λ o. IsBetween next.world f i o.number) (left f i) (owed_by (t.time + pace.delay) ns)
      (all_map (λ o. IsBetween t.world f i o.number) (λ o. IsBetween next.world f i o.number) (λ o h. old S.0 S.1 o.number h) (left f i) (stay f i qf qi))
      (all_owed (t.time + pace.delay) ns (λ k. IsBetween next.world f i k) (λ o. IsBetween next.world f i o.number) (λ k h. h)
      (all_numbers f i (suc (length t.world.messages)) S.0 (λ k. IsBetween next.world f i k) (λ d m there from to. new S.0 S.1 d m there from to))))
    where
      Goes : Envelope → Type 0
      Goes m = (m.message.from ≡ f) × (m.to ≡ i)

      old : (es : List Envelope) → next.world.messages ≡ t.world.messages ++ es → (k : ℕ) → IsBetween t.world f i k → IsBetween next.world f i k
      old es sent k h = let m = opened Goes (message_at t.world.messages k) h in closed Goes (message_at next.world.messages k) m.0 (ap (λ (z : List Envelope). message_at z k) sent ∙ more_messages t.world.messages es k m.0 m.1) m.2

      new : (es : List Envelope) → next.world.messages ≡ t.world.messages ++ es → (d : ℕ) (m : Envelope) → slice_get es d ≡ Some m → m.message.from ≡ f → m.to ≡ i → IsBetween next.world f i (suc (length t.world.messages) + d)
      new es sent d m there from to =
          let number : suc (length t.world.messages) + d ≡ suc (length t.world.messages + d) = omega arith in
          closed Goes (message_at next.world.messages (suc (length t.world.messages) + d)) m
          (ap (message_at next.world.messages) number ∙ ap (λ (z : List Envelope). slice_get z (length t.world.messages + d)) sent ∙ new_there t.world.messages es d m there) (from, to)

  comes_between : (t next : Timed) (e : Event) → Comes ms q pace t next e → AreBetween q t → AreBetween q next
  comes_between t next e (Arriving f i qf qi o others first is went) B =
      let all = subst (AllByRecursion (λ o. IsBetween t.world f i o.number)) first (B f i qf qi) in
      went_between t next e _ is (without_first f i others t.under_way) went (λ g j qg qj. all_left f i others t.under_way (λ g j o. IsBetween t.world g j o.number) g j all.1 (B g j qg qj))
  comes_between t next e (Again f i qf qi n calls is went) B = went_between t next e _ is t.under_way went B
  comes_between t next e (Firing i qi s up kind end set due is went) B = went_between t next e _ is t.under_way went B
  comes_between t next e (Asking i qi session request is went) B = went_between t next e _ is t.under_way went B

  pub led_between : (more : List (ℕ × Event)) (t last : Timed) → AreBetween q t → Leads ms q pace t more last → AreBetween q last
  led_between [] t last B L = subst (AreBetween q) (sym L.1) B
  led_between ((u, e) ∷ more) t last B L = led_between more L.1.0 last (comes_between (at_time ms q pace u t) L.1.0 e L.1.1 B) L.1.2

  pub begins_between : (t : Timed) → Begins ms q pace t → AreBetween q t
  begins_between t B f i qf qi = parts t.world f i (pace.since + pace.delay) 0 (t.under_way f i) (B.earlier f i qf qi)

-- Each event of a timed run is at one member. What arrives at it is of a member, and so is what is under way afterwards.
use Rattle.law_names.proofs.Runs.{Arrives, Client, Deliver, Envelope, Event, Monitors, Plain, Ring, World, arrival, happens, message_at, messages_of, moved, state_at}
use Rattle.law_names.proofs.Table.{AllByRecursion, Course, Input, Message, State, has, react, reaction_of, readings_of, shared_entries}
use Rattle.log_model.proofs.Lists.{all_append, all_map}
use Rattle.mon_msg.specs.declared.input.Input.TheVariants as input
use Rattle.quorum_model.proofs.Members.{member_of}
use Rattle.quorum_stays.proofs.Onward.{all_left, unpack}
use Rattle.quorum_stays.proofs.Stepping.{becomes, reacts}
use Rattle.quorum_stays.proofs.UnderWay.{all_numbers, all_owed, get_more, new_are, new_there, numbers}
use Rattle.quorum_timed.specs.Begins.{IsBetween}
use Rattle.quorum_timed.specs.Timed.{Again, Arriving, Asking, Comes, Firing, Owed, Pace, Timed, Went, new_between, owed_by, without_first}
use Rattle.std.proofs.Common.{Bool, IsSomeAnd, List, None, Ok, Option, Some, ap, arith, length, ltb, option_map, refl, slice_get, subst, suc, sym, true, zero, ℕ, ◌++◌, ◌+◌, ◌<◌, ◌∙◌, ◌≡◌}
use Rattle.std.proofs.lemmas.Bool.{eq-eqb, lt-ltb, ne_eqb}

module _ (ms : Monitors) (q : List Bool) (pace : Pace) (within : (i : ℕ) → has q i ≡ true → i < ms.count) where
  pub lt : (i : ℕ) → has q i ≡ true → ltb i ms.count ≡ true
  lt i qi = lt-ltb i ms.count (within i qi)

  -- ---- messages

  -- what is under way among members is of them
  abbrev pub AllGo : Timed → Type 0
  AllGo t = (f i : ℕ) → has q f ≡ true → has q i ≡ true → AllByRecursion (λ o. IsBetween t.world f i o.number) (t.under_way f i)

  goes_on : (f i k : ℕ) (w next : World) (es : List Envelope) → next.messages ≡ w.messages ++ es → IsBetween w f i k → IsBetween next f i k
  goes_on f i zero w next es e h = absurd h
  goes_on f i (suc k) w next es e h = by (slice_get w.messages k) refl h
    where
      by : (o : Option Envelope) → slice_get w.messages k ≡ o → IsSomeAnd o (λ m. (m.message.from ≡ f) × (m.to ≡ i)) → IsSomeAnd (slice_get next.messages k) (λ m. (m.message.from ≡ f) × (m.to ≡ i))
      by None is h = absurd h
      by (Some m) is h = subst (λ (o : Option Envelope). IsSomeAnd o (λ m. (m.message.from ≡ f) × (m.to ≡ i))) (sym (ap (λ (z : List Envelope). slice_get z k) e ∙ get_more w.messages es k m is)) h

  goes_new : (f i d : ℕ) (w next : World) (es : List Envelope) (m : Envelope) → next.messages ≡ w.messages ++ es → slice_get es d ≡ Some m → (m.message.from ≡ f) × (m.to ≡ i) → IsBetween next f i (suc (length w.messages) + d)
  goes_new f i d w next es m e there is =
      let number : suc (length w.messages) + d ≡ suc (length w.messages + d) = omega arith in
      let at : message_at next.messages (suc (length w.messages) + d) ≡ Some m =
      ap (message_at next.messages) number ∙ ap (λ (z : List Envelope). slice_get z (length w.messages + d)) e ∙ new_there w.messages es d m there in
      subst (λ (o : Option Envelope). IsSomeAnd o (λ m. (m.message.from ≡ f) × (m.to ≡ i))) (sym at) is

  envelope_at : (f i k : ℕ) (w : World) → IsBetween w f i k → (m : Envelope) × (message_at w.messages k ≡ Some m) × (m.message.from ≡ f) × (m.to ≡ i)
  envelope_at f i k w h = by (message_at w.messages k) h
    where
      by : (o : Option Envelope) → IsSomeAnd o (λ m. (m.message.from ≡ f) × (m.to ≡ i)) → (m : Envelope) × (o ≡ Some m) × (m.message.from ≡ f) × (m.to ≡ i)
      by None k = absurd k
      by (Some m) k = (m, refl, k.0, k.1)

  -- ---- an event at a member

  -- the message with that number was sent to monitor i
  pub record IsSent (w : World) (k i : ℕ) (m : Message) : Type 0 where
    pub there : message_at w.messages k ≡ Some (record { to = i; message = m })

  -- what arrives at member i at this time
  abbrev pub Brought : World → (i at : ℕ) → Event → Input → Type 0
  Brought w i at e (input.Deliver m) = (has q m.from ≡ true) × ((k : ℕ) × (e ≡ Arrives (Deliver k at)) × IsSent w k i m)
  Brought w i at e (input.Client session r) = e ≡ Arrives (Client i at session r)
  Brought w i at e (input.Timer kind) = Unit {0}
  Brought w i at e input.Start = ⊥

  -- the event is at this member, which reacts so
  pub record AtMember (t next : Timed) (e : Event) : Type 0 where
    pub i : ℕ
    pub member : has q i ≡ true
    pub came : Input
    pub brought : Brought t.world i (t.time + pace.clock i) e came
    pub state : State
    pub up : t.world.state i ≡ Some state
    pub course : Course
    pub reacts : react (member_of ms i (lt i member)) (shared_entries (t.world.store i)) (t.time + pace.clock i) (readings_of (t.world.store i)) state came ≡ Ok course
    pub now : next.world.state i ≡ Some course.state
    pub others : (j : ℕ) → (j ≡ i → ⊥) → next.world.state j ≡ t.world.state j
    pub time : next.time ≡ t.time
    pub under_way : AllGo next

  module _ (t next : Timed) (A : AllGo t) (ups : (i : ℕ) → has q i ≡ true → IsSomeAnd (t.world.state i) (λ s. Unit {0})) where
    module _ (e : Event) (p : Plain) (is : e ≡ Arrives p) (left : ℕ → ℕ → List Owed) (went : Went ms q pace t e left next)
        (i : ℕ) (qi : has q i ≡ true) (came : Input) (a : arrival t.world p ≡ Some (record { rank = i; at = t.time + pace.clock i; input = came }))
        (running : (s : State) → t.world.state i ≡ Some s → state_at i (t.world.state i) came ≡ Some s) (brought : Brought t.world i (t.time + pace.clock i) e came)
        (stays : (f j : ℕ) → has q f ≡ true → has q j ≡ true → AllByRecursion (λ o. IsBetween t.world f j o.number) (left f j)) where
      abbrev at : ℕ
      at = t.time + pace.clock i

      abbrev S : (s : State) × (t.world.state i ≡ Some s) × Unit {0}
      S = unpack (λ s. Unit {0}) (t.world.state i) (ups i qi)

      happened : happens ms t.world (Arrives p) ≡ Ok next.world
      happened = subst (λ (z : Event). happens ms t.world z ≡ Ok next.world) is went.happened

      R : (y : Course) × (react (member_of ms i (lt i qi)) (shared_entries (t.world.store i)) (t.time + pace.clock i) (readings_of (t.world.store i)) S.0 came ≡ Ok y)
      R = reacts ms t.world next.world p i (lt i qi) at came S.0 a (running S.0 S.1) happened

      is_moved : next.world ≡ moved t.world p i (reaction_of R.0)
      is_moved = becomes ms t.world next.world p i (lt i qi) at came S.0 a (running S.0 S.1) happened R.0 R.1

      state_now : next.world.state i ≡ Some R.0.state
      unfolding moved
      state_now = ap (λ (z : World). z.state i) is_moved ∙ of_moved
        where
          of_moved : (moved t.world p i (reaction_of R.0)).state i ≡ Some R.0.state
          of_moved = rw (eq-eqb i i refl) refl

      other_state : (j : ℕ) → (j ≡ i → ⊥) → next.world.state j ≡ t.world.state j
      unfolding moved
      other_state j ne = ap (λ (z : World). z.state j) is_moved ∙ of_moved
        where
          of_moved : (moved t.world p i (reaction_of R.0)).state j ≡ t.world.state j
          of_moved = rw (ne_eqb j i ne) refl

      sent_now : next.world.messages ≡ t.world.messages ++ messages_of R.0.out
      unfolding moved
      sent_now = ap (λ (z : World). z.messages) is_moved ∙ of_moved
        where
          of_moved : (moved t.world p i (reaction_of R.0)).messages ≡ t.world.messages ++ messages_of R.0.out
          of_moved = refl

      go_next : AllGo next
      go_next f j qf qj =
          let es = messages_of R.0.out in
          let ns = numbers f j (suc (length t.world.messages)) es in
          let is : next.under_way f j ≡ left f j ++ owed_by (t.time + pace.delay) ns =
          went.sent f j
          ∙ ap (λ (m : List Envelope). left f j ++ owed_by (t.time + pace.delay) (new_between (length t.world.messages) f j m)) sent_now
          ∙ ap (λ (z : List ℕ). left f j ++ owed_by (t.time + pace.delay) z) (new_are f j t.world.messages es) in
          subst (AllByRecursion (λ o. IsBetween next.world f j o.number)) (sym is)
          (all_append (λ o. IsBetween next.world f j o.number) (left f j) (owed_by (t.time + pace.delay) ns)
          (all_map (λ o. IsBetween t.world f j o.number) (λ o. IsBetween next.world f j o.number) (λ o h. goes_on f j o.number t.world next.world es sent_now h) (left f j) (stays f j qf qj))
          (all_owed (t.time + pace.delay) ns (λ k. IsBetween next.world f j k) (λ o. IsBetween next.world f j o.number) (λ k h. h)
          (all_numbers f j (suc (length t.world.messages)) es (λ k. IsBetween next.world f j k) (λ d m there from to. goes_new f j d t.world next.world es m sent_now there (from, to)))))

      at_member : AtMember t next e
      at_member = record {
        i = i;
        member = qi;
        came = came;
        brought = brought;
        state = S.0;
        up = S.1;
        course = R.0;
        reacts = R.1;
        now = state_now;
        others = other_state;
        time = went.time;
        under_way = go_next;
      }

    -- a message that is under way, or a call, arrives
    delivered : (e : Event) (f i k : ℕ) → has q f ≡ true → (qi : has q i ≡ true) → e ≡ Arrives (Deliver k (t.time + pace.clock i)) → (m : Envelope) → message_at t.world.messages k ≡ Some m → (m.message.from ≡ f) × (m.to ≡ i)
        → (left : ℕ → ℕ → List Owed) → Went ms q pace t e left next → ((g j : ℕ) → has q g ≡ true → has q j ≡ true → AllByRecursion (λ o. IsBetween t.world g j o.number) (left g j)) → AtMember t next e
    delivered e f i k qf qi is m there between left went stays =
        let now = t.time + pace.clock i in
        let a : arrival t.world (Deliver k now) ≡ Some (record { rank = i; at = now; input = input.Deliver m.message }) =
        ap (option_map (λ (z : Envelope). record { rank = z.to; at = now; input = input.Deliver z.message })) there
        ∙ ap (λ (z : ℕ). Some (record { rank = z; at = now; input = input.Deliver m.message })) between.1 in
        at_member e (Deliver k now) is left went i qi (input.Deliver m.message) a (λ s up. up) (subst (λ (z : ℕ). has q z ≡ true) (sym between.0) qf, (k, is, record { there = there ∙ ap (λ (z : ℕ). Some (record { to = z; message = m.message })) between.1 })) stays

    pub moves : (e : Event) → Comes ms q pace t next e → AtMember t next e
    moves e (Arriving f i qf qi o others first is went) =
        let all = subst (AllByRecursion (λ o. IsBetween t.world f i o.number)) first (A f i qf qi) in
        let m = envelope_at f i o.number t.world all.0 in
        delivered e f i o.number qf qi is m.0 m.1 (m.2, m.3) (without_first f i others t.under_way) went
        (λ g j qg qj. all_left f i others t.under_way (λ g j o. IsBetween t.world g j o.number) g j all.1 (A g j qg qj))
    moves e (Again f i qf qi k calls is went) =
        delivered e f i k qf qi is calls.envelope calls.there (calls.sender, calls.receiver) t.under_way went A
    moves e (Firing i qi s up kind end set due is went) =
        at_member e (Ring i kind (t.time + pace.clock i)) is t.under_way went i qi (input.Timer kind) refl (λ s up. up) tt A
    moves e (Asking i qi session request is went) =
        at_member e (Client i (t.time + pace.clock i) session request) is t.under_way went i qi (input.Client session request) refl (λ s up. up) is A

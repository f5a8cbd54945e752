-- If nobody writes, nothing is begun.
use Rattle.law_names.proofs.Runs.{Arrives, Deliver, Envelope, Event, Monitors, arrival, message_at}
use Rattle.law_names.proofs.Table.{AllByRecursion, Me, Origin, Request, Session, State, Waiting, has, readings_of}
use Rattle.mon_msg.specs.declared.input.Input.TheVariants as input
use Rattle.mon_wire.specs.declared.request.Request.TheVariants as request
use Rattle.quorum_model.proofs.Members.{member_of}
use Rattle.quorum_stays.proofs.Coming.{Onward, no_call}
use Rattle.quorum_stays.proofs.Onward.{all_left, other_left, pack}
use Rattle.quorum_stays.proofs.Serves.{clocks_go_on}
use Rattle.quorum_stays.proofs.Serving.{Answered, Began, Committed, Goes, Kept, Queued, Refused, Renewed, Served, Turn}
use Rattle.quorum_stays.proofs.Staying.{goes_on, stays, time_of_next, waits_on}
use Rattle.quorum_stays.proofs.Stepping.{brought}
use Rattle.quorum_stays.proofs.Taking.{no_forward, taken_by, taken_elsewhere, taken_nowhere, taken_request}
use Rattle.quorum_stays.proofs.UnderWay.{all_numbers, all_owed, new_are, new_there, numbers}
use Rattle.quorum_stays.proofs.Waiting.{neither, not_empty}
use Rattle.quorum_stays.specs.Reading.{ClocksGoOn, Reads}
use Rattle.quorum_stays.specs.Serving.{HandsOnNothing, IsForward, NothingWaits, Writes}
use Rattle.quorum_stays.specs.Steady.{Carries, Item, Reign, Round, Steady}
use Rattle.quorum_timed.specs.Begins.{IsQuick}
use Rattle.quorum_timed.specs.Timed.{Again, Arriving, Asking, Comes, Firing, Leads, MayBe, Owed, Pace, Timed, Went, at_time, new_between, owed_by, without_first}
use Rattle.quorum_walk.proofs.Lists.{all_append, all_get}
use Rattle.std.proofs.Common.{Bool, IfSome, IsSomeAnd, List, None, Option, Some, [], ap, arith, inl, inr, length, option_map, refl, slice_get, subst, suc, sym, true, zero, ℕ, ◌++◌, ◌+◌, ◌∙◌, ◌∷◌, ◌≡◌, ◌⊎◌}
use Rattle.std.proofs.lemmas.Bool.{cases_eq}

-- ---- what is under way

-- more is sent, and none of it hands on a command
gets_none : (xs ys : List Envelope) (k : ℕ) → IfSome (slice_get xs k) (λ m. IsForward m.message.body → ⊥) → AllByRecursion (λ (m : Envelope). IsForward m.message.body → ⊥) ys → IfSome (slice_get (xs ++ ys) k) (λ m. IsForward m.message.body → ⊥)
gets_none [] ys k old all = all_get (λ (m : Envelope). IsForward m.message.body → ⊥) ys k all
gets_none (x ∷ xs) ys zero old all = old
gets_none (x ∷ xs) ys (suc k) old all = gets_none xs ys k old all

at_none : (messages es : List Envelope) (k : ℕ) → IfSome (message_at messages k) (λ m. IsForward m.message.body → ⊥) → AllByRecursion (λ (m : Envelope). IsForward m.message.body → ⊥) es → IfSome (message_at (messages ++ es) k) (λ m. IsForward m.message.body → ⊥)
at_none messages es zero old all = tt
at_none messages es (suc k) old all = gets_none messages es k old all

still_nothing : (messages es : List Envelope) (os : List Owed) → HandsOnNothing messages os → AllByRecursion (λ (m : Envelope). IsForward m.message.body → ⊥) es → HandsOnNothing (messages ++ es) os
still_nothing messages es [] old all = tt
still_nothing messages es (o ∷ os) old all = (at_none messages es o.number old.0 all, still_nothing messages es os old.1 all)

one_of : (es : List Envelope) (d : ℕ) (m : Envelope) → slice_get es d ≡ Some m → AllByRecursion (λ (m : Envelope). IsForward m.message.body → ⊥) es → IsForward m.message.body → ⊥
one_of es d m there all = subst (λ (o : Option Envelope). IfSome o (λ m. IsForward m.message.body → ⊥)) there (all_get (λ (m : Envelope). IsForward m.message.body → ⊥) es d all)

new_nothing : (f i top : ℕ) (messages es : List Envelope) → AllByRecursion (λ (m : Envelope). IsForward m.message.body → ⊥) es → HandsOnNothing (messages ++ es) (owed_by top (numbers f i (suc (length messages)) es))
new_nothing f i top messages es all =
    all_owed top (numbers f i (suc (length messages)) es) (λ k. IfSome (message_at (messages ++ es) k) (λ m. IsForward m.message.body → ⊥)) (λ o. IfSome (message_at (messages ++ es) o.number) (λ m. IsForward m.message.body → ⊥)) (λ k h. h)
    (all_numbers f i (suc (length messages)) es (λ k. IfSome (message_at (messages ++ es) k) (λ m. IsForward m.message.body → ⊥)) new)
  where
    new : (d : ℕ) (m : Envelope) → slice_get es d ≡ Some m → m.message.from ≡ f → m.to ≡ i → IfSome (message_at (messages ++ es) (suc (length messages) + d)) (λ m. IsForward m.message.body → ⊥)
    new d m there from to =
        let number : suc (length messages) + d ≡ suc (length messages + d) = omega arith in
        let at : message_at (messages ++ es) (suc (length messages) + d) ≡ Some m = ap (message_at (messages ++ es)) number ∙ new_there messages es d m there in
        subst (λ (o : Option Envelope). IfSome o (λ m. IsForward m.message.body → ⊥)) (sym at) (one_of es d m there all)

module _ (ms : Monitors) (q : List Bool) (pace : Pace) (reign : Reign) where
  -- if no message that is sent hands on a command, none that is under way does
  module _ (t : Timed) (u : ℕ) (next : Timed) (es : List Envelope) (messages : next.world.messages ≡ t.world.messages ++ es) (all : AllByRecursion (λ (m : Envelope). IsForward m.message.body → ⊥) es) where
    pub sent_nothing : (e : Event) (left : ℕ → ℕ → List Owed) → Went ms q pace (at_time ms q pace u t) e left next → (i : ℕ) → HandsOnNothing t.world.messages (left i reign.leader) → HandsOnNothing next.world.messages (next.under_way i reign.leader)
    sent_nothing e left went i old =
        let list : next.under_way i reign.leader ≡ left i reign.leader ++ owed_by (u + pace.delay) (numbers i reign.leader (suc (length t.world.messages)) es) =
        went.sent i reign.leader
        ∙ ap (λ (z : List Envelope). left i reign.leader ++ owed_by (u + pace.delay) (new_between (length t.world.messages) i reign.leader z)) messages
        ∙ ap (λ (z : List ℕ). left i reign.leader ++ owed_by (u + pace.delay) z) (new_are i reign.leader t.world.messages es) in
        subst (HandsOnNothing next.world.messages) (sym list)
        (subst (λ (z : List Envelope). HandsOnNothing z (left i reign.leader ++ owed_by (u + pace.delay) (numbers i reign.leader (suc (length t.world.messages)) es))) (sym messages)
        (all_append (λ (o : Owed). IfSome (message_at (t.world.messages ++ es) o.number) (λ m. IsForward m.message.body → ⊥)) (left i reign.leader) (owed_by (u + pace.delay) (numbers i reign.leader (suc (length t.world.messages)) es))
        (still_nothing t.world.messages es (left i reign.leader) old all) (new_nothing i reign.leader (u + pace.delay) t.world.messages es all)))

  -- the same without the first message from f to j
  pub popped_nothing : (messages : List Envelope) (all : ℕ → ℕ → List Owed) → ((i : ℕ) → has q i ≡ true → HandsOnNothing messages (all i reign.leader)) → (f j : ℕ) → has q f ≡ true → (o : Owed) (others : List Owed) → all f j ≡ o ∷ others
      → (i : ℕ) → has q i ≡ true → HandsOnNothing messages (without_first f j others all i reign.leader)
  popped_nothing messages all nothing f j qf o others first i qi = by (cases_eq j reign.leader)
    where
      by : (j ≡ reign.leader) ⊎ (j ≡ reign.leader → ⊥) → HandsOnNothing messages (without_first f j others all i reign.leader)
      by (inl b) =
          let list : all f reign.leader ≡ o ∷ others = subst (λ (z : ℕ). all f z ≡ o ∷ others) b first in
          let few : HandsOnNothing messages (o ∷ others) = subst (HandsOnNothing messages) list (nothing f qf) in
          all_left f j others all (λ g k o. IfSome (message_at messages o.number) (λ m. IsForward m.message.body → ⊥)) i reign.leader few.1 (nothing i qi)
      by (inr ne) = subst (HandsOnNothing messages) (sym (other_left f j others all i reign.leader (λ _ b. ne (sym b)))) (nothing i qi)

module _ (ms : Monitors) (q : List Bool) (pace : Pace) (reign : Reign) (K : IsQuick pace) where
  -- the first message of a list goes to its receiver
  goes_to : (messages : List Envelope) (f i top : ℕ) (xs : List Item) (o : Owed) (os : List Owed) → Carries ms reign messages f i top xs (o ∷ os) → (m : Envelope) × (message_at messages o.number ≡ Some m) × (m.to ≡ i)
  goes_to messages f i top xs o os (le, inl k) = let c = k.0 in (c.envelope, c.there, c.receiver)
  goes_to messages f i top xs o os (le, inr k) = let c = k.3 in (_, c.there, refl)

  module _ (r : Round) (t : Timed) (S : Steady ms q pace reign r t) (N : NothingWaits q reign t) (u : ℕ) where
    first_to : (f i : ℕ) → has q f ≡ true → has q i ≡ true → (o : Owed) (others : List Owed) → t.under_way f i ≡ o ∷ others → (m : Envelope) × (message_at t.world.messages o.number ≡ Some m) × (m.to ≡ i)
    first_to f i qf qi o others first = by (cases_eq f reign.leader) (cases_eq i reign.leader)
      where
        by : (f ≡ reign.leader) ⊎ (f ≡ reign.leader → ⊥) → (i ≡ reign.leader) ⊎ (i ≡ reign.leader → ⊥) → (m : Envelope) × (message_at t.world.messages o.number ≡ Some m) × (m.to ≡ i)
        by (inl a) (inl b) = goes_to t.world.messages f i _ _ o others (subst (Carries ms reign t.world.messages f i (t.time + pace.delay) []) first (S.others f i qf qi ((λ _. b), (λ _. a))))
        by (inr a) (inr b) = goes_to t.world.messages f i _ _ o others (subst (Carries ms reign t.world.messages f i (t.time + pace.delay) []) first (S.others f i qf qi ((λ z. absurd (a z)), (λ z. absurd (b z)))))
        by (inl a) (inr b) =
            let F = S.peons i qi b in
            goes_to t.world.messages reign.leader i _ _ o others (subst (Carries ms reign t.world.messages reign.leader i (t.time + pace.delay) _) (subst (λ (z : ℕ). t.under_way z i ≡ o ∷ others) a first) F.to_come)
        by (inr a) (inl b) =
            let F = S.peons f qf a in
            let g = goes_to t.world.messages f reign.leader _ _ o others (subst (Carries ms reign t.world.messages f reign.leader (t.time + pace.delay) _) (subst (λ (z : ℕ). t.under_way f z ≡ o ∷ others) b first) F.to_take) in
            (g.0, g.1, g.2 ∙ sym b)

    module _ (me : Me) (s : State) where
      -- no command is taken from a message
      from_message : (f i : ℕ) → has q f ≡ true → has q i ≡ true → (o : Owed) (others : List Owed) → t.under_way f i ≡ o ∷ others → taken_by me t.world reign.leader s (Arrives (Deliver o.number (u + pace.clock i))) ≡ None
      from_message f i qf qi o others first = by (first_to f i qf qi o others first) (cases_eq i reign.leader)
        where
          comes : (m : Envelope) → message_at t.world.messages o.number ≡ Some m → arrival t.world (Deliver o.number (u + pace.clock i)) ≡ Some (brought (u + pace.clock i) m)
          comes m there = ap (option_map (brought (u + pace.clock i))) there

          by : (m : Envelope) × (message_at t.world.messages o.number ≡ Some m) × (m.to ≡ i) → (i ≡ reign.leader) ⊎ (i ≡ reign.leader → ⊥) → taken_by me t.world reign.leader s (Arrives (Deliver o.number (u + pace.clock i))) ≡ None
          by g (inr ne) = taken_elsewhere me t.world reign.leader s _ (brought (u + pace.clock i) g.0) (comes g.0 g.1) (λ e. ne (sym g.2 ∙ e))
          by g (inl e) =
              let list : t.under_way f reign.leader ≡ o ∷ others = subst (λ (z : ℕ). t.under_way f z ≡ o ∷ others) e first in
              let all : HandsOnNothing t.world.messages (o ∷ others) = subst (HandsOnNothing t.world.messages) list (N.under_way f qf) in
              let none : IsForward g.0.message.body → ⊥ = subst (λ (z : Option Envelope). IfSome z (λ m. IsForward m.message.body → ⊥)) g.1 all.0 in
              taken_nowhere me t.world reign.leader s _ (brought (u + pace.clock i) g.0) (comes g.0 g.1) (no_forward me (readings_of (t.world.store reign.leader)) s g.0.message none)

      request_none : (session : Session) (x : Request) → ((Reads x → ⊥) → ⊥) → taken_request me (readings_of (t.world.store reign.leader)) s session x ≡ None
      request_none session (request.Show service) k = refl
      request_none session (request.Since service version) k = refl
      request_none session other k = absurd (k (λ z. z))

      takes_none : (next : Timed) (e : Event) → (Writes e → ⊥) → Comes ms q pace (at_time ms q pace u t) next e → taken_by me t.world reign.leader s e ≡ None
      takes_none next e quiet (Arriving f i qf qi o others first is went) = ap (taken_by me t.world reign.leader s) is ∙ from_message f i qf qi o others first
      takes_none next e quiet (Again f i qf qi n calls is went) = absurd (no_call ms q pace reign r t S n f i qf calls)
      takes_none next e quiet (Firing i qi x up kind end set due is went) =
          ap (taken_by me t.world reign.leader s) is ∙ taken_nowhere me t.world reign.leader s _ (record { rank = i; at = u + pace.clock i; input = input.Timer kind }) refl refl
      takes_none next e quiet (Asking i qi session x is went) =
          ap (taken_by me t.world reign.leader s) is
          ∙ taken_nowhere me t.world reign.leader s _ (record { rank = i; at = u + pace.clock i; input = input.Client session x }) refl (request_none session x (subst (λ (z : Event). Writes z → ⊥) is quiet))

    hands_on_nothing : (next : Timed) (es : List Envelope) → next.world.messages ≡ t.world.messages ++ es → AllByRecursion (λ (m : Envelope). IsForward m.message.body → ⊥) es → (e : Event) → Comes ms q pace (at_time ms q pace u t) next e
        → (i : ℕ) → has q i ≡ true → HandsOnNothing next.world.messages (next.under_way i reign.leader)
    hands_on_nothing next es messages all e (Arriving f j qf qj o others first is went) i qi = sent_nothing ms q pace reign t u next es messages all e _ went i (popped_nothing ms q pace reign t.world.messages t.under_way N.under_way f j qf o others first i qi)
    hands_on_nothing next es messages all e (Again f j qf qj n calls is went) i qi = absurd (no_call ms q pace reign r t S n f j qf calls)
    hands_on_nothing next es messages all e (Firing j qj x up kind end set due is went) i qi = sent_nothing ms q pace reign t u next es messages all e _ went i (N.under_way i qi)
    hands_on_nothing next es messages all e (Asking j qj session x is went) i qi = sent_nothing ms q pace reign t u next es messages all e _ went i (N.under_way i qi)

  -- ---- an event

  module _ (r : Round) (t : Timed) (S : Steady ms q pace reign r t) (none : r.next ≡ None) (N : NothingWaits q reign t) (u : ℕ) (M : MayBe ms q pace t u) (room : ClocksGoOn q pace u) (next : Timed) (e : Event)
      (C : Comes ms q pace (at_time ms q pace u t) next e) (quiet : Writes e → ⊥) where
    G : (later : Round) × Goes ms q pace reign t.world u e r later next × Onward r later
    G = stays ms q pace reign K r t S u M room next e C

    abbrev V : Served ms pace reign e u t.world next.world r G.0
    V = G.1.1

    empty : V.was.clients.queue ≡ []
    empty = subst (λ (o : Option State). IsSomeAnd o (λ s. s.clients.queue ≡ [])) V.up N.queue

    nil : taken_by (member_of ms reign.leader V.here) t.world reign.leader V.was e ≡ None
    nil = takes_none r t S N u (member_of ms reign.leader V.here) V.was next e quiet C

    wrong : {B : Type 0} (o : Origin) → taken_by (member_of ms reign.leader V.here) t.world reign.leader V.was e ≡ Some o → B
    wrong o took = neither (taken_by (member_of ms reign.leader V.here) t.world reign.leader V.was e) o nil took

    gone : {B : Type 0} (one : Waiting) (more : List Waiting) → V.was.clients.queue ≡ one ∷ more → B
    gone one more is = absurd (not_empty [] more one (sym is ∙ empty))

    rests : (G.0.next ≡ None) × (V.is.clients.queue ≡ [])
    rests = by V.turn
      where
        by : Turn ms pace reign u t.world next.world r G.0 (taken_by (member_of ms reign.leader V.here) t.world reign.leader V.was e) V.was V.is V.es → (G.0.next ≡ None) × (V.is.clients.queue ≡ [])
        by (Kept x queue R) = (R.next ∙ none, queue ∙ empty)
        by (Answered o took answers queue R) = wrong o took
        by (Queued one took queue few some R) = wrong one.origin took
        by (Refused one x queue answers old later_none latest armed) = gone one V.is.clients.queue queue
        by (Renewed x queue old later_none latest late armed) = (later_none, queue ∙ empty)
        by (Began from b old new at whose (inl h)) = wrong from h.0
        by (Began from b old new at whose (inr h)) = gone h.0 V.is.clients.queue h.2
        by (Committed b x queue old later_none latest answers armed) = neither r.next b none old

    plainly : AllByRecursion (λ (m : Envelope). IsForward m.message.body → ⊥) V.es
    plainly = elim V.plain [ inl all ↦ all | inr w ↦ absurd (quiet w) ]

    nothing_waits : NothingWaits q reign next
    nothing_waits = record {
      queue = pack (λ s. s.clients.queue ≡ []) (next.world.state reign.leader) V.is V.up_after rests.1;
      under_way = hands_on_nothing r t S N u next V.es V.messages plainly e C;
    }

    pub rests_on : (later : Round) × Steady ms q pace reign later next × Onward r later × (later.next ≡ None) × (later.version ≡ r.version) × NothingWaits q reign next
    rests_on = (G.0, G.1.0, G.2, rests.0, V.version none, nothing_waits)

  -- ---- a run

  pub nothing_is_begun : (r : Round) (t last : Timed) (more : List (ℕ × Event)) → Steady ms q pace reign r t → r.next ≡ None → NothingWaits q reign t → Leads ms q pace t more last → AllByRecursion (λ m. Writes m.1 → ⊥) more
      → ClocksGoOn q pace last.time → (later : Round) × Steady ms q pace reign later last × (later.next ≡ None) × (later.version ≡ r.version) × (later.committed ≡ r.committed) × NothingWaits q reign last
  nothing_is_begun r t last [] S none N L quiet room =
      let M : MayBe ms q pace t last.time = L.0 in
      (r, subst (λ (z : Timed). Steady ms q pace reign r z) (sym L.1) (waits_on ms q pace reign K r t S last.time M.later), none, refl, refl, subst (NothingWaits q reign) (sym L.1) (record { queue = N.queue; under_way = N.under_way }))
  nothing_is_begun r t last ((u, e) ∷ more) S none N L quiet room =
      let next = L.1.0 in
      let b = time_of_next ms q pace reign K (at_time ms q pace u t) next e L.1.1 in
      let c = goes_on ms q pace reign K more next last L.1.2 in
      let R = rests_on r t S none N u L.0 (clocks_go_on ms q pace reign K u last.time (omega arith) room) next e L.1.1 quiet.0 in
      let O = nothing_is_begun R.0 next last more R.1 R.3 R.5 L.1.2 quiet.1 room in
      let o = R.2 in
      (O.0, O.1, O.2, O.3 ∙ R.4, O.4 ∙ o.kept R.4, O.5)

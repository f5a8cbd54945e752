-- What members sent one another about clients' commands stays known.
use Rattle.law_names.proofs.Runs.{Arrival, Arrives, Deliver, Envelope, Event, Monitors, message_at}
use Rattle.law_names.proofs.Table.{AllByRecursion, Body, Command, Me, Request, Session, State, has, is_heard, is_leading, readings_of}
use Rattle.mon_msg.specs.declared.input.Input.TheVariants as input
use Rattle.mon_msg.specs.declared.plan.Origin.TheVariants as origin
use Rattle.mon_wire.specs.declared.body.Body.TheVariants as body
use Rattle.mon_wire.specs.declared.request.Request.TheVariants as request
use Rattle.quorum_model.proofs.Members.{member_of}
use Rattle.quorum_stays.proofs.Coming.{no_call}
use Rattle.quorum_stays.proofs.Onward.{pack, unpack}
use Rattle.quorum_stays.proofs.Riding.{all_new, all_on, all_still}
use Rattle.quorum_stays.proofs.Serving.{Served}
use Rattle.quorum_stays.proofs.Sharing.{HandsOnNoneOf, Passed, RepliedNow, Routed, Share, Untouched}
use Rattle.quorum_stays.proofs.Stepping.{brought}
use Rattle.quorum_stays.proofs.Taking.{no_forward, taken_at, taken_body, taken_by, taken_from, taken_request, takes_seq}
use Rattle.quorum_stays.proofs.Waiting.{neither}
use Rattle.quorum_stays.specs.Serving.{CarriesAnswer, Counts, IsBelow, IsForward, IsKnown, IsNumbered}
use Rattle.quorum_stays.specs.Steady.{Reign, Round, Steady, in_reign}
use Rattle.quorum_timed.specs.Timed.{Again, Arriving, Asking, Comes, Firing, Owed, Pace, Timed, at_time}
use Rattle.quorum_walk.proofs.Lists.{all_get}
use Rattle.std.proofs.Common.{Bool, IfSome, IsSomeAnd, List, None, Option, Some, [], ap, arith, cond, eqb, false, inl, inr, option_map, refl, slice_get, slice_index_or, subst, suc, sym, true, zero, ℕ, ◌+◌, ◌<◌, ◌∙◌, ◌∷◌, ◌≡◌, ◌≤◌, ◌⊎◌}
use Rattle.std.proofs.lemmas.Bool.{eqb-true}

-- ---- bodies

is_forward : (b : Body) → ((seq : ℕ) × (c : Command) × (b ≡ body.Forward seq c)) ⊎ (IsForward b → ⊥)
is_forward (body.Forward seq c) = inl (seq, c, refl)
is_forward other = inr (λ k. k)

pub unnumbered : (next : ℕ) (b : Body) → (IsForward b → ⊥) → IsNumbered next b
unnumbered next b k seq c is = absurd (k (subst IsForward (sym is) tt))

pub numbered_more : (a b : ℕ) → a ≤ b → (x : Body) → IsNumbered a x → IsNumbered b x
numbered_more a b le x k seq c is = let z = k seq c is in omega arith

-- ---- who sent a command that the leader takes

module _ (ms : Monitors) (q : List Bool) (pace : Pace) (reign : Reign) (r : Round) (t : Timed) (S : Steady ms q pace reign r t) (u : ℕ)
    (known : (g i : ℕ) → has q g ≡ true → has q i ≡ true → AllByRecursion (λ o. IsKnown t.world.messages g i o.number) (t.under_way g i)) (me : Me) (s : State) (f seq : ℕ) where
  -- the first message under way from f to the leader is that command
  pub record IsFirst (e : Event) : Type 0 where
    pub first : Owed
    pub others : List Owed
    pub list : t.under_way f reign.leader ≡ first ∷ others
    pub message : Envelope
    pub there : message_at t.world.messages first.number ≡ Some message
    pub command : Command
    pub says : message.message.body ≡ body.Forward seq command
    pub comes : e ≡ Arrives (Deliver first.number (u + pace.clock reign.leader))

  some_known : (o : Option Envelope) (g i : ℕ) → IsSomeAnd o (λ m. (m.message.from ≡ g) × (m.to ≡ i) × CarriesAnswer m.message.body) → (m : Envelope) × (o ≡ Some m) × (m.message.from ≡ g) × (m.to ≡ i)
  some_known None g i k = absurd k
  some_known (Some m) g i k = (m, refl, k.0, k.1)

  -- it is of a FORWARD
  from_body : (m : Envelope) → taken_from me (readings_of (t.world.store reign.leader)) s (input.Deliver m.message) ≡ Some (origin.Forwarded f seq) → (c : Command) × (m.message.body ≡ body.Forward seq c) × (m.message.from ≡ f)
  from_body m took = by (is_forward m.message.body)
    where
      by : ((z : ℕ) × (c : Command) × (m.message.body ≡ body.Forward z c)) ⊎ (IsForward m.message.body → ⊥) → (c : Command) × (m.message.body ≡ body.Forward seq c) × (m.message.from ≡ f)
      by (inr k) = neither (taken_from me (readings_of (t.world.store reign.leader)) s (input.Deliver m.message)) (origin.Forwarded f seq) (no_forward me (readings_of (t.world.store reign.leader)) s m.message k) took
      by (inl k) =
          let heard : cond (is_heard me m.message) (taken_body me (readings_of (t.world.store reign.leader)) s m.message (body.Forward k.0 k.1)) None ≡ Some (origin.Forwarded f seq) =
          subst (λ (b : Body). cond (is_heard me m.message) (taken_body me (readings_of (t.world.store reign.leader)) s m.message b) None ≡ Some (origin.Forwarded f seq)) k.2 took in
          let both = with_test (is_heard me m.message) (takes_seq (readings_of (t.world.store reign.leader)) s m.message k.0) m.message.from k.0 heard in
          (k.1, k.2 ∙ ap (λ (z : ℕ). body.Forward z k.1) both.1, both.0)
        where
          with_test : (a b : Bool) (from z : ℕ) → cond a (cond b (Some (origin.Forwarded from z)) None) None ≡ Some (origin.Forwarded f seq) → (from ≡ f) × (z ≡ seq)
          with_test true true from z e = (cc, cc)
          with_test true false from z e = absurd cc
          with_test false b from z e = absurd cc

  here_rank : (a : Arrival) → taken_at me t.world reign.leader s (Some a) ≡ Some (origin.Forwarded f seq) → (a.rank ≡ reign.leader) × (taken_from me (readings_of (t.world.store reign.leader)) s a.input ≡ Some (origin.Forwarded f seq))
  here_rank a took = by (eqb a.rank reign.leader) refl took
    where
      by : (b : Bool) → eqb a.rank reign.leader ≡ b → cond b (taken_from me (readings_of (t.world.store reign.leader)) s a.input) None ≡ Some (origin.Forwarded f seq) → (a.rank ≡ reign.leader) × (taken_from me (readings_of (t.world.store reign.leader)) s a.input ≡ Some (origin.Forwarded f seq))
      by true is e = (eqb-true a.rank reign.leader is, e)
      by false is e = absurd cc

  no_client : (session : Session) (x : Request) → taken_request me (readings_of (t.world.store reign.leader)) s session x ≡ Some (origin.Forwarded f seq) → ⊥
  no_client session (request.Show service) e = absurd cc
  no_client session (request.Since service version) e = absurd cc
  no_client session (request.Set key value) e = by (is_leading s.phase) e
    where
      by : (b : Bool) → cond b (Some (origin.Session session)) None ≡ Some (origin.Forwarded f seq) → ⊥
      by true e = cc
      by false e = cc
  no_client session (request.Remove key) e = by (is_leading s.phase) e
    where
      by : (b : Bool) → cond b (Some (origin.Session session)) None ≡ Some (origin.Forwarded f seq) → ⊥
      by true e = cc
      by false e = cc
  no_client session (request.Log text) e = by (is_leading s.phase) e
    where
      by : (b : Bool) → cond b (Some (origin.Session session)) None ≡ Some (origin.Forwarded f seq) → ⊥
      by true e = cc
      by false e = cc

  pub taken_first : (next : Timed) (e : Event) → Comes ms q pace (at_time ms q pace u t) next e → taken_by me t.world reign.leader s e ≡ Some (origin.Forwarded f seq) → IsFirst e
  taken_first next e (Arriving g j qg qj z others first is went) took =
      let all : AllByRecursion (λ o. IsKnown t.world.messages g j o.number) (z ∷ others) = subst (AllByRecursion (λ o. IsKnown t.world.messages g j o.number)) first (known g j qg qj) in
      let k = some_known (message_at t.world.messages z.number) g j all.0 in
      let event : taken_at me t.world reign.leader s (Some (brought (u + pace.clock j) k.0)) ≡ Some (origin.Forwarded f seq) =
      sym (ap (taken_at me t.world reign.leader s) (ap (option_map (brought (u + pace.clock j))) k.1)) ∙ sym (ap (taken_by me t.world reign.leader s) is) ∙ took in
      let h = here_rank (brought (u + pace.clock j) k.0) event in
      let b = from_body k.0 h.1 in
      let from : g ≡ f = sym k.2 ∙ b.2 in
      let to : j ≡ reign.leader = sym k.3 ∙ h.0 in
      record {
        first = z;
        others = others;
        list = subst (λ (y : ℕ). t.under_way y reign.leader ≡ z ∷ others) from (subst (λ (y : ℕ). t.under_way g y ≡ z ∷ others) to first);
        message = k.0;
        there = k.1;
        command = b.0;
        says = b.1;
        comes = is ∙ ap (λ (y : ℕ). Arrives (Deliver z.number (u + pace.clock y))) to;
      }
  taken_first next e (Again g i qg qi n calls is went) took = absurd (no_call ms q pace reign r t S n g i qg calls)
  taken_first next e (Firing i qi x up kind end set due is went) took =
      let h = here_rank (record { rank = i; at = u + pace.clock i; input = input.Timer kind }) (sym (ap (taken_by me t.world reign.leader s) is) ∙ took) in
      neither None (origin.Forwarded f seq) refl h.1
  taken_first next e (Asking i qi session x is went) took =
      let h = here_rank (record { rank = i; at = u + pace.clock i; input = input.Client session x }) (sym (ap (taken_by me t.world reign.leader s) is) ∙ took) in
      absurd (no_client session x h.1)

-- ---- an event

module _ (ms : Monitors) (q : List Bool) (pace : Pace) (reign : Reign) (r : Round) (t : Timed) (S : Steady ms q pace reign r t) (f : ℕ) (qf : has q f ≡ true) (nf : f ≡ reign.leader → ⊥) (N : Counts q reign f t) (u : ℕ) (next : Timed) (e : Event)
    (C : Comes ms q pace (at_time ms q pace u t) next e) (later : Round) (V : Served ms pace reign e u t.world next.world r later) where
  known_on : (g i : ℕ) → has q g ≡ true → has q i ≡ true → AllByRecursion (λ o. IsKnown next.world.messages g i o.number) (next.under_way g i)
  known_on g i qg qi =
      all_on ms q pace t next u V.es V.messages e C g i (λ o. IsKnown next.world.messages g i o.number)
      (all_still ms q pace t next u V.es V.messages (λ m. (m.message.from ≡ g) × (m.to ≡ i) × CarriesAnswer m.message.body) (λ m. (m.message.from ≡ g) × (m.to ≡ i) × CarriesAnswer m.message.body) (λ m k. k) (t.under_way g i) (N.known g i qg qi))
      (all_new ms q pace t next u V.es V.messages g i (λ m. (m.message.from ≡ g) × (m.to ≡ i) × CarriesAnswer m.message.body) (λ d m there from to. (from, to, one_fine d m there)))
    where
      one_fine : (d : ℕ) (m : Envelope) → slice_get V.es d ≡ Some m → CarriesAnswer m.message.body
      one_fine d m there = subst (λ (o : Option Envelope). IfSome o (λ m. CarriesAnswer m.message.body)) there (all_get (λ (m : Envelope). CarriesAnswer m.message.body) V.es d V.routes)

  -- peon f before and after
  pub P : (s : State) × (t.world.state f ≡ Some s) × (IsSomeAnd (t.world.state reign.leader) (λ l. slice_index_or l.clients.taken f 0 < s.clients.next_seq) × AllByRecursion (λ o. IsBelow t.world.messages s.clients.next_seq o.number) (t.under_way f reign.leader))
  P = unpack (λ s. IsSomeAnd (t.world.state reign.leader) (λ l. slice_index_or l.clients.taken f 0 < s.clients.next_seq) × AllByRecursion (λ o. IsBelow t.world.messages s.clients.next_seq o.number) (t.under_way f reign.leader)) (t.world.state f) N.below

  pub Z : (is : State) × (next.world.state f ≡ Some is) × Share ms reign t.world next.world e f P.0 is V.es
  Z = V.peons f nf P.0 P.1

  -- the leader took only lower numbers
  pub took_below : (n : ℕ) → AllByRecursion (λ o. IsBelow t.world.messages n o.number) (t.under_way f reign.leader) → slice_index_or V.was.clients.taken f 0 < n → slice_index_or V.is.clients.taken f 0 < n
  took_below n below lt = elim (V.marks f) [
    | inl same ↦ subst (λ (z : ℕ). z < n) (sym same) lt
    | inr k ↦ (let F = taken_first ms q pace reign r t S u N.known (member_of ms reign.leader V.here) V.was f k.0 next e C k.1 in
        let all : AllByRecursion (λ o. IsBelow t.world.messages n o.number) (F.first ∷ F.others) = subst (AllByRecursion (λ o. IsBelow t.world.messages n o.number)) F.list below in
        let one : IsNumbered n F.message.message.body = subst (λ (o : Option Envelope). IsSomeAnd o (λ m. IsNumbered n m.message.body)) F.there all.0 in
        let less = one k.0 F.command F.says in
        let le = k.2 in
        omega arith)
  ]

  pub taken_now : slice_index_or V.was.clients.taken f 0 < P.0.clients.next_seq
  taken_now = subst (λ (o : Option State). IsSomeAnd o (λ l. slice_index_or l.clients.taken f 0 < P.0.clients.next_seq)) V.up P.2.0

  -- nothing of f that is sent has this number or a greater one
  rising : (n : ℕ) → P.0.clients.next_seq ≤ n → ((d : ℕ) (m : Envelope) → slice_get V.es d ≡ Some m → m.message.from ≡ f → IsNumbered n m.message.body) → Z.0.clients.next_seq ≡ n → Counts q reign f next
  rising n le fine is = record {
    known = known_on;
    below = pack _ (next.world.state f) Z.0 Z.1 (
      pack (λ l. slice_index_or l.clients.taken f 0 < Z.0.clients.next_seq) (next.world.state reign.leader) V.is V.up_after (let a = took_below P.0.clients.next_seq P.2.1 taken_now in let b = is in omega arith),
      subst (λ (z : ℕ). AllByRecursion (λ o. IsBelow next.world.messages z o.number) (next.under_way f reign.leader)) (sym is)
          (all_on ms q pace t next u V.es V.messages e C f reign.leader (λ o. IsBelow next.world.messages n o.number)
          (all_still ms q pace t next u V.es V.messages (λ m. IsNumbered P.0.clients.next_seq m.message.body) (λ m. IsNumbered n m.message.body) (λ m k. numbered_more P.0.clients.next_seq n le m.message.body k) (t.under_way f reign.leader) P.2.1)
          (all_new ms q pace t next u V.es V.messages f reign.leader (λ m. IsNumbered n m.message.body) (λ d m there from to. fine d m there from))),
    );
  }

  quietly : HandsOnNoneOf f V.es → (d : ℕ) (m : Envelope) → slice_get V.es d ≡ Some m → m.message.from ≡ f → IsNumbered P.0.clients.next_seq m.message.body
  quietly none d m there from =
      let k = subst (λ (o : Option Envelope). IfSome o (λ m. m.message.from ≡ f → IsForward m.message.body → ⊥)) there (all_get (λ (m : Envelope). m.message.from ≡ f → IsForward m.message.body → ⊥) V.es d none) in
      unnumbered P.0.clients.next_seq m.message.body (k from)

  pub counts_on : Counts q reign f next
  counts_on = by Z.2
    where
      passed : (c : Command) → V.es ≡ in_reign ms reign f reign.leader (body.Forward P.0.clients.next_seq c) ∷ [] → (d : ℕ) (m : Envelope) → slice_get V.es d ≡ Some m → m.message.from ≡ f → IsNumbered (suc P.0.clients.next_seq) m.message.body
      passed c is d m there from seq x says = by d (subst (λ (z : List Envelope). slice_get z d ≡ Some m) is there)
        where
          by : (d : ℕ) → slice_get (in_reign ms reign f reign.leader (body.Forward P.0.clients.next_seq c) ∷ []) d ≡ Some m → seq < suc P.0.clients.next_seq
          by zero e =
              let same : in_reign ms reign f reign.leader (body.Forward P.0.clients.next_seq c) ≡ m = cc in
              let both : body.Forward P.0.clients.next_seq c ≡ body.Forward seq x = ap (λ (z : Envelope). z.message.body) same ∙ says in
              let number : P.0.clients.next_seq ≡ seq = cc in
              omega arith
          by (suc d) e = absurd cc

      by : Share ms reign t.world next.world e f P.0 Z.0 V.es → Counts q reign f next
      by (Untouched a b sessions seqs none) = rising P.0.clients.next_seq (omega arith) (quietly none) seqs
      by (RepliedNow z a b sessions seqs none) = rising P.0.clients.next_seq (omega arith) (quietly none) seqs
      by (Passed z c a sessions seqs is) = rising (suc P.0.clients.next_seq) (omega arith) (passed c is) seqs
      by (Routed seq x m a says sessions seqs none replies) = rising P.0.clients.next_seq (omega arith) (quietly none) seqs

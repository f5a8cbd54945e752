-- The event by which the best member wins an election, and what it leaves.
use Rattle.law_names.proofs.Runs.{Envelope, Event, Monitors, envelope_of, messages_of}
use Rattle.law_names.proofs.Table.{AllByRecursion, Body, Change, Course, Epoch, Fits, Input, Me, Numbers, Readings, State, Store, Timer, armed, disarmed, end_of, epoch_of, has, members, message_to, only, only_ping, or_zero, pending, played, promise_of, react, readings_of, shared_entries, start_leader}
use Rattle.log_model.proofs.Lists.{all_append, all_map}
use Rattle.mon_wire.specs.declared.body.Body.TheVariants as body
use Rattle.mon_wire.specs.declared.phase.Timer.TheVariants as timer
use Rattle.quorum_model.proofs.Members.{member_of}
use Rattle.quorum_stays.proofs.Carrying.{Gives, due_at, gives_append, new_carries}
use Rattle.quorum_stays.proofs.Onward.{one_state}
use Rattle.quorum_stays.proofs.Sending.{each, none_own, to_member}
use Rattle.quorum_stays.proofs.Stepping.{Did}
use Rattle.quorum_stays.proofs.Timers.{armed_size, ends, one_end, only_ping_is, same_kind_or, still_ends, still_on}
use Rattle.quorum_stays.proofs.UnderWay.{numbers}
use Rattle.quorum_stays.specs.Steady.{Carries, Reign}
use Rattle.quorum_timed.proofs.Armed.{Timers}
use Rattle.quorum_timed.specs.Begins.{IsQuick}
use Rattle.quorum_timed.specs.Timed.{MayBe, Owed, Pace, Timed, Went, at_time, owed_by}
use Rattle.std.proofs.Common.{Bool, IsSomeAnd, List, Ok, Some, [], ap, arith, false, inl, inr, length, ltb, map, refl, subst, suc, sym, true, ℕ, ◌++◌, ◌+◌, ◌^◌, ◌∙◌, ◌∷◌, ◌≡◌, ◌≤◌}
use Rattle.std.proofs.lemmas.Bool.{false≢true}
use Rattle.std.proofs.lemmas.List.Elements.{filter_map-append}
use Rattle.timed_election.proofs.Coming.{How, left_all, new_at, next_all, still, time_is, under_now}
use Rattle.timed_election.proofs.Events.{part}
use Rattle.timed_election.proofs.Lists.{at_place, closed, opened}
use Rattle.timed_election.proofs.Outcomes.{Wins}
use Rattle.timed_election.specs.Election.{BeginsToCollect, CanElect, Defers, Election, Elects, IsOfElection, IsRaised, IsTold, IsWon, Stands, TakesPart, reign_of}

module _ (ms : Monitors) (q : List Bool) (pace : Pace) (quick : IsQuick pace) (E : Election) (t : Timed) (X : Elects ms q pace E t) (u : ℕ) (M : MayBe ms q pace t u)
    (next : Timed) (e : Event) (left : ℕ → ℕ → List Owed) (went : Went ms q pace (at_time ms q pace u t) e left next)
    (i : ℕ) (qi : has q i ≡ true) (lt : ltb i ms.count ≡ true) (came : Input) (s : State) (up : t.world.state i ≡ Some s) (how : How ms q pace t u i came e left s)
    (y : Course) (reacts_so : react (member_of ms i lt) (shared_entries (t.world.store i)) (u + pace.clock i) (readings_of (t.world.store i)) s came ≡ Ok y) (room : u + pace.clock i + 10000 ≤ 2 ^ 62)
    (D : Did t.world next.world i y.state y.changes (messages_of y.out)) where
  abbrev b : ℕ
  b = E.best

  abbrev C : CanElect ms q b
  C = X.can

  abbrev es : List Envelope
  es = messages_of y.out

  abbrev count : ℕ
  count = length t.world.messages

  abbrev due : ℕ
  due = u + pace.delay

  module _ (best : i ≡ b) (over : E.from + 5000 ≤ u) (all : (j : ℕ) → has q j ≡ true → has s.elector.acked j ≡ true)
      (W : Wins ms i lt (u + pace.clock i) (shared_entries (t.world.store i)) (readings_of (t.world.store i)) s s.elector.acked y) where
    abbrev me : Me
    me = member_of ms i lt

    abbrev reign : Reign
    reign = reign_of E W.pn

    abbrev quorum : List Bool
    quorum = s.elector.acked

    epoch_is : epoch_of (readings_of (t.world.store i)) ≡ E.epoch
    epoch_is = X.epoch i qi

    part_is : TakesPart q pace E i s
    part_is = part ms q pace quick E t X u M i qi lt came e left s up how (shared_entries (t.world.store i)) y reacts_so room

    same : (j : ℕ) → has quorum j ≡ has q j
    same j = by (has quorum j) refl (has q j) refl
      where
        by : (x : Bool) → has quorum j ≡ x → (z : Bool) → has q j ≡ z → x ≡ z
        by true h true k = refl
        by false h false k = refl
        by true h false k = absurd (false≢true (sym k ∙ part_is.acks j h))
        by false h true k = absurd (false≢true (sym h ∙ all j k))

    kept_now : readings_of (next.world.store i) ≡ played (Epoch (suc (epoch_of (readings_of (t.world.store i)))) ∷ Numbers W.pn ∷ []) (readings_of (t.world.store i))
    kept_now = (subst (λ (cs : List Change). AllByRecursion Fits cs → readings_of (next.world.store i) ≡ played cs (readings_of (t.world.store i))) W.changes D.kept) (W.next, (W.short, tt))

    raised : readings_of (next.world.store i) ≡ played (Epoch (suc E.epoch) ∷ Numbers W.pn ∷ []) (readings_of (t.world.store i))
    raised = kept_now ∙ ap (λ (k : ℕ). played (Epoch (suc k) ∷ Numbers W.pn ∷ []) (readings_of (t.world.store i))) epoch_is

    -- ---- what it sent

    abbrev collect : Body
    collect = body.Collect W.pn (readings_of (t.world.store i)).first (readings_of (t.world.store i)).last

    sent_is : es ≡ each me reign.epoch (body.Victory quorum) (members me quorum) ++ each me reign.epoch collect (members me quorum)
    sent_is =
        ap messages_of W.out
        ∙ ap (λ (k : ℕ). messages_of (map (message_to me (suc k) (body.Victory quorum)) (members me quorum) ++ map (message_to me (suc k) collect) (members me quorum))) epoch_is
        ∙ filter_map-append envelope_of (map (message_to me reign.epoch (body.Victory quorum)) (members me quorum)) (map (message_to me reign.epoch collect) (members me quorum))

    gives : (j : ℕ) → has q j ≡ true → (j ≡ i → ⊥) → Gives ms reign b j (body.Victory quorum ∷ collect ∷ []) es
    gives j qj ne = subst (Gives ms reign b j (body.Victory quorum ∷ collect ∷ [])) (sym sent_is)
        (gives_append ms reign b j (body.Victory quorum ∷ []) (collect ∷ []) (each me reign.epoch (body.Victory quorum) (members me quorum)) (each me reign.epoch collect (members me quorum))
        (to_member ms reign me (body.Victory quorum) best refl quorum j (same j ∙ qj) ne (C.members j qj))
        (to_member ms reign me collect best refl quorum j (same j ∙ qj) ne (C.members j qj)))

    -- all is from the winner, to others
    away : (body : Body) (ks : List ℕ) → AllByRecursion (λ k. k ≡ i → ⊥) ks → AllByRecursion (λ (m : Envelope). (m.message.from ≡ i) × (m.to ≡ i → ⊥) × (m.message.epoch ≡ reign.epoch)) (each me reign.epoch body ks)
    away body [] none = tt
    away body (k ∷ ks) none = ((refl, none.0, refl), away body ks none.1)

    pub sent_away : AllByRecursion (λ (m : Envelope). (m.message.from ≡ i) × (m.to ≡ i → ⊥) × (m.message.epoch ≡ reign.epoch)) es
    sent_away = subst (AllByRecursion (λ (m : Envelope). (m.message.from ≡ i) × (m.to ≡ i → ⊥) × (m.message.epoch ≡ reign.epoch))) (sym sent_is)
        (all_append (λ (m : Envelope). (m.message.from ≡ i) × (m.to ≡ i → ⊥) × (m.message.epoch ≡ reign.epoch)) (each me reign.epoch (body.Victory quorum) (members me quorum)) (each me reign.epoch collect (members me quorum))
        (away (body.Victory quorum) (members me quorum) (none_own quorum i ms.count 0)) (away collect (members me quorum) (none_own quorum i ms.count 0)))

    -- ---- what is under way

    grows : (f j : ℕ) (o : Owed) → IsOfElection E t.world.messages f j (t.time + pace.delay) o → IsOfElection E next.world.messages f j due o
    grows f j o O = record {
      envelope = O.envelope;
      there = still ms q pace t u next e left went i came s y how D o.number O.envelope O.there;
      sender = O.sender;
      receiver = O.receiver;
      epoch = O.epoch;
      calls = O.calls;
      in_time = (let a = O.in_time in let l = M.later in omega arith);
    }

    old : (f j : ℕ) → has q f ≡ true → has q j ≡ true → AllByRecursion (IsOfElection E next.world.messages f j due) (left f j)
    old f j qf qj = left_all ms q pace t u next e left went i came s y how D (IsOfElection E next.world.messages f j due) f j
        (all_map (IsOfElection E t.world.messages f j (t.time + pace.delay)) (IsOfElection E next.world.messages f j due) (grows f j) (t.under_way f j) (X.under_way f j qf qj))

    told_so : (j : ℕ) → has q j ≡ true → (j ≡ i → ⊥) → IsTold ms E quorum W.pn (readings_of (next.world.store b)) next.world.messages j due (next.under_way b j)
    told_so j qj ne = record {
      earlier = left b j;
      later = owed_by due (numbers b j (suc count) es);
      parts = under_now ms q pace t u next e left went i came s y how D b j;
      of_election = old b j C.member qj;
      tells = subst (λ (w : Readings). Carries ms reign next.world.messages b j due (due_at due (body.Victory quorum ∷ body.Collect W.pn w.first w.last ∷ [])) (owed_by due (numbers b j (suc count) es))) (sym (subst (λ (z : ℕ). readings_of (next.world.store z) ≡ played (Epoch (suc E.epoch) ∷ Numbers W.pn ∷ []) (readings_of (t.world.store i))) best raised))
          (new_carries ms reign b j next.world.messages due due (omega arith) (suc count) es (new_at ms q pace t u next e left went i came s y how D) (body.Victory quorum ∷ collect ∷ []) (gives j qj ne));
    }

    apart_so : (f j : ℕ) → has q f ≡ true → has q j ≡ true → (f ≡ b → j ≡ b) → AllByRecursion (IsOfElection E next.world.messages f j due) (next.under_way f j)
    apart_so f j qf qj own = next_all ms q pace t u next e left went i came s y how D (IsOfElection E next.world.messages f j due) f j (old f j qf qj)
        (λ d m there from to _. (let k = at_place (λ (m : Envelope). (m.message.from ≡ i) × (m.to ≡ i → ⊥) × (m.message.epoch ≡ reign.epoch)) es d m sent_away there in absurd (k.1 (to ∙ own (sym from ∙ k.0 ∙ best) ∙ sym best))))

    -- ---- the members

    abbrev now : ℕ
    now = u + pace.clock i

    abbrev bare : Timers
    bare = only_ping (disarmed timer.Election s.timers)

    leads_so : BeginsToCollect i quorum W.pn (u + pace.clock i) (readings_of (next.world.store i)) y.state
    leads_so = record {
      collects = W.phase;
      leader_is = W.leader ∙ ap (λ (w : Readings). record start_leader { quorum = quorum; pn = W.pn; answered = only i; found = pending w }) (sym raised);
      kinds = ap length W.timers ∙ armed_size now timer.Collect bare bare_size;
      timers = λ kind end on. (let set : end_of kind (armed now timer.Collect bare) ≡ Some end = sym (ap (end_of kind) W.timers) ∙ on in elim (same_kind_or kind timer.Collect) [
        | inl same ↦ (same, one_end (end_of timer.Collect (armed now timer.Collect bare)) end (now + 10000) (subst (λ (k : Timer). end_of k (armed now timer.Collect bare) ≡ Some end) same set) (ends now timer.Collect bare bare_size room))
        | inr ne ↦ (let k = only_ping_is (disarmed timer.Election s.timers) kind end (sym (still_ends now kind timer.Collect bare ne) ∙ set) in
            absurd (no_ping (part_is.only timer.Ping end (sym (still_on timer.Ping timer.Election s.timers (λ e. omega arith)) ∙ k.1))))
      ]);
    }
      where
        bare_size : length bare ≡ 11
        bare_size = refl

        no_ping : timer.Ping ≡ timer.Election → ⊥
        no_ping e = cc

    defers_so : (j : ℕ) → has q j ≡ true → (j ≡ b → ⊥) → IsSomeAnd (t.world.state j) (Defers q pace E t.time j)
    defers_so j qj nj = elim (X.others j qj nj) [
      | inr H ↦ H.defers
      | inl U ↦ (let o = opened (λ (z : State). has z.elector.acked j ≡ false) (t.world.state b) U.unacked in
          absurd (false≢true (sym o.2 ∙ ap (λ (z : State). has z.elector.acked j) (one_state (t.world.state b) o.0 s o.1 (subst (λ (z : ℕ). t.world.state z ≡ Some s) best up)) ∙ all j qj)))
    ]

    others_so : (j : ℕ) → has q j ≡ true → (j ≡ b → ⊥) → (j ≡ i → ⊥) → IsSomeAnd (next.world.state j) (λ z. TakesPart q pace E j z × Defers q pace E u j z)
    others_so j qj nj ne =
        let P = opened (TakesPart q pace E j) (t.world.state j) (X.part j qj) in
        let K = opened (Defers q pace E t.time j) (t.world.state j) (defers_so j qj nj) in
        closed (λ (z : State). TakesPart q pace E j z × Defers q pace E u j z) (next.world.state j) P.0 (D.others j ne ∙ P.1)
        (P.2, elim (subst (Defers q pace E t.time j) (one_state (t.world.state j) K.0 P.0 K.1 P.1) K.2) [ inl d ↦ inl d | inr l ↦ inr ((let a = l.0 in let m = M.later in omega arith), l.1) ])

    pub is_won : IsWon ms q pace E next
    is_won =
        let at = time_is ms q pace t u next e left went i came s y how D in
        let S = stands_of in record {
          quorum = quorum;
          ranks = S.ranks;
          members = same;
          pn = W.pn;
          short = W.short;
          fits = subst (λ (z : ℕ). suc z ≤ 2 ^ 62) epoch_is W.next;
          begun = (let z = at in omega arith);
          epoch = subst (λ (z : ℕ). epoch_of (readings_of (next.world.store z)) ≡ suc E.epoch) best (ap epoch_of raised);
          promise = subst (λ (z : ℕ). promise_of (readings_of (next.world.store z)) ≡ W.pn) best (ap promise_of raised);
          number = subst (λ (z : ℕ). or_zero (readings_of (next.world.store z)).last_pn ≡ W.pn) best (ap (λ (w : Readings). or_zero w.last_pn) raised);
          leads = subst (λ (z : ℕ). IsSomeAnd (next.world.state z) (BeginsToCollect z quorum W.pn (next.time + pace.clock z) (readings_of (next.world.store z)))) best
              (closed (BeginsToCollect i quorum W.pn (next.time + pace.clock i) (readings_of (next.world.store i))) (next.world.state i) y.state D.up
              (subst (λ (z : ℕ). BeginsToCollect i quorum W.pn (z + pace.clock i) (readings_of (next.world.store i)) y.state) (sym at) leads_so));
          others = λ j qj nj. (let ne : j ≡ i → ⊥ = (λ is. nj (is ∙ best)) in (
            subst (λ (z : ℕ). IsSomeAnd (next.world.state j) (λ s. TakesPart q pace E j s × Defers q pace E z j s)) (sym at) (others_so j qj nj ne),
            subst (λ (m : Store). epoch_of (readings_of m) ≡ E.epoch) (sym (D.stores j ne)) (X.epoch j qj),
          ));
          told = λ j qj nj. subst (λ (z : ℕ). IsTold ms E quorum W.pn (readings_of (next.world.store b)) next.world.messages j (z + pace.delay) (next.under_way b j)) (sym at) (told_so j qj (λ is. nj (is ∙ best)));
          apart = λ f j qf qj own. subst (λ (z : ℕ). AllByRecursion (IsOfElection E next.world.messages f j (z + pace.delay)) (next.under_way f j)) (sym at) (apart_so f j qf qj own);
        }
      where
        stands_of : Stands q pace E s
        stands_of = let o = opened (Stands q pace E) (t.world.state b) X.stands in subst (Stands q pace E) (one_state (t.world.state b) o.0 s o.1 (subst (λ (z : ℕ). t.world.state z ≡ Some s) best up)) o.2

    pub is_raised : IsRaised E W.pn (readings_of (t.world.store b)) (readings_of (next.world.store b))
    is_raised = subst (λ (z : ℕ). IsRaised E W.pn (readings_of (t.world.store z)) (readings_of (next.world.store z))) best (record { above = W.above; after_is = raised })

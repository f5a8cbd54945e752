-- How members that lost a leader, or part from one, begin to join an election.
use Rattle.law_names.proofs.Runs.{Envelope, Monitors, message_at}
use Rattle.law_names.proofs.Table.{AllByRecursion, Body, State, end_of, epoch_of, has, readings_of}
use Rattle.log_model.proofs.Lists.{all_both, all_map}
use Rattle.mon_wire.specs.declared.body.Body.TheVariants as body
use Rattle.mon_wire.specs.declared.phase.Phase.TheVariants as phase
use Rattle.mon_wire.specs.declared.phase.Timer.TheVariants as timer
use Rattle.quorum_timed.specs.Calls.{IsCall}
use Rattle.quorum_timed.specs.Timed.{Owed, Pace, Timed}
use Rattle.std.proofs.Common.{Bool, IsSomeAnd, List, None, Option, Some, ap, arith, inl, inr, refl, subst, suc, sym, true, ℕ, ◌*◌, ◌+◌, ◌∙◌, ◌≡◌}
use Rattle.std.proofs.lemmas.Bool.{cases_eq}
use Rattle.std.proofs.lemmas.Option.{none-some}
use Rattle.timed_election.proofs.Joining.{Beginning, Goes, Joining, Kept, Standing, election, loyal, peon, prober}
use Rattle.timed_election.proofs.Lists.{closed, opened}
use Rattle.timed_election.specs.Election.{CanElect, IsAck, in_election}
use Rattle.timed_election.specs.Joining.{CausesNoCopy, Deserted, IsOld, IsOther, LeavesStores, Parted, Uncalled}
use Rattle.timed_election.specs.Probing.{IsProbing}

no_call : (b : Body) → IsOther b → IsCall b → ⊥
no_call (body.Propose table) k c = k
no_call other k c = c

near_other : (n : ℕ) (b : Body) → IsOther b → CausesNoCopy n b
near_other n (body.ProbeReply quorum first last) k = absurd k
near_other n other k = tt

-- what is under way from f to i changes no store
abbrev Leaves : Timed → (f i : ℕ) → Type 0
Leaves t f i = AllByRecursion (λ o. IsSomeAnd (message_at t.world.messages o.number) (λ m. LeavesStores m.message.body)) (t.under_way f i)

abbrev pub begins_with : (best epoch top end : ℕ) → Option ℕ → Timed → Beginning
begins_with best epoch top end former t = record { best = best; epoch = epoch; top = top; end = end; former = former; stores = λ i. readings_of (t.world.store i) }

module _ (ms : Monitors) (q : List Bool) (pace : Pace) (best epoch top end : ℕ) (former : Option ℕ) (t : Timed) (C : CanElect ms q best) (U : Uncalled q pace epoch t) where
  abbrev B : Beginning
  B = begins_with best epoch top end former t

  out : {A : Type 0} (i : ℕ) → has q i ≡ true → epoch_of (readings_of (t.world.store i)) ≡ suc epoch → A
  out i qi k = let a = U.epoch_is i qi in absurd (omega arith)

  kept_at : (i : ℕ) → has q i ≡ true → Kept ms q pace B i (readings_of (t.world.store i))
  kept_at i qi = record { epoch = U.epoch_is i qi; unmarked = U.unmarked i qi; same = refl }

  goes_so : (f i : ℕ) (o : Owed) → (former ≡ Some f → IsSomeAnd (message_at t.world.messages o.number) (λ m. LeavesStores m.message.body)) → IsOld epoch t.world.messages f i (t.time + pace.delay) o
      → Goes ms q pace B t.world f i (t.time + pace.delay) o
  goes_so f i o leaves O = record {
    message = O.envelope.message;
    there = O.there ∙ ap (λ (z : ℕ). Some (record { to = z; message = O.envelope.message })) O.receiver;
    sender = O.sender;
    epoch = (let k = O.early in omega arith);
    calls = λ k. absurd (no_call O.envelope.message.body O.kind k);
    near = near_other ((readings_of (t.world.store i)).last) O.envelope.message.body O.kind;
    leaves = λ is. (let k = opened (λ (m : Envelope). LeavesStores m.message.body) (message_at t.world.messages o.number) (leaves is) in
        let two : Some k.0 ≡ Some O.envelope = sym k.1 ∙ O.there in
        let same : k.0 ≡ O.envelope = cc in
        subst (λ (m : Envelope). LeavesStores m.message.body) same k.2);
    in_time = O.in_time;
  }

  module _ (stands : (i : ℕ) → has q i ≡ true → Standing ms q pace B None t i)
      (probes : (l : ℕ) → former ≡ Some l → (has q l ≡ true) × IsSomeAnd (t.world.state l) (λ s. s.phase ≡ phase.Probing))
      (leaves : (l : ℕ) → former ≡ Some l → (i : ℕ) → has q i ≡ true → Leaves t l i) where
    goes_all : (f i : ℕ) → has q f ≡ true → has q i ≡ true → (o : Option ℕ) → former ≡ o → AllByRecursion (Goes ms q pace B t.world f i (t.time + pace.delay)) (t.under_way f i)
    goes_all f i qf qi None is = all_map (IsOld epoch t.world.messages f i (t.time + pace.delay)) (Goes ms q pace B t.world f i (t.time + pace.delay)) (λ o O. goes_so f i o (λ k. absurd (none-some f (sym is ∙ k))) O) (t.under_way f i) (U.under_way f i qf qi)
    goes_all f i qf qi (Some l) is = elim (cases_eq l f) [
      | inr ne ↦ all_map (IsOld epoch t.world.messages f i (t.time + pace.delay)) (Goes ms q pace B t.world f i (t.time + pace.delay)) (λ o O. goes_so f i o (λ k. absurd (ne (let two : Some l ≡ Some f = sym is ∙ k in cc))) O) (t.under_way f i) (U.under_way f i qf qi)
      | inl same ↦ all_map (λ o. IsSomeAnd (message_at t.world.messages o.number) (λ m. LeavesStores m.message.body) × IsOld epoch t.world.messages f i (t.time + pace.delay) o) (Goes ms q pace B t.world f i (t.time + pace.delay))
          (λ o k. goes_so f i o (λ _. k.0) k.1) (t.under_way f i)
          (all_both (λ o. IsSomeAnd (message_at t.world.messages o.number) (λ m. LeavesStores m.message.body)) (IsOld epoch t.world.messages f i (t.time + pace.delay)) (t.under_way f i) (leaves f (is ∙ ap Some same) i qi) (U.under_way f i qf qi))
    ]

    begun : Joining ms q pace B None t
    begun = record {
      since = U.since;
      begun = tt;
      stands = stands;
      former = λ _ l is. probes l is;
      under_way = λ f i qf qi. goes_all f i qf qi former refl;
      alike = λ i k m there calling from to is. absurd (let a = U.uncalled k m there (subst (λ (z : ℕ). has q z ≡ true) (sym from) C.member) calling in omega arith);
      called = λ k. out best C.member k;
      told = λ j qj ne. inl (record {
        silent = all_map (IsOld epoch t.world.messages j best (t.time + pace.delay)) (λ o. IsAck ms pace (election ms q pace B 0) q t j o → ⊥)
            (λ o O is. (let two : Some O.envelope ≡ Some (in_election ms (election ms q pace B 0) j best body.Ack) = sym O.there ∙ is in
            let same : O.envelope.message.epoch ≡ suc epoch = (let whole : O.envelope ≡ in_election ms (election ms q pace B 0) j best body.Ack = cc in ap (λ (m : Envelope). m.message.epoch) whole) in
            let k = O.early in omega arith)) (t.under_way j best) (U.under_way j best qj C.member);
        unacked = λ k. out best C.member k;
      });
      calls_by = λ i qi. U.calls best i C.member qi;
    }

-- ---- leaders are lost

pub deserted : (ms : Monitors) (q : List Bool) (pace : Pace) (best epoch by : ℕ) (t : Timed) (C : CanElect ms q best) → Deserted q pace epoch by t
    → Joining ms q pace (begins_with best epoch (by + pace.late) (by + pace.late + 2 * pace.delay) None t) None t
deserted ms q pace best epoch by t C D =
    begun ms q pace best epoch (by + pace.late) (by + pace.late + 2 * pace.delay) None t C U
    (λ i qi. peon (kept_at ms q pace best epoch (by + pace.late) (by + pace.late + 2 * pace.delay) None t C U i qi) (record {
      nobody = refl;
      by = by;
      since = (let a = U.since in let b = D.before in omega arith);
      early = (omega arith);
      follows = D.follow i qi;
    }) tt)
    (λ l is. absurd (none-some l is)) (λ l is. absurd (none-some l is))
  where
    U : Uncalled q pace epoch t
    U = D.uncalled

-- ---- one led the others

pub parted : (ms : Monitors) (q : List Bool) (pace : Pace) (best leader epoch : ℕ) (t : Timed) (C : CanElect ms q best) → Parted ms q pace leader epoch t
    → Joining ms q pace (begins_with best epoch t.time (t.time + 3 * pace.delay) (Some leader) t) None t
parted ms q pace best leader epoch t C D =
    begun ms q pace best epoch t.time (t.time + 3 * pace.delay) (Some leader) t C U stands
    (λ l is. (
      subst (λ (z : ℕ). has q z ≡ true) (it l is) D.member,
      (let o = opened (λ (s : State). IsProbing ms pace leader t.time s × (end_of timer.Ping s.timers ≡ None)) (t.world.state leader) D.probes in
          let P : IsProbing ms pace leader t.time o.0 = o.2.0 in
          subst (λ (z : ℕ). IsSomeAnd (t.world.state z) (λ s. s.phase ≡ phase.Probing)) (it l is) (closed (λ (s : State). s.phase ≡ phase.Probing) (t.world.state leader) o.0 o.1 P.probes)),
    ))
    (λ l is i qi. subst (λ (z : ℕ). Leaves t z i) (it l is) (D.leaves i qi))
  where
    U : Uncalled q pace epoch t
    U = D.uncalled

    B : Beginning
    B = begins_with best epoch t.time (t.time + 3 * pace.delay) (Some leader) t

    it : (l : ℕ) → Some leader ≡ Some l → leader ≡ l
    it l is = cc

    stands : (i : ℕ) → has q i ≡ true → Standing ms q pace B None t i
    stands i qi = elim (cases_eq i leader) [
      | inr ne ↦ loyal (kept_at ms q pace best epoch t.time (t.time + 3 * pace.delay) (Some leader) t C U i qi) (record {
        leader = leader;
        former = refl;
        quorum = D.quorum;
        leased = D.leased;
        before = D.before;
        lasts = D.lasts;
        late = (omega arith);
        follows = D.follow i qi ne;
      }) tt
      | inl same ↦ subst (Standing ms q pace B None t) (sym same) (prober (kept_at ms q pace best epoch t.time (t.time + 3 * pace.delay) (Some leader) t C U leader D.member) (record {
        at = t.time;
        begun = (omega arith);
        early = (omega arith);
        since = tt;
        probing = (let o = opened (λ (s : State). IsProbing ms pace leader t.time s × (end_of timer.Ping s.timers ≡ None)) (t.world.state leader) D.probes in closed (IsProbing ms pace leader t.time) (t.world.state leader) o.0 o.1 o.2.0);
        calm = (let o = opened (λ (s : State). IsProbing ms pace leader t.time s × (end_of timer.Ping s.timers ≡ None)) (t.world.state leader) D.probes in closed (λ (s : State). end_of timer.Ping s.timers ≡ None) (t.world.state leader) o.0 o.1 o.2.1);
        awaits = λ j qj ne. inl (D.asks j qj ne);
      }))
    ]

-- What an event at one member leaves of the others, while they join an election.
use Rattle.law_names.proofs.Runs.{Envelope, Event, Monitors, message_at, messages_of}
use Rattle.law_names.proofs.Table.{AllByRecursion, Epoch, Phase, Readings, State, Store, end_of, epoch_of, has, played, readings_of, same_phase}
use Rattle.log_model.proofs.Lists.{all_both, all_map}
use Rattle.mon_wire.specs.declared.body.Body.TheVariants as body
use Rattle.mon_wire.specs.declared.phase.Phase.TheVariants as phase
use Rattle.mon_wire.specs.declared.phase.Timer.TheVariants as timer
use Rattle.quorum_stays.proofs.Onward.{one_state}
use Rattle.quorum_stays.proofs.UnderWay.{numbers}
use Rattle.quorum_stays.specs.Steady.{FollowsSince}
use Rattle.quorum_timed.specs.Begins.{IsBetween}
use Rattle.quorum_timed.specs.Calls.{IsCall}
use Rattle.quorum_timed.specs.Timed.{MayBe, Owed, Pace, Timed, owed_by}
use Rattle.std.proofs.Common.{Bool, IsSomeAnd, List, None, Some, [], ap, arith, false, inl, inr, length, refl, slice_get, subst, suc, sym, true, ℕ, ◌*◌, ◌++◌, ◌+◌, ◌<◌, ◌∙◌, ◌∷◌, ◌≡◌, ◌≤◌, ◌⊎◌}
use Rattle.std.proofs.lemmas.Bool.{cases_eq, false≢true}
use Rattle.timed_election.proofs.Coming.{Handled, left_all, left_same, new_at, next_all, on_state, same_there, still, time_is, under_now}
use Rattle.timed_election.proofs.Joining.{Beginning, Begun, Called, First, Goes, HeardIn, IsIn, Joining, Lost, Loyal, Missed, Prober, Since, Standing, Stock, Takes, arrives_by, call, election, joined, loyal, peon, prober}
use Rattle.timed_election.proofs.Lists.{arrives_more, at_place, closed, old_or_new, opened}
use Rattle.timed_election.proofs.Probing.{goes, still_by}
use Rattle.timed_election.specs.Election.{ArrivesBy, CanElect, IsAck, in_election}
use Rattle.timed_election.specs.Joining.{CausesNoCopy, FollowsLost, LeavesStores}
use Rattle.timed_election.specs.Probing.{CanAnswer, IsProbing, Probes}

module _ (ms : Monitors) (q : List Bool) (pace : Pace) (short : 2 * pace.delay < 2000) (B : Beginning) (C : CanElect ms q B.best) (enough : B.top + 2 * pace.delay ≤ B.end) where
  abbrev F : Type 0
  F = First ms q pace B

  module _ (c : F) (t : Timed) (X : Joining ms q pace B c t) (u : ℕ) (M : MayBe ms q pace t u) where
    -- ---- the members

    pub between : (f i : ℕ) → has q f ≡ true → has q i ≡ true → AllByRecursion (λ o. IsBetween t.world f i o.number) (t.under_way f i)
    between f i qf qi = all_map (Goes ms q pace B t.world f i (t.time + pace.delay)) (λ o. IsBetween t.world f i o.number)
        (λ o G. closed (λ (m : Envelope). (m.message.from ≡ f) × (m.to ≡ i)) (message_at t.world.messages o.number) (record { to = i; message = G.message }) G.there (G.sender, refl)) (t.under_way f i) (X.under_way f i qf qi)

    -- a member is up, and has started
    running : (i : ℕ) → has q i ≡ true → IsSomeAnd (t.world.state i) (λ s. same_phase s.phase phase.Booting ≡ false)
    running i qi = by (X.stands i qi)
      where
        so : (P : State → Type 0) (p : Phase) → same_phase p phase.Booting ≡ false → ((s : State) → P s → s.phase ≡ p) → IsSomeAnd (t.world.state i) P → IsSomeAnd (t.world.state i) (λ s. same_phase s.phase phase.Booting ≡ false)
        so P p runs f k = let o = opened P (t.world.state i) k in closed (λ (s : State). same_phase s.phase phase.Booting ≡ false) (t.world.state i) o.0 o.1 (ap (λ (z : Phase). same_phase z phase.Booting) (f o.0 o.2) ∙ runs)

        takes : (d : F) → Takes ms q pace B d t i → IsSomeAnd (t.world.state i) (λ s. same_phase s.phase phase.Booting ≡ false)
        takes None k = absurd k
        takes (Some (a, from)) k = so _ phase.Electing refl (λ s P. (P.0).elects) k

        by : Standing ms q pace B c t i → IsSomeAnd (t.world.state i) (λ s. same_phase s.phase phase.Booting ≡ false)
        by (peon S k d) = so (FollowsLost q (k.by + pace.clock i)) phase.Peon refl (λ s P. P.follows) k.follows
        by (loyal S k d) = so (FollowsSince k.leader k.quorum (k.leased + pace.clock i)) phase.Peon refl (λ s P. P.follows) k.follows
        by (prober S P) = so (IsProbing ms pace i P.at) phase.Probing refl (λ s Z. Z.probes) P.probing
        by (joined S k) = takes c k

    pub ups : (i : ℕ) → has q i ≡ true → IsSomeAnd (t.world.state i) (λ s. Unit {0})
    ups i qi = let o = opened (λ (s : State). same_phase s.phase phase.Booting ≡ false) (t.world.state i) (running i qi) in closed (λ (s : State). Unit {0}) (t.world.state i) o.0 o.1 tt

    pub ready : (e : Event) → CanAnswer q t.world e
    ready e i qi = (by (X.stands i qi), running i qi)
      where
        by : Standing ms q pace B c t i → (readings_of (t.world.store i)).marked ≡ false
        by (peon S k d) = S.unmarked
        by (loyal S k d) = S.unmarked
        by (prober S P) = S.unmarked
        by (joined S k) = S.unmarked

    -- ---- how far time went

    pub peon_by : (i : ℕ) → has q i ≡ true → Lost ms q pace B t i → u ≤ B.top
    peon_by i qi k =
        let o = opened (FollowsLost q (k.by + pace.clock i)) (t.world.state i) k.follows in
        let P : FollowsLost q (k.by + pace.clock i) o.0 = o.2 in
        let end = opened (λ (end : ℕ). end ≤ k.by + pace.clock i) (end_of timer.Lease (o.0).timers) P.waits in
        let due = M.timers i qi o.0 o.1 timer.Lease end.0 end.1 in
        let le = end.2 in
        let since = k.since in
        let early = k.early in
        omega arith

    abbrev pub probes : (i : ℕ) → has q i ≡ true → (P : Prober ms q pace B c t i) → Probes ms pace i P.at q t
    probes i qi P = record {
      members = C.members;
      major = C.major;
      member = qi;
      ups = ups;
      probing = P.probing;
      under_way = λ f j qf qj. all_map (Goes ms q pace B t.world f j (t.time + pace.delay)) (λ o. IsBetween t.world f j o.number × (o.by ≤ t.time + pace.delay))
          (λ o G. (closed (λ (m : Envelope). (m.message.from ≡ f) × (m.to ≡ j)) (message_at t.world.messages o.number) (record { to = j; message = G.message }) G.there (G.sender, refl), G.in_time)) (t.under_way f j) (X.under_way f j qf qj);
      awaits = P.awaits;
    }

    pub prober_by : (i : ℕ) → has q i ≡ true → (P : Prober ms q pace B c t i) → u ≤ P.at + 2 * pace.delay
    prober_by i qi P = still_by ms q pace i P.at short t (probes i qi P) u M

    -- the first call was made no later, if it was
    abbrev pub Soon : F → ℕ → Type 0
    Soon None n = u ≤ B.top + 2 * pace.delay
    Soon (Some (k, from)) n = u ≤ from + n * pace.delay

    pub called_by : (i : ℕ) → has q i ≡ true → (d : F) → Called ms q pace B d t i → Since ms q pace B d u
    called_by i qi None k = tt
    called_by i qi (Some (a, from)) k = arrives_by (from + pace.delay) _ ms q pace t u M a i k.0 qi k.2

    -- as long as nobody called, the former leader probes
    former_by : (l : ℕ) → has q l ≡ true → IsSomeAnd (t.world.state l) (λ s. s.phase ≡ phase.Probing) → c ≡ None → u ≤ B.top + 2 * pace.delay
    former_by l ql probing none = by (X.stands l ql)
      where
        away : (P : State → Type 0) → ((s : State) → P s → s.phase ≡ phase.Peon) → IsSomeAnd (t.world.state l) P → ⊥
        away P f k =
            let a = opened P (t.world.state l) k in
            let b = opened (λ (s : State). s.phase ≡ phase.Probing) (t.world.state l) probing in
            let clash : phase.Peon ≡ phase.Probing = sym (f a.0 a.2) ∙ ap (λ (s : State). s.phase) (one_state (t.world.state l) a.0 b.0 a.1 b.1) ∙ b.2 in
            cc

        nobody_takes : (d : F) → d ≡ None → Takes ms q pace B d t l → ⊥
        nobody_takes None is k = k
        nobody_takes (Some x) is k = cc

        by : Standing ms q pace B c t l → u ≤ B.top + 2 * pace.delay
        by (peon S k d) = absurd (away (FollowsLost q (k.by + pace.clock l)) (λ s P. P.follows) k.follows)
        by (loyal S k d) = absurd (away (FollowsSince k.leader k.quorum (k.leased + pace.clock l)) (λ s P. P.follows) k.follows)
        by (prober S P) = let n = prober_by l ql P in let a = P.early in omega arith
        by (joined S k) = absurd (nobody_takes c none k)

    -- who isn't in the election yet joins it soon
    pub out_by : (i : ℕ) → has q i ≡ true → epoch_of (readings_of (t.world.store i)) ≡ B.epoch → (u ≤ B.end) × Soon c 3
    out_by i qi out = by (X.stands i qi)
      where
        later : u ≤ B.top + 2 * pace.delay → (d : F) → Called ms q pace B d t i → Soon d 3
        later le None k = le
        later le (Some (a, from)) k = let l = called_by i qi (Some (a, from)) k in omega arith

        probing : (at : ℕ) → at ≤ B.top → u ≤ at + 2 * pace.delay → (d : F) → Since ms q pace B d at → Soon d 3
        probing at early le None k = omega arith
        probing at early le (Some (a, from)) k = omega arith

        waits : (k : Loyal ms q pace B t i) → (d : F) → c ≡ d → Begun ms q pace B d t → Called ms q pace B d t i → (u ≤ B.end) × Soon d 3
        waits k None is b a = let f = X.former is k.leader k.former in let le = former_by k.leader f.0 f.1 is in ((omega arith), le)
        waits k (Some (a, from)) is b call_comes = let l = called_by i qi (Some (a, from)) call_comes in let late = k.late in let n = b.2 in ((omega arith), (omega arith))

        by : Standing ms q pace B c t i → (u ≤ B.end) × Soon c 3
        by (peon S k d) = let l = peon_by i qi k in ((omega arith), later (omega arith) c d)
        by (loyal S k d) = waits k c refl X.begun d
        by (prober S P) = ((let l = prober_by i qi P in let a = P.early in omega arith), probing P.at P.early (prober_by i qi P) c P.since)
        by (joined S k) = absurd (let a = S.epoch in omega arith)

    -- ---- an event

    module _ (next : Timed) (e : Event) (H : Handled ms q pace C.members t u next e) where
      abbrev i : ℕ
      i = H.i

      abbrev es : List Envelope
      es = messages_of H.course.out

      abbrev count : ℕ
      count = length t.world.messages

      abbrev due : ℕ
      due = u + pace.delay

      pub time_now : next.time ≡ u
      time_now = time_is ms q pace t u next e H.left H.went i H.came H.state H.course H.how H.did

      pub there_still : (k : ℕ) (m : Envelope) → message_at t.world.messages k ≡ Some m → message_at next.world.messages k ≡ Some m
      there_still = still ms q pace t u next e H.left H.went i H.came H.state H.course H.how H.did

      pub state_next : (P Q : State → Type 0) (j : ℕ) → (j ≡ i → Q H.course.state) → ((j ≡ i → ⊥) → (z : State) → P z → Q z) → IsSomeAnd (t.world.state j) P → IsSomeAnd (next.world.state j) Q
      state_next = on_state ms q pace t u next e H.left H.went i H.came H.state H.course H.how H.did

      pub others_same : (P : State → Type 0) (j : ℕ) → (j ≡ i → ⊥) → IsSomeAnd (t.world.state j) P → IsSomeAnd (next.world.state j) P
      others_same P j ne k = state_next P P j (λ same. absurd (ne same)) (λ _ z h. h) k

      pub same_left : (f j : ℕ) → (j ≡ i → ⊥) → H.left f j ≡ t.under_way f j
      same_left = left_same ms q pace t u next e H.left H.went i H.came H.state H.course H.how H.did

      pub under : (f j : ℕ) → next.under_way f j ≡ H.left f j ++ owed_by due (numbers f j (suc count) es)
      under = under_now ms q pace t u next e H.left H.went i H.came H.state H.course H.how H.did

      pub all_left : (P : Owed → Type 0) (f j : ℕ) → AllByRecursion P (t.under_way f j) → AllByRecursion P (H.left f j)
      all_left = left_all ms q pace t u next e H.left H.went i H.came H.state H.course H.how H.did

      -- what was under way to j still is, if it didn't come
      pub on : (until : ℕ) (P Q : Owed → Type 0) → ((o : Owed) → P o → Q o) → (f j : ℕ) → ArrivesBy until P (H.left f j) → ArrivesBy until Q (next.under_way f j)
      on until P Q g f j a = subst (ArrivesBy until Q) (sym (under f j)) (arrives_more until P Q g (H.left f j) (owed_by due (numbers f j (suc count) es)) a)

      -- ---- another member

      module _ (d : F) (j : ℕ) (qj : has q j ≡ true) (ne : j ≡ i → ⊥) (call_goes : Called ms q pace B c t j → Called ms q pace B d next j)
          (since_goes : (at : ℕ) → at ≤ u → Since ms q pace B c at → Since ms q pace B d at) (takes_goes : Takes ms q pace B c t j → Takes ms q pace B d next j) where
        stock_goes : (n : ℕ) (these : Readings) → Stock ms q pace B n these (readings_of (t.world.store j)) → Stock ms q pace B n these (readings_of (next.world.store j))
        stock_goes n these S = subst (λ (m : Store). Stock ms q pace B n these (readings_of m)) (sym (H.did.stores j ne)) S

        lost_goes : Lost ms q pace B t j → Lost ms q pace B next j
        lost_goes k = record {
          nobody = k.nobody;
          by = k.by;
          since = k.since;
          early = k.early;
          follows = others_same (FollowsLost q (k.by + pace.clock j)) j ne k.follows;
        }

        loyal_goes : Loyal ms q pace B t j → Loyal ms q pace B next j
        loyal_goes k = record {
          leader = k.leader;
          former = k.former;
          quorum = k.quorum;
          leased = k.leased;
          before = (let b = k.before in let l = M.later in let z = time_now in omega arith);
          lasts = k.lasts;
          late = k.late;
          follows = others_same (FollowsSince k.leader k.quorum (k.leased + pace.clock j)) j ne k.follows;
        }

        prober_goes : (P : Prober ms q pace B c t j) → Prober ms q pace B d next j
        prober_goes P = by (goes ms q pace j P.at short t (probes j qj P) u M next e H (ready e))
          where
            still_probing : IsSomeAnd (next.world.state j) (IsProbing ms pace j P.at)
            still_probing = others_same (IsProbing ms pace j P.at) j ne P.probing

            by : Probes ms pace j P.at q next ⊎ IsSomeAnd (next.world.state j) (λ s. same_phase s.phase phase.Probing ≡ false) → Prober ms q pace B d next j
            by (inl Y) = record {
              at = P.at;
              begun = (let b = P.begun in let l = M.later in let z = time_now in omega arith);
              early = P.early;
              since = since_goes P.at (let b = P.begun in let l = M.later in omega arith) P.since;
              probing = Y.probing;
              calm = others_same (λ s. end_of timer.Ping s.timers ≡ None) j ne P.calm;
              awaits = Y.awaits;
            }
            by (inr k) =
                let a = opened (IsProbing ms pace j P.at) (next.world.state j) still_probing in
                let b = opened (λ (s : State). same_phase s.phase phase.Probing ≡ false) (next.world.state j) k in
                let Z : IsProbing ms pace j P.at a.0 = a.2 in
                absurd (false≢true (sym b.2 ∙ ap (λ (s : State). same_phase s.phase phase.Probing) (one_state (next.world.state j) b.0 a.0 b.1 a.1) ∙ ap (λ (p : Phase). same_phase p phase.Probing) Z.probes))

        pub stands_goes : Standing ms q pace B d next j
        stands_goes = by (X.stands j qj)
          where
            by : Standing ms q pace B c t j → Standing ms q pace B d next j
            by (peon S k a) = peon (stock_goes B.epoch (B.stores j) S) (lost_goes k) (call_goes a)
            by (loyal S k a) = loyal (stock_goes B.epoch (B.stores j) S) (loyal_goes k) (call_goes a)
            by (prober S P) = prober (stock_goes B.epoch (B.stores j) S) (prober_goes P)
            by (joined S k) = joined (stock_goes (suc B.epoch) (played (Epoch (suc B.epoch) ∷ []) (B.stores j)) S) (takes_goes k)

      -- ---- what is sent

      -- It is of member i, and changes no store. A call is the one that it makes in the election, which it takes part in then.
      pub record Said (after : ℕ) (m : Envelope) : Type 0 where
        pub from : m.message.from ≡ i
        pub epoch : m.message.epoch ≤ suc B.epoch
        pub call_is : IsCall m.message.body → (m ≡ call ms q pace B i m.to) × (after ≡ suc B.epoch)
        pub near : (j : ℕ) → has q j ≡ true → CausesNoCopy (B.stores j).last m.message.body
        pub leaves : LeavesStores m.message.body

      -- no acknowledgement for `best`
      abbrev pub IsMute : Envelope → Type 0
      IsMute m = m.to ≡ B.best → m.message.body ≡ body.Ack → ⊥

      -- ---- acknowledgements

      abbrev pub Ack : Timed → ℕ → Owed → Type 0
      Ack v j = IsAck ms pace (election ms q pace B 0) q v j

      silent_on : (j : ℕ) → has q j ≡ true → ((n : ℕ) (m : Envelope) → slice_get es n ≡ Some m → m.message.from ≡ j → m.to ≡ B.best → m.message.body ≡ body.Ack → ⊥)
          → AllByRecursion (λ o. Ack t j o → ⊥) (t.under_way j B.best) → AllByRecursion (λ o. Ack next j o → ⊥) (next.under_way j B.best)
      silent_on j qj quiet k = next_all ms q pace t u next e H.left H.went i H.came H.state H.course H.how H.did (λ o. Ack next j o → ⊥) j B.best
          (all_left (λ o. Ack next j o → ⊥) j B.best
          (all_map (λ o. Goes ms q pace B t.world j B.best (t.time + pace.delay) o × (Ack t j o → ⊥)) (λ o. Ack next j o → ⊥)
          (λ o k new. k.1 (let G : Goes ms q pace B t.world j B.best (t.time + pace.delay) o = k.0 in
          let old : Envelope = record { to = B.best; message = G.message } in
          let ack : Envelope = in_election ms (election ms q pace B 0) j B.best body.Ack in
          G.there ∙ ap Some (same_there ms q pace t u next e H.left H.went i H.came H.state H.course H.how H.did o.number old ack G.there new)))
          (t.under_way j B.best) (all_both (Goes ms q pace B t.world j B.best (t.time + pace.delay)) (λ o. Ack t j o → ⊥) (t.under_way j B.best) (X.under_way j B.best qj C.member) k)))
          (λ n m there from to at new. quiet n m there from to (let ack : Envelope = in_election ms (election ms q pace B 0) j B.best body.Ack in
          let two : Some m ≡ Some ack = sym at ∙ new in let same : m ≡ ack = cc in ap (λ (p : Envelope). p.message.body) same))

      pub acks_on : (until j : ℕ) → ArrivesBy until (Ack t j) (H.left j B.best) → ArrivesBy until (Ack next j) (next.under_way j B.best)
      acks_on until j k = on until (Ack t j) (Ack next j) (λ o there. there_still o.number (in_election ms (election ms q pace B 0) j B.best body.Ack) there) j B.best k

      -- one that `best` didn't hear of
      pub missed_on : (j : ℕ) → has q j ≡ true → ((n : ℕ) (m : Envelope) → slice_get es n ≡ Some m → m.message.from ≡ j → m.to ≡ B.best → m.message.body ≡ body.Ack → ⊥)
          → (i ≡ B.best → IsIn ms q pace B next B.best → has H.course.state.elector.acked j ≡ false) → Missed ms q pace B t j → Missed ms q pace B next j
      missed_on j qj quiet mine N = record { silent = silent_on j qj quiet N.silent; unacked = unacked_so }
        where
          unacked_so : IsIn ms q pace B next B.best → IsSomeAnd (next.world.state B.best) (λ s. has s.elector.acked j ≡ false)
          unacked_so inside = elim (cases_eq B.best i) [
            | inl same ↦ closed (λ (s : State). has s.elector.acked j ≡ false) (next.world.state B.best) H.course.state (subst (λ (z : ℕ). next.world.state z ≡ Some H.course.state) (sym same) H.did.up) (mine (sym same) inside)
            | inr ne ↦ others_same (λ s. has s.elector.acked j ≡ false) B.best ne (N.unacked (subst (λ (m : Store). epoch_of (readings_of m) ≡ suc B.epoch) (H.did.stores B.best ne) inside))
          ]

      -- ---- one turn

      pub record Turned (d : F) : Type 0 where
        pub begun : Begun ms q pace B d next
        pub standing : Standing ms q pace B d next i
        pub former : d ≡ None → (c ≡ None) × (B.former ≡ Some i → H.course.state.phase ≡ phase.Probing)
        pub called : (j : ℕ) → has q j ≡ true → (j ≡ i → ⊥) → Called ms q pace B c t j → Called ms q pace B d next j
        pub since : (at : ℕ) → at ≤ u → Since ms q pace B c at → Since ms q pace B d at
        pub takes : (j : ℕ) → (j ≡ i → ⊥) → Takes ms q pace B c t j → Takes ms q pace B d next j
        pub inside : IsIn ms q pace B t i → IsIn ms q pace B next i
        pub said : AllByRecursion (Said (epoch_of (readings_of (next.world.store i)))) es
        pub calls : IsIn ms q pace B next i → IsIn ms q pace B t i
            ⊎ ((j : ℕ) → has q j ≡ true → (j ≡ i → ⊥) → (i ≡ B.best) → (n : ℕ) × (slice_get es n ≡ Some (call ms q pace B i j)))
        pub told : (j : ℕ) → has q j ≡ true → (j ≡ B.best → ⊥) → Missed ms q pace B next j ⊎ HeardIn ms q pace B d next j

      module _ (d : F) (T : Turned d) where
        said_at : (n : ℕ) (m : Envelope) → slice_get es n ≡ Some m → Said (epoch_of (readings_of (next.world.store i))) m
        said_at n m there = at_place (Said (epoch_of (readings_of (next.world.store i)))) es n m T.said there

        in_still : (j : ℕ) → IsIn ms q pace B t j → IsIn ms q pace B next j
        in_still j k = elim (cases_eq j i) [
          | inl same ↦ subst (IsIn ms q pace B next) (sym same) (T.inside (subst (IsIn ms q pace B t) same k))
          | inr ne ↦ subst (λ (m : Store). epoch_of (readings_of m) ≡ suc B.epoch) (sym (H.did.stores j ne)) k
        ]

        under_way_next : (f j : ℕ) → has q f ≡ true → has q j ≡ true → AllByRecursion (Goes ms q pace B next.world f j (next.time + pace.delay)) (next.under_way f j)
        under_way_next f j qf qj = next_all ms q pace t u next e H.left H.went i H.came H.state H.course H.how H.did (Goes ms q pace B next.world f j (next.time + pace.delay)) f j
            (all_left (Goes ms q pace B next.world f j (next.time + pace.delay)) f j
            (all_map (Goes ms q pace B t.world f j (t.time + pace.delay)) (Goes ms q pace B next.world f j (next.time + pace.delay)) grows (t.under_way f j) (X.under_way f j qf qj)))
            (λ n m there from to at. (let S = said_at n m there in record {
              message = m.message;
              there = at ∙ ap (λ (z : ℕ). Some (record { to = z; message = m.message })) to;
              sender = from;
              epoch = S.epoch;
              calls = λ k. (ap (λ (p : Envelope). p.message.epoch) (S.call_is k).0, subst (IsIn ms q pace B next) (sym S.from ∙ from) (S.call_is k).1);
              near = S.near j qj;
              leaves = λ _. S.leaves;
              in_time = (let z = time_now in omega arith);
            }))
          where
            grows : (o : Owed) → Goes ms q pace B t.world f j (t.time + pace.delay) o → Goes ms q pace B next.world f j (next.time + pace.delay) o
            grows o G = record {
              message = G.message;
              there = there_still o.number (record { to = j; message = G.message }) G.there;
              sender = G.sender;
              epoch = G.epoch;
              calls = λ k. ((G.calls k).0, in_still f (G.calls k).1);
              near = G.near;
              leaves = G.leaves;
              in_time = (let a = G.in_time in let z = time_now in let l = M.later in omega arith);
            }

        alike_next : (j k : ℕ) (m : Envelope) → message_at next.world.messages k ≡ Some m → IsCall m.message.body → m.message.from ≡ B.best → m.to ≡ j → m.message.epoch ≡ suc B.epoch
            → (m ≡ call ms q pace B B.best j) × IsIn ms q pace B next B.best
        alike_next j k m there calling from to epoch = elim (old_or_new t.world.messages es k m (sym (ap (λ (z : List Envelope). message_at z k) H.did.messages) ∙ there)) [
          | inl old ↦ (let a = X.alike j k m old calling from to epoch in (a.0, in_still B.best a.1))
          | inr new ↦ (let S = said_at new.0 m new.1 in
              let mine : i ≡ B.best = sym S.from ∙ from in
              let a = S.call_is calling in
              (a.0 ∙ ap (λ (z : ℕ). call ms q pace B z m.to) mine ∙ ap (call ms q pace B B.best) to, subst (IsIn ms q pace B next) mine a.1))
        ]

        called_next : IsIn ms q pace B next B.best → (j : ℕ) → has q j ≡ true → (j ≡ B.best → ⊥) → (k : ℕ) × (message_at next.world.messages k ≡ Some (call ms q pace B B.best j))
        called_next inside j qj nj = elim (cases_eq B.best i) [
          | inr ne ↦ before (subst (λ (m : Store). epoch_of (readings_of m) ≡ suc B.epoch) (H.did.stores B.best ne) inside)
          | inl same ↦ elim (T.calls (subst (IsIn ms q pace B next) same inside)) [
            | inl k ↦ before (subst (IsIn ms q pace B t) (sym same) k)
            | inr f ↦ (let k = f j qj (λ z. nj (z ∙ sym same)) (sym same) in
                (suc count + k.0, new_at ms q pace t u next e H.left H.went i H.came H.state H.course H.how H.did k.0 (call ms q pace B i j) k.1 ∙ ap (λ (z : ℕ). Some (call ms q pace B z j)) (sym same)))
          ]
        ]
          where
            before : IsIn ms q pace B t B.best → (k : ℕ) × (message_at next.world.messages k ≡ Some (call ms q pace B B.best j))
            before k = let z = X.called k j qj nj in (z.0, there_still z.0 (call ms q pace B B.best j) z.1)

        pub joining_next : Joining ms q pace B d next
        joining_next = record {
          since = (let a = X.since in let l = M.later in let z = time_now in omega arith);
          begun = T.begun;
          stands = λ j qj. elim (cases_eq j i) [
            | inl same ↦ subst (Standing ms q pace B d next) (sym same) T.standing
            | inr ne ↦ stands_goes d j qj ne (T.called j qj ne) T.since (T.takes j ne)
          ];
          former = λ none l is. (let k = X.former (T.former none).0 l is in (
            k.0,
            state_next (λ s. s.phase ≡ phase.Probing) (λ s. s.phase ≡ phase.Probing) l (λ same. (T.former none).1 (is ∙ ap Some same)) (λ _ s p. p) k.1,
          ));
          under_way = under_way_next;
          alike = alike_next;
          called = called_next;
          told = T.told;
          calls_by = λ j qj. elim (H.went.calls B.best j) [
            | inl same ↦ (let a = X.calls_by j qj in let l = M.later in let z = time_now in omega arith)
            | inr k ↦ (let a = k.0 in let z = time_now in omega arith)
          ];
        }

-- The members of a quorum that lost a peon part from their leader when it probes, and what their stores keep then.
use Rattle.law_names.proofs.Runs.{Arrives, Envelope, Monitors, Reached, Ring, message_at}
use Rattle.law_names.proofs.Table.{AllByRecursion, Body, Readings, State, end_of, epoch_of, has, is_even, promise_of, readings_of}
use Rattle.log_model.proofs.Lists.{all_map}
use Rattle.mon_wire.specs.declared.body.Body.TheVariants as body
use Rattle.mon_wire.specs.declared.phase.Phase.TheVariants as phase
use Rattle.mon_wire.specs.declared.phase.Timer.TheVariants as timer
use Rattle.quorum_laws.specs.Accepting.{IsMajorityOf, readings_at}
use Rattle.quorum_recovers.proofs.Known.{low_of}
use Rattle.quorum_stays.proofs.Peering.{PeonIn}
use Rattle.quorum_stays.specs.Reading.{ClocksGoOn}
use Rattle.quorum_stays.specs.Steady.{Carries, FollowsSince, IsAside, IsItem, IsOfClients, IsOfElections, Item, Keeps, Reign, Round, leased, said, to_leader, to_peon}
use Rattle.quorum_timed.specs.Begins.{IsQuick}
use Rattle.quorum_timed.specs.Timed.{MayBe, Owed, Pace, Timed, Went, at_time}
use Rattle.std.proofs.Common.{Bool, IsSomeAnd, List, None, Some, [], ap, arith, drop, false, inl, inr, refl, subst, suc, sym, take, true, zero, ℕ, ◌*◌, ◌+◌, ◌-◌, ◌<◌, ◌^◌, ◌∙◌, ◌∷◌, ◌≡◌, ◌≤◌, ◌⊎◌}
use Rattle.std.proofs.lemmas.Bool.{cases_eq}
use Rattle.table_walk.proofs.Lists.{all_drop}
use Rattle.timed_election.proofs.Lists.{closed, opened}
use Rattle.timed_election.specs.Election.{ArrivesBy, CanElect}
use Rattle.timed_election.specs.Joining.{IsOld, IsOther, LeavesStores, NeedsNoCopy, Parted}
use Rattle.timed_election.specs.Probing.{IsProbe, IsProbing}
use Rattle.timed_failover.proofs.CallsDue.{AreDue}
use Rattle.timed_failover.proofs.CarriedOld.{aside_is, carried_old}
use Rattle.timed_failover.proofs.Deserting.{are_near}
use Rattle.timed_failover.proofs.Led.{HasOrAccepted, keeps_last, own_promise, reached_holds, sent_epoch_in}
use Rattle.timed_failover.proofs.LedWorlds.{are_stocked, unmarked as led_unmarked}
use Rattle.timed_failover.proofs.Parting.{all_next, now_probing, other_states, probe_comes, probe_to, still_there, stores_are}
use Rattle.timed_failover.proofs.Regained.{AreStocked}
use Rattle.timed_failover.proofs.Stocked.{last_value}
use Rattle.timed_failover.proofs.Waning.{Waning, calm}
use Rattle.timed_failover.proofs.WaningFrame.{Renewer}
use Rattle.timed_failover.proofs.WaningTimes.{by_lease, leading, waits}
use Rattle.timed_failover.specs.Collecting.{AreBetween, CanLearn, IsStocked}

-- ---- lists

all_take : {A : Type 0} (P : A → Type 0) (n : ℕ) (xs : List A) → AllByRecursion P xs → AllByRecursion P (take n xs)
all_take P zero xs k = tt
all_take P (suc n) [] k = tt
all_take P (suc n) (x ∷ xs) k = (k.0, all_take P n xs k.1)

-- ---- messages that change no store

aside_leaves : (b : Body) → IsOfClients b ⊎ IsOfElections b → LeavesStores b
aside_leaves (body.Collect pn first last) (inl k) = k
aside_leaves (body.Collect pn first last) (inr k) = k
aside_leaves (body.Begin pn v value) (inl k) = k
aside_leaves (body.Begin pn v value) (inr k) = k
aside_leaves (body.Commit from values) (inl k) = k
aside_leaves (body.Commit from values) (inr k) = k
aside_leaves other k = tt

carried_leaves : (ms : Monitors) (reign : Reign) (messages : List Envelope) (f i top : ℕ) (xs : List Item) (os : List Owed) → AllByRecursion (λ x. LeavesStores x.body) xs → Carries ms reign messages f i top xs os
    → AllByRecursion (λ o. IsSomeAnd (message_at messages o.number) (λ m. LeavesStores m.message.body)) os
carried_leaves ms reign messages f i top xs [] all C = tt
carried_leaves ms reign messages f i top xs (o ∷ os) all C = elim C.1 [
  | inl k ↦ (
    (let A : IsAside reign.epoch messages f i o = k.0 in closed (λ (m : Envelope). LeavesStores m.message.body) (message_at messages o.number) A.envelope A.there (aside_leaves A.envelope.message.body (aside_is reign.epoch f A.envelope.message A.aside))),
    carried_leaves ms reign messages f i top xs os all k.2,
  )
  | inr k ↦
      let rest : AllByRecursion (λ x. LeavesStores x.body) (k.0 ∷ k.1) = subst (AllByRecursion (λ x. LeavesStores x.body)) k.2 all in (
        (let I : IsItem ms reign messages f i top k.0 o = k.3 in closed (λ (m : Envelope). LeavesStores m.message.body) (message_at messages o.number) _ I.there rest.0),
        carried_leaves ms reign messages f i top k.1 os rest.1 k.4,
      )
]

-- ---- the parting

module _ (ms : Monitors) (full q : List Bool) (pace : Pace) (reign : Reign) (r : Round) (t : Timed) (S : Waning ms full q pace reign r t) (several : 1 < ms.count) (u : ℕ) (M : MayBe ms q pace t u) (room : ClocksGoOn q pace u)
    (next : Timed) (end : ℕ) (set : end_of timer.LeaseAck (leading ms full q pace reign r t S).0.timers ≡ Some end) (due : end ≤ u + pace.clock reign.leader)
    (went : Went ms q pace (at_time ms q pace u t) (Arrives (Ring reign.leader timer.LeaseAck (u + pace.clock reign.leader))) t.under_way next)
    (K : IsQuick pace) (short : 4 * pace.delay ≤ 3000) (best : ℕ) (C : CanElect ms q best) (R : Reached ms t.world) (RN : Reached ms next.world) (even : is_even reign.epoch ≡ true) (fits : suc reign.epoch ≤ 2 ^ 62)
    (since : pace.since ≤ u) (between : AreBetween q t) (calls : AreDue pace next) where
  abbrev L : (s : State) × (t.world.state reign.leader ≡ Some s) × Renewer ms full q pace reign r s
  L = leading ms full q pace reign r t S

  V : Renewer ms full q pace reign r L.0
  V = L.2

  time_is : next.time ≡ u
  time_is = went.time

  abbrev Peon : ℕ → Type 0
  Peon i = PeonIn ms full pace reign (calm r) t i t.under_way

  -- ---- the members before

  epoch_is : (i : ℕ) → has q i ≡ true → epoch_of (readings_of (t.world.store i)) ≡ reign.epoch
  epoch_is i qi = elim (cases_eq i reign.leader) [
    | inl same ↦ ap (λ (j : ℕ). epoch_of (readings_of (t.world.store j))) same ∙ S.epoch
    | inr ne ↦ (let F : Peon i = S.peons i qi ne in F.epoch)
  ]

  major : IsMajorityOf ms.count q
  major = record { below = C.members; major = C.major }

  within : (i : ℕ) → has q i ≡ true → has (L.0).leader.quorum i ≡ true
  within i qi = subst (λ (z : List Bool). has z i ≡ true) (sym V.quorum) (S.within i qi)

  promised : (i : ℕ) → has q i ≡ true → promise_of (readings_at t.world i) ≡ reign.pn
  promised i qi = elim (cases_eq i reign.leader) [
    | inl same ↦ ap (λ (j : ℕ). promise_of (readings_at t.world j)) same ∙ sym (own_promise ms t.world (reached_holds ms several t.world R).0.0 reign.leader L.0 L.1 (inl V.leads)) ∙ V.number
    | inr ne ↦ (let F : Peon i = S.peons i qi ne in F.promise)
  ]

  peons : (i : ℕ) → has q i ≡ true → (i ≡ reign.leader → ⊥) → IsSomeAnd (t.world.state i) (λ (z : State). z.phase ≡ phase.Peon) × HasOrAccepted r.version (readings_at t.world i)
  peons i qi ne =
      let F : Peon i = S.peons i qi ne in
      let o = opened (FollowsSince reign.leader full (leased (calm r) F.heard + pace.clock i)) (t.world.state i) F.follows in
      let G : FollowsSince reign.leader full (leased (calm r) F.heard + pace.clock i) o.0 = o.2 in (closed (λ (z : State). z.phase ≡ phase.Peon) (t.world.state i) o.0 o.1 G.follows, keeps_last (calm r) F.heard (readings_at t.world i) F.keeps)

  has_last : (i : ℕ) → has q i ≡ true → HasOrAccepted r.version (readings_at t.world i)
  has_last i qi = elim (cases_eq i reign.leader) [ inl same ↦ inl (ap (λ (j : ℕ). (readings_at t.world j).last) same ∙ S.last) | inr ne ↦ (peons i qi ne).1 ]

  unmarked : (i : ℕ) → has q i ≡ true → (readings_at t.world i).marked ≡ false
  unmarked i qi = led_unmarked ms several t.world R q reign.leader reign.pn r.version L.0 L.1 (inl V.leads) V.number major S.leads within promised S.last peons i qi

  near : (i j : ℕ) → has q i ≡ true → has q j ≡ true → NeedsNoCopy (readings_at t.world i).last (readings_at t.world j).first (readings_at t.world j).last
  near i j qi qj = are_near r.version (readings_at t.world i) (readings_at t.world j) (has_last i qi) (has_last j qj) (low_of ms several t.world (reached_holds ms several t.world R) j (C.members j qj) (unmarked j qj))

  -- ---- what is under way

  early : (f : ℕ) → has q f ≡ true → (k : ℕ) (m : Envelope) → message_at t.world.messages k ≡ Some m → m.message.from ≡ f → m.message.epoch ≤ reign.epoch
  early f qf k m there from =
      let s = sent_epoch_in ms t.world (reached_holds ms several t.world R).0.0 k m there in let e = epoch_is f qf in let z = ap (λ (j : ℕ). epoch_of (readings_at t.world j)) from in omega arith

  abbrev Olds : (f j : ℕ) → Type 0
  Olds f j = AllByRecursion (IsOld reign.epoch t.world.messages f j (t.time + pace.delay)) (t.under_way f j)

  old_of : (f j : ℕ) → has q f ≡ true → has q j ≡ true → (xs : List Item) → AllByRecursion (λ x. IsOther x.body) xs → Carries ms reign t.world.messages f j (t.time + pace.delay) xs (t.under_way f j) → Olds f j
  old_of f j qf qj xs others carries = carried_old ms reign t.world.messages f j (t.time + pace.delay) (early f qf) xs (t.under_way f j) others (between f j qf qj) (S.uncalled f j qf qj) carries

  old : (f j : ℕ) → has q f ≡ true → has q j ≡ true → Olds f j
  old f j qf qj = by (cases_eq f reign.leader) (cases_eq j reign.leader)
    where
      by : (f ≡ reign.leader) ⊎ (f ≡ reign.leader → ⊥) → (j ≡ reign.leader) ⊎ (j ≡ reign.leader → ⊥) → Olds f j
      by (inl a) (inl b) = old_of f j qf qj [] tt (S.others f j qf qj ((λ _. b), (λ _. a)))
      by (inr a) (inr b) = old_of f j qf qj [] tt (S.others f j qf qj ((λ e. absurd (a e)), (λ e. absurd (b e))))
      by (inl a) (inr b) =
          let F : Peon j = S.peons j qj b in
          subst (λ (g : ℕ). Olds g j) (sym a) (old_of reign.leader j S.leads qj (drop F.heard (to_peon reign pace (calm r))) (all_drop (λ x. IsOther x.body) F.heard (to_peon reign pace (calm r)) (tt, (tt, tt))) F.to_come)
      by (inr a) (inl b) =
          let F : Peon f = S.peons f qf a in
          subst (λ (g : ℕ). Olds f g) (sym b)
          (old_of f reign.leader qf S.leads (drop F.taken (take (said F.heard) (to_leader reign pace (calm r)))) (all_drop (λ x. IsOther x.body) F.taken (take (said F.heard) (to_leader reign pace (calm r))) (all_take (λ x. IsOther x.body) (said F.heard) (to_leader reign pace (calm r)) (tt, tt))) F.to_take)

  old_next : (f j : ℕ) → has q f ≡ true → has q j ≡ true → AllByRecursion (IsOld reign.epoch next.world.messages f j (next.time + pace.delay)) (t.under_way f j)
  old_next f j qf qj = all_map (IsOld reign.epoch t.world.messages f j (t.time + pace.delay)) (IsOld reign.epoch next.world.messages f j (next.time + pace.delay)) (λ o O. record {
    envelope = O.envelope;
    there = still_there ms full q pace reign r t S several u M room next end set went o.number O.envelope O.there;
    sender = O.sender;
    receiver = O.receiver;
    early = O.early;
    kind = O.kind;
    in_time = (let a = O.in_time in let b = M.later in let c = time_is in omega arith);
  }) (t.under_way f j) (old f j qf qj)

  under_way : (f j : ℕ) → has q f ≡ true → has q j ≡ true → AllByRecursion (IsOld reign.epoch next.world.messages f j (next.time + pace.delay)) (next.under_way f j)
  under_way f j qf qj = all_next ms full q pace reign r t S several u M room next end set went (IsOld reign.epoch next.world.messages f j (next.time + pace.delay)) f j (old_next f j qf qj)
      (λ k to from is there. record {
        envelope = probe_to ms full q pace reign r t S several u M room next end set went to;
        there = there;
        sender = sym from;
        receiver = is;
        early = (let e = S.epoch in omega arith);
        kind = tt;
        in_time = (let c = time_is in omega arith);
      })

  -- no COMMIT is under way: the acknowledgements were asked 10 seconds ago
  leaves_before : (j : ℕ) → has q j ≡ true → AllByRecursion (λ o. IsSomeAnd (message_at t.world.messages o.number) (λ m. LeavesStores m.message.body)) (t.under_way reign.leader j)
  leaves_before j qj = elim (cases_eq j reign.leader) [
    | inl b ↦ carried_leaves ms reign t.world.messages reign.leader j (t.time + pace.delay) [] (t.under_way reign.leader j) tt (S.others reign.leader j S.leads qj ((λ _. b), (λ _. refl)))
    | inr b ↦ (let F : Peon j = S.peons j qj b in
        carried_leaves ms reign t.world.messages reign.leader j (t.time + pace.delay) (drop F.heard (to_peon reign pace (calm r))) (t.under_way reign.leader j)
        (gone F.heard (λ le. by_lease ms full q pace reign r t S K u M j qj F le) F.keeps) F.to_come)
  ]
    where
      asked : r.committed + 10000 ≤ u
      asked = let a = V.awaits end set in omega arith

      gone : (h : ℕ) → (h ≤ 1 → u ≤ r.latest + pace.delay) → Keeps (calm r) h (readings_at t.world j) → AllByRecursion (λ x. LeavesStores x.body) (drop h (to_peon reign pace (calm r)))
      gone zero soon k = let a = soon (omega arith) in let b = k.3 in let c = asked in absurd (omega arith)
      gone (suc h) soon k = all_drop (λ x. LeavesStores x.body) h _ (tt, tt)

  leaves : (j : ℕ) → has q j ≡ true → AllByRecursion (λ o. IsSomeAnd (message_at next.world.messages o.number) (λ m. LeavesStores m.message.body)) (next.under_way reign.leader j)
  leaves j qj = all_next ms full q pace reign r t S several u M room next end set went (λ o. IsSomeAnd (message_at next.world.messages o.number) (λ m. LeavesStores m.message.body)) reign.leader j
      (all_map (λ o. IsSomeAnd (message_at t.world.messages o.number) (λ m. LeavesStores m.message.body)) (λ o. IsSomeAnd (message_at next.world.messages o.number) (λ m. LeavesStores m.message.body))
      (λ o k. (let m = opened (λ (z : Envelope). LeavesStores z.message.body) (message_at t.world.messages o.number) k in
      closed (λ (z : Envelope). LeavesStores z.message.body) (message_at next.world.messages o.number) m.0 (still_there ms full q pace reign r t S several u M room next end set went o.number m.0 m.1) m.2)) (t.under_way reign.leader j) (leaves_before j qj))
      (λ k to from is there. closed (λ (z : Envelope). LeavesStores z.message.body) (message_at next.world.messages k) (probe_to ms full q pace reign r t S several u M room next end set went to) there tt)

  -- ---- they part

  -- when the others got their leases, at the earliest
  abbrev least : ℕ
  least = u + 3 * pace.delay + 1 - 10000

  follow : (i : ℕ) → has q i ≡ true → (i ≡ reign.leader → ⊥) → IsSomeAnd (next.world.state i) (FollowsSince reign.leader full (least + pace.clock i))
  follow i qi ne =
      let F : Peon i = S.peons i qi ne in
      let o = opened (FollowsSince reign.leader full (leased (calm r) F.heard + pace.clock i)) (t.world.state i) F.follows in
      let G : FollowsSince reign.leader full (leased (calm r) F.heard + pace.clock i) o.0 = o.2 in
      closed (FollowsSince reign.leader full (least + pace.clock i)) (next.world.state i) o.0 (other_states ms full q pace reign r t S several u M room next end set went i ne ∙ o.1) (record {
        follows = G.follows;
        leader_is = G.leader_is;
        quorum = G.quorum;
        kinds = G.kinds;
        waits = λ end on. (let a = G.waits end on in let b = waits ms full q pace reign r t S K u M i qi F short in omega arith);
        only = G.only;
      })

  stores : (j : ℕ) → readings_of (next.world.store j) ≡ readings_of (t.world.store j)
  stores = stores_are ms full q pace reign r t S several u M room next end set went

  pub parted : Parted ms q pace reign.leader reign.epoch next
  parted = record {
    uncalled = record {
      even = even;
      fits = fits;
      since = (let c = time_is in omega arith);
      epoch_is = λ i qi. ap epoch_of (stores i) ∙ epoch_is i qi;
      unmarked = λ i qi. ap (λ (w : Readings). w.marked) (stores i) ∙ unmarked i qi;
      near = λ i j qi qj. subst (λ (w : Readings). NeedsNoCopy w.last (readings_of (next.world.store j)).first (readings_of (next.world.store j)).last) (sym (stores i))
          (subst (λ (v : Readings). NeedsNoCopy (readings_of (t.world.store i)).last v.first v.last) (sym (stores j)) (near i j qi qj));
      under_way = under_way;
      uncalled = λ k m there from _. (let s = sent_epoch_in ms next.world (reached_holds ms several next.world RN).0.0 k m there in let e = ap epoch_of (stores m.message.from) ∙ epoch_is m.message.from from in omega arith);
      calls = λ f i qf qi. calls f i;
    };
    member = S.leads;
    probes = subst (λ (z : ℕ). IsSomeAnd (next.world.state reign.leader) (λ s. IsProbing ms pace reign.leader z s × (end_of timer.Ping s.timers ≡ None))) (sym time_is) (now_probing ms full q pace reign r t S several u M room next end set went);
    asks = λ i qi ne. subst (λ (z : ℕ). ArrivesBy (z + pace.delay) (IsProbe ms pace reign.leader z next.world.messages i) (next.under_way reign.leader i)) (sym time_is)
        (probe_comes ms full q pace reign r t S several u M room next end set went i qi ne
        (all_map (IsOld reign.epoch t.world.messages reign.leader i (t.time + pace.delay)) (λ o. o.by ≤ u + pace.delay) (λ o O. (let a = O.in_time in let b = M.later in omega arith)) (t.under_way reign.leader i) (old reign.leader i S.leads qi)));
    leaves = leaves;
    quorum = full;
    leased = least;
    before = (let c = time_is in omega arith);
    lasts = (let c = time_is in omega arith);
    follow = follow;
  }

  pub parted_stocked : suc (suc r.version) ≤ 2 ^ 62 → AreStocked q r.version (last_value t.world.log) reign.pn next.world
  parted_stocked few =
      let A : AreStocked q r.version (last_value t.world.log) reign.pn t.world = are_stocked ms several t.world R q reign.leader reign.pn r.version L.0 L.1 (inl V.leads) V.number major S.leads within promised S.last peons few in record {
        fits = A.fits;
        made = A.made;
        stocked = λ i qi. subst (IsStocked r.version (last_value t.world.log)) (sym (stores i)) (A.stocked i qi);
        learns = λ i qi. subst (CanLearn r.version (last_value t.world.log)) (sym (stores i)) (A.learns i qi);
        promised = λ i qi. ap promise_of (stores i) ∙ A.promised i qi;
      }

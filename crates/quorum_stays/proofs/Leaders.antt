-- A quorum stays led when an answer of a peon arrives at its leader, unless it is the last one to a value.
use Rattle.law_names.proofs.Runs.{Arrives, Deliver, Monitors, message_at}
use Rattle.law_names.proofs.Table.{Body, Readings, State, are_within, disarmed, end_of, epoch_of, has, promise_of, readings_of, shared_entries, with_rank}
use Rattle.mon_msg.specs.declared.input.Input.TheVariants as input
use Rattle.mon_wire.specs.declared.body.Body.TheVariants as body
use Rattle.mon_wire.specs.declared.phase.Phase.TheVariants as phase
use Rattle.mon_wire.specs.declared.phase.Timer.TheVariants as timer
use Rattle.quorum_model.proofs.Members.{member_of}
use Rattle.quorum_stays.proofs.Bounds.{inside, leading}
use Rattle.quorum_stays.proofs.Onward.{here_left, other_left, pack}
use Rattle.quorum_stays.proofs.Peering.{PeonIn, one_peon}
use Rattle.quorum_stays.proofs.Peons.{head_is, rest_is}
use Rattle.quorum_stays.proofs.Rows.{accept_row, ack_row, late_ack_row}
use Rattle.quorum_stays.proofs.Serving.{Goes, Served, undisturbed}
use Rattle.quorum_stays.proofs.States.{accepted, acknowledged, has_self}
use Rattle.quorum_stays.proofs.Stepping.{Did, brought, did}
use Rattle.quorum_stays.proofs.Taking.{no_forward}
use Rattle.quorum_stays.proofs.Timers.{still_on}
use Rattle.quorum_stays.proofs.Turning.{on_state, other_state, other_store, same_carried}
use Rattle.quorum_stays.specs.Serving.{IsForward}
use Rattle.quorum_stays.specs.Steady.{Begun, Carries, FollowsSince, HasLease, IsItem, Item, Keeps, Leads, LeadsSince, Noted, Proposes, Reign, Round, Steady, in_reign, item, leased, said, to_leader, to_peon}
use Rattle.quorum_timed.specs.Timed.{Owed, Pace, Timed, Went, at_time, without_first}
use Rattle.quorum_walk.proofs.Ranks.{has_with, has_with_is}
use Rattle.std.proofs.Common.{Bool, IsSomeAnd, List, None, Option, Some, [], ap, arith, cond, drop, false, inl, inr, length, ltb, option_map, refl, subst, suc, sym, take, true, zero, ℕ, ◌*◌, ◌+◌, ◌<◌, ◌∙◌, ◌∷◌, ◌≡◌, ◌≤◌, ◌⊎◌}

-- ---- which answer comes

-- nothing is left of one answer after it
pub one_answer : (x y : Item) (rest : List Item) (h g : ℕ) → drop g (take (said h) (y ∷ [])) ≡ x ∷ rest → (g ≡ 0) × (2 ≤ h) × (y ≡ x) × (rest ≡ [])
one_answer x y rest zero zero e = absurd cc
one_answer x y rest zero (suc g) e = absurd cc
one_answer x y rest (suc zero) zero e = absurd cc
one_answer x y rest (suc zero) (suc g) e = absurd cc
one_answer x y rest (suc (suc zero)) zero e = (refl, omega arith, head_is y x _ rest e, sym (rest_is y x _ rest e))
one_answer x y rest (suc (suc (suc h))) zero e = (refl, omega arith, head_is y x _ rest e, sym (rest_is y x _ rest e))
one_answer x y rest (suc (suc zero)) (suc zero) e = absurd cc
one_answer x y rest (suc (suc (suc h))) (suc zero) e = absurd cc
one_answer x y rest (suc (suc zero)) (suc (suc g)) e = absurd cc
one_answer x y rest (suc (suc (suc h))) (suc (suc g)) e = absurd cc

-- the first of two answers, or the second
pub two_answers : (x y z : Item) (rest : List Item) (h g : ℕ) → h ≤ 3 → drop g (take (said h) (y ∷ z ∷ [])) ≡ x ∷ rest
    → ((g ≡ 0) × (2 ≤ h) × (y ≡ x) × (rest ≡ drop (suc zero) (take (said h) (y ∷ z ∷ [])))) ⊎ ((g ≡ 1) × (h ≡ 3) × (z ≡ x) × (rest ≡ []))
two_answers x y z rest zero zero le e = absurd cc
two_answers x y z rest zero (suc g) le e = absurd cc
two_answers x y z rest (suc zero) zero le e = absurd cc
two_answers x y z rest (suc zero) (suc g) le e = absurd cc
two_answers x y z rest (suc (suc zero)) zero le e = inl (refl, omega arith, head_is y x _ rest e, sym (rest_is y x _ rest e))
two_answers x y z rest (suc (suc zero)) (suc zero) le e = absurd cc
two_answers x y z rest (suc (suc zero)) (suc (suc g)) le e = absurd cc
two_answers x y z rest (suc (suc (suc zero))) zero le e = inl (refl, omega arith, head_is y x _ rest e, sym (rest_is y x _ rest e))
two_answers x y z rest (suc (suc (suc zero))) (suc zero) le e = inr (refl, refl, head_is z x _ rest e, sym (rest_is z x _ rest e))
two_answers x y z rest (suc (suc (suc zero))) (suc (suc zero)) le e = absurd cc
two_answers x y z rest (suc (suc (suc zero))) (suc (suc (suc g))) le e = absurd cc
two_answers x y z rest (suc (suc (suc (suc h)))) g le e = absurd (omega arith)

-- ---- an answer comes

-- The leader of this quorum, of which the members of q take steps, took an answer of peon f. It wrote and sent nothing.
module _ (ms : Monitors) (full q : List Bool) (pace : Pace) (reign : Reign) (r : Round) (t : Timed) (u : ℕ) (later : t.time ≤ u) (next : Timed) (f : ℕ) (nf : f ≡ reign.leader → ⊥)
    (F : PeonIn ms full pace reign r t f t.under_way) (o : Owed) (others : List Owed) (rest : List Item) (C : Carries ms reign t.world.messages f reign.leader (t.time + pace.delay) rest others)
    (went : Went ms q pace (at_time ms q pace u t) (Arrives (Deliver o.number (u + pace.clock reign.leader))) (without_first f reign.leader others t.under_way) next) where
  pub took : Carries ms reign t.world.messages f reign.leader (t.time + pace.delay) rest (without_first f reign.leader others t.under_way f reign.leader)
  took = subst (Carries ms reign t.world.messages f reign.leader (t.time + pace.delay) rest) (sym (here_left f reign.leader others t.under_way)) C

  kept_down : without_first f reign.leader others t.under_way reign.leader f ≡ t.under_way reign.leader f
  kept_down = other_left f reign.leader others t.under_way reign.leader f (λ a _. nf (sym a))

  module _ (s after : State) (up : t.world.state reign.leader ≡ Some s) (D : Did t.world next.world reign.leader after [] []) where
    pub answered_peon : (more : ℕ) → more ≤ said F.heard → Noted f more r.next after → rest ≡ drop more (take (said F.heard) (to_leader reign pace r)) → PeonIn ms full pace reign r next f next.under_way
    answered_peon more few noted is = record {
      heard = F.heard;
      taken = more;
      sent = F.sent;
      answered = few;
      follows = other_state ms q pace reign t next u later _ _ went reign.leader s after [] [] up D (FollowsSince reign.leader full (leased r F.heard + pace.clock f)) f nf F.follows;
      lease = other_state ms q pace reign t next u later _ _ went reign.leader s after [] [] up D (HasLease (pace.clock f) r F.heard) f nf F.lease;
      epoch = other_store ms q pace reign t next u later _ _ went reign.leader s after [] [] up D (λ z. epoch_of z ≡ reign.epoch) f nf F.epoch;
      promise = other_store ms q pace reign t next u later _ _ went reign.leader s after [] [] up D (λ z. promise_of z ≡ reign.pn) f nf F.promise;
      keeps = other_store ms q pace reign t next u later _ _ went reign.leader s after [] [] up D (Keeps r F.heard) f nf F.keeps;
      noted = pack (Noted f more r.next) (next.world.state reign.leader) after D.up noted;
      to_come = same_carried ms q pace reign t next u later _ _ went reign.leader s after [] [] up D reign.leader f (drop F.heard (to_peon reign pace r))
          (subst (Carries ms reign t.world.messages reign.leader f (t.time + pace.delay) (drop F.heard (to_peon reign pace r))) (sym kept_down) F.to_come) refl;
      to_take = same_carried ms q pace reign t next u later _ _ went reign.leader s after [] [] up D f reign.leader (drop more (take (said F.heard) (to_leader reign pace r)))
          (subst (λ (z : List Item). Carries ms reign t.world.messages f reign.leader (t.time + pace.delay) z (without_first f reign.leader others t.under_way f reign.leader)) is took) refl;
    }

module _ (ms : Monitors) (q : List Bool) (pace : Pace) (reign : Reign) (r : Round) (t : Timed) (S : Steady ms q pace reign r t) (u : ℕ) (later : t.time ≤ u)
    (next : Timed) (f : ℕ) (qf : has q f ≡ true) (nf : f ≡ reign.leader → ⊥) (F : PeonIn ms q pace reign r t f t.under_way) (o : Owed) (others : List Owed)
    (x : Item) (rest : List Item) (it : IsItem ms reign t.world.messages f reign.leader (t.time + pace.delay) x o)
    (C : Carries ms reign t.world.messages f reign.leader (t.time + pace.delay) rest others)
    (went : Went ms q pace (at_time ms q pace u t) (Arrives (Deliver o.number (u + pace.clock reign.leader))) (without_first f reign.leader others t.under_way) next) where
  abbrev pub now : ℕ
  now = u + pace.clock reign.leader

  abbrev pub left : ℕ → ℕ → List Owed
  left = without_first f reign.leader others t.under_way

  pub lt : ltb reign.leader ms.count ≡ true
  lt = inside ms q pace reign r t S reign.leader S.leads

  pub comes : (b : Body) → x.body ≡ b → option_map (brought now) (message_at t.world.messages o.number)
      ≡ Some (record { rank = reign.leader; at = now; input = input.Deliver (in_reign ms reign f reign.leader b).message })
  comes b is = ap (option_map (brought now)) (it.there ∙ ap (λ (z : Body). Some (in_reign ms reign f reign.leader z)) is)

  -- the leader remembers this then, and wrote and sent nothing
  module _ (s after : State) (up : t.world.state reign.leader ≡ Some s) (D : Did t.world next.world reign.leader after [] []) where
    pub store_on : (P : Readings → Type 0) → P (readings_of (t.world.store reign.leader)) → P (readings_of (next.world.store reign.leader))
    store_on P k = subst P (sym (D.kept tt)) k

    pub noted_on : (j taken : ℕ) → (Noted j taken r.next s → Noted j taken r.next after) → IsSomeAnd (t.world.state reign.leader) (Noted j taken r.next) → IsSomeAnd (next.world.state reign.leader) (Noted j taken r.next)
    noted_on j taken go k = on_state ms q pace reign t next u later _ left went reign.leader s after [] [] up D (Noted j taken r.next) (Noted j taken r.next) reign.leader (λ _ z. go z) (λ ne z k. absurd (ne refl)) k

    -- nothing became of the commands that wait
    pub calmly : (IsForward x.body → ⊥) → after.clients ≡ s.clients → after.leader.origin ≡ s.leader.origin → (r.next ≡ None → end_of timer.Propose after.timers ≡ end_of timer.Propose s.timers)
        → Served ms pace reign (Arrives (Deliver o.number (u + pace.clock reign.leader))) u t.world next.world r r
    calmly none clients same ends = undisturbed ms pace reign lt r u t.world next.world (Deliver o.number (u + pace.clock reign.leader)) _ (comes x.body refl) s up refl
        (no_forward (member_of ms reign.leader lt) (readings_of (t.world.store reign.leader)) s (in_reign ms reign f reign.leader x.body).message none) after D clients same ends

    pub answered : (more : ℕ) → more ≤ said F.heard → Noted f more r.next after → rest ≡ drop more (take (said F.heard) (to_leader reign pace r))
        → ((j taken : ℕ) → (j ≡ f → ⊥) → Noted j taken r.next s → Noted j taken r.next after) → Leads ms.count q pace reign r r.next after → Steady ms q pace reign r next
    answered more few noted is on leads =
        one_peon ms q pace reign r t S next u later _ left went reign.leader s after [] [] up D f nf (inr refl) (answered_peon ms q q pace reign r t u later next f nf F o others rest C went s after up D more few noted is)
        (λ j ne nj. (other_left f reign.leader others t.under_way reign.leader j (λ _ b. nj b), other_left f reign.leader others t.under_way j reign.leader (λ a _. ne a)))
        (λ g j a. other_left f reign.leader others t.under_way g j (λ y z. nf (sym y ∙ a.1 z)))
        (store_on (λ z. epoch_of z ≡ reign.epoch) S.epoch, store_on (λ z. z.last ≡ r.version) S.last)
        (pack (Leads ms.count q pace reign r r.next) (next.world.state reign.leader) after D.up leads)
        (λ j ne taken k. noted_on j taken (on j taken ne) k) (λ g j _ _. refl)

-- ---- no value is in progress

module _ (ms : Monitors) (q : List Bool) (pace : Pace) (reign : Reign) (r0 : Round) (t : Timed) (S : Steady ms q pace reign (record r0 { next = None }) t) (u : ℕ) (later : t.time ≤ u)
    (next : Timed) (f : ℕ) (qf : has q f ≡ true) (nf : f ≡ reign.leader → ⊥) (F : PeonIn ms q pace reign (record r0 { next = None }) t f t.under_way) (o : Owed) (others : List Owed)
    (x : Item) (rest : List Item) (it : IsItem ms reign t.world.messages f reign.leader (t.time + pace.delay) x o)
    (C : Carries ms reign t.world.messages f reign.leader (t.time + pace.delay) rest others)
    (went : Went ms q pace (at_time ms q pace u t) (Arrives (Deliver o.number (u + pace.clock reign.leader))) (without_first f reign.leader others t.under_way) next)
    (items : drop F.taken (take (said F.heard) (to_leader reign pace (record r0 { next = None }))) ≡ x ∷ rest) where
  abbrev r : Round
  r = record r0 { next = None }

  shape : (F.taken ≡ 0) × (2 ≤ F.heard) × (item (body.LeaseAck r0.version) (r0.latest + 2 * pace.delay) ≡ x) × (rest ≡ [])
  shape = one_answer x _ rest F.heard F.taken items

  A : (s : State) × (t.world.state reign.leader ≡ Some s) × LeadsSince reign q (r0.latest + pace.clock reign.leader) s
  A = leading ms q pace reign r t S

  abbrev s : State
  s = A.0

  abbrev here : ltb reign.leader ms.count ≡ true
  here = lt ms q pace reign r t S u later next f qf nf F o others x rest it C went

  abbrev store : Readings
  store = readings_of (t.world.store reign.leader)

  body_is : x.body ≡ body.LeaseAck store.last
  body_is = ap (λ (y : Item). y.body) (sym shape.2) ∙ ap body.LeaseAck (sym S.last)

  abbrev after : State
  after = record s {
    leader = record s.leader { acks = with_rank s.leader.acks f };
    timers = cond (are_within ms.count s.leader.quorum (with_rank s.leader.acks f)) (disarmed timer.LeaseAck s.timers) s.timers;
  }

  D : Did t.world next.world reign.leader (record s {
    leader = record s.leader { acks = with_rank s.leader.acks f };
    timers = cond (are_within ms.count s.leader.quorum (with_rank s.leader.acks f)) (disarmed timer.LeaseAck s.timers) s.timers;
  }) [] []
  D = let L = A.2 in
      did ms t.world next.world (Deliver o.number (u + pace.clock reign.leader)) reign.leader here (u + pace.clock reign.leader) (input.Deliver (in_reign ms reign f reign.leader (body.LeaseAck store.last)).message) s
      (comes ms q pace reign r t S u later next f qf nf F o others x rest it C went _ body_is) A.1 went.happened _
      (ack_row ms reign.leader here (shared_entries (t.world.store reign.leader)) (u + pace.clock reign.leader) store s f reign.epoch nf (subst (λ (z : List Bool). has z f ≡ true) (sym L.quorum) qf) S.epoch L.leads)

  ends_as_before : (test : Bool) → end_of timer.Propose (cond test (disarmed timer.LeaseAck s.timers) s.timers) ≡ end_of timer.Propose s.timers
  ends_as_before true = still_on timer.Propose timer.LeaseAck s.timers (λ e. omega arith)
  ends_as_before false = refl

  ack_stays : Steady ms q pace reign (record r0 { next = None }) next
  ack_stays =
      let L = A.2 in
      let few : f < length s.leader.acks = (let a = S.members f qf in let b = ms.most in let c = L.ranks in omega arith) in
      answered ms q pace reign r t S u later next f qf nf F o others x rest it C went s _ A.1 D 1 (said_some F.heard shape.1) (λ _. has_self s.leader.acks f few)
      (shape.3 ∙ sym (empty F.heard))
      (λ j taken ne N one. has_with s.leader.acks f j (N one)) (acknowledged reign q (r0.latest + pace.clock reign.leader) s L ms.count f)
    where
      said_some : (h : ℕ) → 2 ≤ h → 1 ≤ said h
      said_some zero le = absurd (omega arith)
      said_some (suc h) le = omega arith

      empty : (h : ℕ) → drop (suc zero) (take (said h) (to_leader reign pace (record r0 { next = None }))) ≡ []
      empty zero = refl
      empty (suc zero) = refl
      empty (suc (suc zero)) = refl
      empty (suc (suc (suc h))) = refl

  pub ack_comes : Goes ms q pace reign t.world u (Arrives (Deliver o.number (u + pace.clock reign.leader))) (record r0 { next = None }) (record r0 { next = None }) next
  ack_comes = (
    ack_stays,
    calmly ms q pace reign r t S u later next f qf nf F o others x rest it C went s _ A.1 D (subst (λ (b : Body). IsForward b → ⊥) (sym body_is) (λ k. k)) refl refl
        (λ _. ends_as_before (are_within ms.count s.leader.quorum (with_rank s.leader.acks f))),
  )

-- ---- a value is in progress

module _ (ms : Monitors) (q : List Bool) (pace : Pace) (reign : Reign) (r0 : Round) (b : Begun) (t : Timed) (S : Steady ms q pace reign (record r0 { next = Some b }) t) (u : ℕ) (later : t.time ≤ u)
    (next : Timed) (f : ℕ) (qf : has q f ≡ true) (nf : f ≡ reign.leader → ⊥) (F : PeonIn ms q pace reign (record r0 { next = Some b }) t f t.under_way) (o : Owed) (others : List Owed)
    (x : Item) (rest : List Item) (it : IsItem ms reign t.world.messages f reign.leader (t.time + pace.delay) x o)
    (C : Carries ms reign t.world.messages f reign.leader (t.time + pace.delay) rest others)
    (went : Went ms q pace (at_time ms q pace u t) (Arrives (Deliver o.number (u + pace.clock reign.leader))) (without_first f reign.leader others t.under_way) next) where
  abbrev pub rb : Round
  rb = record r0 { next = Some b }

  abbrev pub B : (s : State) × (t.world.state reign.leader ≡ Some s) × Proposes ms.count q pace reign rb b s
  B = leading ms q pace reign rb t S

  abbrev pub s0 : State
  s0 = B.0

  abbrev pub busy : State
  busy = record s0 { phase = phase.Updating; leader = record s0.leader { quorum = q; pn = reign.pn; value = Some b.value } }

  busy_is : s0 ≡ busy
  busy_is = let X = B.2.proposes in (λ i. record s0 { phase = X.leads i; leader = record s0.leader { quorum = X.quorum i; pn = X.number i; value = X.proposed i } })

  pub up_busy : t.world.state reign.leader ≡ Some (record s0 { phase = phase.Updating; leader = record s0.leader { quorum = q; pn = reign.pn; value = Some b.value } })
  up_busy = B.1 ∙ ap Some busy_is

  pub proposes_busy : Proposes ms.count q pace reign rb b (record s0 { phase = phase.Updating; leader = record s0.leader { quorum = q; pn = reign.pn; value = Some b.value } })
  proposes_busy = subst (Proposes ms.count q pace reign rb b) busy_is B.2

  abbrev here1 : ltb reign.leader ms.count ≡ true
  here1 = lt ms q pace reign rb t S u later next f qf nf F o others x rest it C went

  abbrev pub store1 : Readings
  store1 = readings_of (t.world.store reign.leader)

  pub sent_few : F.heard ≤ 3
  sent_few = let a = F.sent in omega arith

  -- an acknowledgement that comes late
  pub late_ack_comes : F.taken ≡ 0 → 2 ≤ F.heard → item (body.LeaseAck r0.version) (r0.latest + 2 * pace.delay) ≡ x → rest ≡ drop (suc zero) (take (said F.heard) (to_leader reign pace (record r0 { next = Some b })))
      → Goes ms q pace reign t.world u (Arrives (Deliver o.number (u + pace.clock reign.leader))) (record r0 { next = Some b }) (record r0 { next = Some b }) next
  late_ack_comes none some is list = (
    answered ms q pace reign rb t S u later next f qf nf F o others x rest it C went busy busy up_busy D1 1 (said_some F.heard some) fresh list (λ j taken ne N. N) proposes_busy,
    calmly ms q pace reign rb t S u later next f qf nf F o others x rest it C went busy busy up_busy D1 (subst (λ (y : Item). IsForward y.body → ⊥) is (λ k. k)) refl refl (λ _. refl),
  )
    where
      said_some : (h : ℕ) → 2 ≤ h → 1 ≤ said h
      said_some zero le = absurd (omega arith)
      said_some (suc h) le = omega arith

      D1 : Did t.world next.world reign.leader (record s0 { phase = phase.Updating; leader = record s0.leader { quorum = q; pn = reign.pn; value = Some b.value } }) [] []
      D1 = did ms t.world next.world (Deliver o.number (u + pace.clock reign.leader)) reign.leader here1 (u + pace.clock reign.leader) (input.Deliver (in_reign ms reign f reign.leader (body.LeaseAck r0.version)).message) busy
          (comes ms q pace reign rb t S u later next f qf nf F o others x rest it C went _ (ap (λ (y : Item). y.body) (sym is))) up_busy went.happened _
          (late_ack_row ms reign.leader here1 (shared_entries (t.world.store reign.leader)) (u + pace.clock reign.leader) store1 busy f reign.epoch nf qf S.epoch r0.version refl)

      old : Noted f F.taken (Some b) busy
      old = noted_at (Some b) busy up_busy
        where
          noted_at : (z : Option Begun) (s : State) → t.world.state reign.leader ≡ Some s → Noted f F.taken (Some b) s
          noted_at z s e = subst (λ (y : Option State). IsSomeAnd y (Noted f F.taken (Some b))) e F.noted

      fresh : Noted f 1 (Some b) busy
      fresh = ((λ e. absurd (omega arith)), (λ h. (let z = old.1 h in absurd (omega arith))))

  -- an acceptance, and others are missing
  module _ (one : F.taken ≡ 1) (all : F.heard ≡ 3) (is : item (body.Accept reign.pn (suc r0.version)) (b.at + 2 * pace.delay) ≡ x) (list : rest ≡ []) where
    pub accept_body : x.body ≡ body.Accept reign.pn (suc store1.last)
    accept_body = ap (λ (y : Item). y.body) (sym is) ∙ ap (λ (v : ℕ). body.Accept reign.pn (suc v)) (sym S.last)

    D2 : are_within ms.count q (with_rank s0.leader.accepted f) ≡ false → Did t.world next.world reign.leader (record busy { leader = record (busy.leader) { accepted = with_rank s0.leader.accepted f } }) [] []
    D2 more = did ms t.world next.world (Deliver o.number (u + pace.clock reign.leader)) reign.leader here1 (u + pace.clock reign.leader) (input.Deliver (in_reign ms reign f reign.leader (body.Accept reign.pn (suc store1.last))).message) busy
        (comes ms q pace reign rb t S u later next f qf nf F o others x rest it C went _ accept_body) up_busy went.happened _
        (accept_row ms reign.leader here1 (shared_entries (t.world.store reign.leader)) (u + pace.clock reign.leader) store1 s0 phase.Updating (inr refl) q reign.pn b.value f reign.epoch nf qf S.epoch more)

    accept_stays : are_within ms.count q (with_rank s0.leader.accepted f) ≡ false → Steady ms q pace reign (record r0 { next = Some b }) next
    accept_stays more =
        let P = proposes_busy in
        let X = P.proposes in
        let few : f < length s0.leader.accepted = (let a = S.members f qf in let b = ms.most in let c = X.ranks in omega arith) in
        answered ms q pace reign rb t S u later next f qf nf F o others x rest it C went busy _ up_busy (D2 more) 2 (subst (λ (z : ℕ). 2 ≤ said z) (sym all) (omega arith))
        ((λ _. has_self s0.leader.accepted f few), (λ _. refl)) (list ∙ sym (empty F.heard all))
        (λ j taken ne N. ((λ e. has_with s0.leader.accepted f j (N.0 e)), (λ h. elim (has_with_is s0.leader.accepted f j h) [ inl e ↦ absurd (ne e) | inr h2 ↦ N.1 h2 ])))
        (record { proposes = accepted phase.Updating ms.count reign q b.value (b.at + pace.clock reign.leader) busy X f more; made = P.made; fits = P.fits; after = P.after; before = P.before })
      where
        empty : (h : ℕ) → h ≡ 3 → drop (suc (suc zero)) (take (said h) (to_leader reign pace (record r0 { next = Some b }))) ≡ []
        empty zero e = refl
        empty (suc zero) e = refl
        empty (suc (suc zero)) e = refl
        empty (suc (suc (suc zero))) e = refl
        empty (suc (suc (suc (suc h)))) e = refl

    pub accept_comes : are_within ms.count q (with_rank s0.leader.accepted f) ≡ false → Goes ms q pace reign t.world u (Arrives (Deliver o.number (u + pace.clock reign.leader))) (record r0 { next = Some b }) (record r0 { next = Some b }) next
    accept_comes more = (
      accept_stays more,
      calmly ms q pace reign rb t S u later next f qf nf F o others x rest it C went busy _ up_busy (D2 more) (subst (λ (z : Body). IsForward z → ⊥) (sym accept_body) (λ k. k)) refl refl (λ _. refl),
    )

-- An event keeps the marks of each epoch.
use Rattle.law_names.proofs.Runs.{Asked, Envelope, Monitors, World, is_active, messages_of}
use Rattle.law_names.proofs.Table.{AllByRecursion, Body, Command, Me, Message, Origin, Phase, Readings, Reply, Sent, State, Store, apply, encoded, epoch_of, has, is_peon, joined, readings_of, text}
use Rattle.mon_msg.specs.declared.input.Input.TheVariants as input
use Rattle.mon_msg.specs.declared.plan.Sent.TheVariants as sent
use Rattle.mon_wire.specs.declared.body.Body.TheVariants as body
use Rattle.mon_wire.specs.declared.phase.Phase.TheVariants as phase
use Rattle.quorum_agreement.proofs.Held.{level_at}
use Rattle.quorum_agreement.proofs.Premises.{Completed, accept_completes, leads_others}
use Rattle.quorum_answers.proofs.Event as event
use Rattle.quorum_answers.proofs.Marks.{AcceptedTo, BodyMark, HasLease, HasNoLess, IsLease, Lasts, Mark, NoLease, NotBelow, PhaseMark, SentMark, StateMark, active_of, lease_lasts, led_unmarked, mark_lasts, one_leader, peon_has, phase_lasts, sent_lasts, was_led}
use Rattle.quorum_answers.proofs.Saying as saying
use Rattle.quorum_answers.proofs.Saying.{all_left, has_answers, is_gathering}
use Rattle.quorum_history.proofs.History.{AnEpoch, Entered, Had}
use Rattle.quorum_history.proofs.Holds.{BodyHolds, FollowsIn, InPhase, UpdatesIn, core_of}
use Rattle.quorum_history.proofs.Numbers.{level_is}
use Rattle.quorum_history.proofs.Phases.{no, peon_is_peon}
use Rattle.quorum_laws.proofs.Events.{Does, ToldOf, ended, member_of, same, shares}
use Rattle.quorum_laws.proofs.Invariant.{EnvelopeHolds, Further, InvOf, InvWith, WasActive}
use Rattle.quorum_laws.proofs.Later.{Later}
use Rattle.quorum_laws.proofs.Reading.{at_least, state_holds}
use Rattle.quorum_laws.specs.Accepting.{HasAccepted, readings_at}
use Rattle.quorum_walk.proofs.FineCourses.{Ended, begun}
use Rattle.quorum_walk.proofs.Lists.{Among, all_append, all_both, all_map}
use Rattle.quorum_walk.proofs.Sparing.{own_of}
use Rattle.std.proofs.Common.{Bool, List, Some, [], ap, arith, inl, inr, is_some, refl, subst, suc, sym, true, ℕ, ◌++◌, ◌<◌, ◌∙◌, ◌∷◌, ◌≡◌, ◌≤◌, ◌⊎◌}

-- this proof needs no fact about a ROUTE
abbrev AnyRoute : (f e seq : ℕ) → Reply → Type 0
AnyRoute f e seq r = Unit {0}

module _ (ms : Monitors) (several : 1 < ms.count) (w : World) (I : InvOf ms w) (asked : List Asked) (J : InvWith ms w asked) (On : Envelope → Type 0) (d : Does ms w On asked J)
    (up : Further I.g J.g) (marks : (i : ℕ) (z : State) → w.state i ≡ Some z → StateMark ms.count w I.g i z) (on_way : ToldOf (λ x. SentMark ms.count w I.g x × Among x w.messages) d.by.rank d.by.came)
    (next : World) (K : InvOf ms next) (ahead : Further J.g K.g) (F : Further I.g K.g) (T : Later w next) (accepted : (i v pn : ℕ) (bytes : List ℕ) → HasAccepted w i v pn bytes → HasAccepted next i v pn bytes)
    (store : next.store d.by.rank ≡ apply (joined (encoded d.y.changes)) (w.store d.by.rank)) (state : next.state d.by.rank ≡ Some d.y.state) (messages : next.messages ≡ w.messages ++ messages_of d.y.out)
    (others : (i : ℕ) (z : State) → (i ≡ d.by.rank → ⊥) → next.state i ≡ Some z → (w.state i ≡ Some z) × (next.store i ≡ w.store i)) where
  abbrev n : ℕ
  n = ms.count

  abbrev rank : ℕ
  rank = d.by.rank

  abbrev me : Me
  me = member_of ms d.by.rank d.by.lt

  abbrev s : State
  s = d.by.state

  abbrev w0 : Readings
  w0 = readings_at w d.by.rank

  abbrev r : Readings
  r = readings_at next d.by.rank

  abbrev new : List Envelope
  new = messages_of d.y.out

  abbrev From : ℕ → Command → Origin → Type 0
  From = event.From ms w asked J On d

  abbrev Voted : (f pn v : ℕ) → Type 0
  Voted = event.Voted ms w asked J On d

  abbrev SaysIn : Phase → (e v to f : ℕ) → Body → Type 0
  SaysIn = saying.SaysBody me d.by.at w0 s d.by.came From AnyRoute Voted

  abbrev SaysSent : Phase → (e v : ℕ) → Sent → Type 0
  SaysSent = saying.SaysSent me d.by.at w0 s d.by.came From AnyRoute Voted

  read : r ≡ d.y.readings
  read = ap readings_of store ∙ same w.store w.state w.transactions w.messages w.active asked me J d.by.at d.by.state d.by.came d.by.on d.by.fits d.by.holds (d.by.fine (shares w.store w.state w.transactions w.messages w.active asked me J d.by.at)) d.y d.is

  fine : Ended (begun me w0 s d.by.came) d.y
  fine = ended w.store w.state w.transactions w.messages w.active asked me J d.by.at d.by.state d.by.came d.by.on d.by.fits d.by.holds (d.by.fine (shares w.store w.state w.transactions w.messages w.active asked me J d.by.at)) d.y d.is

  holds : InPhase n K.g rank (core_of (own_of r) d.y.state) d.y.state.phase
  holds = state_holds ms next K rank d.y.state state

  outcome : saying.Outcome me d.by.at w0 s d.by.came From AnyRoute Voted d.y
  outcome = event.outcome ms w asked J On d AnyRoute (λ m is seq r says. tt)

  good : saying.Good me d.by.at w0 s d.by.came From AnyRoute Voted d.y
  good = by outcome
    where
      by : saying.Outcome me d.by.at w0 s d.by.came From AnyRoute Voted d.y → saying.Good me d.by.at w0 s d.by.came From AnyRoute Voted d.y
      by (inl G) = G
      by (inr A) = no (sym (leads_others me K.g r d.y.state K.glob several holds A.leads) ∙ A.alone)

  new_says : (p : Phase) (e v : ℕ) (sends : List Sent) → AllByRecursion (SaysSent p e v) sends → AllByRecursion (λ (x : Envelope). SaysIn p e v x.to x.message.epoch x.message.body) (messages_of sends)
  new_says p e v [] k = tt
  new_says p e v (sent.Message to m ∷ sends) k = (k.0, new_says p e v sends k.1)
  new_says p e v (sent.Reply t r ∷ sends) k = new_says p e v sends k.1

  says : AllByRecursion (λ (x : Envelope). SaysIn d.y.state.phase (epoch_of r) r.last x.to x.message.epoch x.message.body) new
  says = new_says d.y.state.phase (epoch_of r) r.last d.y.out (subst (λ (q : Readings). AllByRecursion (SaysSent d.y.state.phase (epoch_of q) q.last) d.y.out) (sym read) good.out)

  lead : saying.Lead me d.by.at w0 s d.by.came From AnyRoute Voted d.y.state.phase d.y.changes (epoch_of r) r.last d.y.state.peon.lease
  lead = subst (λ (q : Readings). saying.Lead me d.by.at w0 s d.by.came From AnyRoute Voted d.y.state.phase d.y.changes (epoch_of q) q.last d.y.state.peon.lease) (sym read) good.lead

  sent_parts : AllByRecursion (EnvelopeHolds n K.g) w.messages × AllByRecursion (EnvelopeHolds n K.g) new
  sent_parts = all_left (EnvelopeHolds n K.g) w.messages new (subst (AllByRecursion (EnvelopeHolds n K.g)) messages K.sent)

  led : has_answers d.y.state.phase ≡ true → WasActive n K.g (epoch_of r, rank)
  led t = was_led n K.g rank (core_of (own_of r) d.y.state) d.y.state.phase t holds

  level : has_answers d.y.state.phase ≡ true → level_at next rank ≡ r.last
  level t = level_is (own_of r) (led_unmarked n K.g rank (core_of (own_of r) d.y.state) d.y.state.phase t holds)

  -- ---- the LEASEs that are sent now

  leases : (e v l : ℕ) → WasActive n K.g (e, l) → v ≤ level_at next l → AllByRecursion (HasNoLess e v) new
  leases e v l led_l high = all_map _ (HasNoLess e v) (λ x k. by x.to x.message.epoch x.message.body k) new says
    where
      by : (to f : ℕ) (b : Body) → SaysIn d.y.state.phase (epoch_of r) r.last to f b → NotBelow e v f b
      by to f (body.Lease last) k = λ q.
          let t : has_answers d.y.state.phase ≡ true = ap has_answers k.0 in
          let mine : WasActive n K.g (e, rank) = subst (λ (z : ℕ). WasActive n K.g (z, rank)) (sym k.2 ∙ q) (led t) in
          let same = one_leader n K.g K.glob.roles e l rank led_l mine in
          let h = subst (λ (z : ℕ). v ≤ level_at next z) same high in
          let v_is = level t in
          let last_is = k.1 in
          omega arith
      by to f other k = tt

  lasts : Lasts n w next I.g K.g new
  lasts = record { further = F; later = T; accepted = accepted; messages = messages; leases = leases }

  -- only it sent a LEASE now
  none_of : (j e : ℕ) → (j ≡ rank → ⊥) → AllByRecursion (NoLease j e) new
  none_of j e ne = all_map _ (NoLease j e) (λ x k. by x.to x.message.from x.message.epoch x.message.body k.0 k.1.1.body) new (all_both _ (EnvelopeHolds n K.g) new says sent_parts.1)
    where
      by : (to from f : ℕ) (b : Body) → SaysIn d.y.state.phase (epoch_of r) r.last to f b → BodyHolds K.g from to f b → IsLease j e from f b
      by to from f (body.Lease last) k h = λ a q.
          let mine = led (ap has_answers k.0) in
          let same = one_leader n K.g K.glob.roles f from rank (active_of n K.g f from h) (subst (λ (z : ℕ). WasActive n K.g (z, rank)) (sym k.2) mine) in
          ne (sym a ∙ same)
      by to from f other k h = tt

  -- ---- what it remembers now

  was_up : (p : Phase) → s.phase ≡ p → (p ≡ phase.Booting → ⊥) → w.state rank ≡ Some s
  was_up p q ne = elim d.by.remembers [ inl e ↦ e | inr e ↦ absurd (ne (sym q ∙ ap (λ (z : State). z.phase) e)) ]

  before : (p : Phase) → s.phase ≡ p → (p ≡ phase.Booting → ⊥) → PhaseMark n w I.g rank (epoch_of w0) w0.last s.peon.lease p
  before p q ne = subst (PhaseMark n w I.g rank (epoch_of w0) w0.last s.peon.lease) q (marks rank s (was_up p q ne))

  gathering : (p : Phase) → s.phase ≡ p → is_gathering p ≡ true → AllByRecursion (NoLease rank (epoch_of w0)) w.messages
  gathering phase.Collecting q t = before phase.Collecting q (λ e. no (ap is_gathering (sym e)))
  gathering phase.Previous q t = before phase.Previous q (λ e. no (ap is_gathering (sym e)))
  gathering other q t = no t

  acting : (p : Phase) → s.phase ≡ p → is_active p ≡ true → Mark n w I.g (epoch_of w0) w0.last
  acting phase.Active q t = before phase.Active q (λ e. no (ap is_active (sym e)))
  acting phase.Updating q t = before phase.Updating q (λ e. no (ap is_active (sym e)))
  acting other q t = no t

  -- it sent no LEASE before in its epoch
  silent : saying.Gathers me d.by.at w0 s d.by.came From AnyRoute Voted d.y.changes (epoch_of r) → AllByRecursion (NoLease rank (epoch_of r)) w.messages
  silent (inl k) = subst (λ (e : ℕ). AllByRecursion (NoLease rank e) w.messages) (sym (k.1 fine.fits)) (gathering s.phase refl k.0)
  silent (inr (inr few)) = absurd (omega arith)
  silent (inr (inl lt)) = all_map (EnvelopeHolds n I.g) (NoLease rank (epoch_of r)) (λ x k. by x.message.from x.message.epoch x.message.body k.1.epoch) w.messages I.sent
    where
      by : (from f : ℕ) (b : Body) → Had I.g AnEpoch from f → IsLease rank (epoch_of r) from f b
      by from f (body.Lease last) h = λ a q. let le = at_least ms w I AnEpoch rank f (subst (λ (i : ℕ). Had I.g AnEpoch i f) a h) in absurd (omega arith)
      by from f other h = tt

  silent_now : is_gathering d.y.state.phase ≡ true → AllByRecursion (NoLease rank (epoch_of r)) w.messages → AllByRecursion (NoLease rank (epoch_of r)) next.messages
  silent_now t old = subst (AllByRecursion (NoLease rank (epoch_of r))) (sym messages) (all_append (NoLease rank (epoch_of r)) w.messages new old
      (all_map _ (NoLease rank (epoch_of r)) (λ x k. by x.to x.message.from x.message.epoch x.message.body k) new says))
    where
      by : (to from f : ℕ) (b : Body) → SaysIn d.y.state.phase (epoch_of r) r.last to f b → IsLease rank (epoch_of r) from f b
      by to from f (body.Lease last) k = λ a q. no (ap is_gathering (sym k.0) ∙ t)
      by to from f other k = tt

  -- so its last version is a mark
  fresh : has_answers d.y.state.phase ≡ true → AllByRecursion (NoLease rank (epoch_of r)) w.messages → Mark n next K.g (epoch_of r) r.last
  fresh t old = record {
    rank = rank;
    led = led t;
    level = (let l = level t in omega arith);
    how = inr (subst (AllByRecursion (HasNoLess (epoch_of r) r.last)) (sym messages) (all_append (HasNoLess (epoch_of r) r.last) w.messages new
        (all_map _ _ (λ x k. by x.to x.message.from x.message.epoch x.message.body k.0 k.1.1.body) w.messages (all_both (NoLease rank (epoch_of r)) (EnvelopeHolds n K.g) w.messages old sent_parts.0))
        (leases (epoch_of r) r.last rank (led t) (let l = level t in omega arith))));
  }
    where
      by : (to from f : ℕ) (b : Body) → IsLease rank (epoch_of r) from f b → BodyHolds K.g from to f b → NotBelow (epoch_of r) r.last f b
      by to from f (body.Lease last) k h = λ q. absurd (k (one_leader n K.g K.glob.roles f from rank (active_of n K.g f from h) (subst (λ (z : ℕ). WasActive n K.g (z, rank)) (sym q) (led t))) q)
      by to from f other k h = tt

  -- all of its quorum accepted a version
  completed : has_answers d.y.state.phase ≡ true → saying.Completes me d.by.at w0 s d.by.came From AnyRoute Voted d.y.changes (epoch_of r) r.last → Mark n next K.g (epoch_of r) r.last
  completed t C = record { rank = rank; led = led t; level = (let l = level t in omega arith); how = inl all }
    where
      at : w.state rank ≡ Some s
      at = was_up phase.Updating C.in_phase (λ e. no (ap is_active (sym e)))

      D : Completed me J.g w0 s J.glob several d.by.on C.voter
      D = accept_completes me J.g w0 s J.glob several d.by.on C.voter s.leader.pn (suc w0.last) C.voted.0 (inr C.in_phase) refl refl C.voted.1 C.whole

      updates : UpdatesIn n J.g rank (core_of (own_of w0) s)
      updates = subst (InPhase n J.g rank (core_of (own_of w0) s)) C.in_phase d.by.on

      role : Entered K.g rank (epoch_of r) rank s.leader.quorum
      role = subst (λ (e : ℕ). Entered K.g rank e rank s.leader.quorum) (sym (C.epoch fine.fits)) (ahead.roles _ updates.0.reigns.role)

      quorum : (led t).0 ≡ s.leader.quorum
      quorum = let G = K.glob in let R = G.roles in (R.once rank (epoch_of r) rank rank (led t).0 s.leader.quorum (led t).1 role).1

      all : (m : ℕ) → has (led t).0 m ≡ true → AcceptedTo next m r.last
      all m h =
          let c = D.chosen in
          let a = c.all m (subst (λ (q : List Bool). has q m ≡ true) (quorum ∙ sym D.quorum) h) in
          let k = J.triples in
          record { version = suc w0.last; number = c.pn; bytes = text D.x; was = accepted m (suc w0.last) c.pn (text D.x) (k.kept m (suc w0.last) c.pn D.x a); high = (let l = C.last in omega arith) }

  goes : has_answers d.y.state.phase ≡ true → saying.Goes me d.by.at w0 s d.by.came From AnyRoute Voted d.y.changes (epoch_of r) r.last → Mark n next K.g (epoch_of r) r.last
  goes t (inl k) = subst (λ (v : ℕ). Mark n next K.g (epoch_of r) v) (sym k.2) (subst (λ (e : ℕ). Mark n next K.g e w0.last) (sym (k.1 fine.fits)) (mark_lasts n w next I.g K.g new lasts (epoch_of w0) w0.last (acting s.phase refl k.0)))
  goes t (inr (inl g)) = fresh t (silent g)
  goes t (inr (inr C)) = completed t C

  -- ---- a peon with a lease

  abbrev Peons : ℕ → ℕ → Type 0
  Peons e v = Mark n next K.g e v × HasLease next e v

  leased : saying.Leased me d.by.at w0 s d.by.came From AnyRoute Voted d.y.changes (epoch_of r) r.last → Peons (epoch_of r) r.last
  leased Q = subst (λ (e : ℕ). Peons e r.last) (sym (Q.epoch fine.fits)) (by Q.how)
    where
      is_peon_phase : s.phase ≡ phase.Peon
      is_peon_phase = peon_is_peon s.phase Q.peon

      at : w.state rank ≡ Some s
      at = was_up phase.Peon is_peon_phase (λ e. no (ap is_peon (sym e)))

      had : is_some s.peon.lease ≡ true → Mark n w I.g (epoch_of w0) w0.last × HasLease w (epoch_of w0) w0.last
      had t = before phase.Peon is_peon_phase (λ e. no (ap is_peon (sym e))) t

      kept : is_some s.peon.lease ≡ true → r.last ≡ w0.last → Peons (epoch_of w0) r.last
      kept t q = subst (Peons (epoch_of w0)) (sym q) (mark_lasts n w next I.g K.g new lasts (epoch_of w0) w0.last (had t).0, lease_lasts n w next I.g K.g new lasts (epoch_of w0) w0.last (had t).1)

      -- the message that came
      heard : (m : Message) → d.by.came ≡ input.Deliver m → SentMark n w I.g (record { to = rank; message = m }) × Among (record { to = rank; message = m }) w.messages
      heard m q = subst (ToldOf (λ x. SentMark n w I.g x × Among x w.messages) rank) q on_way

      by : ((is_some s.peon.lease ≡ true) × (r.last ≡ w0.last)) ⊎ (saying.Takes me d.by.at w0 s d.by.came From AnyRoute Voted r.last ⊎ saying.Learns me d.by.at w0 s d.by.came From AnyRoute Voted r.last) → Peons (epoch_of w0) r.last
      by (inl k) = kept k.0 k.1
      by (inr (inl t)) =
          let h = heard t.message t.is in
          let M : Mark n w I.g (epoch_of w0) w0.last = subst (λ (e : ℕ). Mark n w I.g e w0.last) t.epoch (subst (BodyMark n w I.g t.message.epoch) t.says h.0) in
          let H : HasLease w (epoch_of w0) w0.last = record { envelope = record { to = rank; message = t.message }; among = h.1; last = w0.last; says = t.says; epoch = t.epoch; low = omega arith } in
          subst (Peons (epoch_of w0)) (sym t.last) (mark_lasts n w next I.g K.g new lasts (epoch_of w0) w0.last M, lease_lasts n w next I.g K.g new lasts (epoch_of w0) w0.last H)
      by (inr (inr t)) =
          let h = heard t.message t.is in
          let C : BodyMark n w I.g t.message.epoch (body.Commit t.first t.values) = subst (BodyMark n w I.g t.message.epoch) t.says h.0 in
          let M : Mark n w I.g (epoch_of w0) C.0 = subst (λ (e : ℕ). Mark n w I.g e C.0) t.epoch C.2 in
          let k : FollowsIn I.g rank (core_of (own_of w0) s) = subst (InPhase n I.g rank (core_of (own_of w0) s)) is_peon_phase (state_holds ms w I rank s at) in
          let le = peon_has ms several w I rank s at k t.had (had t.had).1 C.0 M in
          let a = C.1 in
          let b = t.last in
          let c = t.higher in
          kept t.had (omega arith)

  phase_now : (p : Phase) → d.y.state.phase ≡ p → saying.Lead me d.by.at w0 s d.by.came From AnyRoute Voted p d.y.changes (epoch_of r) r.last d.y.state.peon.lease → PhaseMark n next K.g rank (epoch_of r) r.last d.y.state.peon.lease p
  phase_now phase.Collecting q k = silent_now (ap is_gathering q) (silent k)
  phase_now phase.Previous q k = silent_now (ap is_gathering q) (silent k)
  phase_now phase.Active q k = goes (ap has_answers q) k
  phase_now phase.Updating q k = goes (ap has_answers q) k
  phase_now phase.Peon q k = λ t. leased (k t)
  phase_now other q k = tt

  pub up_now : (i : ℕ) (z : State) → next.state i ≡ Some z → (i ≡ rank) ⊎ (i ≡ rank → ⊥) → StateMark n next K.g i z
  up_now i z e (inl q) =
      let same_state : Some z ≡ Some d.y.state = sym e ∙ ap next.state q ∙ state in
      let z_is : z ≡ d.y.state = cc in
      subst (λ (j : ℕ). StateMark n next K.g j z) (sym q) (subst (StateMark n next K.g rank) (sym z_is) (phase_now d.y.state.phase refl lead))
  up_now i z e (inr ne) =
      let o = others i z ne e in
      subst (λ (m : Store). PhaseMark n next K.g i (epoch_of (readings_of m)) (readings_of m).last z.peon.lease z.phase) (sym o.1)
      (phase_lasts n w next I.g K.g new lasts i (epoch_of (readings_at w i)) (readings_at w i).last z.peon.lease z.phase (none_of i (epoch_of (readings_at w i)) ne) (marks i z o.0))

  -- ---- what is sent now

  pub mark_now : has_answers d.y.state.phase ≡ true → Mark n next K.g (epoch_of r) r.last
  mark_now t = by d.y.state.phase refl lead t
    where
      by : (p : Phase) → d.y.state.phase ≡ p → saying.Lead me d.by.at w0 s d.by.came From AnyRoute Voted p d.y.changes (epoch_of r) r.last d.y.state.peon.lease → has_answers p ≡ true → Mark n next K.g (epoch_of r) r.last
      by phase.Previous q k u = fresh t (silent k)
      by phase.Active q k u = goes t k
      by phase.Updating q k u = goes t k
      by other q k u = no u

  pub sent_now : AllByRecursion (SentMark n w I.g) w.messages → AllByRecursion (SentMark n next K.g) next.messages
  sent_now old = subst (AllByRecursion (SentMark n next K.g)) (sym messages) (all_append (SentMark n next K.g) w.messages new (all_map _ _ (sent_lasts n w next I.g K.g new lasts) w.messages old)
      (all_map _ (SentMark n next K.g) (λ x k. by x.to x.message.epoch x.message.body k) new says))
    where
      by : (to f : ℕ) (b : Body) → SaysIn d.y.state.phase (epoch_of r) r.last to f b → BodyMark n next K.g f b
      by to f (body.Lease last) k = subst (λ (e : ℕ). Mark n next K.g e last) (sym k.2) (subst (Mark n next K.g (epoch_of r)) (sym k.1) (mark_now (ap has_answers k.0)))
      by to f (body.Commit from values) k = (r.last, k.1, subst (λ (e : ℕ). Mark n next K.g e r.last) (sym k.2) (mark_now k.0))
      by to f other k = tt

  pub mark_goes : (e v : ℕ) → Mark n w I.g e v → Mark n next K.g e v
  mark_goes = mark_lasts n w next I.g K.g new lasts

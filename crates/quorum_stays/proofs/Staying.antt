-- A quorum that is led stays led, whatever clients ask.
use Rattle.law_names.proofs.Runs.{Arrives, Deliver, Event, Monitors, Ring}
use Rattle.law_names.proofs.Table.{Clients, Entry, Me, Origin, Readings, State, Timer, Waiting, are_within, end_of, has, readings_of, same_phase, shared_entries, with_rank}
use Rattle.mon_wire.specs.declared.body.Body.TheVariants as body
use Rattle.mon_wire.specs.declared.phase.Phase.TheVariants as phase
use Rattle.quorum_model.proofs.Members.{member_of}
use Rattle.quorum_stays.proofs.Bounds.{by_progress, by_renewal, leading}
use Rattle.quorum_stays.proofs.Carrying.{carries_later}
use Rattle.quorum_stays.proofs.Coming.{Handles, Onward, Stays, handled, onward, still}
use Rattle.quorum_stays.proofs.Committing.{commits_all}
use Rattle.quorum_stays.proofs.Giving.{renews, value_begins}
use Rattle.quorum_stays.proofs.Leaders.{accept_comes, ack_comes, late_ack_comes, sent_few, two_answers}
use Rattle.quorum_stays.proofs.Onward.{one_state}
use Rattle.quorum_stays.proofs.Outcomes.{AtOnce, Next, Start}
use Rattle.quorum_stays.proofs.Peering.{PeonIn}
use Rattle.quorum_stays.proofs.Peons.{begin_comes, commit_comes, lease_comes}
use Rattle.quorum_stays.proofs.Serving.{Goes}
use Rattle.quorum_stays.proofs.Turns.{marked}
use Rattle.quorum_stays.specs.Reading.{ClocksGoOn}
use Rattle.quorum_stays.specs.Steady.{Begun, Carries, IsItem, Item, LeadsSince, Proposes, Reign, Round, Steady, item, said, to_leader, to_peon}
use Rattle.quorum_timed.specs.Begins.{IsQuick}
use Rattle.quorum_timed.specs.Timed.{Again, Arriving, Asking, Comes, Firing, Leads as LeadsTo, MayBe, Owed, Pace, Timed, Went, at_time, without_first}
use Rattle.std.proofs.Common.{Bool, IsSomeAnd, List, None, Option, Some, [], ap, arith, drop, false, inl, inr, refl, subst, suc, sym, take, true, zero, ℕ, ◌*◌, ◌+◌, ◌<◌, ◌∙◌, ◌∷◌, ◌≡◌, ◌≤◌, ◌⊎◌}
use Rattle.std.proofs.lemmas.Bool.{false≢true}

-- whose command is begun
started : (me : Me) (sh : List Entry) (now : ℕ) (w : Readings) (s : State) (taken : Option Origin) (from : Origin) (clients : Clients) → Start me sh now w s taken from clients
    → ((taken ≡ Some from) × (s.clients.queue ≡ []) × (clients.queue ≡ [])) ⊎ ((one : Waiting) × (taken ≡ None) × (s.clients.queue ≡ one ∷ clients.queue) × (one.origin ≡ from))
started me sh now w s taken from clients (AtOnce took none empty) = inl (took, none, empty)
started me sh now w s taken from clients (Next one nil queue is) = inr (one, nil, queue, is)

-- ---- no value is in progress

module _ (ms : Monitors) (q : List Bool) (pace : Pace) (reign : Reign) (K : IsQuick pace) (r : Round) (t : Timed) (u : ℕ) (M : MayBe ms q pace t u) (room : ClocksGoOn q pace u) (next : Timed) where
  module _ (S : Steady ms q pace reign (record r { next = None }) t) where
    abbrev calm : Round
    calm = record r { next = None }

    from_calm : (later : Round) → r.version ≤ later.version → later.committed ≡ r.committed → Onward (record r { next = None }) later
    from_calm later le committed = record { rises = le; kept = λ e. committed; same = λ b is. absurd cc }

    calm_down : (i : ℕ) (qi : has q i ≡ true) (ni : i ≡ reign.leader → ⊥) (F : PeonIn ms q pace reign (record r { next = None }) t i t.under_way) (o : Owed) (others : List Owed) (x : Item) (rest : List Item)
        → drop F.heard (to_peon reign pace (record r { next = None })) ≡ x ∷ rest → IsItem ms reign t.world.messages reign.leader i (t.time + pace.delay) x o → Carries ms reign t.world.messages reign.leader i (t.time + pace.delay) rest others
        → Went ms q pace (at_time ms q pace u t) (Arrives (Deliver o.number (u + pace.clock i))) (without_first reign.leader i others t.under_way) next → Stays ms q pace reign t.world u (Arrives (Deliver o.number (u + pace.clock i))) (record r { next = None }) next
    calm_down i qi ni F o others x rest items it C went = by F.heard refl items
      where
        by : (h : ℕ) → F.heard ≡ h → drop h (to_peon reign pace (record r { next = None })) ≡ x ∷ rest → Stays ms q pace reign t.world u (Arrives (Deliver o.number (u + pace.clock i))) (record r { next = None }) next
        by zero is e = (calm, commit_comes ms q pace reign K calm t S u M room next i qi ni F o others x rest items it C went is, still (record r { next = None }))
        by (suc zero) is e = (calm, lease_comes ms q pace reign K calm t S u M room next i qi ni F o others x rest items it C went is, still (record r { next = None }))
        by (suc (suc zero)) is e = absurd cc
        by (suc (suc (suc h))) is e = let a = F.sent in absurd (omega arith)

    pub calm_handles : Handles ms q pace reign (record r { next = None }) t S u next
    calm_handles = record {
      begins = λ left T e went B. (let b = B.begins in (
        record r { next = Some (record { value = b.proposed; at = u }) },
        value_begins ms q pace reign r (record t { under_way = left }) T u M.later (by_renewal ms q pace reign calm t S K u M refl) room next e went B.state B.up B.here b.clients b.timers b.tidy b.proposed b.from b.made
            b.fits B.course b.is B.did_it B.taken B.taken_is (started (member_of ms reign.leader B.here) (shared_entries (t.world.store reign.leader)) (u + pace.clock reign.leader) (readings_of (t.world.store reign.leader)) B.state B.taken b.from b.clients b.start)
            B.input B.event_is B.coming B.arrives B.rank_is (marked (member_of ms reign.leader B.here) (shared_entries (t.world.store reign.leader)) (u + pace.clock reign.leader) (readings_of (t.world.store reign.leader)) B.state ms pace reign B.taken b.clients b.timers b.marks),
        from_calm (record r { next = Some (record { value = b.proposed; at = u }) }) (omega arith) refl,
      ));
      down = calm_down;
      up = λ f qf nf F o others x rest items it C went. (calm, ack_comes ms q pace reign r t S u M.later next f qf nf F o others x rest it C went items, still (record r { next = None }));
      timer = λ s up kind end ne set due went. (let L : LeadsSince reign q (r.latest + pace.clock reign.leader) s = subst (λ (o : Option State). IsSomeAnd o (LeadsSince reign q (r.latest + pace.clock reign.leader))) up S.lead in
          elim (L.only kind end set) [
            | inl is ↦ (
              record r { latest = u; before = r.latest; next = None },
              subst (λ (z : Timer). Goes ms q pace reign t.world u (Arrives (Ring reign.leader z (u + pace.clock reign.leader))) (record r { next = None }) (record r { latest = u; before = r.latest; next = None }) next) (sym is)
                  (renews ms q pace reign K r t S u M room next s up end (subst (λ (z : Timer). end_of z s.timers ≡ Some end) is set) due
                  (subst (λ (z : Timer). Went ms q pace (at_time ms q pace u t) (Arrives (Ring reign.leader z (u + pace.clock reign.leader))) t.under_way next) is went)),
              from_calm (record r { latest = u; before = r.latest; next = None }) (omega arith) refl,
            )
            | inr (inl is) ↦ (let y = L.awaits end (subst (λ (z : Timer). end_of z s.timers ≡ Some end) is set) in
                let z = by_renewal ms q pace reign calm t S K u M refl in
                let k = K.leases in
                absurd (omega arith))
            | inr (inr is) ↦ absurd (ne is)
          ]);
    }

  -- ---- a value is in progress

  module _ (b : Begun) (S : Steady ms q pace reign (record r { next = Some b }) t) where
    abbrev busy : Round
    busy = record r { next = Some b }

    busy_down : (i : ℕ) (qi : has q i ≡ true) (ni : i ≡ reign.leader → ⊥) (F : PeonIn ms q pace reign (record r { next = Some b }) t i t.under_way) (o : Owed) (others : List Owed) (x : Item) (rest : List Item)
        → drop F.heard (to_peon reign pace (record r { next = Some b })) ≡ x ∷ rest → IsItem ms reign t.world.messages reign.leader i (t.time + pace.delay) x o → Carries ms reign t.world.messages reign.leader i (t.time + pace.delay) rest others
        → Went ms q pace (at_time ms q pace u t) (Arrives (Deliver o.number (u + pace.clock i))) (without_first reign.leader i others t.under_way) next → Stays ms q pace reign t.world u (Arrives (Deliver o.number (u + pace.clock i))) (record r { next = Some b }) next
    busy_down i qi ni F o others x rest items it C went = by F.heard refl items
      where
        by : (h : ℕ) → F.heard ≡ h → drop h (to_peon reign pace (record r { next = Some b })) ≡ x ∷ rest → Stays ms q pace reign t.world u (Arrives (Deliver o.number (u + pace.clock i))) (record r { next = Some b }) next
        by zero is e = (busy, commit_comes ms q pace reign K busy t S u M room next i qi ni F o others x rest items it C went is, still (record r { next = Some b }))
        by (suc zero) is e = (busy, lease_comes ms q pace reign K busy t S u M room next i qi ni F o others x rest items it C went is, still (record r { next = Some b }))
        by (suc (suc zero)) is e = (busy, begin_comes ms q pace reign K r b t S u M room next i qi ni F o others x rest items it C went is, still (record r { next = Some b }))
        by (suc (suc (suc zero))) is e = absurd cc
        by (suc (suc (suc (suc h)))) is e = let a = F.sent in absurd (omega arith)

    busy_up : (f : ℕ) (qf : has q f ≡ true) (nf : f ≡ reign.leader → ⊥) (F : PeonIn ms q pace reign (record r { next = Some b }) t f t.under_way) (o : Owed) (others : List Owed) (x : Item) (rest : List Item)
        → drop F.taken (take (said F.heard) (to_leader reign pace (record r { next = Some b }))) ≡ x ∷ rest → IsItem ms reign t.world.messages f reign.leader (t.time + pace.delay) x o → Carries ms reign t.world.messages f reign.leader (t.time + pace.delay) rest others
        → Went ms q pace (at_time ms q pace u t) (Arrives (Deliver o.number (u + pace.clock reign.leader))) (without_first f reign.leader others t.under_way) next → Stays ms q pace reign t.world u (Arrives (Deliver o.number (u + pace.clock reign.leader))) (record r { next = Some b }) next
    busy_up f qf nf F o others x rest items it C went =
        elim (two_answers x _ _ rest F.heard F.taken (sent_few ms q pace reign r b t S u M.later next f qf nf F o others x rest it C went) items) [
          | inl k ↦ (busy, late_ack_comes ms q pace reign r b t S u M.later next f qf nf F o others x rest it C went k.0 k.1 k.2 k.3, still (record r { next = Some b }))
          | inr k ↦ accepts k.0 k.1 k.2 k.3
        ]
      where
        accepts : F.taken ≡ 1 → F.heard ≡ 3 → item (body.Accept reign.pn (suc r.version)) (b.at + 2 * pace.delay) ≡ x → rest ≡ [] → Stays ms q pace reign t.world u (Arrives (Deliver o.number (u + pace.clock reign.leader))) (record r { next = Some b }) next
        accepts one all is list = by (are_within ms.count q (with_rank (leading ms q pace reign busy t S).0.leader.accepted f)) refl
          where
            by : (z : Bool) → are_within ms.count q (with_rank (leading ms q pace reign busy t S).0.leader.accepted f) ≡ z → Stays ms q pace reign t.world u (Arrives (Deliver o.number (u + pace.clock reign.leader))) (record r { next = Some b }) next
            by false more = (busy, accept_comes ms q pace reign r b t S u M.later next f qf nf F o others x rest it C went one all is list more, still (record r { next = Some b }))
            by true full = (_, commits_all ms q pace reign K r b t S u M room next f qf nf F o others x rest it C went one all is list full, record { rises = omega arith; kept = λ e. absurd (omega arith); same = λ c e. inr (omega arith) })

    pub busy_handles : Handles ms q pace reign (record r { next = Some b }) t S u next
    busy_handles = record {
      begins = λ left T e went B. (let l = leading ms q pace reign busy t S in
          let X = l.2.proposes in
          let same : B.state ≡ l.0 = one_state (t.world.state reign.leader) B.state l.0 B.up l.1 in
          let updating : B.state.phase ≡ phase.Updating = ap (λ (z : State). z.phase) same ∙ X.leads in
          let idle : same_phase B.state.phase phase.Active ≡ false = rw updating refl in
          absurd (false≢true (sym idle ∙ B.begins.active)));
      down = busy_down;
      up = busy_up;
      timer = λ s up kind end ne set due went. (let P : Proposes ms.count q pace reign busy b s = subst (λ (o : Option State). IsSomeAnd o (Proposes ms.count q pace reign busy b)) up S.lead in
          let X = P.proposes in
          elim (X.only kind end set) [
            | inl is ↦ absurd (ne is)
            | inr k ↦ (let y = k.1 in
                let z = by_progress ms q pace reign busy t S K u M b refl in
                let m = K.elections in
                absurd (omega arith))
          ]);
    }

-- ---- a run

module _ (ms : Monitors) (q : List Bool) (pace : Pace) (reign : Reign) (K : IsQuick pace) where
  pub stays : (r : Round) (t : Timed) → Steady ms q pace reign r t → (u : ℕ) → MayBe ms q pace t u → ClocksGoOn q pace u → (next : Timed) (e : Event) → Comes ms q pace (at_time ms q pace u t) next e → Stays ms q pace reign t.world u e r next
  stays r t S u M room next e C = by r.next refl
    where
      by : (o : Option Begun) → r.next ≡ o → Stays ms q pace reign t.world u e r next
      by None is =
          let same : r ≡ record r { next = None } = (λ i. record r { next = is i }) in
          let T = subst (λ (z : Round). Steady ms q pace reign z t) same S in
          let N = handled ms q pace reign K (record r { next = None }) t T u M room next (calm_handles ms q pace reign K r t u M room next T) e C in
          (N.0, subst (λ (z : Round). Goes ms q pace reign t.world u e z N.0 next) (sym same) N.1, subst (λ (z : Round). Onward z N.0) (sym same) N.2)
      by (Some b) is =
          let same : r ≡ record r { next = Some b } = (λ i. record r { next = is i }) in
          let T = subst (λ (z : Round). Steady ms q pace reign z t) same S in
          let N = handled ms q pace reign K (record r { next = Some b }) t T u M room next (busy_handles ms q pace reign K r t u M room next b T) e C in
          (N.0, subst (λ (z : Round). Goes ms q pace reign t.world u e z N.0 next) (sym same) N.1, subst (λ (z : Round). Onward z N.0) (sym same) N.2)

  pub time_of_next : (t next : Timed) (e : Event) → Comes ms q pace t next e → next.time ≡ t.time
  time_of_next t next e (Arriving f i qf qi o others first is went) = went.time
  time_of_next t next e (Again f i qf qi n calls is went) = went.time
  time_of_next t next e (Firing i qi s up kind end set due is went) = went.time
  time_of_next t next e (Asking i qi session request is went) = went.time

  pub goes_on : (more : List (ℕ × Event)) (t last : Timed) → LeadsTo ms q pace t more last → t.time ≤ last.time
  goes_on [] t last L = let M : MayBe ms q pace t last.time = L.0 in M.later
  goes_on ((u, e) ∷ more) t last L =
      let M : MayBe ms q pace t u = L.0 in
      let a = M.later in
      let b = time_of_next (at_time ms q pace u t) L.1.0 e L.1.1 in
      let c = goes_on more L.1.0 last L.1.2 in
      omega arith

  -- time alone changes nothing
  pub waits_on : (r : Round) (t : Timed) → Steady ms q pace reign r t → (u : ℕ) → t.time ≤ u → Steady ms q pace reign r (at_time ms q pace u t)
  waits_on r t S u later = record {
    leads = S.leads;
    second = S.second;
    second_in = S.second_in;
    second_is = S.second_is;
    members = S.members;
    short = S.short;
    since = S.since;
    reached = (let a = S.reached in omega arith);
    ordered = S.ordered;
    renewed = S.renewed;
    apart = S.apart;
    only_renewed = S.only_renewed;
    epoch = S.epoch;
    last = S.last;
    fits = S.fits;
    lead = S.lead;
    peons = λ j qj nj. (let F = S.peons j qj nj in record {
      heard = F.heard;
      taken = F.taken;
      sent = F.sent;
      answered = F.answered;
      follows = F.follows;
      lease = F.lease;
      epoch = F.epoch;
      promise = F.promise;
      keeps = F.keeps;
      noted = F.noted;
      to_come = carries_later ms reign reign.leader j t.world.messages (t.time + pace.delay) (u + pace.delay) (omega arith) _ _ F.to_come;
      to_take = carries_later ms reign j reign.leader t.world.messages (t.time + pace.delay) (u + pace.delay) (omega arith) _ _ F.to_take;
    });
    others = λ f j qf qj a. carries_later ms reign f j t.world.messages (t.time + pace.delay) (u + pace.delay) (omega arith) _ _ (S.others f j qf qj a);
  }

  pub runs_on : (r : Round) (t last : Timed) (more : List (ℕ × Event)) → Steady ms q pace reign r t → LeadsTo ms q pace t more last → ClocksGoOn q pace last.time → (later : Round) × Steady ms q pace reign later last × Onward r later
  runs_on r t last [] S L room =
      let M : MayBe ms q pace t last.time = L.0 in
      (r, subst (λ (z : Timed). Steady ms q pace reign r z) (sym L.1) (waits_on r t S last.time M.later), still r)
  runs_on r t last ((u, e) ∷ more) S L room =
      let next = L.1.0 in
      let b = time_of_next (at_time ms q pace u t) next e L.1.1 in
      let c = goes_on more next last L.1.2 in
      let at : ClocksGoOn q pace u = (λ i qi. (let z = room i qi in omega arith)) in
      let N = stays r t S u L.0 at next e L.1.1 in
      let O = runs_on N.0 next last more N.1.0 L.1.2 room in
      (O.0, O.1, onward r N.0 O.0 N.2 O.2)

  pub stays_led : (r : Round) (t last : Timed) (more : List (ℕ × Event)) → Steady ms q pace reign r t → LeadsTo ms q pace t more last → ClocksGoOn q pace last.time
      → (later : Round) × Steady ms q pace reign later last × (r.version ≤ later.version) × (later.version ≡ r.version → later.committed ≡ r.committed)
  stays_led r t last more S L room = let N = runs_on r t last more S L room in let o = N.2 in (N.0, N.1, o.rises, o.kept)

  -- a value isn't in progress for longer than its messages take
  pub commits_in_time : (r : Round) (b : Begun) (t last : Timed) (more : List (ℕ × Event)) → Steady ms q pace reign r t → r.next ≡ Some b → LeadsTo ms q pace t more last → ClocksGoOn q pace last.time
      → b.at + 2 * pace.delay < last.time → (later : Round) × Steady ms q pace reign later last × (r.version < later.version)
  commits_in_time r b t last [] S is L room past = let M : MayBe ms q pace t last.time = L.0 in let z = by_progress ms q pace reign r t S K last.time M b is in absurd (omega arith)
  commits_in_time r b t last ((u, e) ∷ more) S is L room past =
      let next = L.1.0 in
      let c = time_of_next (at_time ms q pace u t) next e L.1.1 in
      let d = goes_on more next last L.1.2 in
      let at : ClocksGoOn q pace u = (λ i qi. (let z = room i qi in omega arith)) in
      let N = stays r t S u L.0 at next e L.1.1 in
      let o = N.2 in
      elim (o.same b is) [
        | inl k ↦ (let O = commits_in_time N.0 b next last more N.1.0 k L.1.2 room past in (O.0, O.1, (let x = o.rises in let y = O.2 in omega arith)))
        | inr lt ↦ (let O = runs_on N.0 next last more N.1.0 L.1.2 room in let p = O.2 in (O.0, O.1, (let y = p.rises in omega arith)))
      ]

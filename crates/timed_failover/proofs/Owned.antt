-- Each version of the log was committed by the monitor whose rank its proposal number has.
use Rattle.law_names.proofs.Runs.{AllFit, Asked, Event, Monitors, Plain, PlainFits, Stop, World, first_world, grown, happens, is_marked, kept_only, last_of, lost, moved, plain_of, put_at, records_after, run, unmoved, with_asked}
use Rattle.law_names.proofs.Table.{Body, Change, Course, Input, Me, Op, Readings, State, Store, at_rest, encoded, has, joined, react, reaction_of, readings_of, shared_entries, text}
use Rattle.log_copies.proofs.Matching.{read_last}
use Rattle.log_copies.proofs.Standing.{Agrees, BodyStands, InputMatches, event}
use Rattle.log_copies.proofs.Unmarked.{OnLog, Situated}
use Rattle.log_copies.specs.Synchronizing.{written}
use Rattle.log_model.proofs.Lists.{length_push}
use Rattle.mon_msg.proofs.Joining.{apply-joined}
use Rattle.mon_msg.specs.declared.input.Input.TheVariants as input
use Rattle.mon_wire.specs.declared.body.Body.TheVariants as body
use Rattle.mon_wire.specs.declared.phase.Phase.TheVariants as phase
use Rattle.quorum_agreement.proofs.Accepting.{Commits, Rests, RestsOrCommits, accept_reacts}
use Rattle.quorum_agreement.proofs.Beginning.{at_first}
use Rattle.quorum_agreement.proofs.Event.{good, input_tells, standing}
use Rattle.quorum_agreement.proofs.Grown.{GrowsByOne, grown_marked, grown_none}
use Rattle.quorum_agreement.proofs.Invariant.{EnvelopeMatches, LogHolds, OfLog}
use Rattle.quorum_agreement.proofs.Kept.{accepted_keeps}
use Rattle.quorum_agreement.proofs.Premises.{Completed, accept_completes, ack_others, elects_others, last_follows, leads_others, place_reached, recent}
use Rattle.quorum_agreement.proofs.Runs.{runs_hold}
use Rattle.quorum_agreement.proofs.Step.{copy_marked}
use Rattle.quorum_agreement.proofs.Worlds.{Follows, all_follow, asking}
use Rattle.quorum_history.proofs.Holds.{BodyHolds, InPhase, core_of, level_in}
use Rattle.quorum_history.proofs.Numbers.{level_is}
use Rattle.quorum_history.proofs.Rows.{InputHolds}
use Rattle.quorum_laws.proofs.Events.{After, Does, Keeps, each_event, event_holds, member_of, same, shares}
use Rattle.quorum_laws.proofs.Invariant.{InvWith}
use Rattle.quorum_laws.proofs.Later.{Later}
use Rattle.quorum_laws.specs.Accepting.{AcceptedIn, HasAccepted, IsMajorityOf}
use Rattle.quorum_near.proofs.Whole.{last_read}
use Rattle.quorum_walk.proofs.Sparing.{own_of}
use Rattle.quorum_walk.proofs.Walk.{Then}
use Rattle.std.proofs.Common.{Bool, Err, IfOk, List, Ok, Result, [], ap, append-nil, arith, false, inl, inr, length, refl, subst, suc, sym, true, ℕ, ◌%◌, ◌++◌, ◌-◌, ◌<◌, ◌∙◌, ◌∷◌, ◌≡◌, ◌≤◌, ◌⊎◌}
use Rattle.std.proofs.lemmas.Bool.{cases_lt, cond_both, eq-eqb, false≢true}

-- a map with no version that the log lacks adds nothing
grown_same : (log : List (List ℕ)) (m : Store) → last_of m ≤ length log → grown log m ≡ log
unfolding grown
grown_same log m le =
    let none : last_of m - length log ≡ 0 = omega arith in
    cond_both (is_marked m) log (log ++ records_after m (length log) (last_of m - length log)) (λ (l : List (List ℕ)). l ≡ log)
    (λ _. refl) (λ _. ap (λ (k : ℕ). log ++ records_after m (length log) k) none ∙ append-nil log)

-- A majority accepted the bytes for the version under one number, and the monitor that made the number has the version.
pub record IsOwned (n : ℕ) (transactions : ℕ → List (List Op)) (store : ℕ → Store) (v : ℕ) : Type 0 where
  pub pn : ℕ
  pub bytes : List ℕ
  pub by : List Bool
  pub major : IsMajorityOf n by
  pub all : (m : ℕ) → has by m ≡ true → AcceptedIn (transactions m) v pn bytes
  pub level : v ≤ level_in (own_of (readings_of (store (pn % 100))))

abbrev pub AllOwned : ℕ → World → Type 0
AllOwned n w = (v : ℕ) → v < length w.log → IsOwned n w.transactions w.store (suc v)

-- what is new
record Adds (n : ℕ) (w next : World) : Type 0 where
  accepted : (m v pn : ℕ) (bytes : List ℕ) → HasAccepted w m v pn bytes → HasAccepted next m v pn bytes
  new : (v : ℕ) → v < length next.log → (v < length w.log) ⊎ IsOwned n next.transactions next.store (suc v)

-- ---- one event

module _ (ms : Monitors) (w : World) (asked : List Asked) (J : InvWith ms w asked) (O : OfLog ms w asked J) (several : 1 < ms.count) (d : Does ms w (EnvelopeMatches w.log) asked J) where
  abbrev rank : ℕ
  rank = d.by.rank

  abbrev me : Me
  me = member_of ms d.by.rank d.by.lt

  abbrev m : Store
  m = w.store d.by.rank

  abbrev after : Course → Store
  after y = written m y

  nothing_new : (m : Store) (s : State) → Agrees w.log m s → grown w.log m ≡ w.log
  nothing_new m s (inl V) = grown_none w.log m V.unmarked (let h = V.versions in let l = h.within in omega (arith, read_last w.log O.short O.values V.last m h))
  nothing_new m s (inr T) = grown_marked w.log m (copy_marked w.log m s T)

  situated : OnLog w.log m → Situated me (readings_of m) d.by.state
  situated V = record {
    leads = leads_others me J.g (readings_of m) d.by.state J.glob several d.by.on;
    elects = elects_others me J.g (readings_of m) d.by.state J.glob several d.by.on;
    recent = recent me J.g (readings_of m) d.by.state J.glob several d.by.on V.unmarked;
  }

  -- the leader commits its own value
  record IsCommitted (y : Course) : Type 0 where
    pn : ℕ
    own : pn % 100 ≡ rank
    value : List Op
    by : List Bool
    major : IsMajorityOf ms.count by
    all : (j : ℕ) → has by j ≡ true → HasAccepted w j (suc (readings_of m).last) pn (text value)
    last : y.readings.last ≡ suc (readings_of m).last

  abbrev Made : Course → Type 0
  Made y = (grown w.log (after y) ≡ w.log) ⊎ IsCommitted y

  makes : Agrees w.log m d.by.state → (came : Input) → InputHolds me J.g came → InputMatches w.log came → (y : Course) → react me (shared_entries m) d.by.at (readings_of m) d.by.state came ≡ Ok y → Made y
  makes (inr T) came h t y is =
      let marked = copy_marked w.log m d.by.state T in
      inl (nothing_new (after y) y.state (event w.log O.short O.values me several d.by.at m d.by.state (inr T) came t
      (record { situated = λ u. absurd (false≢true (sym u ∙ marked)); stands = λ u. absurd (false≢true (sym u ∙ marked)) }) y is).0)
  makes (inl V) (input.Deliver e) h t y is = by e.body refl
    where
      holds : (b : Body) → e.body ≡ b → BodyHolds J.g e.from rank e.epoch b
      holds b q = subst (BodyHolds J.g e.from rank e.epoch) q h.1.body

      other : (b : Body) → e.body ≡ b → BodyStands w.log me (readings_of m) d.by.state e.from b → Made y
      other b q stands = inl (nothing_new (after y) y.state (event w.log O.short O.values me several d.by.at m d.by.state (inl V) (input.Deliver e) t
          (record { situated = λ u. situated V; stands = λ u. subst (BodyStands w.log me (readings_of m) d.by.state e.from) (sym q) stands }) y is).0)

      own : (d.by.state.phase ≡ phase.Previous) ⊎ (d.by.state.phase ≡ phase.Updating) → d.by.state.leader.pn % 100 ≡ rank
      own (inl p) = let k = subst (InPhase ms.count J.g rank (core_of (own_of (readings_of m)) d.by.state)) p d.by.on in (k.0).own
      own (inr p) = let k = subst (InPhase ms.count J.g rank (core_of (own_of (readings_of m)) d.by.state)) p d.by.on in (k.0).own

      -- an ACCEPT
      commits : (pn v : ℕ) → BodyHolds J.g e.from rank e.epoch (body.Accept pn v) → Commits me d.by.at e.from e.epoch pn v (at_rest (readings_of m) d.by.state) y → IsCommitted y
      commits pn v B R =
          let C : Completed me J.g (readings_of m) d.by.state J.glob several d.by.on e.from = accept_completes me J.g (readings_of m) d.by.state J.glob several d.by.on e.from pn v B.1 R.in_phase R.number R.next B.2 R.whole in
          let K = C.chosen in record {
            pn = d.by.state.leader.pn;
            own = own R.in_phase;
            value = C.x;
            by = K.by;
            major = record { below = K.below; major = K.major };
            all = λ j k. subst (λ (p : ℕ). HasAccepted w j (suc (readings_of m).last) p (text C.x)) C.number (J.triples.kept j (suc (readings_of m).last) K.pn C.x (K.all j k));
            last = R.last;
          }

      rests : (pn v : ℕ) → Rests me d.by.at e.from e.epoch pn v (at_rest (readings_of m) d.by.state) y → Made y
      rests pn v R =
          let same_store : after y ≡ m = ap (λ (cs : List Change). written m (record y { changes = cs })) R.changes ∙ apply-joined [] m in
          inl (subst (λ (z : Store). grown w.log z ≡ w.log) (sym same_store) (nothing_new m d.by.state (inl V)))

      accept : (pn v : ℕ) → BodyHolds J.g e.from rank e.epoch (body.Accept pn v) → RestsOrCommits me d.by.at e.from e.epoch pn v (at_rest (readings_of m) d.by.state) y → Made y
      accept pn v B (inl R) = rests pn v R
      accept pn v B (inr R) = inr (commits pn v B R)

      by : (b : Body) → e.body ≡ b → Made y
      by (body.Accept pn v) q = accept pn v (holds (body.Accept pn v) q)
          (subst (Then (RestsOrCommits me d.by.at e.from e.epoch pn v (at_rest (readings_of m) d.by.state))) is (accept_reacts me (shared_entries m) d.by.at (readings_of m) d.by.state e pn v q)).holds
      by body.Ack q = other body.Ack q (ack_others me J.g (readings_of m) d.by.state J.glob several d.by.on e.from h.0)
      by (body.Last pn first last whole from values told) q =
          other (body.Last pn first last whole from values told) q
          (last_follows me J.g (readings_of m) d.by.state J.glob (readings_of m).record_of (J.mine rank).disk V.unmarked e.from e.epoch pn last from whole values told (holds (body.Last pn first last whole from values told) q))
      by (body.GetChunk cookie p) q =
          other (body.GetChunk cookie p) q (place_reached me J.g (readings_of m) d.by.state J.glob (readings_of m).record_of (J.mine rank).disk V.unmarked p.version (holds (body.GetChunk cookie p) q))
      by b q = other b q tt
  makes (inl V) came h t y is =
      inl (nothing_new (after y) y.state (event w.log O.short O.values me several d.by.at m d.by.state (inl V) came t (record { situated = λ u. situated V; stands = λ u. tt }) y is).0)

  -- ---- the world after it

  made : Made d.y
  made = makes (standing ms w asked J O several d) d.by.came d.by.holds (input_tells w.log rank d.by.came d.by.told) d.y d.is

  read : readings_of (after d.y) ≡ d.y.readings
  read = same w.store w.state w.transactions w.messages w.active asked me J d.by.at d.by.state d.by.came d.by.on d.by.fits d.by.holds (d.by.fine (shares w.store w.state w.transactions w.messages w.active asked me J d.by.at)) d.y d.is

  clear : (readings_of (after d.y)).marked ≡ true → (readings_of (after d.y)).last ≡ 0
  clear t = let G = good ms w asked J O several d in ap (λ (r : Readings). r.last) read ∙ (G.disk.kept.clear (sym (ap (λ (r : Readings). r.marked) read) ∙ t)).0

  abbrev txs : ℕ → List (List Op)
  txs = put_at w.transactions rank (w.transactions rank ++ joined (encoded d.y.changes) ∷ [])

  abbrev stores : ℕ → Store
  stores = put_at w.store rank (after d.y)

  -- what is new in the log is its own
  module _ (few : GrowsByOne w.log (grown w.log (after d.y))) (within : (readings_of m).last ≤ length w.log) (C : IsCommitted d.y) where
    last_is : last_of (after d.y) ≡ suc (readings_of m).last
    last_is = sym (last_read (after d.y)) ∙ ap (λ (r : Readings). r.last) read ∙ C.last

    longer : length (grown w.log (after d.y)) ≤ suc (length w.log)
    longer = elim few [ inl e ↦ (let l = ap length e in omega arith) | inr e ↦ (let l = ap length e.1 in let k = length_push w.log e.0 in omega arith) ]

    level : suc (readings_of m).last ≤ level_in (own_of (readings_of (after d.y)))
    level = by (readings_of (after d.y)).marked refl
      where
        by : (b : Bool) → (readings_of (after d.y)).marked ≡ b → suc (readings_of m).last ≤ level_in (own_of (readings_of (after d.y)))
        by false u = let e = level_is (own_of (readings_of (after d.y))) u in let a = last_is in let r = last_read (after d.y) in omega arith
        by true u = let z = clear u in let a = last_is in let r = last_read (after d.y) in absurd (omega arith)

    own_level : suc (readings_of m).last ≤ level_in (own_of (readings_of (stores (C.pn % 100))))
    own_level = subst (λ (k : ℕ). suc (readings_of m).last ≤ level_in (own_of (readings_of (stores k)))) (sym C.own) (let k = eq-eqb rank rank refl in rw k level)

    new_entry : (v : ℕ) → v < length (grown w.log (after d.y)) → (v < length w.log) ⊎ IsOwned ms.count txs stores (suc v)
    new_entry v lt = elim (cases_lt v (length w.log)) [
      | inl old ↦ inl old
      | inr new ↦ elim (cases_lt (readings_of m).last (length w.log)) [
        | inl less ↦ inl (let e = ap length (grown_same w.log (after d.y) (let a = last_is in omega arith)) in omega arith)
        | inr whole ↦ inr (
            let is : v ≡ (readings_of m).last = (let l = longer in omega arith) in
            subst (λ (k : ℕ). IsOwned ms.count txs stores (suc k)) (sym is) (record {
              pn = C.pn;
              bytes = text C.value;
              by = C.by;
              major = C.major;
              all = λ j k. accepted_keeps w.transactions rank (joined (encoded d.y.changes)) j (suc (readings_of m).last) C.pn (text C.value) (C.all j k);
              level = own_level;
            }))
      ]
    ]

  new_then : GrowsByOne w.log (grown w.log (after d.y)) → (v : ℕ) → v < length (grown w.log (after d.y)) → (v < length w.log) ⊎ IsOwned ms.count txs stores (suc v)
  new_then few v lt = elim made [
    | inl e ↦ inl (let l = ap length e in omega arith)
    | inr C ↦ new_entry few (within_now (standing ms w asked J O several d)) C v lt
  ]
    where
      within_now : Agrees w.log m d.by.state → (readings_of m).last ≤ length w.log
      within_now (inl V) = let h = V.versions in let l = h.within in omega (arith, read_last w.log O.short O.values V.last m h)
      within_now (inr T) = let t = copy_marked w.log m d.by.state T in let z = ((J.mine rank).disk.kept.clear t).0 in omega arith

  adds_on : (p : Plain) → GrowsByOne w.log (moved w p rank (reaction_of d.y)).log → Adds ms.count w (moved w p rank (reaction_of d.y))
  unfolding moved
  adds_on p few = record { accepted = λ j v pn bytes a. accepted_keeps w.transactions rank (joined (encoded d.y.changes)) j v pn bytes a; new = new_then few }

  adds_down : (p : Plain) → GrowsByOne w.log (kept_only w p rank (reaction_of d.y)).log → Adds ms.count w (kept_only w p rank (reaction_of d.y))
  unfolding kept_only
  adds_down p few = record { accepted = λ j v pn bytes a. accepted_keeps w.transactions rank (joined (encoded d.y.changes)) j v pn bytes a; new = new_then few }

-- ---- every event

module _ (ms : Monitors) (several : 1 < ms.count) (w : World) (p : Plain) (J : InvWith ms w (with_asked p w.asked)) (O : OfLog ms w (with_asked p w.asked) J) where
  abbrev F : Keeps ms w (EnvelopeMatches w.log) p J (Follows ms w)
  F = all_follow ms (λ i lt. several) w p J O

  nothing_adds : Adds ms.count w (unmoved w p)
  unfolding unmoved
  nothing_adds = record { accepted = λ j v pn bytes a. a; new = λ v lt. inl lt }

  lost_adds : (i : ℕ) → Adds ms.count w (lost w p i)
  unfolding lost
  lost_adds i = record { accepted = λ j v pn bytes a. a; new = λ v lt. inl lt }

  all_add : Keeps ms w (EnvelopeMatches w.log) p J (Adds ms.count w)
  all_add = record {
    nothing = nothing_adds;
    loses = λ i lt. lost_adds i;
    goes_on = λ d. adds_on ms w (with_asked p w.asked) J O several d p (F.goes_on d).1;
    goes_down = λ d. adds_down ms w (with_asked p w.asked) J O several d p (F.goes_down d).1;
  }

module _ (ms : Monitors) (several : 1 < ms.count) where
  abbrev pub Owns : World → Type 0
  Owns w = LogHolds ms w × AllOwned ms.count w

  follows : (w : World) (e : Event) → PlainFits ms.count (plain_of e) → Owns w → IfOk (happens ms w e) (λ next. Owns next × GrowsByOne w.log next.log)
  follows w e F h = by (happens ms w e) logs news (event_holds ms w e F (h.0).0)
    where
      logs : IfOk (happens ms w e) (Follows ms w)
      logs = let H = h.0 in each_event ms w (EnvelopeMatches w.log) H.0 (Follows ms w) H.1.sent e F (λ J up. all_follow ms (λ i lt. several) w (plain_of e) J (asking ms w (plain_of e) H.0 H.1 J))

      news : IfOk (happens ms w e) (Adds ms.count w)
      news = let H = h.0 in each_event ms w (EnvelopeMatches w.log) H.0 (Adds ms.count w) H.1.sent e F (λ J up. all_add ms several w (plain_of e) J (asking ms w (plain_of e) H.0 H.1 J))

      still : (next : World) → Adds ms.count w next → Later w next → AllOwned ms.count next
      still next A L v lt = elim (A.new v lt) [
        | inr new ↦ new
        | inl old ↦ (let I = h.1 v old in record {
          pn = I.pn;
          bytes = I.bytes;
          by = I.by;
          major = I.major;
          all = λ m k. A.accepted m (suc v) I.pn I.bytes (I.all m k);
          level = (let l = (L.each (I.pn % 100)).level in let k = I.level in omega arith);
        })
      ]

      by : (r : Result World Stop) → IfOk r (Follows ms w) → IfOk r (Adds ms.count w) → IfOk r (After ms w w.asked (h.0).0) → IfOk r (λ next. Owns next × GrowsByOne w.log next.log)
      by (Ok next) a b c = ((a.0, still next b c.2), a.1)
      by (Err stop) a b c = tt

  pub owned : (events : List Event) → AllFit ms.count events → Owns (run ms events)
  owned events F = runs_hold ms Owns follows first_world events F (at_first ms, λ v lt. absurd (omega arith))

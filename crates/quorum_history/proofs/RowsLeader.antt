-- The rows of a leader keep what holds.
use Rattle.law_names.proofs.Table.{AllByRecursion, Course, Found, Me, Op, Phase, Told, all_accepted, all_answered, better, collect, commit_any, counts, epoch_of, extend, has, hear_accept, hear_last, hear_lease_ack, hear_whole, leader_is, learn, most_value, news, news_from, note, note_pending, of_member, reach, renew, same_phase, text, value, with_rank, ◌▸◌}
use Rattle.mon_msg.specs.Protocol.Found.{is_newer}
use Rattle.mon_msg.specs.Protocol.Leader.{note_answer}
use Rattle.mon_types.specs.declared.names.Which.TheVariants as which
use Rattle.mon_wire.specs.declared.body.Body.TheVariants as body
use Rattle.mon_wire.specs.declared.phase.Phase.TheVariants as phase
use Rattle.quorum_history.proofs.ActsElections.{bootstrap_holds}
use Rattle.quorum_history.proofs.ActsLeading.{ClosesIn, all_followed, closes_repeating, closes_updating, collect_holds, commit_holds, leads_left, settle_holds, sound}
use Rattle.quorum_history.proofs.Frame.{accepted_below, accepted_lasts, heard_lasts, joined_lasts, reigns_last}
use Rattle.quorum_history.proofs.History.{ALevel, APromise, Accepted, Ext, Ghost, Glob, Had, Joined, had_lasts}
use Rattle.quorum_history.proofs.Holds.{Answers, At, Core, FoundCovers, Gathers, GathersIn, Good, Heard, InPhase, IsFound, Nowhere, Proposes, ProposesIn, RepeatsIn, UpdatesIn, core, core_of, epoch_in}
use Rattle.quorum_history.proofs.Learned.{learn_then, learned_at}
use Rattle.quorum_history.proofs.Numbers.{level_is, with_last}
use Rattle.quorum_history.proofs.Phases.{active_is, as_known, collecting_is, in_known, no}
use Rattle.quorum_history.proofs.Steps.{tells_each, weaken}
use Rattle.quorum_walk.proofs.FineCourses.{ToldFine, Val}
use Rattle.quorum_walk.proofs.FineReading.{all_spare}
use Rattle.quorum_walk.proofs.Lists.{all_drop}
use Rattle.quorum_walk.proofs.Ranks.{has_with_is}
use Rattle.quorum_walk.proofs.Sparing.{learned_own, own_of}
use Rattle.quorum_walk.proofs.Walk.{Then, and_then, and_three, both_then, by_test, done, where_fits}
use Rattle.std.proofs.Common.{Bool, IfSome, List, None, Ok, Option, Some, [], ap, arith, cond, eqb, false, if◌then◌else◌, inl, inr, length, length-drop, ltb, not, refl, subst, suc, sym, true, ℕ, ◌%◌, ◌&&◌, ◌+◌, ◌-◌, ◌<◌, ◌||◌, ◌∙◌, ◌∷◌, ◌≡◌, ◌≤◌, ◌⊎◌}
use Rattle.std.proofs.lemmas.Bool.{and_cases, and_parts, cases_eq, cases_lt, cond_both, eqb-false, eqb-true, le-leb, ltb-false, ltb-true, not-false, or_cases, or_parts}

-- ---- what is found

better_keeps : (found : Option Found) (new : Found) (v r : ℕ) → FoundCovers found v r → FoundCovers (better found new) v r
better_keeps None new v r c = absurd c
better_keeps (Some f) new v r c = by (is_newer new.version new.pn (Some f)) refl
  where
    by : (b : Bool) → is_newer new.version new.pn (Some f) ≡ b → FoundCovers (cond b (Some new) (Some f)) v r
    by false t = c
    by true t = elim (or_cases (ltb f.version new.version) (eqb new.version f.version && ltb f.pn new.pn) t) [
      | inl a ↦ (let lt = ltb-true f.version new.version a in elim c [ inl s ↦ inl (omega arith) | inr s ↦ inl (let e = s.0 in omega arith) ])
      | inr a ↦ (
          let b = and_parts (eqb new.version f.version) (ltb f.pn new.pn) a in
          let e = eqb-true new.version f.version b.0 in
          let lt = ltb-true f.pn new.pn b.1 in
          elim c [ inl s ↦ inl (omega arith) | inr s ↦ inr (let q = s.0 in omega arith, let le = s.1 in omega arith) ]
          )
    ]

better_has : (found : Option Found) (new : Found) (v r : ℕ) → FoundCovers (Some new) v r → FoundCovers (better found new) v r
better_has None new v r c = c
better_has (Some f) new v r c = by (is_newer new.version new.pn (Some f)) refl
  where
    by : (b : Bool) → is_newer new.version new.pn (Some f) ≡ b → FoundCovers (cond b (Some new) (Some f)) v r
    by true t = c
    by false t =
        let o = or_parts (ltb f.version new.version) (eqb new.version f.version && ltb f.pn new.pn) t in
        let ge = ltb-false f.version new.version o.0 in
        elim (cases_eq new.version f.version) [
          | inl e ↦ (
              let le = ltb-false f.pn new.pn (elim (and_cases (eqb new.version f.version) (ltb f.pn new.pn) o.1) [ inl a ↦ (absurd (eqb-false new.version f.version a e)) | inr a ↦ a ]) in
              elim c [ inl s ↦ inl (omega arith) | inr s ↦ inr (let q = s.0 in omega arith, let l = s.1 in omega arith) ]
              )
          | inr ne ↦ elim c [ inl s ↦ inl (omega arith) | inr s ↦ inl (let q = s.0 in omega arith) ]
        ]

better_found : (g : Ghost) (q : List Bool) (last pn : ℕ) (found : Option Found) (new : Found) → IfSome found (IsFound g q last pn) → IsFound g q last pn new → IfSome (better found new) (IsFound g q last pn)
better_found g q last pn found new k m = cond_both (is_newer new.version new.pn found) (Some new) found (λ (o : Option Found). IfSome o (IsFound g q last pn)) (λ _. m) (λ _. k)

-- a pending value that was accepted is short enough to count
counted : (told : Option Told) → IfSome told (λ t. Val t.value) → counts told ≡ told
counted None k = refl
counted (Some t) k = rw (le-leb (length (text t.value)) most_value k.short) refl

module _ (me : Me) (now : ℕ) (g : Ghost) (Known : ℕ → List Op → Type 0) where
  abbrev n : ℕ
  n = me.member.monitors

  abbrev i : ℕ
  i = me.member.rank

  abbrev Gathering : Course → Type 0
  Gathering x = At me g Known (λ h. GathersIn h i (core x)) x

  -- ---- an answer

  -- a leader that collects, whose last version reaches this one
  abbrev Reaching : (reach : ℕ) → Course → Type 0
  Reaching reach x = Gathering x × (x.state.phase ≡ phase.Collecting) × (reach ≤ x.readings.last)

  -- the leader still collects once it learned more versions
  gathers_more : (h k : Ghost) (E : Ext i h k) (c : Core) (last : ℕ) → c.own.last ≤ last → ((v p : ℕ) (y : List Op) → Accepted k i v p y → Accepted h i v p y) → GathersIn h i c → GathersIn k i (record c { own = with_last last c.own })
  gathers_more h k E c last le same K = (
    record {
      reigns = reigns_last i h k E i (epoch_in c.own) c.own.marked c.quorum c.queue K.0.reigns;
      made = K.0.made;
      promised = K.0.promised;
      own = K.0.own;
      heard = λ f a. let t = heard_lasts i h k E i (epoch_in c.own) c.pn c.own.last f (FoundCovers c.found) (FoundCovers c.found) (λ v r l. l) (K.0.heard f a) in record {
        joined = t.joined;
        promised = t.promised;
        covers = λ v r x b lt. elim (t.covers v r x b lt) [ inl s ↦ inl (omega arith) | inr l ↦ inr l ];
      };
    },
    record { fresh = λ v x a. K.1.fresh v x (same v c.pn x a); found = still c.found K.1.found },
  )
    where
      still : (found : Option Found) → IfSome found (IsFound h c.quorum c.own.last c.pn) → IfSome found (IsFound k c.quorum last c.pn)
      still None z = tt
      still (Some f) z = record { next = let s = z.next in omega arith; low = z.low; by = z.by; member = z.member; was = accepted_lasts i h k E z.by f.version f.pn f.value z.was }

  learns_answer : (base : ℕ) (from : ℕ) (values : List (List Op)) (x : Course) → from ≡ suc base → Had g ALevel i base → AllByRecursion Val values → Gathering x → x.state.phase ≡ phase.Collecting
      → Then (Reaching (base + length values)) (learn (news_from x.readings.last from) (news x.readings.last from values) x)
  learns_answer base from values x at behind V A e =
      let own = x.readings.last in
      let u = A.fact.0.reigns.unmarked in
      let known = A.disk.numbers.top ALevel base (had_lasts A.ext ALevel i base behind) in
      let level = level_is (own_of x.readings) u in
      let le : base ≤ own = omega arith in
      let new = news own from values in
      let long = length-drop (suc own - from) values in
      learn_then (Reaching (base + length values)) (news_from own from) new x
      (λ none. (A, e, let z = ap length none in omega (arith, long)))
      (λ last is ge. (
        learned_at me g Known (λ h. GathersIn h i (core x)) (λ o h. GathersIn h i (core_of o x.state)) (news_from own from) new last x (all_drop Val (suc own - from) values V) u (omega arith) A
            (λ h k X E D p level same hands. gathers_more h k E (core x) last (omega arith) (same i) p),
        e,
        omega (arith, long),
      ))

  -- f answered under this number, and gave its last version
  abbrev HeardNow : Ghost → Course → (f last : ℕ) → Option Told → Type 0
  HeardNow h x f last told = Joined h f (epoch_of x.readings) i × Had h APromise f x.state.leader.pn
      × ((v r : ℕ) (y : List Op) → Accepted h f v r y → r < x.state.leader.pn → (v ≤ last) ⊎ ((v ≡ suc last) × (t : Told) × (told ≡ Some t) × (r ≤ t.pn)))

  noted : (f last : ℕ) (found : Option Found) (x : Course) → ((h : Ghost) → Ext i g h → Glob n h → GathersIn h i (core x) → Heard h i (epoch_of x.readings) x.state.leader.pn x.readings.last (FoundCovers found) f × IfSome found (IsFound h x.state.leader.quorum x.readings.last x.state.leader.pn)
      × ((v r : ℕ) → FoundCovers x.state.leader.found v r → FoundCovers found v r)) → Gathering x → x.state.phase ≡ phase.Collecting → Reaching 0 (note_answer f last found x)
  noted f last found x new A e = (
    weaken _ _ A (λ h E G D p.
        let N = new h E G p in
        let c = core x in
        let leads = leads_left h i c (FoundCovers c.found) (FoundCovers found) (λ v r l. inr (N.2 v r l)) p.0 in (
          record {
            reigns = leads.reigns;
            made = leads.made;
            promised = leads.promised;
            own = leads.own;
            heard = λ m a. elim (has_with_is x.state.leader.answered f m a) [ inl q ↦ subst (Heard h i (epoch_of x.readings) x.state.leader.pn x.readings.last (FoundCovers found)) (sym q) N.0 | inr k ↦ leads.heard m k ];
          },
          record { fresh = p.1.fresh; found = N.1 },
        )),
    e,
    omega arith,
  )

  note_holds : (f last : ℕ) (told : Option Told) (x : Course) → has x.state.leader.quorum f ≡ true → last ≤ x.readings.last → IfSome told (λ t. Val t.value)
      → ((h : Ghost) → Ext i g h → HeardNow h x f last told × IfSome told (λ t. (t.pn ≤ x.state.leader.pn) × Accepted h f (suc last) t.pn t.value)) → Gathering x → x.state.phase ≡ phase.Collecting → Then (Reaching 0) (note f last told x)
  note_holds f last told x member le V new A e = subst (λ (t : Option Told). Then (Reaching 0) (note_pending f last t x)) (sym (counted told V)) (by told new)
    where
      by : (t : Option Told) → ((h : Ghost) → Ext i g h → HeardNow h x f last t × IfSome t (λ t. (t.pn ≤ x.state.leader.pn) × Accepted h f (suc last) t.pn t.value)) → Then (Reaching 0) (note_pending f last t x)
      by None new = done (noted f last x.state.leader.found x (λ h E G p. let N = new h E in
          (record { joined = N.0.0; promised = N.0.1; covers = λ v r y a lt. elim (N.0.2 v r y a lt) [ inl s ↦ inl (omega arith) | inr c ↦ absurd (let q = c.2 in cc) ] }, p.1.found, λ v r l. l)) A e)
      by (Some t) new = where_fits (Reaching 0) which.Version (suc last) _ (λ _.
          let f2 : Found = record { version = suc last; pn = t.pn; value = t.value } in
          done (noted f last (better x.state.leader.found f2) x (λ h E G p.
          let N = new h E in
          let low : t.pn < x.state.leader.pn = below h G p.0.own p.1 (suc last) t N.1.0 N.1.1 (cases_lt t.pn x.state.leader.pn) in
          let is_new : IsFound h x.state.leader.quorum x.readings.last x.state.leader.pn f2 = record { next = omega arith; low = low; by = f; member = member; was = N.1.1 } in (
            record {
              joined = N.0.0;
              promised = N.0.1;
              covers = λ v r y a lt. elim (N.0.2 v r y a lt) [
                | inl s ↦ inl (omega arith)
                | inr c ↦ inr (better_has x.state.leader.found f2 v r (inr (c.0, let q = c.2 in let z : t ≡ c.1 = cc in let w = ap (λ (s : Told). s.pn) z in let b = c.3 in omega arith)))
              ];
            },
            better_found h x.state.leader.quorum x.readings.last x.state.leader.pn x.state.leader.found f2 p.1.found is_new,
            better_keeps x.state.leader.found f2,
          )) A e))
        where
          below : (h : Ghost) → Glob n h → x.state.leader.pn % 100 ≡ i → Gathers h i x.state.leader.quorum x.state.leader.pn x.readings.last x.state.leader.found → (v : ℕ) (t : Told) → t.pn ≤ x.state.leader.pn → Accepted h f v t.pn t.value → (t.pn < x.state.leader.pn) ⊎ (x.state.leader.pn ≤ t.pn) → t.pn < x.state.leader.pn
          below h G own K v t le a (inl lt) = lt
          below h G own K v t le a (inr ge) =
              let same : t.pn ≡ x.state.leader.pn = omega arith in
              let b : Accepted h f v x.state.leader.pn t.value = subst (λ (z : ℕ). Accepted h f v z t.value) same a in
              absurd (K.fresh v t.value (subst (λ (z : ℕ). Accepted h z v x.state.leader.pn t.value) own (G.triples.owner f v x.state.leader.pn t.value b)))

  collects_again : (above : ℕ) (x : Course) → Gathering x → Then (Good me g Known) (collect me now x.state.leader.quorum above x)
  collects_again above x A = collect_holds me now g Known x.state.leader.quorum above x (weaken _ _ A (λ h E G D p. p.0.reigns))

  hear_whole_holds : (f last : ℕ) (told : Option Told) (x : Course) → has x.state.leader.quorum f ≡ true → last ≤ x.readings.last → IfSome told (λ t. Val t.value)
      → ((h : Ghost) → Ext i g h → HeardNow h x f last told × IfSome told (λ t. (t.pn ≤ x.state.leader.pn) × Accepted h f (suc last) t.pn t.value)) → Gathering x → x.state.phase ≡ phase.Collecting → Then (Good me g Known) (hear_whole me now f last told x)
  hear_whole_holds f last told x member le V new A e = and_then (Reaching 0) (Good me g Known) (note f last told x) _ (note_holds f last told x member le V new A e) (λ y B.
      by_test (all_answered me y)
      (λ all. settle_holds me now g Known y B.0.fact.0.reigns.unmarked (weaken _ _ B.0 (λ h E G D p. record { leads = p.0; all = all; gathers = p.1 })))
      (λ _. done (as_known me g Known y phase.Collecting B.1 B.0)))

  -- what learning leaves
  abbrev SameLeader : Course → Course → Type 0
  SameLeader x y = (y.state.leader.pn ≡ x.state.leader.pn) × (epoch_of y.readings ≡ epoch_of x.readings) × (y.state.leader.quorum ≡ x.state.leader.quorum)

  told_values_fine : (told : Option Told) → ToldFine told → IfSome told (λ t. Val t.value)
  told_values_fine None k = tt
  told_values_fine (Some t) k = k

  learned_same : (v : ℕ) (values : List (List Op)) (x : Course) → AllByRecursion Val values → Then (SameLeader x) (learn v values x)
  learned_same v values x V = learn_then (SameLeader x) v values x (λ _. (refl, refl, refl)) (λ last is le. (refl, ap epoch_in (learned_own v values x.readings (all_spare values V)), refl))

  pub hear_last_holds : (f e : ℕ) (pn first last : ℕ) (whole : Bool) (from : ℕ) (values : List (List Op)) (told : Option Told) (x : Course) → AllByRecursion Val values × ToldFine told → Answers g f i e pn last whole from values told → Good me g Known x
      → Then (Good me g Known) (hear_last me now f e pn first last whole from values told x)
  unfolding hear_last
  hear_last_holds f e pn first last whole from values told x V K A =
      let own = x.readings.last in
      by_test (not (of_member (phase.Collecting ∷ []) f e x)) (λ _. done A) (λ heard.
      let t = and_three (same_phase x.state.phase phase.Collecting || false) (eqb e (epoch_of x.readings)) (has x.state.leader.quorum f) (not-false _ heard) in
      let c = collecting_is x.state.phase t.0 in
      let B : Gathering x = in_known me g Known x phase.Collecting c A in
      by_test (ltb x.state.leader.pn pn) (λ _. collects_again pn x B) (λ low.
      by_test (ltb pn x.state.leader.pn) (λ _. done A) (λ high.
      by_test (ltb (suc own) first && ltb own last) (λ _. bootstrap_holds me now g Known x (sound me g Known _ x A)) (λ _.
      let a = ltb-false x.state.leader.pn pn low in
      let b = ltb-false pn x.state.leader.pn high in
      let same : pn ≡ x.state.leader.pn = omega arith in
      and_then (λ y. Reaching (K.base + length values) y × SameLeader x y) (Good me g Known) (learn (news_from own from) (news own from values) x) _
      (both_then (Reaching (K.base + length values)) (SameLeader x) (learn (news_from own from) (news own from values) x) (learns_answer K.base from values x K.from K.behind V.0 B c)
      (learned_same (news_from own from) (news own from values) x (all_drop Val (suc own - from) values V.0))) (λ y C.
      by_test whole
      (λ w. hear_whole_holds f last told y (subst (λ (q : List Bool). has q f ≡ true) (sym C.1.2) t.2) (let r = K.reaches w in let s = C.0.2 in omega arith) (told_values_fine told V.1)
      (λ h E. heard_now f e pn last whole from values told x y K w (eqb-true e (epoch_of x.readings) t.1) same C.1 h E) C.0.0 C.0.1)
      (λ _. collects_again 0 y C.0.0))))))
    where
      heard_now : (f e pn last : ℕ) (whole : Bool) (from : ℕ) (values : List (List Op)) (told : Option Told) (x y : Course) → Answers g f i e pn last whole from values told → whole ≡ true → e ≡ epoch_of x.readings → pn ≡ x.state.leader.pn → SameLeader x y → (h : Ghost) → Ext i g h
          → HeardNow h y f last told × IfSome told (λ t. (t.pn ≤ y.state.leader.pn) × Accepted h f (suc last) t.pn t.value)
      heard_now f e pn last whole from values told x y K w at same S h E =
          let q : pn ≡ y.state.leader.pn = same ∙ sym S.0 in
          let promised : Had h APromise f y.state.leader.pn = subst (λ (z : ℕ). Had h APromise f z) q (had_lasts E APromise f pn K.promised) in
          let joined : Joined h f (epoch_of y.readings) i = subst (λ (z : ℕ). Joined h f z i) (at ∙ sym S.1) (joined_lasts i g h E f e i K.joined) in
          ((joined, promised, λ v r z a lt. K.covers w v r z (accepted_below i g h E f v r pn z K.promised (let s = q in omega arith) a) (let s = q in omega arith)), tells told K.told q)
        where
          tells : (t : Option Told) → IfSome t (λ t. (whole ≡ true) × (t.pn ≤ pn) × Accepted g f (suc last) t.pn t.value) → pn ≡ y.state.leader.pn → IfSome t (λ t. (t.pn ≤ y.state.leader.pn) × Accepted h f (suc last) t.pn t.value)
          tells None k q = tt
          tells (Some t) k q = (let s = k.1 in omega arith, accepted_lasts i g h E f (suc last) t.pn t.value k.2)

  -- ---- an acceptance

  begun_is : (p : Phase) → (same_phase p phase.Previous || (same_phase p phase.Updating || false)) ≡ true → (p ≡ phase.Previous) ⊎ (p ≡ phase.Updating)
  begun_is phase.Previous t = inl refl
  begun_is phase.Updating t = inr refl
  begun_is other t = no t

  counts_too : (h : Ghost) (c : Core) (f : ℕ) (y : List Op) → Glob n h → Accepted h f (suc c.own.last) c.pn y → ProposesIn h i c → Proposes h i c.pn c.own.last c.value (with_rank c.accepted f)
  counts_too h c f y G a P = record {
    x = P.x;
    is = P.is;
    was = P.was;
    most = P.most;
    counted = λ m b. elim (has_with_is c.accepted f m b) [
      | inl e ↦ subst (λ (z : ℕ). Accepted h z (suc c.own.last) c.pn P.x) (sym e) (subst (λ (z : List Op). Accepted h f (suc c.own.last) c.pn z) (G.triples.one f i (suc c.own.last) c.pn y P.x a P.was) a)
      | inr k ↦ P.counted m k
    ];
  }

  commits : (value : Option (List Op)) (x : Course) → IfSome value Val → x.readings.marked ≡ false → Good me g Known x → At me g Known (λ h. ClosesIn n h i (core x)) x → Then (Good me g Known) (commit_any me now value x)
  commits None x V u A B = done A
  commits (Some value) x V u A B = commit_holds me now g Known value x V u B

  abbrev with_accepted : ℕ → Course → Course
  with_accepted f x = x ▸ leader_is (record x.state.leader { accepted = with_rank x.state.leader.accepted f })

  some_value : (value : Option (List Op)) (x : List Op) → value ≡ Some x → Val x → IfSome value Val
  some_value value x e V = subst (λ (o : Option (List Op)). IfSome o Val) (sym e) V

  accepted_by : (f e : ℕ) (pn v : ℕ) (value : List Op) (x : Course) → Accepted g f v pn value → pn ≡ x.state.leader.pn → v ≡ suc x.readings.last → (x.state.phase ≡ phase.Previous) ⊎ (x.state.phase ≡ phase.Updating) → Good me g Known x
      → Then (Good me g Known) (if all_accepted me (with_accepted f x) then commit_any me now x.state.leader.value (with_accepted f x) else Ok (with_accepted f x))
  accepted_by f e pn v value x K a b (inl p) A =
      let y = with_accepted f x in
      let B = in_known me g Known x phase.Previous p A in
      let C : At me g Known (λ h. RepeatsIn n h i (core y)) y = weaken _ _ B (λ h E G D k. (k.0, k.1, counts_too h (core x) f value G (here h E) k.2)) in
      by_test (all_accepted me y)
      (λ _. commits x.state.leader.value y (some_value x.state.leader.value C.fact.2.x C.fact.2.is (C.glob.triples.fine i (suc x.readings.last) x.state.leader.pn C.fact.2.x C.fact.2.was)) C.fact.0.reigns.unmarked (as_known me g Known y phase.Previous p C) (weaken _ _ C (λ h E G D k. closes_repeating n h i (core y) k)))
      (λ _. done (as_known me g Known y phase.Previous p C))
    where
      here : (h : Ghost) → Ext i g h → Accepted h f (suc x.readings.last) x.state.leader.pn value
      here h E = accepted_lasts i g h E f (suc x.readings.last) x.state.leader.pn value (subst (λ (z : ℕ). Accepted g f z x.state.leader.pn value) b (subst (λ (z : ℕ). Accepted g f v z value) a K))
  accepted_by f e pn v value x K a b (inr p) A =
      let y = with_accepted f x in
      let B = in_known me g Known x phase.Updating p A in
      let C : At me g Known (λ h. UpdatesIn n h i (core y)) y = weaken _ _ B (λ h E G D k. (k.0, k.1, counts_too h (core x) f value G (here h E) k.2)) in
      by_test (all_accepted me y)
      (λ _. commits x.state.leader.value y (some_value x.state.leader.value C.fact.2.x C.fact.2.is (C.glob.triples.fine i (suc x.readings.last) x.state.leader.pn C.fact.2.x C.fact.2.was)) C.fact.0.reigns.unmarked (as_known me g Known y phase.Updating p C) (weaken _ _ C (λ h E G D k. closes_updating n h i (core y) k)))
      (λ _. done (as_known me g Known y phase.Updating p C))
    where
      here : (h : Ghost) → Ext i g h → Accepted h f (suc x.readings.last) x.state.leader.pn value
      here h E = accepted_lasts i g h E f (suc x.readings.last) x.state.leader.pn value (subst (λ (z : ℕ). Accepted g f z x.state.leader.pn value) b (subst (λ (z : ℕ). Accepted g f v z value) a K))

  pub hear_accept_holds : (f e : ℕ) (pn v : ℕ) (x : Course) → (value : List Op) → Accepted g f v pn value → Good me g Known x → Then (Good me g Known) (hear_accept me now f e pn v x)
  unfolding hear_accept
  hear_accept_holds f e pn v x value K A =
      by_test (not (of_member (phase.Previous ∷ phase.Updating ∷ []) f e x && eqb pn x.state.leader.pn && eqb v (suc x.readings.last))) (λ _. done A) (λ heard.
      let t = and_three (of_member (phase.Previous ∷ phase.Updating ∷ []) f e x) (eqb pn x.state.leader.pn) (eqb v (suc x.readings.last)) (not-false _ heard) in
      let p = begun_is x.state.phase (and_three (same_phase x.state.phase phase.Previous || (same_phase x.state.phase phase.Updating || false)) (eqb e (epoch_of x.readings)) (has x.state.leader.quorum f) t.0).0 in
      accepted_by f e pn v value x K (eqb-true pn x.state.leader.pn t.1) (eqb-true v (suc x.readings.last) t.2) p A)

  -- ---- leases

  pub hear_lease_ack_holds : (f e : ℕ) (last : ℕ) (x : Course) → Good me g Known x → Then (Good me g Known) (hear_lease_ack me f e last x)
  unfolding hear_lease_ack
  hear_lease_ack_holds f e last x A = by_test (not (of_member (phase.Active ∷ []) f e x && eqb last x.readings.last)) (λ _. done A) (λ _. done A)

  pub renew_holds : (x : Course) → Good me g Known x → Then (Good me g Known) (renew me now x)
  unfolding renew extend
  renew_holds x A = by_test (not (same_phase x.state.phase phase.Active)) (λ _. done A) (λ heard.
      let e = active_is x.state.phase (not-false _ heard) in
      done (tells_each me _ (body.Lease x.readings.last) _ A (λ h E G D p to. let k = subst (InPhase me.member.monitors h me.member.rank (core x)) e p in all_followed me now g Known h (core x) Nowhere G k.0 k.1)))

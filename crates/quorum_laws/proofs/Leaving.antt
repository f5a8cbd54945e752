-- A monitor that left the quorum of an epoch doesn't come back to it. What it does would be the same in a history in
-- which it was never there.
use Rattle.law_names.proofs.Table.{AllByRecursion, Body, Course, Input, Me, Message, Op, Phase, Readings, Request, Session, State, SyncStage, Told, Which, at_rest, epoch_of, has, hear, hear_last, hear_lease, is_heard, is_leading, is_member, is_peon, no_ranks, of_leader, of_member, pending, react, same_phase}
use Rattle.mon_msg.specs.declared.input.Input.TheVariants as input
use Rattle.mon_msg.specs.declared.synchronization.SyncStage.TheVariants as sync
use Rattle.mon_wire.specs.declared.body.Body.TheVariants as body
use Rattle.mon_wire.specs.declared.phase.Phase.TheVariants as phase
use Rattle.mon_wire.specs.declared.request.Request.TheVariants as request
use Rattle.quorum_history.proofs.History.{AnEpoch, Entered, Entry, Ghost, Glob, RolesHold, entry, ext_refl, had_lasts}
use Rattle.quorum_history.proofs.Holds.{BodyHolds, Core, Disk, Good, InPhase, StageHolds, core, core_of, epoch_in}
use Rattle.quorum_history.proofs.Phases.{collecting_is, no, peon_is_peon}
use Rattle.quorum_history.proofs.Rows.{InputHolds, react_holds}
use Rattle.quorum_history.proofs.Steps.{tied_refl}
use Rattle.quorum_walk.proofs.FineCourses.{EntryFine, Fine, Made, still}
use Rattle.quorum_walk.proofs.FineTable.{ComesFine}
use Rattle.quorum_walk.proofs.Lists.{Among}
use Rattle.quorum_walk.proofs.Sparing.{Copied, own_of}
use Rattle.quorum_walk.proofs.Walk.{Then, and_three, by_test, done, or_three}
use Rattle.std.proofs.Common.{Bool, Err, List, Ok, Option, Result, [], ap, arith, cond, eqb, false, filter, inl, inr, is_some, not, refl, sym, true, ℕ, ◌&&◌, ◌<◌, ◌||◌, ◌∙◌, ◌∷◌, ◌≡◌, ◌⊎◌}
use Rattle.std.proofs.lemmas.Bool.{cases_eq, cond_both, eq-eqb, false≢true, ne_eqb, not-false}

-- ---- lists that are filtered

among_filter : {A : Type 0} (f : A → Bool) (x : A) (xs : List A) → Among x (filter f xs) → Among x xs × (f x ≡ true)
among_filter f x [] a = absurd a
among_filter {A} f x (y ∷ ys) a = cond_both (f y) (y ∷ filter f ys) (filter f ys) (λ (zs : List A). Among x zs → Among x (y ∷ ys) × (f x ≡ true))
    (λ t b. elim b [ inl e ↦ (inl e, ap f e ∙ t) | inr o ↦ (let k = among_filter f x ys o in (inr k.0, k.1)) ]) (λ _ b. let k = among_filter f x ys b in (inr k.0, k.1)) a

among_filtered : {A : Type 0} (f : A → Bool) (x : A) (xs : List A) → f x ≡ true → Among x xs → Among x (filter f xs)
among_filtered f x [] t a = absurd a
among_filtered f x (y ∷ ys) t a = cond_both (f y) (y ∷ filter f ys) (filter f ys) (Among x)
    (λ _. elim a [ inl e ↦ inl e | inr o ↦ inr (among_filtered f x ys t o) ])
    (λ u. elim a [ inl e ↦ absurd (false≢true (sym u ∙ ap f (sym e) ∙ t)) | inr o ↦ among_filtered f x ys t o ])

-- a fact of a result implies a weaker one
then_so : {A : Type 0} (P Q : A → Type 0) → ((x : A) → P x → Q x) → (r : Result A Which) → Then P r → Then Q r
then_so P Q f (Ok x) p = done (f x p.holds)
then_so P Q f (Err e) p = record { holds = tt }

-- ---- the quorum of a phase

pub member_in : (n i : ℕ) (g : Ghost) (c : Core) (p : Phase) → is_member p ≡ true → InPhase n g i c p → Entered g i (epoch_in c.own) (cond (is_peon p) c.leader i) (cond (is_peon p) c.members (cond (is_leading p) c.quorum no_ranks))
member_in n i g c phase.Collecting t k = k.0.reigns.role
member_in n i g c phase.Previous t k = k.0.reigns.role
member_in n i g c phase.Active t k = k.0.reigns.role
member_in n i g c phase.Updating t k = k.0.reigns.role
member_in n i g c phase.Peon t k = k.role
member_in n i g c phase.Booting t k = no t
member_in n i g c phase.Probing t k = no t
member_in n i g c phase.Synchronizing t k = no t
member_in n i g c phase.Electing t k = no t

-- ---- a history in which a monitor and its followers didn't enter an epoch

module _ (n i e : ℕ) (g : Ghost) where
  -- neither i's own entry nor one under it
  abbrev is_other : Entry → Bool
  is_other r = not (eqb r.e e && (eqb r.i i || eqb r.l i))

  abbrev less : Ghost
  less = record g { roles = filter is_other g.roles }

  was : (j f l : ℕ) (q : List Bool) → Entered less j f l q → Entered g j f l q
  was j f l q a = (among_filter is_other (entry j f l q) g.roles a).0

  stays : (j f l : ℕ) (q : List Bool) → is_other (entry j f l q) ≡ true → Entered g j f l q → Entered less j f l q
  stays j f l q t a = among_filtered is_other (entry j f l q) g.roles t a

  leads : (a b c : Bool) → not (a && (b || c)) ≡ true → not (a && (c || c)) ≡ true
  leads false b c t = refl
  leads true false false t = refl
  leads true false true t = no t
  leads true true c t = no t

  roles_less : RolesHold n g.roles → RolesHold n less.roles
  roles_less R = record {
    even = λ j f l q a. R.even j f l q (was j f l q a);
    below = λ j f l q a. R.below j f l q (was j f l q a);
    self = λ j f l q a. R.self j f l q (was j f l q a);
    leader = λ j f l q a. R.leader j f l q (was j f l q a);
    major = λ j f l q a. R.major j f l q (was j f l q a);
    within = λ j f l q a. R.within j f l q (was j f l q a);
    lead = λ j f l q a. stays l f l q (leads (eqb f e) (eqb j i) (eqb l i) (among_filter is_other (entry j f l q) g.roles a).1) (R.lead j f l q (was j f l q a));
    once = λ j f l k q w a b. R.once j f l k q w (was j f l q a) (was j f k w b);
  }

  glob_less : Glob n g → Glob n less
  glob_less G = record { roles = roles_less G.roles; hands = G.hands; triples = G.triples }

  module _ (w : Readings) (s : State) where
    disk_less : Disk g i (own_of w) w.record_of → Disk less i (own_of w) w.record_of
    disk_less D = record {
      numbers = D.numbers;
      kept = record {
        roles = λ f l q a. D.kept.roles f l q (was i f l q a);
        hands = D.kept.hands;
        order = D.kept.order;
        mine = D.kept.mine;
        accepts = D.kept.accepts;
        made = D.kept.made;
        covered = D.kept.covered;
        under = D.kept.under;
        next = D.kept.next;
        vote = D.kept.vote;
        clear = D.kept.clear;
      };
    }

    stage_less : (last floor provider : ℕ) (full : Bool) (start version : ℕ) (z : SyncStage) → StageHolds g last floor provider full start version z → StageHolds less last floor provider full start version z
    stage_less last floor provider full start version sync.Cookie k = k
    stage_less last floor provider full start version sync.Chunks k = k
    stage_less last floor provider full start version (sync.Replay next end) k = k

    phase_less : (c : Core) (p : Phase) → is_member p ≡ false → InPhase n g i c p → InPhase n less i c p
    phase_less c phase.Booting t k = tt
    phase_less c phase.Probing t k = tt
    phase_less c phase.Synchronizing t k = (k.0, stage_less c.own.last c.own.floor c.provider c.full c.start c.version c.stage k.1)
    phase_less c phase.Electing t k = k
    phase_less c phase.Collecting t k = no (sym t)
    phase_less c phase.Previous t k = no (sym t)
    phase_less c phase.Active t k = no (sym t)
    phase_less c phase.Updating t k = no (sym t)
    phase_less c phase.Peon t k = no (sym t)

-- ---- what it does outside of a quorum

-- if the monitor is in a quorum after this course, its epoch is later than e
abbrev pub IsLater : ℕ → Course → Type 0
IsLater e x = is_member x.state.phase ≡ true → e < epoch_of x.readings

module _ (me : Me) (now : ℕ) (g : Ghost) (made : Made) (w : Readings) (shared : List Copied) (sharing : AllByRecursion EntryFine shared) (s : State) (fine : Fine (still me w) (at_rest w s))
    (G : Glob me.member.monitors g) (D : Disk g me.member.rank (own_of w) w.record_of) (k : InPhase me.member.monitors g me.member.rank (core_of (own_of w) s) s.phase) (outside : is_member s.phase ≡ false) where
  abbrev n : ℕ
  n = me.member.monitors

  abbrev i : ℕ
  i = me.member.rank

  abbrev e : ℕ
  e = epoch_of w

  abbrev history : Ghost
  history = less n i e g

  abbrev Anything : ℕ → List Op → Type 0
  Anything v y = Unit {0}

  at_first : Good me history Anything (at_rest w s)
  at_first = record {
    h = history;
    ext = ext_refl i history;
    glob = glob_less n i e g G;
    disk = disk_less n i e g w s D;
    tied = tied_refl i history;
    known = λ j v p y a. tt;
    asks = λ a b. b;
    sent = tt;
    fact = phase_less n i e g w s (core_of (own_of w) s) s.phase outside k;
  }

  same_epoch : (a b c : Bool) → a ≡ true → b ≡ true → not (a && (b || c)) ≡ true → ⊥
  same_epoch true true c p q t = no t
  same_epoch true false c p q t = no q
  same_epoch false b c p q t = no p

  is_later : (x : Course) → Good me history Anything x → IsLater e x
  is_later x A m =
      let c = core x in
      let l = cond (is_peon x.state.phase) c.leader i in
      let q = cond (is_peon x.state.phase) c.members (cond (is_leading x.state.phase) c.quorum no_ranks) in
      let role = member_in n i A.h c x.state.phase m A.fact in
      let le = A.disk.numbers.top AnEpoch e (had_lasts A.ext AnEpoch i e (D.numbers.now AnEpoch)) in
      elim (A.ext.roles.added (entry i (epoch_of x.readings) l q) role) [
        | inl old ↦ elim (cases_eq (epoch_of x.readings) e) [
          | inl same ↦ absurd (same_epoch (eqb (epoch_of x.readings) e) (eqb i i) (eqb l i) (eq-eqb (epoch_of x.readings) e same) (eq-eqb i i refl) (among_filter (is_other n i e g) (entry i (epoch_of x.readings) l q) g.roles old).1)
          | inr ne ↦ omega arith
        ]
        | inr new ↦ new.later e (D.numbers.now AnEpoch)
      ]

  by_history : (came : Input) → InputHolds me history came → ComesFine me now w made shared sharing came → Then (IsLater e) (react me shared now w s came)
  by_history came V F = then_so (Good me history Anything) (IsLater e) is_later (react me shared now w s came) (react_holds me now history Anything made w shared sharing w s came V F fine (fine.stored, λ u a z c y l q. tt) at_first)

  -- what is dropped leaves it outside
  dropped : Then (IsLater e) (Ok (at_rest w s))
  dropped = done (λ m. absurd (false≢true (sym outside ∙ m)))

  -- no answer is heard by who doesn't collect
  last_dropped : (f f_epoch pn first last : ℕ) (whole : Bool) (from : ℕ) (values : List (List Op)) (told : Option Told) → Then (IsLater e) (hear_last me now f f_epoch pn first last whole from values told (at_rest w s))
  unfolding hear_last
  last_dropped f f_epoch pn first last whole from values told = by_test (not (of_member (phase.Collecting ∷ []) f f_epoch (at_rest w s))) (λ _. dropped) (λ heard.
      let t = and_three (same_phase s.phase phase.Collecting || false) (eqb f_epoch e) (has s.leader.quorum f) (not-false _ heard) in
      absurd (false≢true (sym outside ∙ ap is_member (collecting_is s.phase t.0))))

  -- and no lease is taken by who doesn't follow
  lease_dropped : (f f_epoch last : ℕ) → Then (IsLater e) (hear_lease me now f f_epoch last (at_rest w s))
  unfolding hear_lease
  lease_dropped f f_epoch last = by_test (not (of_leader f f_epoch (at_rest w s)) || not (eqb last w.last) || is_some (pending w)) (λ _. dropped) (λ heard.
      let t = or_three (not (of_leader f f_epoch (at_rest w s))) (not (eqb last w.last)) (is_some (pending w)) heard in
      let u = and_three (is_peon s.phase) (eqb f_epoch e) (eqb f s.peon.leader) (not-false _ t.0) in
      absurd (false≢true (sym outside ∙ ap is_member (peon_is_peon s.phase u.0))))

  -- it may be said in that history, or it isn't heard, or it is dropped
  abbrev Fits : (f f_epoch : ℕ) → Body → Type 0
  Fits f f_epoch b = BodyHolds history f i f_epoch b ⊎ ((f ≡ i) ⊎ Then (IsLater e) (hear me shared now f f_epoch b (at_rest w s)))

  others : (a b : Bool) → b ≡ false → not (a && (b || b)) ≡ true
  others false b t = refl
  others true false t = refl
  others true true t = no (sym t)

  victory : (f f_epoch : ℕ) (q : List Bool) → Entered g f f_epoch f q → (f ≡ i) ⊎ (f ≡ i → ⊥) → Fits f f_epoch (body.Victory q)
  victory f f_epoch q a (inl own) = inr (inl own)
  victory f f_epoch q a (inr ne) = inl (stays n i e g f f_epoch f q (others (eqb f_epoch e) (eqb f i) (ne_eqb f i ne)) a)

  body_fits : (f f_epoch : ℕ) (b : Body) → BodyHolds g f i f_epoch b → Fits f f_epoch b
  body_fits f f_epoch (body.Victory q) v = victory f f_epoch q v (cases_eq f i)
  body_fits f f_epoch (body.Last pn first last whole from values told) v = inr (inr (last_dropped f f_epoch pn first last whole from values told))
  body_fits f f_epoch (body.Lease last) v = inr (inr (lease_dropped f f_epoch last))
  body_fits f f_epoch other v = inl v

  comes_from : (m : Message) → (m.from < n) → InputHolds me g (input.Deliver m) → ComesFine me now w made shared sharing (input.Deliver m) → Fits m.from m.epoch m.body → Then (IsLater e) (react me shared now w s (input.Deliver m))
  unfolding react
  comes_from m lt V F (inl a) = by_history (input.Deliver m) (lt, record { epoch = V.1.epoch; body = a }) F
  comes_from m lt V F (inr (inl own)) = by_test (same_phase s.phase phase.Booting) (λ _. dropped) (λ _. by_test (is_heard me m) (λ heard.
      let t = and_three (not (eqb m.from i)) _ _ heard in
      absurd (false≢true (sym (ap not (eq-eqb m.from i own)) ∙ t.0))) (λ _. dropped))
  comes_from m lt V F (inr (inr a)) = by_test (same_phase s.phase phase.Booting) (λ _. dropped) (λ _. by_test (is_heard me m) (λ _. a) (λ _. dropped))

  asked : (z : Session) (r : Request) → InputHolds me g (input.Client z r) → InputHolds me history (input.Client z r)
  asked z (request.Set key value) a = a
  asked z (request.Remove key) a = a
  asked z (request.Log text) a = a
  asked z (request.Show v) a = a
  asked z (request.Since v m) a = a

  pub stays_outside : (came : Input) → InputHolds me g came → ComesFine me now w made shared sharing came → Then (IsLater e) (react me shared now w s came)
  stays_outside input.Start V F = by_history input.Start tt F
  stays_outside (input.Timer t) V F = by_history (input.Timer t) tt F
  stays_outside (input.Client z r) V F = by_history (input.Client z r) (asked z r V) F
  stays_outside (input.Deliver m) V F = comes_from m V.0 V F (body_fits m.from m.epoch m.body V.1.body)

-- The acts of a leader keep what holds.
use Rattle.law_names.proofs.Table.{AllByRecursion, Cell, Course, Found, Me, Op, Origin, Readings, Reply, answers_to, be_active, begin, begin_alone, begin_found, begin_with, catch_up, collect, collect_with, commit, commits_to, commits_with, disarm, epoch_of, extend, flat_map, has, is_alone, leader_is, learn, members, missed, next_number, only, or_zero, pending, pending_of, promise_of, reign, send_each, settle, value, ◌▸◌}
use Rattle.mon_msg.specs.declared.paxos.LeaderStage.TheVariants as stage
use Rattle.mon_msg.specs.declared.plan.Origin.TheVariants as origin
use Rattle.mon_tx.specs.Text.{most}
use Rattle.mon_types.specs.declared.names.Which.TheVariants as which
use Rattle.mon_wire.specs.declared.body.Body.TheVariants as body
use Rattle.mon_wire.specs.declared.phase.Timer.TheVariants as timer
use Rattle.quorum_history.proofs.Accepting.{MayAccept, accepted, accepted_cases, accepts}
use Rattle.quorum_history.proofs.Frame.{accepted_lasts, gathers_last, heard_lasts, leads_last, reigns_last}
use Rattle.quorum_history.proofs.History.{ALevel, ANumber, Accepted, Ext, Ghost, Glob, triple}
use Rattle.quorum_history.proofs.Holds.{ActsIn, AllIn, At, Core, Disk, Followed, FoundCovers, Gathers, GathersIn, Good, Heard, IsFound, LeadsIn, Nothing, Nowhere, Numbered, Proposes, Reigns, Repeats, RepeatsIn, SentHolds, Sound, UpdatesIn, core, core_of, epoch_in, level_in, promise_in}
use Rattle.quorum_history.proofs.Learned.{learn_then, learned_at}
use Rattle.quorum_history.proofs.Numbers.{collects, had_down, level_is, pending_is, with_last, with_number}
use Rattle.quorum_history.proofs.Proposals.{found_leaves_no_room, new_leaves_no_room}
use Rattle.quorum_history.proofs.Steps.{messages_hold, says, signed, signed_ext, tells_each, weaken}
use Rattle.quorum_walk.proofs.FineCourses.{Val}
use Rattle.quorum_walk.proofs.Lists.{all_flat_map}
use Rattle.quorum_walk.proofs.Parity.{next_is}
use Rattle.quorum_walk.proofs.Ranks.{alone_within, has_only_is, within_at}
use Rattle.quorum_walk.proofs.Sparing.{Own, own_of}
use Rattle.quorum_walk.proofs.Walk.{Then, and_then, by_test, done, where_fits}
use Rattle.std.proofs.Common.{Bool, IfSome, List, None, Option, Some, [], ap, arith, eqb, false, inl, inr, ltb, max, refl, slice_index_or, subst, suc, sym, true, ℕ, ◌%◌, ◌<◌, ◌∷◌, ◌≡◌, ◌≤◌, ◌⊎◌}
use Rattle.std.proofs.lemmas.Bool.{cases_eq, cases_lt, cond_both, eqb-false, eqb-true, ne_eqb}

pub sound : (me : Me) (g : Ghost) (Known : ℕ → List Op → Type 0) (P : Ghost → Type 0) (x : Course) → At me g Known P x → Sound me g Known x
sound me g Known P x A = weaken P Nothing A (λ h E G D p. tt)

-- an accepted value is for the version after the last one, or for an earlier one
abbrev pub ClosedNext : ℕ → ℕ → ℕ → Type 0
ClosedNext last v r = v ≤ suc last

pub record ClosesIn (n : ℕ) (g : Ghost) (i : ℕ) (c : Core) : Type 0 where
  pub leads : LeadsIn g i c (ClosedNext c.own.last)
  pub all : AllIn n c
  pub most : (v : ℕ) (y : List Op) → Accepted g i v c.pn y → v ≤ suc c.own.last

-- a leader has heard its whole quorum, and found this value or none
pub record FoundIn (n : ℕ) (g : Ghost) (i : ℕ) (c : Core) (found : Option Found) : Type 0 where
  pub leads : LeadsIn g i c (FoundCovers found)
  pub all : AllIn n c
  pub gathers : Gathers g i c.quorum c.pn c.own.last found

-- The same leader with M in place of L, if each value with property L is for a committed version or has property M.
pub leads_left : (g : Ghost) (i : ℕ) (c : Core) (L M : ℕ → ℕ → Type 0) → ((v r : ℕ) → L v r → (v ≤ c.own.last) ⊎ M v r) → LeadsIn g i c L → LeadsIn g i c M
leads_left g i c L M f k = record {
  reigns = k.reigns;
  made = k.made;
  promised = k.promised;
  own = k.own;
  heard = λ m a. let t = k.heard m a in record { joined = t.joined; promised = t.promised; covers = λ v r x b lt. elim (t.covers v r x b lt) [ inl s ↦ inl s | inr l ↦ f v r l ] };
}

pub closes_acting : (n : ℕ) (g : Ghost) (i : ℕ) (c : Core) → ActsIn n g i c → ClosesIn n g i c
closes_acting n g i c k = record { leads = leads_left g i c Nowhere (ClosedNext c.own.last) (λ v r l. absurd l) k.0; all = k.1; most = λ v y a. let s = k.2 v y a in omega arith }

pub closes_found : (n : ℕ) (g : Ghost) (i : ℕ) (c : Core) (found : Option Found) → FoundIn n g i c found → ClosesIn n g i c
closes_found n g i c found k = record { leads = leads_left g i c (FoundCovers found) (ClosedNext c.own.last) (λ v r l. inr (within found k.gathers.found v r l)) k.leads; all = k.all; most = λ v y a. absurd (k.gathers.fresh v y a) }
  where
    within : (found : Option Found) → IfSome found (IsFound g c.quorum c.own.last c.pn) → (v r : ℕ) → FoundCovers found v r → v ≤ suc c.own.last
    within None k v r l = absurd l
    within (Some f) k v r (inl lt) = let s = k.next in omega arith
    within (Some f) k v r (inr e) = let s = k.next in let t = e.0 in omega arith

pub closes_repeating : (n : ℕ) (g : Ghost) (i : ℕ) (c : Core) → RepeatsIn n g i c → ClosesIn n g i c
closes_repeating n g i c k = record { leads = leads_left g i c (Repeats g c.quorum c.pn c.own.last c.value) (ClosedNext c.own.last) (λ v r l. let s = l.next in inr (omega arith)) k.0; all = k.1; most = k.2.most }

pub closes_updating : (n : ℕ) (g : Ghost) (i : ℕ) (c : Core) → UpdatesIn n g i c → ClosesIn n g i c
closes_updating n g i c k = record { leads = leads_left g i c Nowhere (ClosedNext c.own.last) (λ v r l. absurd l) k.0; all = k.1; most = k.2.most }

-- once the next version is committed, the leader is active
pub closed : (n i : ℕ) (h k : Ghost) (E : Ext i h k) (c : Core) (last : ℕ) → last ≡ suc c.own.last → ((v p : ℕ) (y : List Op) → Accepted k i v p y → Accepted h i v p y) → ClosesIn n h i c → ActsIn n k i (record c { own = with_last last c.own })
closed n i h k E c last e same K = (
  record {
    reigns = reigns_last i h k E i (epoch_in c.own) c.own.marked c.quorum c.queue K.leads.reigns;
    made = K.leads.made;
    promised = K.leads.promised;
    own = K.leads.own;
    heard = λ f a. let t = heard_lasts i h k E i (epoch_in c.own) c.pn c.own.last f (ClosedNext c.own.last) (ClosedNext c.own.last) (λ v r l. l) (K.leads.heard f a) in record {
      joined = t.joined;
      promised = t.promised;
      covers = λ v r x b lt. elim (t.covers v r x b lt) [ inl s ↦ inl (omega arith) | inr l ↦ inl (omega arith) ];
    };
  },
  K.all,
  λ v y a. let s = K.most v y (same v c.pn y a) in omega arith,
)

module _ (me : Me) (now : ℕ) (g : Ghost) (Known : ℕ → List Op → Type 0) where
  abbrev n : ℕ
  n = me.member.monitors

  abbrev i : ℕ
  i = me.member.rank

  -- an answer to a client or to a peon
  pub answers_hold : (h : Ghost) (o : Own) (a : Option Origin) (r : Reply) → Numbered h.signs i o → AllByRecursion (SentHolds h i) (answers_to me (epoch_in o) a r)
  answers_hold h o None r N = tt
  answers_hold h o (Some (origin.Session s)) r N = (tt, tt)
  answers_hold h o (Some (origin.Forwarded f seq)) r N = messages_hold me h o (body.Route seq r) (f ∷ []) N (λ to. tt)

  -- ---- leading

  pub all_followed : (h : Ghost) (c : Core) (L : ℕ → ℕ → Type 0) → Glob n h → LeadsIn h i c L → AllIn n c → Followed h (epoch_in c.own) i
  all_followed h c L G k all = record {
    quorum = c.quorum;
    led = k.reigns.role;
    joined = λ m a. (k.heard m (within_at n c.quorum c.answered m all (G.roles.within i (epoch_in c.own) i c.quorum k.reigns.role m a) a)).joined;
  }

  pub be_active_holds : (x : Course) → At me g Known (λ h. ActsIn n h i (core x)) x → Good me g Known (be_active me now x)
  unfolding be_active extend
  be_active_holds x A = tells_each me _ (body.Lease x.readings.last) _ A (λ h E G D p to. all_followed h (core x) Nowhere G p.0 p.1)

  -- a version is committed
  pub commit_holds : (value : List Op) (x : Course) → Val value → x.readings.marked ≡ false → At me g Known (λ h. ClosesIn n h i (core x)) x → Then (Good me g Known) (commit me now value x)
  unfolding commit be_active extend
  commit_holds value x V u A =
      let next : Course → Course = λ y. y ▸ leader_is (record y.state.leader { value = None; origin = None }) in
      and_then (λ y. At me g Known (λ h. ActsIn n h i (core (next y))) (next y)) (Good me g Known) (learn (suc x.readings.last) (value ∷ []) x) _
      (learn_then (λ y. At me g Known (λ h. ActsIn n h i (core (next y))) (next y)) (suc x.readings.last) (value ∷ []) x (λ e. absurd cc)
      (λ last e le. learned_at me g Known (λ h. ClosesIn n h i (core x)) (λ o h. ActsIn n h i (core_of o (next x).state)) (suc x.readings.last) (value ∷ []) last x (V, tt) u (omega arith) A
      (λ h k X E D K level same hands. closed n i h k E (core x) last (omega arith) (same i) K))) (λ y B.
      let z = y ▸ disarm timer.Accept ▸ leader_is (record y.state.leader { value = None; origin = None }) ▸ send_each me (members me y.state.leader.quorum) (body.Commit (suc x.readings.last) (value ∷ [])) in
      done (says _ (answers_to me _ y.state.leader.origin _) (be_active_holds z (tells_each me _ (body.Commit (suc x.readings.last) (value ∷ [])) (members me y.state.leader.quorum) B (λ h E G D p to. tt)))
      (λ h E G D p. answers_hold h (own_of y.readings) y.state.leader.origin _ D.numbers)))

  begin_alone_holds : (v : ℕ) (value : List Op) (o : Option Origin) (x : Course) → v ≡ suc x.readings.last → Val value → x.readings.marked ≡ false → At me g Known (λ h. ClosesIn n h i (core x)) x → Then (Good me g Known) (begin_alone me v value o x)
  unfolding begin_alone
  begin_alone_holds v value o x at V u A =
      and_then (λ y. At me g Known (λ h. ActsIn n h i (core y)) y) (Good me g Known) (learn v (value ∷ []) x) _
      (learn_then (λ y. At me g Known (λ h. ActsIn n h i (core y)) y) v (value ∷ []) x (λ e. absurd cc)
      (λ last e le. learned_at me g Known (λ h. ClosesIn n h i (core x)) (λ o h. ActsIn n h i (core_of o x.state)) v (value ∷ []) last x (V, tt) u (omega arith) A
      (λ h k X E D K level same hands. closed n i h k E (core x) last (omega arith) (same i) K))) (λ y B.
      done (says _ (answers_to me _ o _) B (λ h E G D p. answers_hold h (own_of y.readings) o _ D.numbers)))

  own_rank : i < 15
  own_rank = let a = me.member.in_map in let b = me.member.most in omega arith

  -- its own acceptance is counted
  proposes_now : (h : Ghost) (c : Core) (x : List Op) → ((v : ℕ) (y : List Op) → Accepted h i v c.pn y → v ≤ suc c.own.last) → Proposes (accepted i (suc c.own.last) c.pn x h) i c.pn c.own.last (Some x) (only i)
  proposes_now h c x most = record {
    x = x;
    is = refl;
    was = inl refl;
    most = λ v y a. elim (accepted_cases i (suc c.own.last) c.pn x h i v c.pn y a) [ inl o ↦ most v y o | inr e ↦ (let s = e.1 in omega arith) ];
    counted = λ f a. inl (ap (λ (z : ℕ). triple z (suc c.own.last) c.pn x) (has_only_is i f a));
  }

  may_accept : (h : Ghost) (c : Core) (L : ℕ → ℕ → Type 0) (x : List Op) → Val x → LeadsIn h i c L → MayAccept i h c.own (suc c.own.last) c.pn x
  may_accept h c L x V k = record { unmarked = k.reigns.unmarked; next = refl; now = k.promised; fine = V; owner = inl k.own; made = λ e. let s = k.made in omega arith }

  -- a new value is proposed
  update_holds : (value : List Op) (o : Option Origin) (x : Course) → Val value → Known (suc x.readings.last) value → At me g Known (λ h. ActsIn n h i (core x)) x → Good me g Known (begin_with me now stage.Updating (suc x.readings.last) value o x)
  unfolding begin_with
  update_holds value o x V new A =
      let c = core x in
      let v = suc x.readings.last in
      let B = accepts (λ h. ActsIn n h i c) (λ k. UpdatesIn n k i (core (begin_with me now stage.Updating v value o x))) v c.pn value me.member.in_map new A
      (λ h E G D p. (may_accept h c Nowhere value V p.0, new_leaves_no_room n h i c value G p.0 p.1 p.2))
      (λ h E G p. (leads_last i h (accepted i v c.pn value h) E i c Nowhere Nowhere (λ v r l. l) p.0, p.1, proposes_now h c value (λ v y a. let s = p.2 v y a in omega arith))) in
      tells_each me _ (body.Begin c.pn v value) (members me x.state.leader.quorum) B (λ h E G D p to. subst (λ (z : List Op). Accepted h i v c.pn z) (let e = p.2.is in let s : p.2.x ≡ value = cc in s) p.2.was)

  -- or one that it found
  repeat_holds : (f : Found) (x : Course) → Val f.value → f.version ≡ suc x.readings.last → At me g Known (λ h. FoundIn n h i (core x) (Some f)) x → Good me g Known (begin_with me now stage.Previous (suc x.readings.last) f.value None x)
  unfolding begin_with
  repeat_holds f x V at A =
      let c = core x in
      let v = suc x.readings.last in
      let B = accepts (λ h. FoundIn n h i c (Some f)) (λ k. RepeatsIn n k i (core (begin_with me now stage.Previous v f.value None x))) v c.pn f.value me.member.in_map
      (let F = A.fact.gathers.found in A.known F.by v f.pn f.value (subst (λ (z : ℕ). Accepted A.h F.by z f.pn f.value) at F.was)) A
      (λ h E G D p. (may_accept h c (FoundCovers (Some f)) f.value V p.leads, found_leaves_no_room n h i c f at G p.leads p.all p.gathers))
      (λ h E G p.
      let k = accepted i v c.pn f.value h in
      let F = p.gathers.found in
      let was : Accepted k F.by v f.pn f.value = accepted_lasts i h k E F.by v f.pn f.value (subst (λ (z : ℕ). Accepted h F.by z f.pn f.value) at F.was) in
      let leads = leads_last i h k E i c (FoundCovers (Some f)) (FoundCovers (Some f)) (λ v r l. l) p.leads in (
        leads_left k i c (FoundCovers (Some f)) (Repeats k c.quorum c.pn c.own.last (Some f.value)) (λ u r l. elim l [
          | inl lt ↦ inl (omega arith)
          | inr e ↦ inr (record { next = (let s = e.0 in omega arith); x = f.value; is = refl; by = F.by; member = F.member; number = f.pn; high = e.1; low = F.low; was = was })
        ]) leads,
        p.all,
        proposes_now h c f.value (λ u y a. absurd (p.gathers.fresh u y a)),
      )) in
      tells_each me _ (body.Begin c.pn v f.value) (members me x.state.leader.quorum) B (λ h E G D p to. subst (λ (z : List Op). Accepted h i v c.pn z) (let e = p.2.is in let s : p.2.x ≡ f.value = cc in s) p.2.was)

  -- ---- beginning

  pub begin_new_holds : (value : List Op) (o : Option Origin) (x : Course) → Val value → Known (suc x.readings.last) value → x.readings.marked ≡ false → At me g Known (λ h. ActsIn n h i (core x)) x → Then (Good me g Known) (begin me now stage.Updating value o x)
  unfolding begin
  begin_new_holds value o x V new u A = where_fits (Good me g Known) which.Version (suc x.readings.last) _ (λ _.
      by_test (is_alone me x.state.leader.quorum)
      (λ _. begin_alone_holds (suc x.readings.last) value o x refl V u (weaken _ _ A (λ h E G D p. closes_acting n h i (core x) p)))
      (λ _. done (update_holds value o x V new A)))

  begin_found_holds : (found : Option Found) (x : Course) → x.readings.marked ≡ false → At me g Known (λ h. FoundIn n h i (core x) found) x → Then (Good me g Known) (begin_found me now found x)
  unfolding begin
  begin_found_holds None x u A = done (be_active_holds x (weaken _ _ A (λ h E G D p. (leads_left h i (core x) (FoundCovers None) Nowhere (λ v r l. absurd l) p.leads, p.all, λ v y a. absurd (p.gathers.fresh v y a)))))
  begin_found_holds (Some f) x u A =
      let F = A.fact.gathers.found in
      let V = A.glob.triples.fine F.by f.version f.pn f.value F.was in
      by_test (eqb f.version (suc x.readings.last))
      (λ t. let at = eqb-true f.version (suc x.readings.last) t in
      where_fits (Good me g Known) which.Version (suc x.readings.last) _ (λ _. by_test (is_alone me x.state.leader.quorum)
      (λ _. begin_alone_holds (suc x.readings.last) f.value None x refl V u (weaken _ _ A (λ h E G D p. closes_found n h i (core x) (Some f) p)))
      (λ _. done (repeat_holds f x V at A))))
      (λ t. let ne = eqb-false f.version (suc x.readings.last) t in
      done (be_active_holds x (weaken _ _ A (λ h E G D p. (leads_left h i (core x) (FoundCovers (Some f)) Nowhere (λ v r l. let s = p.gathers.found.next in elim l [ inl lt ↦ inl (omega arith) | inr e ↦ inl (let a = e.0 in omega arith) ]) p.leads, p.all, λ v y a. absurd (p.gathers.fresh v y a))))))

  -- ---- collecting

  commits_hold : (h : Ghost) (o : Own) (told : ℕ) (values : List (List Op)) (to : ℕ) → Numbered h.signs i o → AllByRecursion (SentHolds h i) (commits_with me (epoch_in o) told values to)
  commits_hold h o told [] to N = tt
  commits_hold h o told (value ∷ values) to N = messages_hold me h o (body.Commit (suc told) (value ∷ values)) (to ∷ []) N (λ t. tt)

  commits_to_hold : (h : Ghost) (w : Readings) (lasts : List ℕ) (to : ℕ) → Numbered h.signs i (own_of w) → AllByRecursion (SentHolds h i) (commits_to me w lasts to)
  commits_to_hold h w lasts to N =
      let told = slice_index_or lasts to 0 in
      let values = missed me.member.monitors w.record_of w.last told in
      cond_both (ltb told w.last) (commits_with me (epoch_of w) told values to) [] (AllByRecursion (SentHolds h i)) (λ _. commits_hold h (own_of w) told values to N) (λ _. tt)

  pub settle_holds : (x : Course) → x.readings.marked ≡ false → At me g Known (λ h. FoundIn n h i (core x) x.state.leader.found) x → Then (Good me g Known) (settle me now x)
  unfolding settle
  settle_holds x u A =
      let ks = members me x.state.leader.quorum in
      let lasts = x.state.leader.lasts in
      begin_found_holds x.state.leader.found (x ▸ disarm timer.Collect ▸ catch_up me ks ▸ leader_is (record x.state.leader { found = None })) u
      (says (λ h. FoundIn n h i (core (x ▸ leader_is (record x.state.leader { found = None }))) x.state.leader.found) (flat_map (commits_to me x.readings lasts) ks)
      (weaken _ _ A (λ h E G D p. record { leads = p.leads; all = p.all; gathers = p.gathers })) (λ h E G D p. all_flat_map (SentHolds h i) (commits_to me x.readings lasts) (λ to. commits_to_hold h x.readings lasts to D.numbers) ks))

  -- what it accepted last for the next version is found first
  gathers_now : (h : Ghost) (q : List Bool) (o : Own) (records : ℕ → Cell) (p : ℕ) → has q i ≡ true → Glob n h → Disk h i o records → o.marked ≡ false → promise_in o < p → Gathers h i q p o.last (pending_of o.pending_v o.pending_pn o.last records)
  unfolding pending_of
  gathers_now h q o records p self G D u lt = record { fresh = λ v y a. let s = D.kept.accepts v p y a in omega arith; found = by (cases_eq o.pending_v (suc o.last)) }
    where
      by : (o.pending_v ≡ suc o.last) ⊎ (o.pending_v ≡ suc o.last → ⊥) → IfSome (pending_of o.pending_v o.pending_pn o.last records) (IsFound h q o.last p)
      by (inl e) =
          let V = D.kept.vote u e in
          subst (λ (f : Option Found). IfSome f (IsFound h q o.last p)) (sym (pending_is h.accepts i o.pending_v o.pending_pn o.last records e V (G.triples.fine i (suc o.last) o.pending_pn V.x V.was)))
          (record { next = omega arith; low = let s = D.kept.under in omega arith; by = i; member = self; was = subst (λ (z : ℕ). Accepted h i z o.pending_pn V.x) (sym e) V.was })
      by (inr ne) = rw (ne_eqb o.pending_v (suc o.last) ne) tt

  covers_now : (h : Ghost) (o : Own) (records : ℕ → Cell) (v r : ℕ) (y : List Op) → Glob n h → Disk h i o records → o.marked ≡ false → Accepted h i v r y → (v ≤ o.last) ⊎ FoundCovers (pending_of o.pending_v o.pending_pn o.last records) v r
  covers_now h o records v r y G D u a = by (D.kept.covered v r y a)
    where
      at : o.pending_v ≡ v → r ≤ o.pending_pn → (o.last < v) ⊎ (v ≤ o.last) → (v ≤ o.last) ⊎ FoundCovers (pending_of o.pending_v o.pending_pn o.last records) v r
      at e le (inr s) = inl s
      at e le (inl lt) =
          let next = D.kept.next u in
          let q : o.pending_v ≡ suc o.last = omega arith in
          let V = D.kept.vote u q in
          inr (subst (λ (f : Option Found). FoundCovers f v r) (sym (pending_is h.accepts i o.pending_v o.pending_pn o.last records q V (G.triples.fine i (suc o.last) o.pending_pn V.x V.was))) (inr (sym e, le)))

      by : (v ≤ level_in o) ⊎ ((o.pending_v ≡ v) × (r ≤ o.pending_pn)) → (v ≤ o.last) ⊎ FoundCovers (pending_of o.pending_v o.pending_pn o.last records) v r
      by (inl s) = inl (let e = level_is o u in omega arith)
      by (inr c) = at c.0 c.1 (cases_lt o.last v)

  abbrev ReignsAt : Course → List Bool → Ghost → Type 0
  ReignsAt x q h = Reigns h i (epoch_of x.readings) x.readings.marked q x.state.clients.queue

  collect_with_holds : (q : List Bool) (pn : ℕ) (x : Course) → x.readings.marked ≡ false → or_zero x.readings.last_pn ≤ pn → promise_of x.readings < pn → pn % 100 ≡ i → At me g Known (ReignsAt x q) x
      → At me g Known (λ h. GathersIn h i (core (collect_with me now q pn x))) (collect_with me now q pn x)
  unfolding collect_with
  collect_with_holds q pn x u low lt own A =
      let o = own_of x.readings in
      let o2 = with_number pn o in
      let found = pending x.readings in
      let B = collects (ReignsAt x q) (λ k. GathersIn k i (core (collect_with me now q pn x))) pn low lt own A (λ h E G D p.
      let k = signed i o2 h in (
        record {
          reigns = reigns_last i h k E i (epoch_of x.readings) x.readings.marked q x.state.clients.queue p;
          made = refl;
          promised = refl;
          own = own;
          heard = λ m a. subst (Heard k i (epoch_of x.readings) pn x.readings.last (FoundCovers found)) (sym (has_only_is i m a)) (record {
            joined = (q, p.role);
            promised = inr (record { m = pn; high = omega arith; was = inr (inr (inl refl)) });
            covers = λ v r y b l. covers_now h o x.readings.record_of v r y G D u b;
          });
        },
        gathers_last i h k (signed_ext i o2 h) i q pn x.readings.last found (λ v r y a. a) (gathers_now h q o x.readings.record_of pn (G.roles.self i (epoch_of x.readings) i q p.role) G D u lt),
      )) in
      tells_each me _ (body.Collect pn x.readings.first x.readings.last) (members me q) B (λ h E G D p to. (own, D.numbers.now ANumber, had_down h ALevel i (level_in o2) x.readings.last (D.numbers.now ALevel) (let e = level_is o2 u in omega arith)))

  collecting : (q : List Bool) (pn : ℕ) (x : Course) → At me g Known (λ h. GathersIn h i (core (collect_with me now q pn x))) (collect_with me now q pn x) → Good me g Known (collect_with me now q pn x)
  unfolding collect_with
  collecting q pn x B = B

  settled : (y : Course) → At me g Known (λ h. GathersIn h i (core y)) y → AllIn n (core y) → Then (Good me g Known) (settle me now y)
  settled y B all = settle_holds y B.fact.0.reigns.unmarked (weaken _ _ B (λ h E G D p. record { leads = p.0; all = all; gathers = p.1 }))

  alone_in : (q : List Bool) (pn : ℕ) (x : Course) → is_alone me q ≡ true → AllIn n (core (collect_with me now q pn x))
  unfolding collect_with
  alone_in q pn x alone = alone_within n i q own_rank alone

  -- it may collect with a quorum with which it entered its epoch
  pub collect_holds : (q : List Bool) (above : ℕ) (x : Course) → At me g Known (ReignsAt x q) x → Then (Good me g Known) (collect me now q above x)
  unfolding collect
  collect_holds q above x A =
      let pn = next_number (or_zero x.readings.last_pn) (max (promise_of x.readings) above) i in
      let most = own_rank in
      let e : (or_zero x.readings.last_pn ≤ pn) × (promise_of x.readings < pn) × (pn % 100 ≡ i) = next_is (or_zero x.readings.last_pn) (promise_of x.readings) above i (omega arith) in
      let B = collect_with_holds q pn x A.fact.unmarked e.0 e.1 e.2 A in
      where_fits (Good me g Known) which.Pn pn _ (λ _. by_test (is_alone me q) (λ alone. settled (collect_with me now q pn x) B (alone_in q pn x alone)) (λ _. done (collecting q pn x B)))

  pub reign_holds : (q : List Bool) (x : Course) → At me g Known (ReignsAt x q) x → Then (Good me g Known) (reign me now q x)
  unfolding reign
  reign_holds q x A = collect_holds q 0 _ (tells_each me _ (body.Victory q) (members me q) A (λ h E G D p to. p.role))

-- The acts of elections, and those by which a monitor begins to synchronize, keep what holds.
use Rattle.law_names.proofs.Table.{AllByRecursion, Course, Epoch, Mark, Me, Op, Readings, Waiting, adopt, allows, bootstrap, change, elect, epoch_of, floor_of, forget_clients, full_sync, has, in_odd_epoch, in_phase, is_even, is_majority, next_even, only, own_table, pending, pending_version, prober_is, recent_sync, reign, ◌▸◌}
use Rattle.mon_types.specs.declared.names.Which.TheVariants as which
use Rattle.mon_wire.specs.declared.body.Body.TheVariants as body
use Rattle.mon_wire.specs.declared.phase.Phase.TheVariants as phase
use Rattle.quorum_history.proofs.ActsLeading.{reign_holds}
use Rattle.quorum_history.proofs.History.{ALevel, Accepted, Ghost, Glob, Had, had_lasts}
use Rattle.quorum_history.proofs.Holds.{Disk, Good, Nothing, Reigns, RequestsIn, Sound, Waits, core}
use Rattle.quorum_history.proofs.Numbers.{begins_copy, had_down, pending_is}
use Rattle.quorum_history.proofs.Steps.{enters, rises, tells, tells_each, weaken}
use Rattle.quorum_walk.proofs.Parity.{even_next, next_above, odd_of_even}
use Rattle.quorum_walk.proofs.Ranks.{alone_major, has_only, has_only_is, nobody}
use Rattle.quorum_walk.proofs.Sparing.{own_of}
use Rattle.quorum_walk.proofs.Walk.{Then, and_then, by_test, done, where_fits}
use Rattle.std.proofs.Common.{Bool, List, None, Some, [], ap, arith, false, inl, inr, ltb, not, refl, subst, suc, sym, true, ℕ, ◌&&◌, ◌<◌, ◌∙◌, ◌∷◌, ◌≡◌, ◌≤◌, ◌⊎◌}
use Rattle.std.proofs.lemmas.Bool.{and_parts, cases_eq, false≢true, not-true}

module _ (me : Me) (now : ℕ) (g : Ghost) (Known : ℕ → List Op → Type 0) where
  -- it won with those who deferred to it
  pub wins_holds : (e : ℕ) (q : List Bool) (x : Course) → epoch_of x.readings < e → is_even e ≡ true → has q me.member.rank ≡ true → is_majority me.member.monitors q ≡ true → x.state.clients.queue ≡ [] → x.readings.marked ≡ false
      → ((m : ℕ) → has q m ≡ true → m < me.member.monitors) → Sound me g Known x → Then (Good me g Known) (x ▸ change (Epoch e) ▸ reign me now q)
  wins_holds e q x lt even self major none unmarked within A =
      let y : Course = change (Epoch e) x in
      reign_holds me now g Known q y (enters Nothing (λ h. Reigns h me.member.rank e x.readings.marked q x.state.clients.queue) e me.member.rank q lt A
      (λ h E p. record { even = even; below = me.member.in_map; self = self; leader = self; major = major; within = within; lead = inl refl })
      (λ h k E L p role hands. record { role = role; unmarked = unmarked; queue = subst (λ (ws : List Waiting). AllByRecursion (Waits k me.member.rank e) ws) (sym none) tt }))

  own_in : has (only me.member.rank) me.member.rank ≡ true
  own_in = has_only me.member.rank (let a = me.member.in_map in let b = me.member.most in omega arith)

  only_below : (m : ℕ) → has (only me.member.rank) m ≡ true → m < me.member.monitors
  only_below m h = let e = has_only_is me.member.rank m h in let a = me.member.in_map in omega arith

  pub bootstrap_holds : (x : Course) → Sound me g Known x → Then (Good me g Known) (bootstrap me now x)
  unfolding bootstrap
  bootstrap_holds x A =
      let y : Course = x ▸ in_phase phase.Probing ▸ forget_clients ▸ prober_is (record { outside = only me.member.rank }) in
      by_test (ltb 1 me.member.monitors)
      (λ _. done (tells_each me _ body.Probe _ A (λ h E G D p to. tt)))
      (λ one. by_test (allows me.rule me.member.rank && not x.readings.marked)
      (λ fresh. where_fits (Good me g Known) which.Epoch (next_even (epoch_of x.readings)) _ (λ _.
      wins_holds (next_even (epoch_of x.readings)) (only me.member.rank) y (next_above (epoch_of x.readings)) (even_next (epoch_of x.readings)) own_in (alone_major me.member.monitors me.member.rank me.member.in_map one) refl
      (not-true _ ((and_parts (allows me.rule me.member.rank) _ fresh).1)) only_below A))
      (λ _. done A))

  -- in an odd epoch, and under no full synchronization still
  abbrev InOdd : Course → Course → Type 0
  InOdd x y = Sound me g Known y × (is_even (epoch_of y.readings) ≡ false) × (y.readings.marked ≡ x.readings.marked)

  in_odd_holds : (x : Course) → Sound me g Known x → Then (InOdd x) (in_odd_epoch x)
  unfolding in_odd_epoch
  in_odd_holds x A = by_test (is_even (epoch_of x.readings))
      (λ h. where_fits (InOdd x) which.Epoch (suc (epoch_of x.readings)) _ (λ _. done (rises Nothing Nothing (suc (epoch_of x.readings)) (omega arith) A (λ h k E p. tt), odd_of_even (epoch_of x.readings) h, refl)))
      (λ h. done (A, h, refl))

  pub elect_holds : (x : Course) → x.readings.marked ≡ false → Sound me g Known x → Then (Good me g Known) (elect me now x)
  unfolding elect
  elect_holds x unmarked A = and_then (InOdd x) (Good me g Known) (in_odd_epoch x) _ (in_odd_holds x A) (λ y B.
      done (tells_each me _ (body.Propose (own_table me y)) _ (weaken _ _ B.0 (λ h E G D p. record { odd = B.1; unmarked = B.2 ∙ unmarked; self = λ _. own_in; within = only_below; queue = refl; sessions = refl })) (λ h E G D p to. tt)))

  pub adopt_holds : (e : ℕ) (x : Course) → epoch_of x.readings ≤ e → is_even e ≡ false → x.readings.marked ≡ false → Sound me g Known x → Good me g Known (adopt now e x)
  unfolding adopt
  adopt_holds e x le odd unmarked A = rises Nothing _ e le A (λ h k E p. record { odd = odd; unmarked = unmarked; self = λ c. absurd (false≢true c); within = λ m c. absurd (false≢true (sym (nobody m) ∙ c)); queue = refl; sessions = refl })

  -- ---- synchronization

  -- the floor reaches whatever it accepted
  reached_floor : (h : Ghost) (w : Readings) → Glob me.member.monitors h → Disk h me.member.rank (own_of w) w.record_of → (v p : ℕ) (y : List Op) → Accepted h me.member.rank v p y → w.pending_v ≡ v → v ≤ floor_of w
  reached_floor h w G D v p y a e = by w.marked refl
    where
      some : 1 ≤ v
      some = G.triples.some me.member.rank v p y a

      at : (w.pending_v ≡ suc w.last) ⊎ (w.pending_v ≡ suc w.last → ⊥) → w.marked ≡ false → v ≤ floor_of w
      at (inl q) u =
          let V = D.kept.vote u q in
          let s : pending w ≡ Some (record { version = w.pending_v; pn = w.pending_pn; value = V.x }) = pending_is h.accepts me.member.rank w.pending_v w.pending_pn w.last w.record_of q V (G.triples.fine me.member.rank (suc w.last) w.pending_pn V.x V.was) in
          let t : pending_version (pending w) ≡ w.pending_v = ap pending_version s in
          omega arith
      at (inr ne) u = let s = D.kept.next u in omega arith

      by : (b : Bool) → w.marked ≡ b → v ≤ floor_of w
      by true u = let s = (D.kept.clear u).1 in let t = some in absurd (omega arith)
      by false u = at (cases_eq w.pending_v (suc w.last)) u

  pub full_sync_holds : (f : ℕ) (x : Course) → Sound me g Known x → Good me g Known (full_sync me now f x)
  unfolding full_sync
  full_sync_holds f x A =
      let w = x.readings in
      let floor = floor_of w in
      let c = Mark floor w.last_pn w.promise in
      let B = begins_copy Nothing (λ h. RequestsIn h (core (full_sync me now f x))) (λ v. None) floor (c ∷ []) (tt, tt) (omega arith) (omega arith) (λ h G D. reached_floor h w G D) A (λ h k E p. (refl, λ e. absurd (false≢true (sym e)))) in
      tells me _ body.GetCookieFull f B (λ h E G D p. tt)

  pub recent_sync_holds : (f last : ℕ) (x : Course) → x.readings.marked ≡ false → x.readings.last ≤ last → Had g ALevel f last → Sound me g Known x → Good me g Known (recent_sync me now f x)
  unfolding recent_sync
  recent_sync_holds f last x unmarked le level A =
      tells me _ (body.GetCookieRecent x.readings.last) f (weaken Nothing (λ h. RequestsIn h (core (recent_sync me now f x))) A (λ h E G D p. (sym unmarked, λ e. had_down h ALevel f last x.readings.last (had_lasts E ALevel f last level) le))) (λ h E G D p. tt)

-- The rows of probing and elections keep what holds.
use Rattle.law_names.proofs.Table.{AllByRecursion, Asked, Course, Epoch, Me, Op, Phase, Readings, Scores, Which, adopt, change, checked, count_ack, count_of, election_ends, elector_is, epoch_of, has, hear_ack, hear_probe, hear_probe_reply, hear_propose, hear_victory, is_allowed, is_even, is_majority, is_whole, lag, may_defer, merge, prober_is, quorum_of, reign, same_phase, stands_before, table_or, votes, weigh, win, with_rank, ◌>>=◌, ◌▸◌}
use Rattle.mon_msg.specs.Protocol.Elections.{defer_to, follow}
use Rattle.mon_types.specs.declared.names.Which.TheVariants as which
use Rattle.mon_wire.specs.declared.body.Body.TheVariants as body
use Rattle.mon_wire.specs.declared.phase.Phase.TheVariants as phase
use Rattle.quorum_history.proofs.ActsElections.{adopt_holds, elect_holds, full_sync_holds, recent_sync_holds, wins_holds}
use Rattle.quorum_history.proofs.ActsLeading.{sound}
use Rattle.quorum_history.proofs.Frame.{entered_lasts}
use Rattle.quorum_history.proofs.History.{ALevel, Entered, Ghost, Had}
use Rattle.quorum_history.proofs.Holds.{FollowsIn, Good, InPhase, IsHanded, Nothing, Numbered, Sound, StandsIn, core, level_in}
use Rattle.quorum_history.proofs.Numbers.{had_down, level_is}
use Rattle.quorum_history.proofs.Phases.{electing_is, in_odd_epoch_electing, stands_of, unmarked_of}
use Rattle.quorum_history.proofs.Steps.{enters, rises, tells, weaken}
use Rattle.quorum_walk.proofs.Parity.{even_of_odd, odd_before}
use Rattle.quorum_walk.proofs.Ranks.{has_with, has_with_is, nobody, whole_major}
use Rattle.quorum_walk.proofs.Sparing.{own_of}
use Rattle.quorum_walk.proofs.Walk.{Then, and_three, by_test, done, or_three}
use Rattle.std.proofs.Common.{Bool, Err, List, Ok, Option, Result, ap, arith, eqb, false, inl, inr, is_some, leb, ltb, not, refl, subst, suc, sym, true, ℕ, ◌&&◌, ◌+◌, ◌<◌, ◌^◌, ◌||◌, ◌∙◌, ◌≡◌}
use Rattle.std.proofs.lemmas.Bool.{and_parts, cond_both, eqb-true, false≢true, leb-false, ltb-false, ltb-true, not-false, or_parts}

module _ (me : Me) (now : ℕ) (g : Ghost) (Known : ℕ → List Op → Type 0) where
  any : (x : Course) → Good me g Known x → Sound me g Known x
  any x A = sound me g Known _ x A

  -- ---- probing

  -- what it says of its last version
  pub own_level : (h : Ghost) (w : Readings) → w.marked ≡ false → Numbered h.signs me.member.rank (own_of w) → Had h ALevel me.member.rank w.last
  own_level h w u N = had_down h ALevel me.member.rank (level_in (own_of w)) w.last (N.now ALevel) (let e = level_is (own_of w) u in omega arith)

  pub hear_probe_holds : (f : ℕ) (x : Course) → Good me g Known x → Then (Good me g Known) (hear_probe me f x)
  unfolding hear_probe
  hear_probe_holds f x A = by_test x.readings.marked (λ _. done A) (λ u. done (tells me _ (body.ProbeReply (quorum_of x.state) x.readings.first x.readings.last) f A (λ h E G D p. own_level h x.readings u D.numbers)))

  pub hear_probe_reply_holds : (f : ℕ) (q : List Bool) (first last : ℕ) (x : Course) → Had g ALevel f last → Good me g Known x → Then (Good me g Known) (hear_probe_reply me now f q first last x)
  unfolding hear_probe_reply
  hear_probe_reply_holds f q first last x level A =
      let y : Course = prober_is (record { outside = with_rank x.state.prober.outside f }) x in
      by_test (not (same_phase x.state.phase phase.Probing)) (λ _. done A) (λ _.
      by_test x.readings.marked (λ _. by_test (leb 1 last && leb x.readings.floor last) (λ _. done (full_sync_holds me now g Known f x (any x A))) (λ _. done A)) (λ unmarked.
      by_test (ltb x.readings.last first && ltb 1 first) (λ _. done (full_sync_holds me now g Known f x (any x A))) (λ _.
      by_test (ltb (x.readings.last + lag) last) (λ behind. let lt = ltb-true (x.readings.last + lag) last behind in done (recent_sync_holds me now g Known f last x unmarked (omega arith) level (any x A))) (λ _.
      by_test (ltb 0 (count_of q)) (λ _. elect_holds me now g Known x unmarked (any x A)) (λ _.
      by_test (is_majority me.member.monitors (with_rank x.state.prober.outside f)) (λ _. elect_holds me now g Known y unmarked (any x A)) (λ _. done A))))))

  -- ---- candidates

  defers : (f : ℕ) (x : Course) → x.state.phase ≡ phase.Electing → Good me g Known x → Good me g Known (defer_to me f x)
  defers f x e A =
      let S = stands_of me g Known x e A in
      tells me _ body.Ack f (weaken _ _ A (λ h E G D p. subst (λ (z : Phase). InPhase me.member.monitors h me.member.rank (core (defer_to me f x)) z) (sym e) (record { odd = S.odd; unmarked = S.unmarked; self = λ c. absurd (false≢true c); within = λ m c. absurd (false≢true (sym (nobody m) ∙ c)); queue = S.queue; sessions = S.sessions })))
      (λ h E G D p. tt)

  weigh_holds : (table : Scores) (f : ℕ) (x : Course) → x.state.phase ≡ phase.Electing → Good me g Known x → Then (Good me g Known) (weigh me now table f x)
  weigh_holds table f x e A =
      by_test (is_allowed me f && stands_before me table f me.member.rank)
      (λ _. by_test (may_defer me table f x.state.elector.deferred) (λ _. done (defers f x e A)) (λ _. done A))
      (λ _. by_test (not (is_some x.state.elector.deferred) && not x.state.elector.candidate) (λ _. elect_holds me now g Known x (stands_of me g Known x e A).unmarked (any x A)) (λ _. done A))

  adopted_electing : (e : ℕ) (x : Course) → (adopt now e x).state.phase ≡ phase.Electing
  unfolding adopt
  adopted_electing e x = refl

  adopted_unmarked : (e : ℕ) (x : Course) → x.readings.marked ≡ false → (adopt now e x).readings.marked ≡ false
  unfolding adopt
  adopted_unmarked e x u = u

  pub hear_propose_holds : (f e : ℕ) (table : Option Scores) (x : Course) → Good me g Known x → Then (Good me g Known) (hear_propose me now f e table x)
  unfolding hear_propose
  hear_propose_holds f e table x A =
      by_test (not (votes x.state.phase) || is_even e) (λ _. done A) (λ heard.
      let t = or_parts (not (votes x.state.phase)) (is_even e) heard in
      let unmarked = unmarked_of me g Known x A (not-false _ t.0) in
      by_test (ltb e (epoch_of x.readings)) (λ _. by_test (is_even (epoch_of x.readings) && not (has (quorum_of x.state) f)) (λ _. elect_holds me now g Known x unmarked (any x A)) (λ _. done A)) (λ late.
      by_test (ltb (epoch_of x.readings) e)
      (λ up. let lt = ltb-true (epoch_of x.readings) e up in weigh_holds (table_or table x.state.elector.scores) f (merge table (adopt now e x)) (adopted_electing e x) (adopt_holds me now g Known e x (omega arith) t.1 unmarked (any x A)))
      (λ same. let le = ltb-false e (epoch_of x.readings) late in let ge = ltb-false (epoch_of x.readings) e same in
      let q : epoch_of x.readings ≡ e = omega arith in
      weigh_holds (table_or table x.state.elector.scores) f (merge table x) (in_odd_epoch_electing me g Known x A (not-false _ t.0) (ap is_even q ∙ t.1)) A)))

  -- ---- votes

  wins : (q : List Bool) (x : Course) → StandsIn me.member.monitors me.member.rank (core x) → has q me.member.rank ≡ true → is_majority me.member.monitors q ≡ true → ((m : ℕ) → has q m ≡ true → m < me.member.monitors) → Sound me g Known x → Then (Good me g Known) (win me now q x)
  unfolding win
  wins q x S self major within A = if_short_value (suc (epoch_of x.readings)) (wins_holds me now g Known (suc (epoch_of x.readings)) q x (omega arith) (even_of_odd (epoch_of x.readings) S.odd) self major S.queue S.unmarked within A)
    where
      if_short_value : (e : ℕ) → Then (Good me g Known) (x ▸ change (Epoch e) ▸ reign me now q) → Then (Good me g Known) ((checked which.Epoch e >>= (λ e. Ok (change (Epoch e) x))) >>= (λ y. reign me now q y))
      if_short_value e k = cond_both (leb e (2 ^ 62)) (Ok e) (Err which.Epoch) (λ (r : Result ℕ Which). Then (Good me g Known) ((r >>= (λ e. Ok (change (Epoch e) x))) >>= (λ y. reign me now q y))) (λ _. k) (λ _. record { holds = tt })

  count_ack_holds : (f : ℕ) (x : Course) → f < me.member.monitors → x.state.phase ≡ phase.Electing → x.state.elector.candidate ≡ true → Good me g Known x → Then (Good me g Known) (count_ack me now f x)
  count_ack_holds f x known e c A =
      let S = stands_of me g Known x e A in
      let within : (m : ℕ) → has (with_rank x.state.elector.acked f) m ≡ true → m < me.member.monitors = λ m h. elim (has_with_is x.state.elector.acked f m h) [ inl q ↦ (omega arith) | inr k ↦ S.within m k ] in
      let self = has_with x.state.elector.acked f me.member.rank (S.self c) in
      let acked = with_rank x.state.elector.acked f in
      let y : Course = elector_is (record x.state.elector { acked = acked }) x in
      by_test (is_whole me acked && is_allowed me me.member.rank)
      (λ w. wins acked y (record { odd = S.odd; unmarked = S.unmarked; self = λ _. self; within = within; queue = S.queue; sessions = S.sessions }) self
      (whole_major me.member.monitors acked (let b = me.member.in_map in omega arith) ((and_parts _ _ w).0)) within (any x A))
      (λ _. done (weaken _ _ A (λ h E G D p. subst (λ (z : Phase). InPhase me.member.monitors h me.member.rank (core y) z) (sym e) (record { odd = S.odd; unmarked = S.unmarked; self = λ _. self; within = within; queue = S.queue; sessions = S.sessions }))))

  pub hear_ack_holds : (f e : ℕ) (x : Course) → f < me.member.monitors → Good me g Known x → Then (Good me g Known) (hear_ack me now f e x)
  unfolding hear_ack
  hear_ack_holds f e x known A =
      by_test (not (votes x.state.phase) || is_even e || ltb e (epoch_of x.readings)) (λ _. done A) (λ heard.
      let t = or_three (not (votes x.state.phase)) (is_even e) (ltb e (epoch_of x.readings)) heard in
      let le = ltb-false e (epoch_of x.readings) t.2 in
      let unmarked = unmarked_of me g Known x A (not-false _ t.0) in
      by_test (ltb (epoch_of x.readings) e)
      (λ up. elect_holds me now g Known (adopt now e x) (adopted_unmarked e x unmarked) (sound me g Known _ (adopt now e x) (adopt_holds me now g Known e x le t.1 unmarked (any x A))))
      (λ same. by_test x.state.elector.candidate
      (λ c. let ge = ltb-false (epoch_of x.readings) e same in let q : epoch_of x.readings ≡ e = omega arith in
      count_ack_holds f x known (in_odd_epoch_electing me g Known x A (not-false _ t.0) (ap is_even q ∙ t.1)) c A)
      (λ _. done A)))

  pub election_ends_holds : (x : Course) → Good me g Known x → Then (Good me g Known) (election_ends me now x)
  unfolding election_ends
  election_ends_holds x A =
      by_test (not (same_phase x.state.phase phase.Electing)) (λ _. done A) (λ heard.
      let e = electing_is x.state.phase (not-false _ heard) in
      let S = stands_of me g Known x e A in
      by_test (x.state.elector.candidate && is_allowed me me.member.rank && is_majority me.member.monitors x.state.elector.acked)
      (λ w. let t = and_three x.state.elector.candidate (is_allowed me me.member.rank) (is_majority me.member.monitors x.state.elector.acked) w in wins x.state.elector.acked x S (S.self t.0) t.2 S.within (any x A))
      (λ _. elect_holds me now g Known x S.unmarked (any x A)))

  -- ---- victories

  follows : (f e : ℕ) (q : List Bool) (x : Course) → e ≡ suc (epoch_of x.readings) → x.state.phase ≡ phase.Electing → is_even e ≡ true → has q me.member.rank ≡ true → has q f ≡ true → is_majority me.member.monitors q ≡ true
      → Entered g f e f q → Good me g Known x → Good me g Known (follow now f e q x)
  follows f e q x next electing even self leader major J A =
      let S = stands_of me g Known x electing A in
      let i = me.member.rank in
      enters (λ h. InPhase me.member.monitors h i (core x) x.state.phase) (λ k. FollowsIn k i (core (follow now f e q x))) e f q (omega arith) A
      (λ h E p. record { even = even; below = me.member.in_map; self = self; leader = leader; major = major; within = A.glob.roles.within f e f q (entered_lasts i g A.h A.ext f e f q J); lead = inr (entered_lasts i g h E f e f q J) })
      (λ h k E L p role hands. record {
        role = role;
        unmarked = S.unmarked;
        sessions = subst (λ (s : List Asked). AllByRecursion (IsHanded k i e) s) (sym S.sessions) tt;
        below = λ seq s c a. let late = L.hands e seq s c (hands seq s c a) in absurd (omega arith);
        clear = λ t. absurd (false≢true t);
        led = λ t. absurd (false≢true t);
      })

  pub hear_victory_holds : (f e : ℕ) (q : List Bool) (x : Course) → Entered g f e f q → Good me g Known x → Then (Good me g Known) (hear_victory me now f e q x)
  unfolding hear_victory
  hear_victory_holds f e q x J A =
      by_test (not (votes x.state.phase) || not (is_even e) || leb e (epoch_of x.readings)) (λ _. done A) (λ heard.
      let t = or_three (not (votes x.state.phase)) (not (is_even e)) (leb e (epoch_of x.readings)) heard in
      let lt = leb-false e (epoch_of x.readings) t.2 in
      let even = not-false _ t.1 in
      by_test (not (eqb e (suc (epoch_of x.readings))))
      (λ _. elect_holds me now g Known (change (Epoch e) x) (unmarked_of me g Known x A (not-false _ t.0)) (rises _ Nothing e (omega arith) A (λ h k E p. tt)))
      (λ next. let n = eqb-true e (suc (epoch_of x.readings)) (not-false _ next) in
      by_test (has q me.member.rank && has q f && is_majority me.member.monitors q)
      (λ w. let a = and_three (has q me.member.rank) (has q f) (is_majority me.member.monitors q) w in
      done (follows f e q x n (in_odd_epoch_electing me g Known x A (not-false _ t.0) (odd_before (epoch_of x.readings) (ap is_even (sym n) ∙ even))) even a.0 a.1 a.2 J A))
      (λ _. done A)))

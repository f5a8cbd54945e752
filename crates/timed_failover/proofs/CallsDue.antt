-- No call of a timed run is due later than `again` after the present.
use Rattle.law_names.proofs.Runs.{Event, Monitors}
use Rattle.quorum_timed.specs.Begins.{Begins}
use Rattle.quorum_timed.specs.Timed.{Again, Arriving, Asking, Comes, Firing, Leads, Owed, Pace, Timed, Went, at_time}
use Rattle.std.proofs.Common.{Bool, List, [], arith, inl, inr, subst, sym, ℕ, ◌+◌, ◌∷◌, ◌≤◌}

abbrev pub AreDue : Pace → Timed → Type 0
AreDue pace t = (f i : ℕ) → t.call_by f i ≤ t.time + pace.again

module _ (ms : Monitors) (q : List Bool) (pace : Pace) where
  went_due : (t next : Timed) (e : Event) (left : ℕ → ℕ → List Owed) → Went ms q pace t e left next → AreDue pace t → AreDue pace next
  went_due t next e left went D f i =
      let old = D f i in
      let now = went.time in
      elim (went.calls f i) [ inl same ↦ omega arith | inr new ↦ (let k = new.0 in omega arith) ]

  comes_due : (t next : Timed) (e : Event) → Comes ms q pace t next e → AreDue pace t → AreDue pace next
  comes_due t next e (Arriving f i qf qi o others first is went) = went_due t next e _ went
  comes_due t next e (Again f i qf qi k calls is went) = went_due t next e _ went
  comes_due t next e (Firing i qi s up kind end set due is went) = went_due t next e _ went
  comes_due t next e (Asking i qi session request is went) = went_due t next e _ went

  later_due : (t : Timed) (u : ℕ) → t.time ≤ u → AreDue pace t → AreDue pace (at_time ms q pace u t)
  later_due t u le D f i = let k = D f i in omega arith

  pub led_due : (more : List (ℕ × Event)) (t last : Timed) → AreDue pace t → Leads ms q pace t more last → AreDue pace last
  led_due [] t last D L = subst (AreDue pace) (sym L.1) (later_due t last.time (let M = L.0 in M.later) D)
  led_due ((u, e) ∷ more) t last D L = led_due more L.1.0 last (comes_due (at_time ms q pace u t) L.1.0 e L.1.1 (later_due t u (let M = L.0 in M.later) D)) L.1.2

  pub begins_due : (t : Timed) → Begins ms q pace t → AreDue pace t
  begins_due t B f i = let c = B.calls f i in let z = B.time in omega arith

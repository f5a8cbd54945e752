-- What events lead to in time is the world that the run of these events makes.
use Rattle.law_names.proofs.Runs.{Event, Monitors, Ran, happens, ran_from, run_from}
use Rattle.quorum_model.proofs.Continuing.{ran_next}
use Rattle.quorum_timed.specs.Timed.{Again, Arriving, Asking, Comes, Firing, Leads, Pace, Timed, at_time}
use Rattle.std.proofs.Common.{Bool, List, Ok, [], ap, map, sym, ℕ, ◌∙◌, ◌∷◌, ◌≡◌}

module _ (ms : Monitors) (q : List Bool) (pace : Pace) where
  pub happened : (t next : Timed) (e : Event) → Comes ms q pace t next e → happens ms t.world e ≡ Ok next.world
  happened t next e (Arriving f i qf qi o others first is went) = went.happened
  happened t next e (Again f i qf qi k calls is went) = went.happened
  happened t next e (Firing i qi s up kind end armed due is went) = went.happened
  happened t next e (Asking i qi session request is went) = went.happened

  pub runs : (t last : Timed) (more : List (ℕ × Event)) → Leads ms q pace t more last → last.world ≡ run_from ms t.world (map (λ m. m.1) more)
  unfolding ran_from
  runs t last [] L = ap (λ (z : Timed). z.world) L.1
  runs t last ((u, e) ∷ more) L =
      let step = L.1 in
      let next = step.0 in
      runs next last more step.2 ∙ sym (ap (λ (r : Ran). r.world) (ran_next ms t.world next.world e (map (λ m. m.1) more) (happened (at_time ms q pace u t) next e step.1)))

-- A timed run that goes on where another one ends.
use Rattle.law_names.proofs.Runs.{Event, Monitors}
use Rattle.quorum_timed.specs.Timed.{Comes, Leads, MayBe, Pace, Timed, at_time}
use Rattle.std.proofs.Common.{Bool, List, [], ap, arith, subst, ℕ, ◌++◌, ◌∙◌, ◌∷◌}

module _ (ms : Monitors) (q : List Bool) (pace : Pace) where
  -- time may go on twice
  also : (t : Timed) (a u : ℕ) → MayBe ms q pace t a → MayBe ms q pace (at_time ms q pace a t) u → MayBe ms q pace t u
  also t a u A B = record { later = (let k = A.later in let l = B.later in omega arith); messages = B.messages; timers = B.timers; calls = B.calls }

  pub joined : (a : List (ℕ × Event)) (t mid last : Timed) (b : List (ℕ × Event)) → Leads ms q pace t a mid → Leads ms q pace mid b last → Leads ms q pace t (a ++ b) last
  joined [] t mid last [] A B = (also t mid.time last.time A.0 (subst (λ (z : Timed). MayBe ms q pace z last.time) A.1 B.0), B.1 ∙ ap (at_time ms q pace last.time) A.1)
  joined [] t mid last ((u, e) ∷ b) A B =
      (also t mid.time u A.0 (subst (λ (z : Timed). MayBe ms q pace z u) A.1 B.0), (B.1.0, subst (λ (z : Timed). Comes ms q pace (at_time ms q pace u z) B.1.0 e) A.1 B.1.1, B.1.2))
  joined ((u, e) ∷ a) t mid last b A B = (A.0, (A.1.0, A.1.1, joined a A.1.0 mid last b A.1.2 B))

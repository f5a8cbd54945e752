-- In a run from a world that another run reached, the log goes on, and what each event keeps is kept.
use Rattle.law_names.proofs.Runs.{AllFit, Event, Monitors, PlainFits, Reached, World, happens, plain_of, run, run_from}
use Rattle.log_model.proofs.Logs.{IsPrefixOf}
use Rattle.quorum_agreement.proofs.Every.{grows}
use Rattle.quorum_agreement.specs.Growing.{GrowsBy}
use Rattle.quorum_model.proofs.Happening.{of_next, run_keeps}
use Rattle.quorum_model.proofs.Reached.{reached_next, world_is}
use Rattle.std.proofs.Common.{IfOk, List, Ok, [], arith, length-append, subst, sym, ℕ, ◌∷◌, ◌≡◌}
use Rattle.std.proofs.lemmas.List.{get_or_append_left}

module _ (ms : Monitors) where
  grown_log_prefix : (old new : List (List ℕ)) (most : ℕ) → GrowsBy most old new → IsPrefixOf old new
  grown_log_prefix old new most G = subst (IsPrefixOf old) (sym G.is) (record { short = omega (arith, length-append old G.more); same = λ i lt. get_or_append_left old G.more [] i lt })

  -- the log goes on
  pub log_prefix_next : (w next : World) (e : Event) → PlainFits ms.count (plain_of e) → happens ms w e ≡ Ok next → Reached ms w → IsPrefixOf w.log next.log
  log_prefix_next w next e F q R =
      let N = reached_next ms w next e F q R in
      subst (λ (v : World). IsPrefixOf v.log next.log) (world_is ms w R) (subst (λ (v : World). IsPrefixOf (run ms R.events).log v.log) (world_is ms next N) (grown_log_prefix _ _ 1 (grows ms R.events (e ∷ []) N.fit)))

  -- what each event keeps, in a run from a world that is reached
  module _ (P : World → Type 0) (follows : (w : World) (e : Event) → Reached ms w → PlainFits ms.count (plain_of e) → P w → IfOk (happens ms w e) (λ next. IsPrefixOf w.log next.log → P next)) where
    pub runs_on : (w : World) (events : List Event) → AllFit ms.count events → Reached ms w → P w → P (run_from ms w events)
    runs_on w events F R h = (run_keeps ms (λ e. PlainFits ms.count (plain_of e)) (λ w. Reached ms w × P w)
        (λ w e fits h next q. (reached_next ms w next e fits q h.0, of_next (λ (next : World). IsPrefixOf w.log next.log → P next) (happens ms w e) next q (follows w e h.0 fits h.1) (log_prefix_next w next e fits q h.0))) w events F (R, h)).1

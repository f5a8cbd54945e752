-- Runs that nothing stopped go on with the events that follow.
use Rattle.std.proofs.Common.{◌≡◌, List, [], ◌∷◌, ◌++◌, None, Result, Ok, Err, ap}
use Rattle.quorum_model.specs.Happens.{Stop, happens}
use Rattle.quorum_model.specs.Monitors.{Monitors}
use Rattle.quorum_model.specs.Runs.{Ran, goes_on, ran_from}
use Rattle.quorum_model.specs.World.{Event, World}

-- the run reached this world, and nothing stopped it
abbrev pub at : World → Ran
at w = record { world = w; stop = None }

pub ran_on : (ms : Monitors) (w v : World) (before after : List Event) → ran_from ms w before ≡ at v
    → ran_from ms w (before ++ after) ≡ ran_from ms v after
unfolding ran_from
ran_on ms w v [] after e = ap (λ (r : Ran). ran_from ms r.world after) e
ran_on ms w v (x ∷ before) after e = by (happens ms w x) (λ next. ran_on ms next v before after) e
  where
    by : (r : Result World Stop)
        → ((next : World) → ran_from ms next before ≡ at v → ran_from ms next (before ++ after) ≡ ran_from ms v after)
        → goes_on w (λ next. ran_from ms next before) r ≡ at v
        → goes_on w (λ next. ran_from ms next (before ++ after)) r ≡ ran_from ms v after
    by (Ok next) ih e = ih next e
    by (Err stop) ih e = let s = ap (λ (r : Ran). r.stop) e in absurd cc

pub ran_next : (ms : Monitors) (w v : World) (x : Event) (after : List Event) → happens ms w x ≡ Ok v
    → ran_from ms w (x ∷ after) ≡ ran_from ms v after
unfolding ran_from
ran_next ms w v x after e = ap (goes_on w (λ next. ran_from ms next after)) e

pub ran_one : (ms : Monitors) (w v : World) (x : Event) → happens ms w x ≡ Ok v → ran_from ms w (x ∷ []) ≡ at v
unfolding ran_from
ran_one ms w v x e = ap (goes_on w at) e

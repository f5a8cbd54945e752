-- The events of a schedule may be met if what comes by it may.
use Rattle.std.proofs.Common.{ℕ, List, [], ◌∷◌, Option, Some, None, Result, Ok, Err}
use Rattle.std.specs.List.{AllByRecursion}
use Rattle.quorum_model.specs.Events.{PlainFits, AllFit}
use Rattle.quorum_model.specs.Happens.{Stop}
use Rattle.quorum_model.specs.Meets.{Meeting, meets}
use Rattle.quorum_model.specs.Monitors.{Monitors}
use Rattle.quorum_model.specs.Scenes.{Scene, Scheduled, event_at, scene_after, while_on, events_from}
use Rattle.quorum_model.specs.InjectedFaults.{InjectedFault}
use Rattle.quorum_model.specs.World.{Plain, plain_of}

fits_at : (n : ℕ) (c : Scene) (p : Plain) (u : Option InjectedFault) (met : Meeting) → PlainFits n p → PlainFits n (plain_of (event_at c p u met))
fits_at n c p None met h = h
fits_at n c p (Some u) met h = h

pub all_fit : (ms : Monitors) (n : ℕ) (c : Scene) (es : List Scheduled) → AllByRecursion (λ (e : Scheduled). PlainFits n e.plain) es → AllFit n (events_from ms c es)
unfolding events_from
all_fit ms n c [] h = tt
all_fit ms n c (e ∷ es) h = (fits_at n c e.plain e.injected (meets ms c.world e.plain) h.0, by (scene_after ms c e) (λ next. all_fit ms n next es h.1))
  where
    by : (r : Result Scene Stop) → ((next : Scene) → AllFit n (events_from ms next es)) → AllFit n (while_on (λ next. events_from ms next es) r)
    by (Ok next) others = others next
    by (Err stop) others = tt

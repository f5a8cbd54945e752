-- Worlds that runs reach: the first one, one event more, and which world a run has then.
use Rattle.log_model.proofs.Lists.{all_append}
use Rattle.quorum_model.proofs.Continuing.{ran_on, ran_one}
use Rattle.quorum_model.specs.Events.{PlainFits}
use Rattle.quorum_model.specs.Happens.{happens}
use Rattle.quorum_model.specs.Monitors.{Monitors}
use Rattle.quorum_model.specs.Reached.{Reached}
use Rattle.quorum_model.specs.Runs.{Ran, ran_from, run}
use Rattle.quorum_model.specs.World.{Event, World, first_world, plain_of}
use Rattle.std.proofs.Common.{Ok, [], ap, refl, ◌++◌, ◌∙◌, ◌∷◌, ◌≡◌}

module _ (ms : Monitors) where
  abbrev pub reached_first : Reached ms first_world
  unfolding ran_from
  reached_first = record { events = []; fit = tt; is = refl }

  -- one event more
  abbrev pub reached_next : (w next : World) (e : Event) → PlainFits ms.count (plain_of e) → happens ms w e ≡ Ok next → Reached ms w → Reached ms next
  reached_next w next e fits q R = record {
    events = R.events ++ e ∷ [];
    fit = all_append (λ (x : Event). PlainFits ms.count (plain_of x)) R.events (e ∷ []) R.fit (fits, tt);
    is = ran_on ms first_world w R.events (e ∷ []) R.is ∙ ran_one ms w next e q;
  }

  pub world_is : (w : World) (R : Reached ms w) → run ms R.events ≡ w
  world_is w R = ap (λ (r : Ran). r.world) R.is

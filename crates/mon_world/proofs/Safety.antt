-- A world goes on with the run of its events, which is safe.
use Rattle.std.proofs.Common.{◌≡◌, ℕ, List, [], ◌∷◌, ◌++◌, length, map, None, Result, Ok, Err, refl, sym, ap, subst, ◌∙◌}
use Rattle.std.specs.List.{AllByRecursion}
use Rattle.log_model.proofs.Lists.{all_append, all_front}
use Rattle.quorum_agreement.proofs.SafeWorlds.{safe}
use Rattle.quorum_model.proofs.Fitting.{all_fit}
use Rattle.quorum_model.specs.Events.{AllFit, PlainFits}
use Rattle.quorum_model.specs.Files.{Files}
use Rattle.quorum_model.specs.Happens.{Stop, happens}
use Rattle.quorum_model.specs.Meets.{meets}
use Rattle.quorum_model.specs.Monitors.{Monitors}
use Rattle.quorum_model.specs.Runs.{Ran, goes_on, ran_from, run_from}
use Rattle.quorum_model.specs.Safe.{Safe}
use Rattle.quorum_model.specs.Scenes.{Scene, all_files_after, event_in, events_from, events_of, first_scene, with_files}
use Rattle.quorum_model.specs.World.{Event, World, first_world, plain_of}
use Rattle.schedule_text.specs.declared.event.Event as schedule
use Rattle.trace_text.specs.declared.step.StepLine.{StepLine}
use Rattle.mon_world.specs.declared.stop.WorldStop.{WorldStop}
use Rattle.mon_world.specs.declared.world.World as code
use Rattle.mon_world.specs.Events.{scheduled_of}
use Rattle.mon_world.specs.Represented.{Does, Fits, Leads, RepresentsScene, RepresentsRun, and_event}
use Rattle.mon_world.specs.Step.{line_of, step, with_line}
use Rattle.mon_world.proofs.Coming.{all_spoken, event_spoken}

-- ---- the run

module _ (ms : Monitors) (there : World) (e : Event) where
  -- what happens after events that stop nothing
  ran_on : (w : World) (events : List Event) → run_from ms w events ≡ there → (ran_from ms w events).stop ≡ None → ran_from ms w (events ++ e ∷ []) ≡ ran_from ms there (e ∷ [])
  unfolding ran_from
  ran_on w [] is none = ap (λ (w : World). ran_from ms w (e ∷ [])) is
  ran_on w (x ∷ xs) is none = by (happens ms w x) is none (λ next. ran_on next xs)
    where
      by : (r : Result World Stop) → (goes_on w (λ next. ran_from ms next xs) r).world ≡ there → (goes_on w (λ next. ran_from ms next xs) r).stop ≡ None
          → ((next : World) → run_from ms next xs ≡ there → (ran_from ms next xs).stop ≡ None → ran_from ms next (xs ++ e ∷ []) ≡ ran_from ms there (e ∷ []))
          → goes_on w (λ next. ran_from ms next (xs ++ e ∷ [])) r ≡ ran_from ms there (e ∷ [])
      by (Ok next) is none ih = ih next is none
      by (Err stop) is none ih = absurd cc

  ran_next : (w next : World) (events : List Event) → run_from ms w events ≡ there → (ran_from ms w events).stop ≡ None → happens ms there e ≡ Ok next
      → ran_from ms w (events ++ e ∷ []) ≡ record { world = next; stop = None }
  unfolding ran_from
  ran_next w next events is none goes = ran_on w events is none ∙ ap (goes_on there (λ next. ran_from ms next [])) goes

-- the world of the next scene is the result of the event
happened : (line reported : StepLine) (files : ℕ → Files) (r : Result World Stop) (next : Scene) → with_line line (with_files files r) ≡ Ok (next, reported) → r ≡ Ok next.world
happened line reported files (Ok w) next is =
    let both : (record { world = w; files = files }, line) ≡ (next, reported) = cc in
    ap (λ (x : Scene × StepLine). Ok x.0.world) both
happened line reported files (Err stop) next is = absurd cc

-- ---- the world

pub begins : (ms : Monitors) (world : code.World) → RepresentsScene ms world first_scene → RepresentsRun ms [] world first_scene
unfolding ran_from
begins ms world stands = record { fit = tt; comes_to = refl; goes_on = refl; stands = stands }

module _ (ms : Monitors) (old : code.World) (c : Scene) (events : List Event) (e : schedule.Event) (fits : Fits (length old.monitors.items) e) (s : RepresentsRun ms events old c) where
  next_fits : PlainFits ms.count (plain_of (event_in ms c (scheduled_of e)))
  unfolding events_from
  next_fits = (all_fit ms ms.count c (scheduled_of e ∷ []) (event_spoken ms.count e (subst (λ (n : ℕ). Fits n e) s.stands.count fits), tt)).0

  all_next_fit : AllFit ms.count (and_event ms events c e)
  all_next_fit = all_append (λ (x : Event). PlainFits ms.count (plain_of x)) events (event_in ms c (scheduled_of e) ∷ []) s.fit (next_fits, tt)

  pub goes_further : (result : Result StepLine WorldStop) (new : code.World) → Does ms result new (step ms c e) → Leads (RepresentsRun ms (and_event ms events c e) new) result (step ms c e)
  goes_further (Ok line) new does =
      let met = meets ms c.world (scheduled_of e).plain in
      let event = event_in ms c (scheduled_of e) in
      let goes = happened (line_of c e met) line (all_files_after c (scheduled_of e).injected met) (happens ms c.world event) does.0 does.1 in
      let ran = ran_next ms c.world event first_world does.0.world events s.comes_to s.goes_on goes in
      (does.0, does.1, record { fit = all_next_fit; comes_to = ap (λ (r : Ran). r.world) ran; goes_on = ap (λ (r : Ran). r.stop) ran; stands = does.2 })
  goes_further (Err stop) new does = does

  pub safe_after : Safe ms (and_event ms events c e)
  safe_after = safe ms (and_event ms events c e) all_next_fit

-- ---- the schedule

pub schedule_safe : (ms : Monitors) (es : List schedule.Event) → AllByRecursion (Fits ms.count) es
    → (before after : List Event) → before ++ after ≡ events_of ms (map scheduled_of es) → Safe ms before
schedule_safe ms es fit before after is =
    let all = subst (λ (events : List Event). AllFit ms.count events) (sym is) (all_spoken ms es fit) in
    safe ms before (all_front (λ (e : Event). PlainFits ms.count (plain_of e)) before after all)

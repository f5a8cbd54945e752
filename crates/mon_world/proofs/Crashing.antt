-- What the code's world does at an event in which a disk fails is what the model's does.
use Rattle.std.proofs.Common.{◌≡◌, ◌≢◌, ℕ, Bool, true, false, List, length, map, Option, Some, None, Result, Ok, Err, refl, sym, ap, subst, ◌∙◌}
use Rattle.std.proofs.lemmas.Option.{same_Some}
use Rattle.std.specs.Prelude.{is_err, is_some, slice_get, if◌then◌else◌}
use Rattle.mon_kv.specs.Readers.{is_marked}
use Rattle.mon_msg.specs.Protocol.Reaction.{Reaction, reaction}
use Rattle.mon_msg.specs.Protocol.State.{State}
use Rattle.mon_msg.specs.declared.input.Input.{Input}
use Rattle.mon_msg.specs.declared.view.Me.{Me}
use Rattle.mon_site.specs.declared.injected.InjectedFault as site
use Rattle.mon_tx.specs.Map.{Store, apply}
use Rattle.mon_types.specs.declared.names.Which.{Which}
use Rattle.quorum_model.specs.Files.{Files}
use Rattle.quorum_model.specs.Growth.{last_of}
use Rattle.quorum_model.specs.Happens.{after_meeting, in_world, kept_only, lost, map_after, put_at, unless_stopped}
use Rattle.quorum_model.specs.Happens as happens
use Rattle.quorum_model.specs.Meets.{Arrival, Down, Meeting, NoMessage, Reacts, arrival, meets}
use Rattle.quorum_model.specs.Monitors.{Monitors}
use Rattle.quorum_model.specs.Scenes.{Scene, all_files_after, event_at, files_after, kept_at, ops_of, with_files}
use Rattle.quorum_model.specs.InjectedFaults.{InjectedFault}
use Rattle.quorum_model.specs.World.{Crash, Plain}
use Rattle.schedule_text.specs.declared.event.Plain as schedule
use Rattle.trace_text.specs.declared.step.Outcome.{Outcome}
use Rattle.trace_text.specs.declared.step.Outcome.TheVariants as outcome
use Rattle.trace_text.specs.declared.step.StepLine.{StepLine}
use Rattle.mon_world.specs.declared.meeting.Crash as meeting
use Rattle.mon_world.specs.declared.monitor.Monitor.{Monitor}
use Rattle.mon_world.specs.declared.stop.WorldStop.{WorldStop}
use Rattle.mon_world.specs.declared.stop.WorldStop.TheVariants.{OutOfMemory, Spent, Full}
use Rattle.mon_world.specs.declared.world.Fault.{Fault}
use Rattle.mon_world.specs.declared.world.Fault.TheVariants as fault
use Rattle.mon_world.specs.declared.world.FaultOutcome.{FaultOutcome}
use Rattle.mon_world.specs.declared.world.FaultOutcome.TheVariants as fault_outcome
use Rattle.mon_world.specs.declared.world.World.{World}
use Rattle.mon_world.specs.Events.{plain_event}
use Rattle.mon_world.specs.Crashes.{StopsKept, files_remaining, keeps, map_remaining, marked_if, injected_of}
use Rattle.mon_world.specs.Meeting.{MeetsFault}
use Rattle.mon_world.specs.Monitor.{Represents}
use Rattle.mon_world.specs.Represented.{Does, DoesInjected, RepresentsAt, RepresentsScene, envelope_of, injected_step, fault_outcome_at}
use Rattle.mon_world.specs.Step.{log_after, step, still_line, injected_line, with_line}
use Rattle.mon_world.specs.Stops.{Stops}
use Rattle.mon_world.specs.Reporting.{GrowsIf, Leaves, faulty_event, outcome_of, stopped_as}
use Rattle.mon_world.proofs.Arriving.{Reaches, after_none, elsewhere, meets_down, meets_none, meets_up, new_found, put_each, stands_at, still_each, unmoved_stands}
use Rattle.mon_world.proofs.Growing.{grown-length}
use Rattle.mon_world.proofs.Stepping.{is_reaction}

-- ---- the step, by what is met

abbrev injected_at : Scene → InjectedFault → Plain → Meeting → Result Scene happens.Stop
injected_at c u p met = with_files (all_files_after c (Some u) met) (after_meeting c.world (event_at c p (Some u) met) met)

injected_met : (ms : Monitors) (c : Scene) (u : InjectedFault) (p : Plain) (met : Meeting) → meets ms c.world p ≡ met → injected_step ms c u p ≡ injected_at c u p met
injected_met ms c u p met is = ap (injected_at c u p) is

-- if its monitor doesn't react
pub none_crashed : (ms : Monitors) (world : World) (c : Scene) (u : InjectedFault) (p : Plain) → RepresentsScene ms world c → arrival c.world p ≡ None → DoesInjected ms (Ok fault_outcome.NoMessage) world c u p
none_crashed ms world c u p s none =
    let met = meets_none ms c.world p none in
    (after_none c p, injected_met ms c u p NoMessage met, sym (ap (fault_outcome_at c u) met), unmoved_stands ms world world c p s refl s.each refl refl)

module _ (c : Scene) (u : InjectedFault) (p : Plain) (i : ℕ) (came : Input) (r : Result Reaction Which) where
  abbrev files_left_at : Files
  files_left_at = files_after (Some u) came (c.files i) (c.world.store i) (ops_of r)

  -- the step, by whether it is kept
  abbrev injected_by : Bool → Result Scene happens.Stop
  injected_by kept = with_files (put_at c.files i files_left_at) (after_meeting c.world (Crash p kept) (Reacts i came r))

  -- and by whether its reaction stops the run
  abbrev kept_by : Result Reaction happens.Stop → Result Scene happens.Stop
  kept_by q = with_files (put_at c.files i files_left_at) (in_world (kept_only c.world p i) q)

  -- it is lost
  abbrev after_lost : Scene
  after_lost = record { world = lost c.world p i; files = put_at c.files i files_left_at }

  lost_step : kept_at c u (Reacts i came r) ≡ false → injected_at c u p (Reacts i came r) ≡ Ok after_lost
  lost_step is = ap injected_by is

  -- or it is kept
  abbrev after_kept : Reaction → Scene
  after_kept x = record { world = kept_only c.world p i x; files = put_at c.files i files_left_at }

  kept_step : (x : Reaction) → kept_at c u (Reacts i came r) ≡ true → unless_stopped (c.world.store i) r ≡ Ok x → injected_at c u p (Reacts i came r) ≡ Ok (after_kept x)
  kept_step x is h = ap injected_by is ∙ ap kept_by h

  -- or it stops the run
  stop_step : (stop : happens.Stop) → kept_at c u (Reacts i came r) ≡ true → unless_stopped (c.world.store i) r ≡ Err stop → injected_at c u p (Reacts i came r) ≡ Err stop
  stop_step stop is h = ap injected_by is ∙ ap kept_by h

  stop_crashed : (ms : Monitors) (e : WorldStop) → meets ms c.world p ≡ Reacts i came r
      → StopsKept e (kept_at c u (Reacts i came r)) (unless_stopped (c.world.store i) r) → Stops e (injected_step ms c u p)
  stop_crashed ms OutOfMemory met h = tt
  stop_crashed ms (Spent which) met h = injected_met ms c u p (Reacts i came r) met ∙ stop_step (happens.Spent which) h.0 h.1
  stop_crashed ms (Full would_be) met h = injected_met ms c u p (Reacts i came r) met ∙ stop_step (happens.Full would_be) h.0 h.1

  -- ---- the world then

  module _ (ms : Monitors) (old new : World) (s : RepresentsScene ms old c) (count : length new.monitors.items ≡ length old.monitors.items)
      (others : (j : ℕ) → j ≢ i → slice_get new.monitors.items j ≡ slice_get old.monitors.items j)
      (messages : new.messages.items ≡ old.messages.items) where
    lost_stands : RepresentsAt ms new.monitors.items i (c.world.store i) None files_left_at → new.log ≡ old.log → RepresentsScene ms new after_lost
    unfolding lost
    lost_stands here log = record {
      count = count ∙ s.count;
      each =
          put_each (λ j m t f. RepresentsAt ms new.monitors.items j (c.world.store j) t f) c i (c.world.store i) None files_left_at here
          (elsewhere ms old.monitors.items new.monitors.items c i s.each others);
      messages = ap (map envelope_of) messages ∙ s.messages;
      arrive = s.arrive;
      log = log ∙ s.log;
    }

    kept_stands : (x : Reaction) → RepresentsAt ms new.monitors.items i (map_after c.world i x) None files_left_at
        → new.log ≡ log_after old.log (map_after c.world i x) → RepresentsScene ms new (after_kept x)
    unfolding kept_only
    kept_stands x here log = record {
      count = count ∙ s.count;
      each =
          put_each (RepresentsAt ms new.monitors.items) c i (map_after c.world i x) None files_left_at here
          (elsewhere ms old.monitors.items new.monitors.items c i s.each others);
      messages = ap (map envelope_of) messages ∙ s.messages;
      arrive = s.arrive;
      log = log ∙ ap (λ (n : ℕ). log_after n (map_after c.world i x)) s.log ∙ sym (grown-length c.world.log (map_after c.world i x));
    }

-- ---- what remains of a monitor's reaction

-- the result of an arrival at the monitor of its rank, if a disk fails
abbrev pub CrashesAt : site.InjectedFault → List Monitor → List Monitor → Arrival → Result (Option meeting.Crash) WorldStop → Type 0
CrashesAt u old new a r =
    (before after : Monitor) → slice_get old a.rank ≡ Some before → slice_get new a.rank ≡ Some after
    → (me : Me) (m : Store) (s : Option State) (f : Files) → Represents me m s f before → MeetsFault u me a.at m s f a.input after r

is_lost : (b : Bool) (m : Store) → None ≡ marked_if b m → b ≡ false
is_lost true m e = absurd cc
is_lost false m e = refl

is_kept : (marked b : Bool) (m : Store) → Some marked ≡ marked_if b m → (b ≡ true) × (marked ≡ is_marked m)
is_kept marked true m e = (refl, same_Some marked (is_marked m) e)
is_kept marked false m e = absurd cc

reacted : (q : Result Reaction happens.Stop) → is_err q ≡ false → (x : Reaction) × (q ≡ Ok x)
reacted (Ok x) h = (x, refl)
reacted (Err stop) h = absurd cc

module _ (ms : Monitors) (old mid : World) (c : Scene) (u : site.InjectedFault) (p : Plain) (a : Arrival) (s : RepresentsScene ms old c) (r : Reaches ms old.monitors.items c a)
    (comes : arrival c.world p ≡ Some a) (count : length mid.monitors.items ≡ length old.monitors.items) where
  crashed : (result : Result (Option meeting.Crash) WorldStop) → CrashesAt u old.monitors.items mid.monitors.items a result
      → (monitor : Monitor) × (slice_get mid.monitors.items a.rank ≡ Some monitor)
      × MeetsFault u r.me a.at (c.world.store a.rank) (c.world.state a.rank) (c.files a.rank) a.input monitor result
  crashed result h =
      let found = new_found ms old.monitors.items mid.monitors.items c a r count in
      (found.0, found.1, h r.monitor found.0 r.found found.1 r.me (c.world.store a.rank) (c.world.state a.rank) (c.files a.rank) r.stands)

  reacts : State → Result Reaction Which
  reacts before = reaction r.me a.at (c.world.store a.rank) before a.input

  pub crashed_stop : (e : WorldStop) → CrashesAt u old.monitors.items mid.monitors.items a (Err e) → Stops e (injected_step ms c (injected_of u) p)
  unfolding keeps
  crashed_stop e h =
      let m = (crashed (Err e) h).2 in
      stop_crashed c (injected_of u) p a.rank a.input (reaction r.me a.at (c.world.store a.rank) m.0 a.input) ms e
      (meets_up ms c.world p a r.me comes r.itself r.rank_is m.0 m.1) m.2

  module _ (others : (j : ℕ) → j ≢ a.rank → slice_get mid.monitors.items j ≡ slice_get old.monitors.items j) (messages : mid.messages.items ≡ old.messages.items) where
    pub crashed_down : CrashesAt u old.monitors.items mid.monitors.items a (Ok None) → mid.log ≡ old.log → DoesInjected ms (Ok fault_outcome.Down) mid c (injected_of u) p
    crashed_down h log =
        let m = crashed (Ok None) h in
        let met = meets_down ms c.world p a r.me comes r.itself r.rank_is m.2.0 in
        let here = stands_at ms mid.monitors.items a.rank (c.world.store a.rank) (c.world.state a.rank) (c.files a.rank) r.me m.0 r.itself m.1 m.2.1 in (
          after_none c p,
          injected_met ms c (injected_of u) p Down met,
          sym (ap (fault_outcome_at c (injected_of u)) met),
          unmoved_stands ms old mid c p s count (still_each ms old.monitors.items mid.monitors.items c a r s.each count others here) messages log,
        )

    crashed_lost : (crash : meeting.Crash) → crash.kept ≡ None → CrashesAt u old.monitors.items mid.monitors.items a (Ok (Some crash)) → mid.log ≡ old.log
        → DoesInjected ms (Ok (fault_outcome.Stopped false)) mid c (injected_of u) p
    unfolding keeps map_remaining files_remaining
    crashed_lost crash none h log =
        let m = crashed (Ok (Some crash)) h in
        let x : Result Reaction Which = reaction r.me a.at (c.world.store a.rank) m.2.0 a.input in
        let down = m.2.2.down in
        let met = meets_up ms c.world p a r.me comes r.itself r.rank_is m.2.0 m.2.1 in
        let not : keeps u (c.world.store a.rank) (c.files a.rank) a.input x ≡ false = is_lost _ _ (sym none ∙ down.reported_is) in
        let files = files_left_at c (injected_of u) p a.rank a.input x in
        let stands = subst (λ (b : Bool). Represents r.me (if b then apply (ops_of x) (c.world.store a.rank) else c.world.store a.rank) None files m.0) not down.stands in (
          after_lost c (injected_of u) p a.rank a.input x,
          injected_met ms c (injected_of u) p (Reacts a.rank a.input x) met ∙ lost_step c (injected_of u) p a.rank a.input x not,
          sym (ap (fault_outcome_at c (injected_of u)) met ∙ ap fault_outcome.Stopped not),
          lost_stands c (injected_of u) p a.rank a.input x ms old mid s count others messages
              (stands_at ms mid.monitors.items a.rank (c.world.store a.rank) None files r.me m.0 r.itself m.1 stands) log,
        )

    crashed_kept : (crash : meeting.Crash) (marked : Bool) → crash.kept ≡ Some marked → CrashesAt u old.monitors.items mid.monitors.items a (Ok (Some crash))
        → ((m : Store) → crash.last ≡ last_of m → marked ≡ is_marked m → mid.log ≡ log_after old.log m)
        → DoesInjected ms (Ok (fault_outcome.Stopped true)) mid c (injected_of u) p
    unfolding keeps map_remaining files_remaining
    crashed_kept crash marked some h log =
        let m = crashed (Ok (Some crash)) h in
        let y : Result Reaction Which = reaction r.me a.at (c.world.store a.rank) m.2.0 a.input in
        let down = m.2.2.down in
        let met = meets_up ms c.world p a r.me comes r.itself r.rank_is m.2.0 m.2.1 in
        let reported = is_kept marked (keeps u (c.world.store a.rank) (c.files a.rank) a.input y) (apply (ops_of y) (c.world.store a.rank)) (sym some ∙ down.reported_is) in
        let goes_on = reacted (unless_stopped (c.world.store a.rank) y) (down.goes_on reported.0) in
        let x = goes_on.0 in
        let is : y ≡ Ok x = is_reaction (c.world.store a.rank) y x goes_on.1 in
        let store = map_after c.world a.rank x in
        let same : apply (ops_of y) (c.world.store a.rank) ≡ store = ap (λ (z : Result Reaction Which). apply (ops_of z) (c.world.store a.rank)) is in
        let files = files_left_at c (injected_of u) p a.rank a.input y in
        let left : (if keeps u (c.world.store a.rank) (c.files a.rank) a.input y then apply (ops_of y) (c.world.store a.rank) else c.world.store a.rank) ≡ store =
        ap (λ (b : Bool). if b then apply (ops_of y) (c.world.store a.rank) else c.world.store a.rank) reported.0 ∙ same in
        let stands = subst (λ (z : Store). Represents r.me z None files m.0) left down.stands in (
          after_kept c (injected_of u) p a.rank a.input y x,
          injected_met ms c (injected_of u) p (Reacts a.rank a.input y) met ∙ kept_step c (injected_of u) p a.rank a.input y x reported.0 goes_on.1,
          sym (ap (fault_outcome_at c (injected_of u)) met ∙ ap fault_outcome.Stopped reported.0),
          kept_stands c (injected_of u) p a.rank a.input y ms old mid s count others messages x
              (stands_at ms mid.monitors.items a.rank store None files r.me m.0 r.itself m.1 stands)
              (log store (m.2.2.last ∙ ap last_of left) (reported.1 ∙ ap is_marked same)),
        )

-- it crashed, and what it wrote is kept or lost
pub crashed_so : (ms : Monitors) (old mid new : World) (c : Scene) (u : site.InjectedFault) (p : Plain) (a : Arrival) (crash : meeting.Crash) (reported : FaultOutcome) → RepresentsScene ms old c → Reaches ms old.monitors.items c a
    → arrival c.world p ≡ Some a
    → length mid.monitors.items ≡ length old.monitors.items
    → ((j : ℕ) → j ≢ a.rank → slice_get mid.monitors.items j ≡ slice_get old.monitors.items j)
    → mid.messages.items ≡ old.messages.items → mid.log ≡ old.log
    → CrashesAt u old.monitors.items mid.monitors.items a (Ok (Some crash)) → Leaves crash mid new reported
    → DoesInjected ms (Ok reported) new c (injected_of u) p
crashed_so ms old mid new c u p a crash reported s r comes count others messages log h leaves = by crash.kept refl leaves.log leaves.reported_is
  where
    new_count : length new.monitors.items ≡ length old.monitors.items
    new_count = ap length leaves.monitors ∙ count

    new_others : (j : ℕ) → j ≢ a.rank → slice_get new.monitors.items j ≡ slice_get old.monitors.items j
    new_others j n = ap (λ (l : List Monitor). slice_get l j) leaves.monitors ∙ others j n

    crashes : CrashesAt u old.monitors.items new.monitors.items a (Ok (Some crash))
    crashes = subst (λ (l : List Monitor). CrashesAt u old.monitors.items l a (Ok (Some crash))) (sym leaves.monitors) h

    by : (k : Option Bool) → crash.kept ≡ k → GrowsIf k crash.last mid.log new.log → reported ≡ fault_outcome.Stopped (is_some k) → DoesInjected ms (Ok reported) new c (injected_of u) p
    by None e grows is =
        subst (λ (t : FaultOutcome). DoesInjected ms (Ok t) new c (injected_of u) p) (sym is)
        (crashed_lost ms old new c u p a s r comes new_count new_others (leaves.messages ∙ messages) crash e crashes (grows ∙ log))
    by (Some marked) e grows is =
        subst (λ (t : FaultOutcome). DoesInjected ms (Ok t) new c (injected_of u) p) (sym is)
        (crashed_kept ms old new c u p a s r comes new_count new_others (leaves.messages ∙ messages) crash marked e crashes
        (λ m last mark. grows m last mark ∙ ap (λ (n : ℕ). log_after n m) log))

-- ---- what is reported of it

module _ (c : Scene) (u : InjectedFault) (how : Bool → Outcome) where
  line_at : (met : Meeting) → injected_line c u how met ≡ still_line (outcome_of how (fault_outcome_at c u met))
  line_at NoMessage = refl
  line_at Down = refl
  line_at (Reacts i came r) = refl

  -- the step of an event in which a disk fails
  abbrev injected_reported : Monitors → Plain → Result (Scene × StepLine) happens.Stop
  injected_reported ms p = with_line (injected_line c u how (meets ms c.world p)) (injected_step ms c u p)

  reported : (ms : Monitors) (new : World) (p : Plain) (up : FaultOutcome) → DoesInjected ms (Ok up) new c u p → Does ms (Ok (still_line (outcome_of how up))) new (injected_reported ms p)
  reported ms new p up d = (
    d.0,
    ap (with_line (injected_line c u how (meets ms c.world p))) d.1
        ∙ ap {B = Result (Scene × StepLine) happens.Stop} (λ (l : StepLine). Ok (d.0, l)) (line_at (meets ms c.world p) ∙ sym (ap (λ (v : FaultOutcome). still_line (outcome_of how v)) d.2)),
    d.3,
  )

  stops_reported : (ms : Monitors) (p : Plain) (e : WorldStop) → Stops e (injected_step ms c u p) → Stops e (injected_reported ms p)
  stops_reported ms p OutOfMemory h = tt
  stops_reported ms p (Spent which) h = ap (with_line (injected_line c u how (meets ms c.world p))) h
  stops_reported ms p (Full would_be) h = ap (with_line (injected_line c u how (meets ms c.world p))) h

-- by the kind of fault
pub reported_as : (way : Fault) (c : Scene) (u : site.InjectedFault) (ms : Monitors) (new : World) (p : schedule.Plain) (up : FaultOutcome) → DoesInjected ms (Ok up) new c (injected_of u) (plain_event p)
    → Does ms (Ok (still_line (outcome_of (stopped_as way) up))) new (step ms c (faulty_event way u p))
reported_as fault.Crash c u ms new p up d = reported c (injected_of u) outcome.Crashed ms new (plain_event p) up d
reported_as fault.Fail c u ms new p up d = reported c (injected_of u) outcome.Failed ms new (plain_event p) up d

pub stops_as : (way : Fault) (c : Scene) (u : site.InjectedFault) (ms : Monitors) (p : schedule.Plain) (e : WorldStop) → Stops e (injected_step ms c (injected_of u) (plain_event p))
    → Stops e (step ms c (faulty_event way u p))
stops_as fault.Crash c u ms p e h = stops_reported c (injected_of u) outcome.Crashed ms (plain_event p) e h
stops_as fault.Fail c u ms p e h = stops_reported c (injected_of u) outcome.Failed ms (plain_event p) e h

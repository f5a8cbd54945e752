-- What the code's world does at a plain event is what the model's does.
use Rattle.std.proofs.Common.{◌≡◌, ◌≢◌, ℕ, Bool, true, false, List, [], ◌∷◌, ◌++◌, length, map, Option, Some, None, Result, Ok, Err, refl, sym, ap, subst, ◌∙◌}
use Rattle.std.proofs.lemmas.List.{length-map}
use Rattle.std.specs.List.{AllByRecursion}
use Rattle.std.specs.Prelude.{slice_get, nat_lt, ◌≤◌, if◌then◌else◌}
use Rattle.log_model.proofs.Lists.{all_append}
use Rattle.mon_bounds.specs.Fitting.{MaySend}
use Rattle.mon_core.specs.Reacts.{SendsNamed}
use Rattle.mon_kv.specs.Readers.{size_of, most_size}
use Rattle.mon_msg.specs.Protocol.Reaction.{Reaction, reaction}
use Rattle.mon_msg.specs.Protocol.State.{State}
use Rattle.mon_msg.specs.declared.input.Input.{Input}
use Rattle.mon_msg.specs.declared.plan.Sent.TheVariants as sent
use Rattle.mon_msg.specs.declared.plan.Sent.{Sent}
use Rattle.mon_msg.specs.declared.view.Me.{Me}
use Rattle.mon_tx.specs.Map.{Store, apply}
use Rattle.mon_tx.specs.Text.{text, most}
use Rattle.mon_types.specs.declared.names.Which.{Which}
use Rattle.quorum_model.specs.Clients.{messages_of}
use Rattle.quorum_model.specs.Files.{Files}
use Rattle.quorum_model.specs.Happens.{after_meeting, in_world, map_after, moved, put_at, unless_stopped}
use Rattle.quorum_model.specs.Happens as happens
use Rattle.quorum_model.specs.Meets.{Arrival, Down, Meeting, NoMessage, Reacts, arrival, meets}
use Rattle.quorum_model.specs.Monitors.{Monitors}
use Rattle.quorum_model.specs.Scenes.{Scene, all_files_after, files_after, with_files}
use Rattle.quorum_model.specs.World.{Arrives, Envelope}
use Rattle.schedule_text.specs.declared.event.Event.TheVariants as events
use Rattle.schedule_text.specs.declared.event.Plain.{Plain}
use Rattle.trace_text.specs.declared.step.Outcome.TheVariants as outcome
use Rattle.trace_text.specs.declared.step.StateLine.{StateLine}
use Rattle.trace_text.specs.declared.step.StepLine.{StepLine}
use Rattle.mon_world.specs.declared.meeting.Handled.{Handled}
use Rattle.mon_world.specs.declared.monitor.Monitor.{Monitor}
use Rattle.mon_world.specs.declared.sending.Envelope as code
use Rattle.mon_world.specs.declared.stop.WorldStop.{WorldStop}
use Rattle.mon_world.specs.declared.stop.WorldStop.TheVariants.{OutOfMemory, Spent, Full}
use Rattle.mon_world.specs.declared.world.World.{World}
use Rattle.mon_world.specs.Events.{plain_event}
use Rattle.mon_world.specs.Meeting.{Meets}
use Rattle.mon_world.specs.Monitor.{Represents, does, files_kept}
use Rattle.mon_world.specs.Represented.{Does, MayArrive, RepresentsAt, RepresentsScene, envelope_of}
use Rattle.mon_world.specs.Step.{log_after, met_line, ran_line, step, still_line, with_line}
use Rattle.mon_world.specs.Stops.{Stops}
use Rattle.mon_world.specs.Reporting.{Reports, handled_line}
use Rattle.mon_world.proofs.Arriving.{Reaches, after_none, elsewhere, meets_down, meets_none, meets_up, new_found, put_each, stands_at, still_each, unmoved_stands}
use Rattle.mon_world.proofs.Growing.{grown-length}

-- ---- the step, by what is met

abbrev pub step_at : Scene → Plain → Meeting → Result (Scene × StepLine) happens.Stop
step_at c p met = with_line (met_line c.world met) (with_files (all_files_after c None met) (after_meeting c.world (Arrives (plain_event p)) met))

step_met : (ms : Monitors) (c : Scene) (p : Plain) (met : Meeting) → meets ms c.world (plain_event p) ≡ met → step ms c (events.Plain p) ≡ step_at c p met
step_met ms c p met is = ap (step_at c p) is

-- ---- an event without effect

pub none_met : (ms : Monitors) (world : World) (c : Scene) (p : Plain) → RepresentsScene ms world c → arrival c.world (plain_event p) ≡ None
    → Does ms (Ok (still_line outcome.NoMessage)) world (step ms c (events.Plain p))
none_met ms world c p s none =
    (after_none c (plain_event p), step_met ms c p NoMessage (meets_none ms c.world (plain_event p) none), unmoved_stands ms world world c (plain_event p) s refl s.each refl refl)

-- ---- what a monitor does

-- the result of an arrival at the monitor of its rank
abbrev pub MeetsAt : List Monitor → List Monitor → Arrival → Result (Option Handled) WorldStop → Type 0
MeetsAt old new a r =
    (before after : Monitor) → slice_get old a.rank ≡ Some before → slice_get new a.rank ≡ Some after
    → (me : Me) (m : Store) (s : Option State) (f : Files) → Represents me m s f before → Meets me a.at m s f a.input after r

-- a result that doesn't stop the run is that of a reaction
pub is_reaction : (m : Store) (r : Result Reaction Which) (x : Reaction) → unless_stopped m r ≡ Ok x → r ≡ Ok x
is_reaction m (Err which) x e = absurd cc
is_reaction m (Ok y) x e = by (nat_lt most_size (size_of (apply y.transaction m))) e
  where
    by : (b : Bool) → (if b then Err (happens.Full (size_of (apply y.transaction m))) else Ok y) ≡ Ok x → ◌≡◌ {A = Result Reaction Which} (Ok y) (Ok x)
    by true e = absurd cc
    by false e = cc

module _ (c : Scene) (p : Plain) (i : ℕ) (came : Input) where
  -- the step, by whether its reaction stops the run
  abbrev step_by : Result Reaction Which → Result Reaction happens.Stop → Result (Scene × StepLine) happens.Stop
  step_by r q =
      with_line (met_line c.world (Reacts i came r)) (with_files (all_files_after c None (Reacts i came r)) (in_world (moved c.world (plain_event p) i) q))

  stops_step : (r : Result Reaction Which) (stop : happens.Stop) → unless_stopped (c.world.store i) r ≡ Err stop → step_at c p (Reacts i came r) ≡ Err stop
  stops_step r stop e = ap (step_by r) e

  abbrev pub after_handled : Reaction → Scene
  after_handled x = record {
    world = moved c.world (plain_event p) i x;
    files = put_at c.files i (files_after None came (c.files i) (c.world.store i) x.transaction);
  }

  turned_step : (x : Reaction) → unless_stopped (c.world.store i) (Ok x) ≡ Ok x → step_at c p (Reacts i came (Ok x)) ≡ Ok (after_handled x, ran_line c.world i came x)
  turned_step x e = ap (step_by (Ok x)) e

  -- it stops the run
  pub stop_met : (ms : Monitors) (r : Result Reaction Which) (e : WorldStop) → meets ms c.world (plain_event p) ≡ Reacts i came r
      → Stops e (unless_stopped (c.world.store i) r) → Stops e (step ms c (events.Plain p))
  stop_met ms r OutOfMemory met h = tt
  stop_met ms r (Spent which) met h = step_met ms c p (Reacts i came r) met ∙ stops_step r (happens.Spent which) h
  stop_met ms r (Full would_be) met h = step_met ms c p (Reacts i came r) met ∙ stops_step r (happens.Full would_be) h

  -- or it is kept
  pub handled_met : (ms : Monitors) (r : Result Reaction Which) (x : Reaction) → meets ms c.world (plain_event p) ≡ Reacts i came r
      → unless_stopped (c.world.store i) r ≡ Ok x → step ms c (events.Plain p) ≡ Ok (after_handled x, ran_line c.world i came x)
  handled_met ms r x met h =
      let is = is_reaction (c.world.store i) r x h in
      step_met ms c p (Reacts i came r) met ∙ ap (λ (r : Result Reaction Which). step_at c p (Reacts i came r)) is
      ∙ turned_step x (sym (ap (unless_stopped (c.world.store i)) is) ∙ h)

  -- the world then
  pub handled_stands : (ms : Monitors) (old new : World) (x : Reaction) → RepresentsScene ms old c
      → length new.monitors.items ≡ length old.monitors.items
      → ((j : ℕ) → j ≢ i → slice_get new.monitors.items j ≡ slice_get old.monitors.items j)
      → RepresentsAt ms new.monitors.items i (map_after c.world i x) (Some x.state) (files_after None came (c.files i) (c.world.store i) x.transaction)
      → map envelope_of new.messages.items ≡ map envelope_of old.messages.items ++ messages_of x.sends
      → AllByRecursion (MayArrive ms.count) (messages_of x.sends)
      → new.log ≡ log_after old.log (map_after c.world i x)
      → RepresentsScene ms new (after_handled x)
  unfolding moved
  handled_stands ms old new x s count others here messages arrive log = record {
    count = count ∙ s.count;
    each =
        put_each (RepresentsAt ms new.monitors.items) c i (map_after c.world i x) (Some x.state) (files_after None came (c.files i) (c.world.store i) x.transaction) here
        (elsewhere ms old.monitors.items new.monitors.items c i s.each others);
    messages = messages ∙ ap (λ (es : List Envelope). es ++ messages_of x.sends) s.messages;
    arrive = all_append (MayArrive ms.count) c.world.messages (messages_of x.sends) s.arrive arrive;
    log = log ∙ ap (λ (n : ℕ). log_after n (map_after c.world i x)) s.log ∙ sym (grown-length c.world.log (map_after c.world i x));
  }

-- each message that is sent may arrive at a monitor
goes : (me : Me) (sends : List Sent) → AllByRecursion (MaySend me) sends → AllByRecursion SendsNamed sends → AllByRecursion (MayArrive me.member.monitors) (messages_of sends)
goes me [] h n = tt
goes me (sent.Message to m ∷ sends) h n = (record { to = h.0.0; comes = (h.0.1.form n.0, h.0.1.fits) }, goes me sends h.1 n.1)
goes me (sent.Reply to r ∷ sends) h n = goes me sends h.1 n.1

module _ (ms : Monitors) (old mid : World) (c : Scene) (a : Arrival) (r : Reaches ms old.monitors.items c a)
    (count : length mid.monitors.items ≡ length old.monitors.items) where
  abbrev Met : Result (Option Handled) WorldStop → Type 0
  Met result =
      (monitor : Monitor) × (slice_get mid.monitors.items a.rank ≡ Some monitor)
      × Meets r.me a.at (c.world.store a.rank) (c.world.state a.rank) (c.files a.rank) a.input monitor result

  met : (result : Result (Option Handled) WorldStop) → MeetsAt old.monitors.items mid.monitors.items a result → Met result
  met result h =
      let found = new_found ms old.monitors.items mid.monitors.items c a r count in
      (found.0, found.1, h r.monitor found.0 r.found found.1 r.me (c.world.store a.rank) (c.world.state a.rank) (c.files a.rank) r.stands)

  -- what it writes isn't too long
  pub met_short : (t : Handled) → MeetsAt old.monitors.items mid.monitors.items a (Ok (Some t)) → length (text t.reaction.tx) ≤ most
  met_short t h = (met (Ok (Some t)) h).2.2.is_done.short

module _ (ms : Monitors) (old mid : World) (c : Scene) (p : Plain) (a : Arrival) (s : RepresentsScene ms old c) (r : Reaches ms old.monitors.items c a)
    (comes : arrival c.world (plain_event p) ≡ Some a) (count : length mid.monitors.items ≡ length old.monitors.items) where
  -- it stops the run
  pub met_stop : (e : WorldStop) → MeetsAt old.monitors.items mid.monitors.items a (Err e) → Stops e (step ms c (events.Plain p))
  unfolding does
  met_stop e h =
      let m = (met ms old mid c a r count (Err e) h).2 in
      stop_met c p a.rank a.input ms (reaction r.me a.at (c.world.store a.rank) m.0 a.input) e
      (meets_up ms c.world (plain_event p) a r.me comes r.itself r.rank_is m.0 m.1) m.2

  module _ (others : (j : ℕ) → j ≢ a.rank → slice_get mid.monitors.items j ≡ slice_get old.monitors.items j)
      (messages : mid.messages.items ≡ old.messages.items) (log : mid.log ≡ old.log) where
    -- it is down
    pub met_down : MeetsAt old.monitors.items mid.monitors.items a (Ok None) → Does ms (Ok (still_line outcome.Down)) mid (step ms c (events.Plain p))
    met_down h =
        let m = met ms old mid c a r count (Ok None) h in
        let here = stands_at ms mid.monitors.items a.rank (c.world.store a.rank) (c.world.state a.rank) (c.files a.rank) r.me m.0 r.itself m.1 m.2.1 in (
          after_none c (plain_event p),
          step_met ms c p Down (meets_down ms c.world (plain_event p) a r.me comes r.itself r.rank_is m.2.0),
          unmoved_stands ms old mid c (plain_event p) s count (still_each ms old.monitors.items mid.monitors.items c a r s.each count others here) messages log,
        )

    -- it does something, and that is reported
    pub met_handled : (new : World) (t : Handled) (line : StepLine) → MeetsAt old.monitors.items mid.monitors.items a (Ok (Some t)) → Reports a.rank t mid new line
        → Does ms (Ok line) new (step ms c (events.Plain p))
    unfolding does files_kept
    met_handled new t line h reports =
        let m = met ms old mid c a r count (Ok (Some t)) h in
        let handled = m.2.2 in
        let x : Reaction = record { transaction = t.reaction.tx; sends = t.reaction.out; state = handled.state } in
        let store = map_after c.world a.rank x in
        let files = files_after None a.input (c.files a.rank) (c.world.store a.rank) x.transaction in
        let up = meets_up ms c.world (plain_event p) a r.me comes r.itself r.rank_is m.2.0 m.2.1 in
        let many : length c.world.messages ≡ length mid.messages.items =
        sym (ap length s.messages) ∙ length-map old.messages.items envelope_of ∙ sym (ap length messages) in
        let lines : ran_line c.world a.rank a.input x ≡ line =
        ap (λ (reported : Option StateLine). record (handled_line a.rank (length c.world.messages) t) { state = reported }) (sym handled.reported_is)
        ∙ ap (λ (n : ℕ). handled_line a.rank n t) many ∙ sym reports.line_is in
        let here = stands_at ms mid.monitors.items a.rank store (Some x.state) files r.me m.0 r.itself m.1 handled.stands in (
          after_handled c p a.rank a.input x,
          handled_met c p a.rank a.input ms (reaction r.me a.at (c.world.store a.rank) m.2.0 a.input) x up handled.is_done.does_so
              ∙ ap {B = Result (Scene × StepLine) happens.Stop} (λ (l : StepLine). Ok (after_handled c p a.rank a.input x, l)) lines,
          handled_stands c p a.rank a.input ms old new x s (ap length reports.monitors ∙ count)
              (λ j n. ap (λ (l : List Monitor). slice_get l j) reports.monitors ∙ others j n)
              (subst (λ (l : List Monitor). RepresentsAt ms l a.rank store (Some x.state) files) (sym reports.monitors) here)
              (reports.messages ∙ ap (λ (es : List code.Envelope). map envelope_of es ++ messages_of x.sends) messages)
              (subst (λ (n : ℕ). AllByRecursion (MayArrive n) (messages_of x.sends)) r.monitors (goes r.me x.sends handled.is_done.may_go handled.is_done.named))
              (reports.log store handled.last handled.marked ∙ ap (λ (n : ℕ). log_after n store) log),
        )

-- The trace of a schedule's events reports their run.
use Rattle.std.proofs.Common.{◌≡◌, ℕ, suc, ◌+◌, Bool, true, false, List, [], ◌∷◌, ◌++◌, length, map, Result, Ok, Err, arith, refl, sym, ap, ◌∙◌, append_assoc}
use Rattle.std.proofs.lemmas.Bool.{cond_both}
use Rattle.std.proofs.lemmas.List.{append-nil, map-append}
use Rattle.std.specs.List.{flat_map}
use Rattle.std.specs.Prelude.{nat_lt}
use Rattle.mon_kv.specs.Readers.{most_size, size_of}
use Rattle.mon_msg.specs.Protocol.Reaction.{Reaction}
use Rattle.mon_msg.specs.declared.plan.Sent.{Sent}
use Rattle.mon_msg.specs.declared.plan.Sent.TheVariants as sent
use Rattle.mon_msg.specs.declared.input.Input.{Input}
use Rattle.mon_tx.specs.Map.{Store, apply}
use Rattle.mon_types.specs.declared.names.Which.{Which}
use Rattle.quorum_model.specs.Clients.{messages_of, replies_of}
use Rattle.quorum_model.specs.Files.{Files}
use Rattle.quorum_model.specs.Happens.{Full, Stop, after_meeting, happens, in_world, kept_only, lost, map_after, moved, unless_stopped, unmoved}
use Rattle.quorum_model.specs.Meets.{Down, Meeting, NoMessage, Reacts, meets}
use Rattle.quorum_model.specs.Monitors.{Monitors}
use Rattle.quorum_model.specs.Runs.{Ran, goes_on, ran_from}
use Rattle.quorum_model.specs.Scenes.{Scene, all_files_after, event_in, events_from, first_scene, kept_at, while_on, with_files}
use Rattle.quorum_model.specs.InjectedFaults.{InjectedFault}
use Rattle.quorum_model.specs.World as model
use Rattle.quorum_model.specs.World.{Arrives, Crash, World}
use Rattle.schedule_text.specs.declared.event.Event.{Event}
use Rattle.schedule_text.specs.declared.event.Event.TheVariants as events
use Rattle.trace_text.specs.declared.step.Numbered.{Numbered}
use Rattle.trace_text.specs.declared.step.Outcome.{Outcome}
use Rattle.trace_text.specs.declared.step.Outcome.TheVariants as outcome
use Rattle.trace_text.specs.declared.step.Replied.{Replied}
use Rattle.trace_text.specs.declared.step.StepLine.{StepLine}
use Rattle.mon_world.specs.Events.{plain_event, scheduled_of}
use Rattle.mon_world.specs.Step.{line_of, met_line, numbered, replied, still_line, injected_line, with_line}
use Rattle.mon_world.specs.Traced.{Traced, TracesRun, as_reported, traced_from, traced_on}
use Rattle.mon_world.proofs.Outgoing.{numbered-append}

-- ---- the run of a trace

-- the run that was traced
abbrev run_of : Traced → Ran
run_of t = record { world = t.scene.world; stop = t.stop }

-- both go on with the world that an event makes, or stop before it
by : (ms : Monitors) (c : Scene) (es : List Event) (line : StepLine) (files : ℕ → Files) (r : Result World Stop)
    → ((next : Scene) → run_of (traced_from ms next es) ≡ ran_from ms next.world (events_from ms next (map scheduled_of es)))
    → run_of (traced_on c (λ next. traced_from ms next es) (with_line line (with_files files r)))
    ≡ goes_on c.world (λ w. ran_from ms w (while_on (λ next. events_from ms next (map scheduled_of es)) (with_files files r))) r
by ms c es line files (Ok w) others = others (record { world = w; files = files })
by ms c es line files (Err stop) others = refl

traces_from : (ms : Monitors) (c : Scene) (es : List Event) → run_of (traced_from ms c es) ≡ ran_from ms c.world (events_from ms c (map scheduled_of es))
unfolding traced_from ran_from events_from
traces_from ms c [] = refl
traces_from ms c (e ∷ es) =
    let s = scheduled_of e in
    let met = meets ms c.world s.plain in
    by ms c es (line_of c e met) (all_files_after c s.injected met) (happens ms c.world (event_in ms c s)) (λ next. traces_from ms next es)

-- ---- what is reported of one event

-- the line has what was sent between two worlds
record Reports (old new : World) (line : StepLine) : Type 0 where
  pub replies : map as_reported new.replied ≡ map as_reported old.replied ++ line.replies
  pub messages : numbered 1 new.messages ≡ numbered 1 old.messages ++ line.sent

-- if the event has a world
abbrev ReportsIn : World → StepLine → Result World Stop → Type 0
ReportsIn w line (Ok next) = Reports w next line
ReportsIn w line (Err stop) = Unit {0}

replies_reported : (event rank : ℕ) (m : Store) (sends : List Sent) → map as_reported (replies_of event rank m sends) ≡ replied rank sends
replies_reported event rank m [] = refl
replies_reported event rank m (sent.Message to x ∷ sends) = replies_reported event rank m sends
replies_reported event rank m (sent.Reply to r ∷ sends) =
    ap (λ (others : List Replied). record { rank = rank; session = to; reply = r } ∷ others) (replies_reported event rank m sends)

-- nothing went out, and nothing is reported
still : (old new : World) (how : Outcome) → new.replied ≡ old.replied → new.messages ≡ old.messages → Reports old new (still_line how)
still old new how replies messages = record {
  replies = ap (map as_reported) replies ∙ sym (append-nil (map as_reported old.replied));
  messages = ap (numbered 1) messages ∙ sym (append-nil (numbered 1 old.messages));
}

module _ (w : World) (p : model.Plain) where
  not_there : (how : Outcome) → Reports w (unmoved w p) (still_line how)
  unfolding unmoved
  not_there how = still w (unmoved w p) how refl refl

  goes_down : (i : ℕ) (how : Outcome) → Reports w (lost w p i) (still_line how)
  unfolding lost
  goes_down i how = still w (lost w p i) how refl refl

  keeps : (i : ℕ) (r : Reaction) (how : Outcome) → Reports w (kept_only w p i r) (still_line how)
  unfolding kept_only
  keeps i r how = still w (kept_only w p i r) how refl refl

  moves : (i : ℕ) (r : Reaction) (line : StepLine) → line.replies ≡ replied i r.sends → line.sent ≡ numbered (suc (length w.messages)) (messages_of r.sends) → Reports w (moved w p i r) line
  unfolding moved
  moves i r line replies sent =
      let new = replies_of (suc w.events) i (map_after w i r) r.sends in
      let next : 1 + length w.messages ≡ suc (length w.messages) = omega arith in
      record {
        replies = map-append as_reported w.replied new ∙ ap (λ (reported : List Replied). map as_reported w.replied ++ reported) (replies_reported (suc w.events) i (map_after w i r) r.sends ∙ sym replies);
        messages = numbered-append 1 w.messages (messages_of r.sends) ∙ ap (λ (n : ℕ). numbered 1 w.messages ++ numbered n (messages_of r.sends)) next ∙ ap (λ (reported : List Numbered). numbered 1 w.messages ++ reported) (sym sent);
      }

  -- a reaction that doesn't stop the run
  unless_full : (m : Store) (next : Reaction → World) (r : Reaction) (line : StepLine) → Reports w (next r) line → ReportsIn w line (in_world next (unless_stopped m (Ok r)))
  unless_full m next r line reports =
      cond_both (nat_lt most_size (size_of (apply r.transaction m))) (Err (Full (size_of (apply r.transaction m)))) (Ok r) (λ (x : Result Reaction Stop). ReportsIn w line (in_world next x)) (λ _. tt) (λ _. reports)

  comes : (met : Meeting) → ReportsIn w (met_line w met) (after_meeting w (Arrives p) met)
  comes (Reacts i came (Ok r)) = unless_full (w.store i) (moved w p i) r (met_line w (Reacts i came (Ok r))) (moves i r (met_line w (Reacts i came (Ok r))) refl refl)
  comes (Reacts i came (Err which)) = tt
  comes NoMessage = not_there outcome.NoMessage
  comes Down = not_there outcome.Down

  crashes : (kept : Bool) (i : ℕ) (came : Input) (how : Bool → Outcome) (r : Result Reaction Which) → ReportsIn w (still_line (how kept)) (after_meeting w (Crash p kept) (Reacts i came r))
  crashes true i came how (Ok r) = unless_full (w.store i) (kept_only w p i) r (still_line (how true)) (keeps i r (how true))
  crashes true i came how (Err which) = tt
  crashes false i came how r = goes_down i (how false)

module _ (c : Scene) (p : model.Plain) (u : InjectedFault) (how : Bool → Outcome) where
  faulted : (met : Meeting) → ReportsIn c.world (injected_line c u how met) (after_meeting c.world (Crash p (kept_at c u met)) met)
  faulted (Reacts i came r) = crashes c.world p (kept_at c u (Reacts i came r)) i came how r
  faulted NoMessage = not_there c.world p outcome.NoMessage
  faulted Down = not_there c.world p outcome.Down

reports_event : (ms : Monitors) (c : Scene) (e : Event) → ReportsIn c.world (line_of c e (meets ms c.world (scheduled_of e).plain)) (happens ms c.world (event_in ms c (scheduled_of e)))
reports_event ms c (events.Plain p) = comes c.world (plain_event p) (meets ms c.world (plain_event p))
reports_event ms c (events.Crash disk call image p) = faulted c (plain_event p) (record { disk = disk; call = call; image = image }) outcome.Crashed (meets ms c.world (plain_event p))
reports_event ms c (events.Fail disk call image p) = faulted c (plain_event p) (record { disk = disk; call = call; image = image }) outcome.Failed (meets ms c.world (plain_event p))

-- ---- what is reported of a run

record AllReported (c : Scene) (t : Traced) : Type 0 where
  pub replies : map as_reported t.scene.world.replied ≡ map as_reported c.world.replied ++ flat_map (λ (l : StepLine). l.replies) t.lines
  pub messages : numbered 1 t.scene.world.messages ≡ numbered 1 c.world.messages ++ flat_map (λ (l : StepLine). l.sent) t.lines

and_then : (ms : Monitors) (c : Scene) (es : List Event) (line : StepLine) (files : ℕ → Files) (r : Result World Stop) → ReportsIn c.world line r → ((next : Scene) → AllReported next (traced_from ms next es))
    → AllReported c (traced_on c (λ next. traced_from ms next es) (with_line line (with_files files r)))
and_then ms c es line files (Ok w) reports others =
    let next : Scene = record { world = w; files = files } in
    let reported = others next in
    let replies = flat_map (λ (l : StepLine). l.replies) (traced_from ms next es).lines in
    let messages = flat_map (λ (l : StepLine). l.sent) (traced_from ms next es).lines in
    record {
      replies = reported.replies ∙ ap (λ (before : List Replied). before ++ replies) reports.replies ∙ append_assoc (map as_reported c.world.replied) line.replies replies;
      messages = reported.messages ∙ ap (λ (before : List Numbered). before ++ messages) reports.messages ∙ append_assoc (numbered 1 c.world.messages) line.sent messages;
    }
and_then ms c es line files (Err stop) reports others = record { replies = sym (append-nil (map as_reported c.world.replied)); messages = sym (append-nil (numbered 1 c.world.messages)) }

reported_from : (ms : Monitors) (c : Scene) (es : List Event) → AllReported c (traced_from ms c es)
unfolding traced_from
reported_from ms c [] = record { replies = sym (append-nil (map as_reported c.world.replied)); messages = sym (append-nil (numbered 1 c.world.messages)) }
reported_from ms c (e ∷ es) =
    let s = scheduled_of e in
    let met = meets ms c.world s.plain in
    and_then ms c es (line_of c e met) (all_files_after c s.injected met) (happens ms c.world (event_in ms c s)) (reports_event ms c e) (λ next. reported_from ms next es)

pub traces_run : (ms : Monitors) (es : List Event) → TracesRun ms es
traces_run ms es =
    let is = traces_from ms first_scene es in
    let reported = reported_from ms first_scene es in
    record {
      world = ap (λ (r : Ran). r.world) is;
      stop = ap (λ (r : Ran). r.stop) is;
      replies = sym reported.replies ∙ ap (λ (r : Ran). map as_reported r.world.replied) is;
      messages = sym reported.messages ∙ ap (λ (r : Ran). numbered 1 r.world.messages) is;
    }

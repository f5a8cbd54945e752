-- What each end of a run shows.
use Rattle.std.proofs.Common.{◌≡◌, ℕ, ◌<◌, ◌≤◌, List, [], length, Option, Some, is_some, Result, Ok, Err, refl, sym, ap, subst, arith, inl, inr}
use Rattle.std.specs.Io.KnownBytes.{Appends}
use Rattle.std.proofs.KnownBytes.{Appends-nil}
use Rattle.mon_types.specs.Faults.{Rose}
use Rattle.mon_types.specs.declared.names.Stop.{Stop}
use Rattle.mon_types.specs.declared.names.Stop.TheVariants as outside
use Rattle.mon_link.proofs.Wholes.{at_end, front_of}
use Rattle.mon_link.specs.Whole.{ReadsWhole, AppendsPrefix}
use Rattle.quorum_model.specs.Happens as happens
use Rattle.quorum_model.specs.Monitors.{Monitors}
use Rattle.quorum_model.specs.Scenes.{Scene, first_scene}
use Rattle.schedule_made.specs.Made.{made_schedule}
use Rattle.schedule_made.proofs.MadeLaws.{made_has_text}
use Rattle.schedule_text.specs.declared.event.Event.{Event}
use Rattle.schedule_text.specs.declared.schedule.Schedule.{Schedule}
use Rattle.schedule_text.specs.Encoding.{HasText, schedule_text}
use Rattle.mon_world.specs.declared.stop.WorldStop.{WorldStop}
use Rattle.mon_world.specs.declared.stop.WorldStop.TheVariants as world_stop
use Rattle.cephmon_run.specs.declared.replay.ReplayStop.{ReplayStop}
use Rattle.cephmon_run.specs.declared.replay.ReplayStop.TheVariants as stop
use Rattle.run_status.specs.declared.status.Status.{Status}
use Rattle.run_status.specs.declared.status.Status.TheVariants as status
use Rattle.cephmon_run.specs.declared.summary.Counts.{Counts}
use Rattle.cephmon_run.specs.Replay.{StopsAs, Writes, fault_of, status_of}
use Rattle.cephmon_run.specs.Run.{Made, MadeCause, ReplayCause, Replayed, Runs, SummedAll, ReportsFault, most_read}
use Rattle.cephmon_run.specs.Outside.{Outside, WroteNothing}
use Rattle.cephmon_run.specs.Summary.{IsLine, Summary, counted_from, no_counts, summary, summed}
use Rattle.cephmon_run.specs.Trace.{Trace, trace}
use Rattle.mon_world.proofs.Safety.{schedule_safe}
use Rattle.mon_world.proofs.Tracing.{traces_run}
use Rattle.cephmon_run.proofs.Schedules.{all_fit, monitors_of}

runs : (s : Schedule) (h : HasText s) → Runs s (monitors_of s h)
runs s h = record { count = refl; rule = refl; safe = schedule_safe (monitors_of s h) s.events (all_fit s (monitors_of s h) h refl); traces = traces_run (monitors_of s h) s.events }

-- ---- of what was read

-- this was read from the source, to its end or up to the most that is read
pub record HasRead (before after : Outside) (bytes : List ℕ) : Type 0 where
  pub visible : is_some after.left ≡ is_some before.left
  pub most : length bytes ≤ most_read
  pub whole : ReadsWhole most_read before.left after.left bytes

-- a schedule is shorter than the most that is read, so it was read to the end
replayed : (before after : Outside) (bytes : List ℕ) (s : Schedule) (h : HasText s) (fact : Trace → Type 0) → HasRead before after bytes → bytes ≡ schedule_text s
    → fact (trace (monitors_of s h) s.events) → Replayed before after fact
replayed before after bytes s h fact read text holds =
    let short : length bytes < most_read = omega (arith, h.bytes, ap length text) in (
      at_end most_read before.left after.left bytes read.visible short read.whole,
      (bytes, read.most, read.whole, record { schedule = s; form = h; text = text; monitors = monitors_of s h; runs = runs s h; traced = holds }),
    )

-- bytes of which no schedule was made
pub faulty : (before after : Outside) (bytes : List ℕ) (s : Status) → HasRead before after bytes → WroteNothing before after → ReportsFault bytes s → ReplayCause before after s
faulty before after bytes (status.Schedule line kind) read silent fault = ((bytes, read.most, read.whole, fault), silent)
faulty before after bytes status.OutOfMemory read silent fault = inl (front_of most_read before.left after.left bytes read.most read.whole, silent)
faulty before after bytes status.Done read silent fault = absurd fault
faulty before after bytes status.Words read silent fault = absurd fault
faulty before after bytes status.ReadFault read silent fault = absurd fault
faulty before after bytes (status.Report line) read silent fault = absurd fault
faulty before after bytes (status.NotEmpty disk) read silent fault = absurd fault
faulty before after bytes (status.Export at) read silent fault = absurd fault
faulty before after bytes status.WriteFault read silent fault = absurd fault
faulty before after bytes status.DiskFault read silent fault = absurd fault
faulty before after bytes status.LinkFault read silent fault = absurd fault
faulty before after bytes (status.NotAStore disk at) read silent fault = absurd fault
faulty before after bytes (status.Stranger kept asked) read silent fault = absurd fault
faulty before after bytes status.TurnsUsed read silent fault = absurd fault
faulty before after bytes (status.Spent which) read silent fault = absurd fault
faulty before after bytes (status.Full would_be) read silent fault = absurd fault

-- a trace that was written
abbrev pub TraceIsOf : Schedule → Result Unit ReplayStop → Outside → Outside → Type 0
TraceIsOf s r before after =
    (ms : Monitors) → ms.count ≡ s.monitors → ms.rule ≡ s.rule → Writes r before.held after.held (trace ms s.events)

pub replay_done : (before after : Outside) (bytes : List ℕ) (s : Schedule) → HasText s → HasRead before after bytes → bytes ≡ schedule_text s
    → TraceIsOf s (Ok tt) before after → ReplayCause before after status.Done
replay_done before after bytes s h read text writes = replayed before after bytes s h _ read text (writes (monitors_of s h) refl refl)

pub replay_stopped : (e : ReplayStop) (before after : Outside) (bytes : List ℕ) (s : Schedule) → HasText s → HasRead before after bytes → bytes ≡ schedule_text s
    → TraceIsOf s (Err e) before after → (e ≡ stop.WriteFault → Rose before.write_faults after.write_faults) → ReplayCause before after (status_of e)
replay_stopped stop.WriteFault before after bytes s h read text writes fault =
    (fault refl, replayed before after bytes s h _ read text (writes (monitors_of s h) refl refl))
replay_stopped (stop.World (world_stop.Spent which)) before after bytes s h read text writes fault = replayed before after bytes s h _ read text (writes (monitors_of s h) refl refl)
replay_stopped (stop.World (world_stop.Full would_be)) before after bytes s h read text writes fault = replayed before after bytes s h _ read text (writes (monitors_of s h) refl refl)
replay_stopped (stop.World world_stop.OutOfMemory) before after bytes s h read text writes fault = inr (replayed before after bytes s h _ read text (writes (monitors_of s h) refl refl))

-- ---- of a made schedule

-- nothing was read
pub record Unread (before after : Outside) : Type 0 where
  pub left : after.left ≡ before.left
  pub faults : after.read_faults ≡ before.read_faults

made : (number events : ℕ) (before after : Outside) (fact : Summary → Type 0) (h : HasText (made_schedule number events)) → Unread before after
    → fact (summary (monitors_of (made_schedule number events) h) (made_schedule number events).events) → Made number events before after fact
made number events before after fact h unread holds = record {
  monitors = monitors_of (made_schedule number events) h;
  runs = runs (made_schedule number events) h;
  unread = (unread.left, unread.faults);
  summed = holds;
}

-- the line is the summary line of a made schedule
abbrev pub LineIsOf : (number events : ℕ) → List ℕ → Type 0
LineIsOf number events line =
    (ms : Monitors) → ms.count ≡ (made_schedule number events).monitors → ms.rule ≡ (made_schedule number events).rule
    → IsLine (summary ms (made_schedule number events).events) line

pub made_done : (number events : ℕ) (before after : Outside) (line : List ℕ) → events ≤ 100000 → Unread before after → LineIsOf number events line
    → Appends before.held after.held line → MadeCause number events before after status.Done
made_done number events before after line most unread is written =
    let h = made_has_text number events most in
    let l = is (monitors_of (made_schedule number events) h) refl refl in
    made number events before after _ h unread (l.goes, subst (Appends before.held after.held) (sym l.text) written)

-- a prefix of the summary line was written
pub made_fault : (e : Stop) (number events : ℕ) (before after : Outside) (line : List ℕ) → events ≤ 100000 → Unread before after → LineIsOf number events line
    → AppendsPrefix before.held after.held line → (e ≡ outside.Failed → Rose before.write_faults after.write_faults)
    → MadeCause number events before after (status_of (fault_of e))
made_fault outside.Failed number events before after line most unread is written fault =
    let h = made_has_text number events most in
    let l = is (monitors_of (made_schedule number events) h) refl refl in
    (fault refl, made number events before after _ h unread (l.goes, subst (AppendsPrefix before.held after.held) (sym l.text) written))
made_fault outside.OutOfMemory number events before after line most unread is written fault =
    let h = made_has_text number events most in
    let l = is (monitors_of (made_schedule number events) h) refl refl in
    ((unread.left, unread.faults), inr (made number events before after _ h unread (l.goes, subst (AppendsPrefix before.held after.held) (sym l.text) written)))

-- nothing is written of a run that stops
stopped_is_empty : (events n : ℕ) (r : Result (Scene × Counts) happens.Stop) (stop : happens.Stop) → (summed events n r).stop ≡ Some stop → (summed events n r).text ≡ []
stopped_is_empty events n (Ok done) stop is = absurd cc
stopped_is_empty events n (Err other) stop is = refl

summed_none : (stop : happens.Stop) (ms : Monitors) (es : List Event) (before after : Outside) → WroteNothing before after → (summary ms es).stop ≡ Some stop
    → SummedAll before after (Some stop) (summary ms es)
summed_none stop ms es before after silent is =
    let none = stopped_is_empty (length es) ms.count (counted_from ms first_scene no_counts es) stop is in
    (is, subst (λ (new : Option (List ℕ)). Appends before.held new (summary ms es).text) (sym silent.0) (subst (Appends before.held before.held) (sym none) (Appends-nil before.held)))

-- its run stopped, and nothing was written
pub made_stopped : (e : WorldStop) (number events : ℕ) (before after : Outside) → events ≤ 100000 → Unread before after → WroteNothing before after
    → ((ms : Monitors) → ms.count ≡ (made_schedule number events).monitors → ms.rule ≡ (made_schedule number events).rule
    → StopsAs e (summary ms (made_schedule number events).events).stop)
    → MadeCause number events before after (status_of (stop.World e))
made_stopped world_stop.OutOfMemory number events before after most unread silent stops = ((unread.left, unread.faults), inl silent)
made_stopped (world_stop.Spent which) number events before after most unread silent stops =
    let h = made_has_text number events most in
    let ms = monitors_of (made_schedule number events) h in
    made number events before after _ h unread (summed_none _ ms (made_schedule number events).events before after silent (stops ms refl refl))
made_stopped (world_stop.Full would_be) number events before after most unread silent stops =
    let h = made_has_text number events most in
    let ms = monitors_of (made_schedule number events) h in
    made number events before after _ h unread (summed_none _ ms (made_schedule number events).events before after silent (stops ms refl refl))

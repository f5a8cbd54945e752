-- A status and its cause determine each other.
use Rattle.std.proofs.Common.{◌≡◌, ℕ, ◌<◌, ◌≤◌, String, string_bytes, List, [], length, map, Option, Some, None, Result, Ok, Err, refl, sym, ap, subst, ◌∙◌, arith, inl, inr, ◌⊎◌}
use Rattle.std.proofs.lemmas.Bool.{lt-ltb}
use Rattle.std.specs.Prelude.{IfSome}
use Rattle.std.specs.declared.alloc.Global.{Global}
use Rattle.cephmon_run.proofs.Caused.{compare_faulty, compared_so, follow_faulty, followed_so, import_faulty, imported_so, text_faulty, written_so}
use Rattle.cephmon_run.proofs.Schedules.{same_monitors}
use Rattle.stopped_stores.proofs.Completing.{none_rose, read_of}
use Rattle.stopped_stores.specs.declared.writing.StoreText.TheVariants as text
use Rattle.cephmon_run.specs.Node.{Around, NodeCause, OpensTo, Served, Unopened}
use Rattle.cephmon_run.specs.Run.{Completes, Ends, HasCause, HasStatus, Holds, IsCaused, IsServed, Made, MadeCause, NoneFailed, NothingFailed, OfRead, ReplayCause, Replayed, SummedAll, ReportsStop, ReportsLine, ReportsRefusal, WroteAll, most_read, text_task}
use Rattle.cephmon_run.specs.Outside.{Outside}
use Rattle.cephmon_run.specs.Summary.{summary}
use Rattle.cephmon_run.specs.Trace.{Trace, trace}
use Rattle.run_status.specs.declared.status.Status.TheVariants as status
use Rattle.run_status.specs.declared.status.Status.{Status}
use Rattle.mon_disk.specs.Calls.{DiskState}
use Rattle.mon_link.specs.Whole.{ConsumesPrefix, ReadsWhole}
use Rattle.mon_msg.specs.declared.view.Me.{Me}
use Rattle.mon_node.specs.declared.end.NodeEnd.TheVariants as end
use Rattle.mon_node.specs.declared.end.NodeEnd.{NodeEnd}
use Rattle.mon_store.specs.Opening.{IsStopOf as Refuses}
use Rattle.mon_store.specs.Pair.{Refusal}
use Rattle.mon_store.specs.StoreView.{StoreView, opens_as}
use Rattle.mon_store.specs.declared.stop.OpenStop.TheVariants as open_stop
use Rattle.mon_types.specs.declared.member.Member.{Member}
use Rattle.quorum_model.specs.Happens as happens
use Rattle.quorum_model.specs.Monitors.{Monitors}
use Rattle.schedule_made.specs.Made.{made_schedule}
use Rattle.schedule_text.proofs.ScheduleLaws.{schedule_again}
use Rattle.schedule_text.specs.Schedule.{schedule_at}
use Rattle.schedule_text.specs.Encoding.{HasText, most_bytes, schedule_text}
use Rattle.schedule_text.specs.declared.refusal.ScheduleKind.TheVariants as kind
use Rattle.schedule_text.specs.declared.refusal.ScheduleKind.{ScheduleKind}
use Rattle.schedule_text.specs.declared.refusal.ScheduleRefused.TheVariants.{At}
use Rattle.schedule_text.specs.declared.refusal.ScheduleRefused.{ScheduleRefused}
use Rattle.schedule_text.specs.declared.schedule.Schedule.{Schedule}
use Rattle.task_words.proofs.Unique.{same_task}
use Rattle.task_words.specs.Task.{AsksFor, AsksForNone}
use Rattle.task_words.specs.declared.task.Task.TheVariants as task
use Rattle.task_words.specs.declared.task.Task.{Task}

-- ---- a made run's cause

pub made_caused : {D : Type 0} (state : D → DiskState) (before after : Outside) (around : Around D) (number events : ℕ) (t : Task) (s : Status)
    → t ≡ task.Made number events → MadeCause number events before after s → HasCause state t before after around around s
made_caused state before after around number events t s is cause =
    subst (λ (u : Task). HasCause state u before after around around s) (sym is) (cause, refl)

-- ---- a status, and its cause in what the arguments ask for

module _ {D : Type 0} (state : D → DiskState) (words : List (String Global)) (before after : Outside) (around left : Around D) where
  -- faulty arguments have no task
  no_words : (t : Task) → HasCause state t before after around left status.Words → ⊥
  no_words task.Replay cause = cause.0
  no_words (task.Made number events) cause = cause.0
  no_words (task.Node member rule addresses disk_a disk_b turns) cause = cause.0
  no_words (task.Follow service addresses turns) cause = follow_faulty state before after around left service (length addresses) turns cause
  no_words (task.Scrub member disk_a disk_b) cause = text_faulty state before after around left text.Report member cause
  no_words task.ScrubCompare cause = compare_faulty state before after around left cause
  no_words (task.DumpKeys member disk_a disk_b) cause = text_faulty state before after around left text.Keys member cause
  no_words (task.DumpPaxos member disk_a disk_b from to) cause = text_faulty state before after around left (text.Versions from to) member cause
  no_words (task.StoreExport member disk_a disk_b) cause = text_faulty state before after around left text.Export member cause
  no_words (task.StoreImport member disk_a disk_b) cause = import_faulty state before after around left member cause

  asked : (t : Task) (s : Status) → AsksFor t words → HasCause state t before after around left s → HasStatus state words before after around left s
  asked t status.Done asks cause = (t, asks, cause)
  asked t status.Words asks cause = absurd (no_words t cause)
  asked t (status.Schedule line kind) asks cause = (t, asks, cause)
  asked t status.ReadFault asks cause = (t, asks, cause)
  asked t (status.Report line) asks cause = (t, asks, cause)
  asked t (status.NotEmpty disk) asks cause = (t, asks, cause)
  asked t (status.Export at) asks cause = (t, asks, cause)
  asked t status.WriteFault asks cause = (t, asks, cause)
  asked t status.DiskFault asks cause = (t, asks, cause)
  asked t status.LinkFault asks cause = (t, asks, cause)
  asked t (status.NotAStore disk at) asks cause = (t, asks, cause)
  asked t (status.Stranger kept member) asks cause = (t, asks, cause)
  asked t (status.Spent which) asks cause = (t, asks, cause)
  asked t status.TurnsUsed asks cause = (t, asks, cause)
  asked t (status.Full would_be) asks cause = (t, asks, cause)
  asked t status.OutOfMemory asks cause = (t, asks, cause)

  -- the arguments are faulty, or ask for what has the cause
  abbrev Splits : Status → Type 0
  Splits s = ((s ≡ status.Words) × AsksForNone words) ⊎ IsCaused state words before after around left s

  split : (s : Status) → HasStatus state words before after around left s → Splits s
  split status.Done has = inr has
  split status.Words has = inl (refl, has.0)
  split (status.Schedule line kind) has = inr has
  split status.ReadFault has = inr has
  split (status.Report line) has = inr has
  split (status.NotEmpty disk) has = inr has
  split (status.Export at) has = inr has
  split status.WriteFault has = inr has
  split status.DiskFault has = inr has
  split status.LinkFault has = inr has
  split (status.NotAStore disk at) has = inr has
  split (status.Stranger kept member) has = inr has
  split (status.Spent which) has = inr has
  split status.TurnsUsed has = inr has
  split (status.Full would_be) has = inr has
  split status.OutOfMemory has = inr has

  cause_of : (t : Task) (s : Status) → AsksFor t words → HasStatus state words before after around left s → HasCause state t before after around left s
  cause_of t s asks has = elim (split s has) [
    | inl none ↦ absurd (none.1 t asks)
    | inr it ↦ subst (λ (u : Task). HasCause state u before after around left s) (same_task it.0 t (map string_bytes words) it.1 asks) it.2
  ]

  faulty_words : (s : Status) → HasStatus state words before after around left s → AsksForNone words → s ≡ status.Words
  faulty_words s has none = elim (split s has) [
    | inl is ↦ is.0
    | inr it ↦ absurd (none it.0 it.1)
  ]

-- ---- what was read

short_text : (s : Schedule) → HasText s → length (schedule_text s) < most_read
short_text s h = omega (arith, h.bytes)

-- a schedule's text was read whole
text_read : (before after : Outside) (bytes : List ℕ) (s : Schedule) → HasText s → before.left ≡ Some (schedule_text s) → ReadsWhole most_read before.left after.left bytes → bytes ≡ schedule_text s
text_read before after bytes s h left read =
    elim (read_of most_read before.left after.left bytes (schedule_text s) left read) [
      | inl same ↦ same
      | inr more ↦ absurd (omega (arith, more.1, short_text s h))
    ]

too_long : (bytes : List ℕ) → most_read ≤ length bytes → schedule_at bytes ≡ Err (At 0 kind.TooLong)
unfolding schedule_at
too_long bytes long = rw (lt-ltb most_bytes (length bytes) (omega arith)) refl

-- the bytes that were read are refused exactly as all bytes of the source
same_refusal : (before after : Outside) (bytes whole : List ℕ) → before.left ≡ Some whole → ReadsWhole most_read before.left after.left bytes → schedule_at bytes ≡ schedule_at whole
same_refusal before after bytes whole left read =
    elim (read_of most_read before.left after.left bytes whole left read) [
      | inl same ↦ ap schedule_at same
      | inr more ↦ too_long bytes (omega (arith, more.0)) ∙ sym (too_long whole more.1)
    ]

-- reading returns one schedule
one_schedule : (r : Result Schedule ScheduleRefused) (s t : Schedule) → r ≡ Ok s → r ≡ Ok t → s ≡ t
one_schedule r s t a b = cc

never_both : (r : Result Schedule ScheduleRefused) (s : Schedule) (e : ScheduleRefused) → r ≡ Ok s → r ≡ Err e → ⊥
never_both r s e a b = absurd cc

one_fault : (r : Result Schedule ScheduleRefused) (l m : ℕ) (k j : ScheduleKind) → r ≡ Err (At l k) → r ≡ Err (At m j) → status.Schedule l k ≡ status.Schedule m j
one_fault r l m k j a b = cc

-- the schedule of what was read
read_back : (bytes : List ℕ) (s : Schedule) → HasText s → bytes ≡ schedule_text s → schedule_at bytes ≡ Ok s
read_back bytes s h text = ap schedule_at text ∙ schedule_again s h

-- ---- how a run ends

reports_none : (stop : Option happens.Stop) → stop ≡ None → ReportsStop stop status.Done
reports_none stop is = subst (λ (o : Option happens.Stop). ReportsStop o status.Done) (sym is) refl

reports_end : (stop : Option happens.Stop) (end : happens.Stop) (s : Status) → ReportsStop (Some end) s → stop ≡ Some end → ReportsStop stop s
reports_end stop end s reports is = subst (λ (o : Option happens.Stop). ReportsStop o s) (sym is) reports

-- the trace of what was read ends so
ends_so : (before after : Outside) (schedule : Schedule) (ms : Monitors) (stop : Option happens.Stop) → HasText schedule → before.left ≡ Some (schedule_text schedule)
    → ms.count ≡ schedule.monitors → ms.rule ≡ schedule.rule → Replayed before after (WroteAll before after stop) → (trace ms schedule.events).stop ≡ stop
ends_so before after schedule ms stop h left count rule did =
    let bytes = did.1.0 in
    let r = did.1.3 in
    let text = text_read before after bytes schedule h left did.1.2 in
    let same = one_schedule (schedule_at bytes) r.schedule schedule (read_back bytes r.schedule r.form r.text) (read_back bytes schedule h text) in
    let monitors : ms ≡ r.monitors = same_monitors ms r.monitors (count ∙ sym (r.runs.count ∙ ap (λ (s : Schedule). s.monitors) same)) (rule ∙ sym (r.runs.rule ∙ ap (λ (s : Schedule). s.rule) same)) in
    (λ i. (trace (monitors i) (sym same i).events).stop) ∙ r.traced.0

-- a text isn't refused
not_refused : (before after : Outside) (schedule : Schedule) (line : ℕ) (kind : ScheduleKind) → HasText schedule → before.left ≡ Some (schedule_text schedule)
    → OfRead before after (λ bytes. schedule_at bytes ≡ Err (At line kind)) → ⊥
not_refused before after schedule line kind h left did =
    never_both (schedule_at did.0) schedule (At line kind) (read_back did.0 schedule h (text_read before after did.0 schedule h left did.2)) did.3

-- and bytes that are refused are no schedule's text
not_replayed : (before after : Outside) (bytes : List ℕ) (line : ℕ) (kind : ScheduleKind) (fact : Trace → Type 0) → before.left ≡ Some bytes → schedule_at bytes ≡ Err (At line kind)
    → Replayed before after fact → ⊥
not_replayed before after bytes line kind fact left refused did =
    let r = did.1.3 in
    never_both (schedule_at did.1.0) r.schedule (At line kind) (read_back did.1.0 r.schedule r.form r.text) (same_refusal before after did.1.0 bytes left did.1.2 ∙ refused)

replayed_so : (s : Status) (before after : Outside) (schedule : Schedule) (ms : Monitors) → NothingFailed before after → HasText schedule → before.left ≡ Some (schedule_text schedule)
    → ms.count ≡ schedule.monitors → ms.rule ≡ schedule.rule → ReplayCause before after s → ReportsStop (trace ms schedule.events).stop s
replayed_so status.Done before after schedule ms calm h left count rule did = reports_none _ (ends_so before after schedule ms None h left count rule did)
replayed_so status.Words before after schedule ms calm h left count rule did = absurd did
replayed_so (status.Schedule line kind) before after schedule ms calm h left count rule did = absurd (not_refused before after schedule line kind h left did.0)
replayed_so status.ReadFault before after schedule ms calm h left count rule did = absurd (calm.reads did.0)
replayed_so (status.Report line) before after schedule ms calm h left count rule did = absurd did
replayed_so (status.NotEmpty disk) before after schedule ms calm h left count rule did = absurd did
replayed_so (status.Export at) before after schedule ms calm h left count rule did = absurd did
replayed_so status.WriteFault before after schedule ms calm h left count rule did = absurd (calm.writes did.0)
replayed_so status.DiskFault before after schedule ms calm h left count rule did = absurd did
replayed_so status.LinkFault before after schedule ms calm h left count rule did = absurd did
replayed_so (status.NotAStore disk at) before after schedule ms calm h left count rule did = absurd did
replayed_so (status.Stranger kept member) before after schedule ms calm h left count rule did = absurd did
replayed_so status.TurnsUsed before after schedule ms calm h left count rule did = absurd did
replayed_so (status.Spent which) before after schedule ms calm h left count rule did =
    reports_end _ (happens.Spent which) (status.Spent which) refl (ends_so before after schedule ms (Some (happens.Spent which)) h left count rule did)
replayed_so (status.Full would_be) before after schedule ms calm h left count rule did =
    reports_end _ (happens.Full would_be) (status.Full would_be) refl (ends_so before after schedule ms (Some (happens.Full would_be)) h left count rule did)
replayed_so status.OutOfMemory before after schedule ms calm h left count rule did = tt

refused_so : (s : Status) (before after : Outside) (bytes : List ℕ) (line : ℕ) (kind : ScheduleKind) → NothingFailed before after → before.left ≡ Some bytes
    → schedule_at bytes ≡ Err (At line kind) → ReplayCause before after s → ReportsLine line kind s
refused_so status.Done before after bytes line kind calm left refused did = absurd (not_replayed before after bytes line kind _ left refused did)
refused_so status.Words before after bytes line kind calm left refused did = absurd did
refused_so (status.Schedule l k) before after bytes line kind calm left refused did =
    one_fault (schedule_at did.0.0) l line k kind did.0.3 (same_refusal before after did.0.0 bytes left did.0.2 ∙ refused)
refused_so status.ReadFault before after bytes line kind calm left refused did = absurd (calm.reads did.0)
refused_so (status.Report other) before after bytes line kind calm left refused did = absurd did
refused_so (status.NotEmpty disk) before after bytes line kind calm left refused did = absurd did
refused_so (status.Export at) before after bytes line kind calm left refused did = absurd did
refused_so status.WriteFault before after bytes line kind calm left refused did = absurd (calm.writes did.0)
refused_so status.DiskFault before after bytes line kind calm left refused did = absurd did
refused_so status.LinkFault before after bytes line kind calm left refused did = absurd did
refused_so (status.NotAStore disk at) before after bytes line kind calm left refused did = absurd did
refused_so (status.Stranger kept member) before after bytes line kind calm left refused did = absurd did
refused_so status.TurnsUsed before after bytes line kind calm left refused did = absurd did
refused_so (status.Spent which) before after bytes line kind calm left refused did = absurd (not_replayed before after bytes line kind _ left refused did)
refused_so (status.Full would_be) before after bytes line kind calm left refused did = absurd (not_replayed before after bytes line kind _ left refused did)
refused_so status.OutOfMemory before after bytes line kind calm left refused did = tt

-- the summary of a made schedule ends so
sums_so : (number events : ℕ) (before after : Outside) (ms : Monitors) (stop : Option happens.Stop) → ms.count ≡ (made_schedule number events).monitors
    → ms.rule ≡ (made_schedule number events).rule → Made number events before after (SummedAll before after stop) → (summary ms (made_schedule number events).events).stop ≡ stop
sums_so number events before after ms stop count rule did =
    let monitors : ms ≡ did.monitors = same_monitors ms did.monitors (count ∙ sym did.runs.count) (rule ∙ sym did.runs.rule) in
    ap (λ (ms : Monitors). (summary ms (made_schedule number events).events).stop) monitors ∙ did.summed.0

made_so : (s : Status) (number events : ℕ) (before after : Outside) (ms : Monitors) → NothingFailed before after → ms.count ≡ (made_schedule number events).monitors
    → ms.rule ≡ (made_schedule number events).rule → MadeCause number events before after s → ReportsStop (summary ms (made_schedule number events).events).stop s
made_so status.Done number events before after ms calm count rule did = reports_none _ (sums_so number events before after ms None count rule did)
made_so status.Words number events before after ms calm count rule did = absurd did
made_so (status.Schedule line kind) number events before after ms calm count rule did = absurd did
made_so status.ReadFault number events before after ms calm count rule did = absurd did
made_so (status.Report line) number events before after ms calm count rule did = absurd did
made_so (status.NotEmpty disk) number events before after ms calm count rule did = absurd did
made_so (status.Export at) number events before after ms calm count rule did = absurd did
made_so status.WriteFault number events before after ms calm count rule did = absurd (calm.writes did.0)
made_so status.DiskFault number events before after ms calm count rule did = absurd did
made_so status.LinkFault number events before after ms calm count rule did = absurd did
made_so (status.NotAStore disk at) number events before after ms calm count rule did = absurd did
made_so (status.Stranger kept member) number events before after ms calm count rule did = absurd did
made_so status.TurnsUsed number events before after ms calm count rule did = absurd did
made_so (status.Spent which) number events before after ms calm count rule did =
    reports_end _ (happens.Spent which) (status.Spent which) refl (sums_so number events before after ms (Some (happens.Spent which)) count rule did)
made_so (status.Full would_be) number events before after ms calm count rule did =
    reports_end _ (happens.Full would_be) (status.Full would_be) refl (sums_so number events before after ms (Some (happens.Full would_be)) count rule did)
made_so status.OutOfMemory number events before after ms calm count rule did = tt

-- ---- and of a node

module _ {D : Type 0} (state : D → DiskState) (around left : Around D) (calm : NoneFailed state around left) where
  -- two disks whose contents can be seen are opened in one way
  opens_so : (member : Member) (read : Result StoreView Refusal) (fact : Result StoreView Refusal → Type 0) → Holds state member around read → OpensTo state member around.disks fact → fact read
  opens_so member read fact holds opens =
      let at_a = subst (λ (seen : Option (List ℕ)). IfSome seen (λ a. IfSome (state around.disks.b).content.seen (λ b. fact (opens_as member a b)))) holds.2 opens in
      let at_b = subst (λ (seen : Option (List ℕ)). IfSome seen (λ b. fact (opens_as member holds.0 b))) holds.3 at_a in
      subst fact holds.4 at_b

  -- no disk failed, while a store was opened or later
  no_failure : (member : Member) → Unopened state member around left open_stop.DiskFault → ⊥
  no_failure member un = elim un.counts [
    | inl c ↦ none_rose _ _ calm.disk_a c.0.0
    | inr c ↦ none_rose _ _ calm.disk_b c.1.0
  ]

  no_fault : (me : Me) (turns : ℕ) → Served state me turns around left end.DiskFault → ⊥
  no_fault me turns it = elim it.disks_count [
    | inl c ↦ none_rose _ _ calm.disk_a c.0
    | inr c ↦ none_rose _ _ calm.disk_b c.1
  ]

  -- a store that two disks represent is served
  served_so : (me : Me) (turns : ℕ) (store_view : StoreView) → Holds state me.member around (Ok store_view) → (s : Status) → NodeCause state me turns around left s → IsServed s
  served_so me turns store_view holds status.Done did = tt
  served_so me turns store_view holds status.Words did = absurd did
  served_so me turns store_view holds (status.Schedule line kind) did = absurd did
  served_so me turns store_view holds status.ReadFault did = absurd did
  served_so me turns store_view holds (status.Report line) did = absurd did
  served_so me turns store_view holds (status.NotEmpty disk) did = absurd did
  served_so me turns store_view holds (status.Export at) did = absurd did
  served_so me turns store_view holds status.WriteFault did = absurd did
  served_so me turns store_view holds status.DiskFault did = elim did [
    | inl un ↦ absurd (no_failure me.member un)
    | inr it ↦ absurd (no_fault me turns it)
  ]
  served_so me turns store_view holds status.LinkFault did = absurd (none_rose _ _ calm.link did.link_counts)
  served_so me turns store_view holds (status.NotAStore disk at) did =
      let read = opens_so me.member (Ok store_view) (Refuses (open_stop.NotAStore disk at)) holds did.is_stop in absurd cc
  served_so me turns store_view holds (status.Stranger kept member) did =
      let read = opens_so me.member (Ok store_view) (Refuses (open_stop.Stranger kept member)) holds did.is_stop in absurd cc
  served_so me turns store_view holds (status.Spent which) did = tt
  served_so me turns store_view holds status.TurnsUsed did = tt
  served_so me turns store_view holds (status.Full would_be) did = tt
  served_so me turns store_view holds status.OutOfMemory did = tt

  -- if they represent none, nothing is served
  not_served : (me : Me) (turns : ℕ) (refusal : Refusal) (e : NodeEnd) → Holds state me.member around (Err refusal) → Served state me turns around left e → ⊥
  not_served me turns refusal e holds it =
      let read = opens_so me.member (Err refusal) (λ read. read ≡ Ok it.store_view) holds it.opened in absurd cc

  unopened_so : (me : Me) (turns : ℕ) (refusal : Refusal) → Holds state me.member around (Err refusal) → (s : Status) → NodeCause state me turns around left s → ReportsRefusal refusal s
  unopened_so me turns refusal holds status.Done did = absurd (not_served me turns refusal end.Closed holds did)
  unopened_so me turns refusal holds status.Words did = absurd did
  unopened_so me turns refusal holds (status.Schedule line kind) did = absurd did
  unopened_so me turns refusal holds status.ReadFault did = absurd did
  unopened_so me turns refusal holds (status.Report line) did = absurd did
  unopened_so me turns refusal holds (status.NotEmpty disk) did = absurd did
  unopened_so me turns refusal holds (status.Export at) did = absurd did
  unopened_so me turns refusal holds status.WriteFault did = absurd did
  unopened_so me turns refusal holds status.DiskFault did = elim did [
    | inl un ↦ absurd (no_failure me.member un)
    | inr it ↦ absurd (not_served me turns refusal end.DiskFault holds it)
  ]
  unopened_so me turns refusal holds status.LinkFault did = absurd (not_served me turns refusal end.LinkFault holds did)
  unopened_so me turns refusal holds (status.NotAStore disk at) did =
      let read = opens_so me.member (Err refusal) (Refuses (open_stop.NotAStore disk at)) holds did.is_stop in cc
  unopened_so me turns refusal holds (status.Stranger kept member) did =
      let read = opens_so me.member (Err refusal) (Refuses (open_stop.Stranger kept member)) holds did.is_stop in cc
  unopened_so me turns refusal holds (status.Spent which) did = absurd (not_served me turns refusal (end.Spent which) holds did)
  unopened_so me turns refusal holds status.TurnsUsed did = absurd (not_served me turns refusal end.TurnsUsed holds did)
  unopened_so me turns refusal holds (status.Full would_be) did = absurd (not_served me turns refusal (end.Full would_be) holds did)
  unopened_so me turns refusal holds status.OutOfMemory did = tt

-- ---- memory that ran out before anything was done

nothing_read : (old : Option (List ℕ)) → ConsumesPrefix most_read old old
nothing_read None = ([], tt, omega arith)
nothing_read (Some xs) = ([], refl, omega arith)

no_memory : {D : Type 0} (state : D → DiskState) (before : Outside) (around : Around D) (t : Task) → HasCause state t before before around around status.OutOfMemory
no_memory state before around task.Replay = (inl (nothing_read before.left, (refl, refl)), refl)
no_memory state before around (task.Made number events) = (((refl, refl), inl (refl, refl)), refl)
no_memory state before around (task.Node member rule addresses disk_a disk_b turns) = (inl refl, refl)
no_memory state before around (task.Follow service addresses turns) = inl (record { is = refl; streams = refl; devices = refl })
no_memory state before around (task.Scrub member disk_a disk_b) = inl (record { is = refl; streams = refl; devices = refl })
no_memory state before around task.ScrubCompare = inl (record { is = refl; streams = refl; devices = refl })
no_memory state before around (task.DumpKeys member disk_a disk_b) = inl (record { is = refl; streams = refl; devices = refl })
no_memory state before around (task.DumpPaxos member disk_a disk_b from to) = inl (record { is = refl; streams = refl; devices = refl })
no_memory state before around (task.StoreExport member disk_a disk_b) = inl (record { is = refl; streams = refl; devices = refl })
no_memory state before around (task.StoreImport member disk_a disk_b) = inl (record { is = refl; streams = refl; devices = refl })

completes : {D : Type 0} (state : D → DiskState) (words : List (String Global)) (before after : Outside) (around left : Around D) (s : Status)
    → HasStatus state words before after around left s → Completes state words before after around left s
completes state words before after around left s has = record {
  faulty = faulty_words state words before after around left s has;
  replayed = λ schedule ms asks calm h source count rule.
      replayed_so s before after schedule ms calm h source count rule (cause_of state words before after around left task.Replay s asks has).0;
  refused = λ bytes line kind asks calm source refused.
      refused_so s before after bytes line kind calm source refused (cause_of state words before after around left task.Replay s asks has).0;
  made = λ number events ms asks calm count rule.
      made_so s number events before after ms calm count rule (cause_of state words before after around left (task.Made number events) s asks has).0;
  served = λ member rule addresses disk_a disk_b turns asks calm store_view holds.
      served_so state around left calm (record { member = member; rule = rule }) turns store_view holds s (cause_of state words before after around left (task.Node member rule addresses disk_a disk_b turns) s asks has).0;
  unopened = λ member rule addresses disk_a disk_b turns asks calm refusal holds.
      unopened_so state around left calm (record { member = member; rule = rule }) turns refusal holds s (cause_of state words before after around left (task.Node member rule addresses disk_a disk_b turns) s asks has).0;
  followed = λ service addresses turns asks calm quiet.
      followed_so state before after around left calm quiet service addresses turns s (cause_of state words before after around left (task.Follow service addresses turns) s asks has);
  written = λ what member disk_a disk_b asks calm quiet.
      written_so state before after around left calm quiet what member disk_a disk_b s (cause_of state words before after around left (text_task what member disk_a disk_b) s asks has);
  compared = λ asks calm. compared_so state before after around left s calm (cause_of state words before after around left task.ScrubCompare s asks has);
  imported = λ member disk_a disk_b asks calm quiet.
      imported_so state before after around left calm quiet member disk_a disk_b s (cause_of state words before after around left (task.StoreImport member disk_a disk_b) s asks has);
}

-- ---- how a run ends if the arguments ask for one, and if they don't

module _ {D : Type 0} (state : D → DiskState) (words : List (String Global)) where
  ends : (before after : Outside) (around left : Around D) (s : Status) → HasStatus state words before after around left s → Ends state words before after around left s
  ends before after around left s has = record { status = has; complete = completes state words before after around left s has }

  pub ends_asked : (before after : Outside) (around left : Around D) (t : Task) (s : Status) → AsksFor t words → HasCause state t before after around left s
      → Ends state words before after around left s
  ends_asked before after around left t s asks cause = ends before after around left s (asked state words before after around left t s asks cause)

  pub ends_refused : (before : Outside) (around : Around D) → AsksForNone words → Ends state words before before around around status.Words
  ends_refused before around none = ends before before around around status.Words (none, refl, refl)

  pub ends_early : (before : Outside) (around : Around D) (t : Task) → AsksFor t words → Ends state words before before around around status.OutOfMemory
  ends_early before around t asks = ends_asked before before around around t status.OutOfMemory asks (no_memory state before around t)

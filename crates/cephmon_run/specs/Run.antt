-- What a run reads and writes, and the cause of each status.
use Rattle.std.specs.Prelude.{◌≡◌, ℕ, ◌≤◌, ◌⊎◌, List, ◌++◌, length, map, Option, Some, None, Result, Ok, Err, String}
use Rattle.std.specs.declared.alloc.Global.{Global}
use Rattle.std.specs.Io.KnownBytes.{Appends, IsAtEnd}
use Rattle.mon_types.specs.Faults.{Rose}
use Rattle.mon_link.specs.Whole.{ReadsWhole, ConsumesPrefix, AppendsPrefix}
use Rattle.schedule_text.specs.declared.schedule.Schedule.{Schedule}
use Rattle.schedule_text.specs.declared.refusal.ScheduleKind.{ScheduleKind}
use Rattle.schedule_text.specs.declared.refusal.ScheduleRefused.TheVariants.{At}
use Rattle.schedule_text.specs.Encoding.{HasText, schedule_text}
use Rattle.schedule_made.specs.Made.{made_schedule}
use Rattle.schedule_text.specs.Schedule.{schedule_at}
use Rattle.election_rules.specs.declared.rule.Rule.{Rule}
use Rattle.mon_disk.specs.Calls.{DiskState}
use Rattle.mon_journal.specs.Written.{owner_of}
use Rattle.mon_link.specs.declared.udp.Address.{Address}
use Rattle.mon_store.specs.Pair.{Refusal, NotAStore, Stranger}
use Rattle.mon_store.specs.StoreView.{StoreView, opens_as}
use Rattle.mon_types.specs.declared.member.Member.{Member}
use Rattle.quorum_model.specs.Happens.{Stop}
use Rattle.quorum_model.specs.Happens as happens
use Rattle.quorum_model.specs.Monitors.{Monitors}
use Rattle.quorum_model.specs.Safe.{Safe}
use Rattle.quorum_model.specs.Scenes.{events_of}
use Rattle.quorum_model.specs.World.{Event}
use Rattle.run_status.specs.declared.status.Status.{Status}
use Rattle.run_status.specs.declared.status.Status.TheVariants as status
use Rattle.mon_world.specs.Events.{scheduled_of}
use Rattle.mon_world.specs.Traced.{TracesRun}
use Rattle.task_words.specs.declared.task.Task.{Task}
use Rattle.task_words.specs.declared.task.Task.TheVariants as task
use Rattle.cephmon_run.specs.Summary.{Summary, summary}
use Rattle.task_words.specs.Task.{AsksFor, AsksForNone}
use Rattle.cephmon_run.specs.Further.{CompareCause, FollowCause, ImportCause, RanOut, TextCause}
use Rattle.cephmon_run.specs.Node.{Around, NodeCause}
use Rattle.cephmon_run.specs.Outside.{Outside, ReadNothing, WroteNothing}
use Rattle.run_status.specs.Status.{StatusOf, status_of_tool}
use Rattle.cephmon_run.specs.Trace.{Trace, trace}
use Rattle.mon_wire.specs.declared.request.Service.{Service}
use Rattle.stopped_stores.specs.Completing.{ComparisonCompletes, Hold, ImportCompletes, TextCompletes}
use Rattle.stopped_stores.specs.declared.writing.StoreText.{StoreText}
use Rattle.stopped_stores.specs.declared.writing.StoreText.TheVariants as text

-- one more byte is read than a schedule may have
abbrev pub most_read : ℕ
most_read = 16777217

-- the source was read to its end, or up to the most that is read and no further, and the bytes have this property
abbrev pub OfRead : Outside → Outside → (List ℕ → Type 0) → Type 0
OfRead before after fact = (bytes : List ℕ) × (length bytes ≤ most_read) × ReadsWhole most_read before.left after.left bytes × fact bytes

-- the monitors of a schedule, whose run is safe after each prefix of its events, the empty one and all of them included; and
-- its trace is that of the run
pub record Runs (schedule : Schedule) (ms : Monitors) : Type 0 where
  pub count : ms.count ≡ schedule.monitors
  pub rule : ms.rule ≡ schedule.rule
  pub safe : (before after : List Event) → before ++ after ≡ events_of ms (map scheduled_of schedule.events) → Safe ms before
  pub traces : TracesRun ms schedule.events

-- the bytes are the text of a schedule, its run is safe, and its trace has this fact
pub record Replays (bytes : List ℕ) (fact : Trace → Type 0) : Type 0 where
  pub schedule : Schedule
  pub form : HasText schedule
  pub text : bytes ≡ schedule_text schedule
  pub monitors : Monitors
  pub runs : Runs schedule monitors
  pub traced : fact (trace monitors schedule.events)

-- the whole trace was written, and its run reached its end, or this stopped it
abbrev pub WroteAll : Outside → Outside → Option Stop → Trace → Type 0
WroteAll before after stop t = (t.stop ≡ stop) × Appends before.held after.held t.text

abbrev pub WrotePrefix : Outside → Outside → Trace → Type 0
WrotePrefix before after t = AppendsPrefix before.held after.held t.text

-- The source was read to its end, if it is known what it has left. What was read is a schedule whose trace has this
-- property.
abbrev pub Replayed : Outside → Outside → (Trace → Type 0) → Type 0
Replayed before after fact = IsAtEnd after.left × OfRead before after (λ bytes. Replays bytes fact)

-- The schedule that is made of a number was run, and its run is safe. Nothing was read. The summary has this property.
pub record Made (number events : ℕ) (before after : Outside) (fact : Summary → Type 0) : Type 0 where
  pub monitors : Monitors
  pub runs : Runs (made_schedule number events) monitors
  pub unread : ReadNothing before after
  pub summed : fact (summary monitors (made_schedule number events).events)

abbrev pub SummedAll : Outside → Outside → Option Stop → Summary → Type 0
SummedAll before after stop s = (s.stop ≡ stop) × Appends before.held after.held s.text

abbrev pub SummedPrefix : Outside → Outside → Summary → Type 0
SummedPrefix before after s = (s.stop ≡ None) × AppendsPrefix before.held after.held s.text

-- ---- the cause of each status, by what the arguments ask for

-- The cause of a replay's status. If memory ran out, or a read failed, what was read is a prefix of what was left, of
-- at most 16,777,217 bytes, and what was written is a prefix of the trace.
abbrev pub ReplayCause : Outside → Outside → Status → Type 0
ReplayCause before after status.Done = Replayed before after (WroteAll before after None)
ReplayCause before after (status.Schedule line kind) = OfRead before after (λ bytes. schedule_at bytes ≡ Err (At line kind)) × WroteNothing before after
ReplayCause before after status.ReadFault =
    Rose before.read_faults after.read_faults × ConsumesPrefix most_read before.left after.left ×
    WroteNothing before after
ReplayCause before after status.WriteFault = Rose before.write_faults after.write_faults × Replayed before after (WrotePrefix before after)
ReplayCause before after (status.Spent which) = Replayed before after (WroteAll before after (Some (happens.Spent which)))
ReplayCause before after (status.Full would_be) = Replayed before after (WroteAll before after (Some (happens.Full would_be)))
ReplayCause before after status.OutOfMemory =
    (ConsumesPrefix most_read before.left after.left × WroteNothing before after)
    ⊎ Replayed before after (WrotePrefix before after)
ReplayCause before after other = ⊥

-- the cause of the status of a made schedule's run
abbrev pub MadeCause : (number events : ℕ) → Outside → Outside → Status → Type 0
MadeCause number events before after status.Done = Made number events before after (SummedAll before after None)
MadeCause number events before after status.WriteFault =
    Rose before.write_faults after.write_faults × Made number events before after (SummedPrefix before after)
MadeCause number events before after (status.Spent which) = Made number events before after (SummedAll before after (Some (happens.Spent which)))
MadeCause number events before after (status.Full would_be) = Made number events before after (SummedAll before after (Some (happens.Full would_be)))
MadeCause number events before after status.OutOfMemory =
    ReadNothing before after × (WroteNothing before after ⊎ Made number events before after (SummedPrefix before after))
MadeCause number events before after other = ⊥

-- Devices that a task doesn't use are left untouched.
abbrev pub HasCause : {D : Type 0} → (D → DiskState) → Task → Outside → Outside → Around D → Around D → Status → Type 0
HasCause state task.Replay before after around left s = ReplayCause before after s × (left ≡ around)
HasCause state (task.Made number events) before after around left s = MadeCause number events before after s × (left ≡ around)
HasCause state (task.Node member rule addresses disk_a disk_b turns) before after around left s =
    NodeCause state (record { member = member; rule = rule }) turns around left s × (after ≡ before)
HasCause state (task.Follow service addresses turns) before after around left s =
    RanOut before after around left s ⊎ FollowCause service (length addresses) turns before after around left s
HasCause state (task.Scrub member disk_a disk_b) before after around left s = RanOut before after around left s ⊎ TextCause state text.Report member before after around left s
HasCause state task.ScrubCompare before after around left s = RanOut before after around left s ⊎ CompareCause before after around left s
HasCause state (task.DumpKeys member disk_a disk_b) before after around left s = RanOut before after around left s ⊎ TextCause state text.Keys member before after around left s
HasCause state (task.DumpPaxos member disk_a disk_b from to) before after around left s =
    RanOut before after around left s ⊎ TextCause state (text.Versions from to) member before after around left s
HasCause state (task.StoreExport member disk_a disk_b) before after around left s =
    RanOut before after around left s ⊎ TextCause state text.Export member before after around left s
HasCause state (task.StoreImport member disk_a disk_b) before after around left s =
    RanOut before after around left s ⊎ ImportCause state member before after around left s

-- the arguments ask for a task that has the cause of the status
abbrev pub IsCaused : {D : Type 0} → (D → DiskState) → List (String Global) → Outside → Outside → Around D → Around D → Status → Type 0
IsCaused state words before after around left s = (t : Task) × AsksFor t words × HasCause state t before after around left s

-- The cause of each status.
abbrev pub HasStatus : {D : Type 0} → (D → DiskState) → List (String Global) → Outside → Outside → Around D → Around D → Status → Type 0
HasStatus state words before after around left status.Words = AsksForNone words × (after ≡ before) × (left ≡ around)
HasStatus state words before after around left other = IsCaused state words before after around left other

-- what the status says of bytes that are no schedule
abbrev pub ReportsFault : List ℕ → Status → Type 0
ReportsFault bytes (status.Schedule line kind) = schedule_at bytes ≡ Err (At line kind)
ReportsFault bytes status.OutOfMemory = Unit {0}
ReportsFault bytes other = ⊥

-- ---- and the converse: which status a run ends with

-- no count of faults rose
pub record NothingFailed (before after : Outside) : Type 0 where
  pub reads : ¬ (Rose before.read_faults after.read_faults)
  pub writes : ¬ (Rose before.write_faults after.write_faults)

-- the status says what stopped a run, or that nothing did, unless memory ran out
abbrev pub ReportsStop : Option Stop → Status → Type 0
ReportsStop stop status.OutOfMemory = Unit {0}
ReportsStop None s = s ≡ status.Done
ReportsStop (Some (happens.Spent which)) s = s ≡ status.Spent which
ReportsStop (Some (happens.Full would_be)) s = s ≡ status.Full would_be

-- the status says which line is faulty, unless memory ran out
abbrev pub ReportsLine : ℕ → ScheduleKind → Status → Type 0
ReportsLine line kind status.OutOfMemory = Unit {0}
ReportsLine line kind s = s ≡ status.Schedule line kind

-- no disk and no link counted a fault
pub record NoneFailed {D : Type 0} (state : D → DiskState) (around left : Around D) : Type 0 where
  pub disk_a : ¬ (Rose (state around.disks.a).faults (state left.disks.a).faults)
  pub disk_b : ¬ (Rose (state around.disks.b).faults (state left.disks.b).faults)
  pub link : ¬ (Rose around.link.faults left.link.faults)

-- a node served, unless memory ran out
abbrev pub IsServed : Status → Type 0
IsServed status.Done = Unit {0}
IsServed (status.Spent which) = Unit {0}
IsServed status.TurnsUsed = Unit {0}
IsServed status.OutOfMemory = Unit {0}
IsServed (status.Full would_be) = Unit {0}
IsServed other = ⊥

-- the status says why the disks represent no store of the member, unless memory ran out
abbrev pub ReportsRefusal : Refusal → Status → Type 0
ReportsRefusal refusal status.OutOfMemory = Unit {0}
ReportsRefusal refusal (status.NotAStore disk at) = refusal ≡ NotAStore disk at
ReportsRefusal refusal (status.Stranger kept asked) = refusal ≡ Stranger (owner_of kept) (owner_of asked)
ReportsRefusal refusal other = ⊥

-- The contents of the two disks can be seen, and opening them returns this.
abbrev pub Holds : {D : Type 0} → (D → DiskState) → Member → Around D → Result StoreView Refusal → Type 0
Holds state member around read =
    (a : List ℕ) × (b : List ℕ) × ((state around.disks.a).content.seen ≡ Some a) × ((state around.disks.b).content.seen ≡ Some b) × (opens_as member a b ≡ read)

-- a client followed, unless memory ran out
abbrev pub IsFollowed : Status → Type 0
IsFollowed status.Done = Unit {0}
IsFollowed status.TurnsUsed = Unit {0}
IsFollowed status.OutOfMemory = Unit {0}
IsFollowed other = ⊥

-- the command that writes a text of a member's store
abbrev pub text_task : StoreText → Member → (disk_a disk_b : List ℕ) → Task
text_task text.Report member disk_a disk_b = task.Scrub member disk_a disk_b
text_task text.Keys member disk_a disk_b = task.DumpKeys member disk_a disk_b
text_task (text.Versions from to) member disk_a disk_b = task.DumpPaxos member disk_a disk_b from to
text_task text.Export member disk_a disk_b = task.StoreExport member disk_a disk_b

-- If the arguments are faulty, the status says so. The rest holds if no device fails, unless memory ran out. The status
-- says how the run of the schedule that was read or made ends; which line is at fault if the bytes, however many, are
-- no schedule's text; and why disks that represent no store of the member represent none. On disks with a store of its
-- own, or on which one is to be created, the monitor serves. A client follows. The status of a command on a stopped
-- store, and of a comparison, is that of the end that follows from what the disks and the source hold.
pub record Completes {D : Type 0} (state : D → DiskState) (words : List (String Global)) (before after : Outside) (around left : Around D) (s : Status) : Type 0 where
  pub faulty : AsksForNone words → s ≡ status.Words
  pub replayed : (schedule : Schedule) (ms : Monitors) → AsksFor task.Replay words → NothingFailed before after
      → HasText schedule → before.left ≡ Some (schedule_text schedule) → ms.count ≡ schedule.monitors → ms.rule ≡ schedule.rule
      → ReportsStop (trace ms schedule.events).stop s
  pub refused : (bytes : List ℕ) (line : ℕ) (kind : ScheduleKind) → AsksFor task.Replay words → NothingFailed before after
      → before.left ≡ Some bytes → schedule_at bytes ≡ Err (At line kind) → ReportsLine line kind s
  pub made : (number events : ℕ) (ms : Monitors) → AsksFor (task.Made number events) words → NothingFailed before after
      → ms.count ≡ (made_schedule number events).monitors → ms.rule ≡ (made_schedule number events).rule
      → ReportsStop (summary ms (made_schedule number events).events).stop s
  pub served : (member : Member) (rule : Rule) (addresses : List Address) (disk_a disk_b : List ℕ) (turns : ℕ)
      → AsksFor (task.Node member rule addresses disk_a disk_b turns) words → NoneFailed state around left
      → (store_view : StoreView) → Holds state member around (Ok store_view) → IsServed s
  pub unopened : (member : Member) (rule : Rule) (addresses : List Address) (disk_a disk_b : List ℕ) (turns : ℕ)
      → AsksFor (task.Node member rule addresses disk_a disk_b turns) words → NoneFailed state around left
      → (refusal : Refusal) → Holds state member around (Err refusal) → ReportsRefusal refusal s
  pub followed : (service : Service) (addresses : List Address) (turns : ℕ) → AsksFor (task.Follow service addresses turns) words → NothingFailed before after
      → NoneFailed state around left → IsFollowed s
  pub written : (what : StoreText) (member : Member) (disk_a disk_b : List ℕ) → AsksFor (text_task what member disk_a disk_b) words → NothingFailed before after
      → NoneFailed state around left → (a b : List ℕ) → Hold state around.disks a b → StatusOf status_of_tool (TextCompletes member a b) s
  pub compared : AsksFor task.ScrubCompare words → NothingFailed before after → (bytes : List ℕ) → before.left ≡ Some bytes
      → StatusOf status_of_tool (ComparisonCompletes bytes) s
  pub imported : (member : Member) (disk_a disk_b : List ℕ) → AsksFor (task.StoreImport member disk_a disk_b) words → NothingFailed before after
      → NoneFailed state around left → (bytes a b : List ℕ) → before.left ≡ Some bytes → Hold state around.disks a b
      → StatusOf status_of_tool (ImportCompletes member bytes a b) s

-- ---- what is promised of a run

-- The status has its cause, and it is the status that `Completes` requires.
pub record Ends {D : Type 0} (state : D → DiskState) (words : List (String Global)) (before after : Outside) (around left : Around D) (s : Status) : Type 0 where
  pub status : HasStatus state words before after around left s
  pub complete : Completes state words before after around left s

-- What happens on the link of a run.
use Rattle.std.specs.Prelude.{◌⊎◌, ℕ, List, [], length, String}
use Rattle.std.specs.declared.alloc.Global.{Global}
use Rattle.map_follower.specs.Copies.{first}
use Rattle.map_follower.specs.Iterations.{course}
use Rattle.map_follower.specs.Talking.{Talks}
use Rattle.mon_disk.specs.Calls.{DiskState}
use Rattle.mon_link.specs.Histories.{Happened}
use Rattle.mon_link.specs.Links.{LinkState}
use Rattle.mon_link.specs.Histories.{GoOn}
use Rattle.mon_wire.specs.declared.request.Service.{Service}
use Rattle.run_status.specs.Status.{StatusOf, status_of_follow}
use Rattle.run_status.specs.declared.status.Status.{Status}
use Rattle.stopped_stores.specs.Texts.{Stream}
use Rattle.task_words.specs.Task.{AsksFor}
use Rattle.task_words.specs.declared.task.Task.{Task}
use Rattle.task_words.specs.declared.task.Task.TheVariants as task
use Rattle.cephmon_run.specs.Further.{Followed}
use Rattle.cephmon_run.specs.Node.{Around, NodeTalks}
use Rattle.cephmon_run.specs.Outside.{Outside, sink_of}

-- a client followed, and asked so
abbrev pub FollowTalks : Service → (n turns : ℕ) → Stream → Stream → LinkState → LinkState → Status
    → (old new : List Happened → Type 0) → Type 0
FollowTalks service n turns before after link left s old new =
    StatusOf status_of_follow (λ e. (F : Followed service n turns before after link left e)
    × Talks n (course (first service) [] 0 link.observed before.bytes) e F.follows.given old new) s

-- the calls that a task makes of the link: none, unless it serves or follows
abbrev pub TaskTalks : {D : Type 0} → (D → DiskState) → Task → Outside → Outside → Around D → Around D → Status
    → (old new : List Happened → Type 0) → Type 0
TaskTalks state (task.Node member rule addresses disk_a disk_b turns) before after around left s old new =
    NodeTalks state (record { member = member; rule = rule }) turns around left s old new
TaskTalks state (task.Follow service addresses turns) before after around left s old new =
    FollowTalks service (length addresses) turns (sink_of before) (sink_of after) around.link left.link s old new
TaskTalks state other before after around left s old new = GoOn old [] new

-- those of a run: none if the arguments ask for no task, or if memory runs out as they are read
abbrev pub RunTalks : {D : Type 0} → (D → DiskState) → List (String Global) → Outside → Outside → Around D → Around D
    → Status → (old new : List Happened → Type 0) → Type 0
RunTalks state words before after around left s old new =
    ((t : Task) × AsksFor t words × TaskTalks state t before after around left s old new) ⊎ GoOn old [] new

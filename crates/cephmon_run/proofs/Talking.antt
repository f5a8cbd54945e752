-- What a task asks of its link.
use Rattle.std.proofs.Common.{◌≡◌, ℕ, List, length, subst, sym}
use Rattle.mon_disk.specs.Calls.{DiskState}
use Rattle.mon_link.specs.Histories.{Happened}
use Rattle.mon_link.specs.declared.udp.Address.{Address}
use Rattle.mon_wire.specs.declared.request.Service.{Service}
use Rattle.run_status.specs.declared.status.Status.{Status}
use Rattle.task_words.specs.declared.task.Task.{Task}
use Rattle.task_words.specs.declared.task.Task.TheVariants as task
use Rattle.cephmon_run.specs.Node.{Around}
use Rattle.cephmon_run.specs.Outside.{Outside, sink_of}
use Rattle.cephmon_run.specs.Talking.{FollowTalks, TaskTalks}

pub talks_as : {D : Type 0} (state : D → DiskState) (t u : Task) (before after : Outside) (around left : Around D) (s : Status) (old new : List Happened → Type 0) → t ≡ u
    → TaskTalks state u before after around left s old new → TaskTalks state t before after around left s old new
talks_as state t u before after around left s old new is talks = subst (λ (v : Task). TaskTalks state v before after around left s old new) (sym is) talks

-- of a client, of as many monitors as there are addresses
pub follow_talks : {D : Type 0} (state : D → DiskState) (t : Task) (before after : Outside) (around left : Around D) (service : Service) (addresses : List Address) (turns n : ℕ) (s : Status) (old new : List Happened → Type 0)
    → t ≡ task.Follow service addresses turns → n ≡ length addresses → FollowTalks service n turns (sink_of before) (sink_of after) around.link left.link s old new
    → TaskTalks state t before after around left s old new
follow_talks state t before after around left service addresses turns n s old new is count talks =
    talks_as state t (task.Follow service addresses turns) before after around left s old new is
    (subst (λ (k : ℕ). FollowTalks service k turns (sink_of before) (sink_of after) around.link left.link s old new) count talks)

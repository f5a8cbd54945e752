-- The cause of each status of a client that follows, of the commands on a stopped store, and of a comparison.
use Rattle.std.specs.Prelude.{◌≡◌, ℕ, List, []}
use Rattle.map_follower.specs.Copies.{first}
use Rattle.map_follower.specs.Iterations.{Follows, course, faults_at}
use Rattle.map_follower.specs.declared.end.FollowEnd.{FollowEnd}
use Rattle.map_follower.specs.declared.end.FollowEnd.TheVariants as end
use Rattle.map_follower.specs.declared.follower.Follower.{Follower}
use Rattle.mon_disk.specs.Calls.{DiskState}
use Rattle.mon_frag.specs.declared.partial.Partial.{Partial}
use Rattle.mon_link.specs.Links.{LinkState}
use Rattle.mon_types.specs.Faults.{Rose}
use Rattle.mon_types.specs.declared.member.Member.{Member}
use Rattle.mon_wire.specs.declared.request.Service.{Service}
use Rattle.stopped_stores.specs.Importing.{ImportsExport}
use Rattle.stopped_stores.specs.Reading.{Compares}
use Rattle.stopped_stores.specs.Texts.{Stream, WritesText}
use Rattle.stopped_stores.specs.declared.writing.StoreText.{StoreText}
use Rattle.cephmon_run.specs.Node.{Around}
use Rattle.cephmon_run.specs.Outside.{Outside, ReadNothing, WroteNothing, sink_of, source_of}
use Rattle.run_status.specs.Status.{StatusOf, status_of_follow, status_of_tool}
use Rattle.run_status.specs.declared.status.Status.{Status}
use Rattle.run_status.specs.declared.status.Status.TheVariants as status

-- memory ran out before anything was done
pub record RanOut {D : Type 0} (before after : Outside) (around left : Around D) (s : Status) : Type 0 where
  pub is : s ≡ status.OutOfMemory
  pub streams : after ≡ before
  pub devices : left ≡ around

-- A client followed a service of n monitors and ended so. It began with the empty map at version 0. What its link
-- returned, one answer an iteration, determines what it asked and what was written to its sink.
pub record Followed (service : Service) (n turns : ℕ) (before after : Stream) (link new : LinkState) (e : FollowEnd) : Type 0 where
  pub copy : Follower
  pub parts : List Partial
  pub asks : ℕ
  pub follows : Follows n turns (course (first service) [] 0 link.observed before.bytes) (course copy parts asks new.observed after.bytes) e
  pub link_counts : new.faults ≡ faults_at e link.faults
  pub sink_counts : e ≡ end.WriteFault → Rose before.faults after.faults

abbrev pub FollowCause : {D : Type 0} → Service → (n turns : ℕ) → Outside → Outside → Around D → Around D → Status → Type 0
FollowCause service n turns before after around left s =
    StatusOf status_of_follow (Followed service n turns (sink_of before) (sink_of after) around.link left.link) s
    × ReadNothing before after × (left.disks ≡ around.disks) × (left.clock ≡ around.clock)

-- a text of a member's store was written
abbrev pub TextCause : {D : Type 0} → (D → DiskState) → StoreText → Member → Outside → Outside → Around D → Around D → Status → Type 0
TextCause state what member before after around left s =
    StatusOf status_of_tool (WritesText state member around.disks left.disks (sink_of before) (sink_of after) what) s
    × ReadNothing before after × (left.link ≡ around.link) × (left.clock ≡ around.clock)

abbrev pub CompareCause : {D : Type 0} → Outside → Outside → Around D → Around D → Status → Type 0
CompareCause before after around left s =
    StatusOf status_of_tool (Compares (source_of before) (source_of after) (sink_of before) (sink_of after)) s × (left ≡ around)

abbrev pub ImportCause : {D : Type 0} → (D → DiskState) → Member → Outside → Outside → Around D → Around D → Status → Type 0
ImportCause state member before after around left s =
    StatusOf status_of_tool (ImportsExport state member around.disks left.disks (source_of before) (source_of after)) s
    × WroteNothing before after × (left.link ≡ around.link) × (left.clock ≡ around.clock)

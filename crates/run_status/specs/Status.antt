-- The exit statuses of the program, and the status of each end of its parts.
use Rattle.std.specs.Prelude.{◌≡◌, ℕ}
use Rattle.map_follower.specs.declared.end.FollowEnd.{FollowEnd}
use Rattle.map_follower.specs.declared.end.FollowEnd.TheVariants as follow_end
use Rattle.mon_node.specs.declared.end.NodeEnd.{NodeEnd}
use Rattle.mon_node.specs.declared.end.NodeEnd.TheVariants as end
use Rattle.mon_store.specs.declared.stop.OpenStop.{OpenStop}
use Rattle.mon_store.specs.declared.stop.OpenStop.TheVariants as open_stop
use Rattle.run_status.specs.declared.status.Status.{Status}
use Rattle.run_status.specs.declared.status.Status.TheVariants as status
use Rattle.stopped_stores.specs.declared.end.ToolEnd.{ToolEnd}
use Rattle.stopped_stores.specs.declared.end.ToolEnd.TheVariants as tool_end

abbrev pub status_number : Status → ℕ
status_number status.Done = 0
status_number status.Words = 2
status_number (status.Schedule line kind) = 3
status_number status.ReadFault = 4
status_number status.WriteFault = 5
status_number status.DiskFault = 6
status_number status.LinkFault = 7
status_number (status.NotAStore disk at) = 8
status_number (status.Stranger kept asked) = 9
status_number (status.Spent which) = 10
status_number status.TurnsUsed = 11
status_number status.OutOfMemory = 12
status_number (status.Full would_be) = 13
status_number (status.Report line) = 14
status_number (status.NotEmpty disk) = 15
status_number (status.Export at) = 16

-- the status of a store that couldn't be opened
abbrev pub status_of_opening : OpenStop → Status
status_of_opening open_stop.DiskFault = status.DiskFault
status_of_opening (open_stop.NotAStore disk at) = status.NotAStore disk at
status_of_opening (open_stop.Stranger kept asked) = status.Stranger kept asked
status_of_opening open_stop.OutOfMemory = status.OutOfMemory

-- the status of a node that ended
abbrev pub status_of_end : NodeEnd → Status
status_of_end end.Closed = status.Done
status_of_end end.TurnsUsed = status.TurnsUsed
status_of_end end.DiskFault = status.DiskFault
status_of_end end.LinkFault = status.LinkFault
status_of_end (end.Full would_be) = status.Full would_be
status_of_end (end.Spent which) = status.Spent which
status_of_end end.OutOfMemory = status.OutOfMemory

-- the status of a client that no longer follows
abbrev pub status_of_follow : FollowEnd → Status
status_of_follow follow_end.Closed = status.Done
status_of_follow follow_end.TurnsUsed = status.TurnsUsed
status_of_follow follow_end.LinkFault = status.LinkFault
status_of_follow follow_end.WriteFault = status.WriteFault
status_of_follow follow_end.OutOfMemory = status.OutOfMemory

-- the status of a command on a stopped store, or of a comparison, that ended
abbrev pub status_of_tool : ToolEnd → Status
status_of_tool tool_end.Done = status.Done
status_of_tool tool_end.ReadFault = status.ReadFault
status_of_tool tool_end.WriteFault = status.WriteFault
status_of_tool tool_end.DiskFault = status.DiskFault
status_of_tool (tool_end.NotAStore disk at) = status.NotAStore disk at
status_of_tool (tool_end.Stranger kept asked) = status.Stranger kept asked
status_of_tool (tool_end.Full would_be) = status.Full would_be
status_of_tool (tool_end.Report line) = status.Report line
status_of_tool (tool_end.NotEmpty disk) = status.NotEmpty disk
status_of_tool (tool_end.Export at) = status.Export at
status_of_tool tool_end.OutOfMemory = status.OutOfMemory

-- the status of an end that has this fact
pub record StatusOf {E : Type 0} (status_of : E → Status) (fact : E → Type 0) (s : Status) : Type 0 where
  pub end : E
  pub is : s ≡ status_of end
  pub holds : fact end

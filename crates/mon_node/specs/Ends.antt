-- What a core's stop ends a node with.
use Rattle.mon_msg.specs.declared.plan.RoleStop.TheVariants as core
use Rattle.mon_msg.specs.declared.plan.RoleStop.{RoleStop}
use Rattle.mon_node.specs.declared.end.NodeEnd.TheVariants as end
use Rattle.mon_node.specs.declared.end.NodeEnd.{NodeEnd}

abbrev pub of_core : RoleStop → NodeEnd
of_core core.OutOfMemory = end.OutOfMemory
of_core (core.Spent which) = end.Spent which

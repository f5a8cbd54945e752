-- How the stops of the parts end a command.
use Rattle.mon_store.specs.declared.stop.OpenStop.{OpenStop}
use Rattle.mon_store.specs.declared.stop.OpenStop.TheVariants as open_stop
use Rattle.mon_types.specs.declared.names.Stop.{Stop}
use Rattle.mon_types.specs.declared.names.Stop.TheVariants as outside
use Rattle.store_tool.specs.declared.importing.ImportEnd.{ImportEnd}
use Rattle.store_tool.specs.declared.importing.ImportEnd.TheVariants as import
use Rattle.stopped_stores.specs.declared.end.ToolEnd.{ToolEnd}
use Rattle.stopped_stores.specs.declared.end.ToolEnd.TheVariants as end

-- no store was opened
abbrev pub end_of_opening : OpenStop → ToolEnd
end_of_opening open_stop.DiskFault = end.DiskFault
end_of_opening (open_stop.NotAStore disk at) = end.NotAStore disk at
end_of_opening (open_stop.Stranger kept asked) = end.Stranger kept asked
end_of_opening open_stop.OutOfMemory = end.OutOfMemory

-- reading stopped, and writing
abbrev pub end_of_reading : Stop → ToolEnd
end_of_reading outside.Failed = end.ReadFault
end_of_reading outside.OutOfMemory = end.OutOfMemory

abbrev pub end_of_writing : Stop → ToolEnd
end_of_writing outside.Failed = end.WriteFault
end_of_writing outside.OutOfMemory = end.OutOfMemory

abbrev pub end_of_import : ImportEnd → ToolEnd
end_of_import import.Done = end.Done
end_of_import (import.NotEmpty disk) = end.NotEmpty disk
end_of_import import.DiskFault = end.DiskFault
end_of_import import.OutOfMemory = end.OutOfMemory

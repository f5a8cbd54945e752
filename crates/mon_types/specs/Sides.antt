-- The two disks of a monitor.
use Rattle.mon_types.specs.declared.names.Side.{Side}
use Rattle.mon_types.specs.declared.names.Side.TheVariants.{A, B}

abbrev pub other : Side → Side
other A = B
other B = A

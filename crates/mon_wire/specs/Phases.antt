-- The phases of a monitor.
use Rattle.std.specs.Prelude.{Bool, true, false, ◌||◌}
use Rattle.mon_wire.specs.declared.phase.Phase.TheVariants as phase
use Rattle.mon_wire.specs.declared.phase.Phase.{Phase}

abbrev pub same_phase : Phase → Phase → Bool
same_phase phase.Booting phase.Booting = true
same_phase phase.Probing phase.Probing = true
same_phase phase.Synchronizing phase.Synchronizing = true
same_phase phase.Electing phase.Electing = true
same_phase phase.Collecting phase.Collecting = true
same_phase phase.Previous phase.Previous = true
same_phase phase.Active phase.Active = true
same_phase phase.Updating phase.Updating = true
same_phase phase.Peon phase.Peon = true
same_phase a b = false

abbrev pub is_leading : Phase → Bool
is_leading phase.Collecting = true
is_leading phase.Previous = true
is_leading phase.Active = true
is_leading phase.Updating = true
is_leading p = false

abbrev pub is_peon : Phase → Bool
is_peon p = same_phase p phase.Peon

-- it is in a quorum
abbrev pub is_member : Phase → Bool
is_member p = is_leading p || is_peon p

-- it takes part in elections
abbrev pub votes : Phase → Bool
votes p = is_member p || same_phase p phase.Electing

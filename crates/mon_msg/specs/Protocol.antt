-- The protocol of a monitor among others.

-- ---- what the readers of a monitor's store return, and what the monitor remembers
pub mod Readings
pub mod Records
pub mod Services
pub mod State
pub mod Phases
pub mod Timers
pub mod Sets
pub mod Places
-- ---- what an event does to the store, and an event under way
pub mod Changes
pub mod Played
pub mod Course
pub mod Sending
pub mod Learning
-- ---- acts
pub mod Entering
pub mod Collecting
pub mod Leading
pub mod Proposing
pub mod Synchronizing
-- ---- rows, by what the monitor is
pub mod Probing
pub mod Elections
pub mod Leader
pub mod Found
pub mod Peon
pub mod Answers
pub mod Commands
pub mod Reads
pub mod Providing
pub mod Copying
pub mod Chunks
pub mod Replay
pub mod Pings
-- ---- the whole
pub mod Hearing
pub mod Table
pub mod Reaction
-- ---- the maps of the services, and the values of commands
pub mod Maps
pub mod Value
pub mod Rules
-- ---- how long messages are
pub use Rattle.mon_wire.specs.Message.PartLengths as Parts
pub use Rattle.mon_wire.specs.Message.Length

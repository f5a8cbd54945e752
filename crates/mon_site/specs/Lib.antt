pub mod Disks
pub mod InjectedFault
pub mod Faults
pub mod Times
pub mod Begins
pub mod Ending
pub mod Calm

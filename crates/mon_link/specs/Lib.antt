pub mod Clients
pub mod Clocks
pub mod Histories
pub mod Layers
pub mod Links
pub mod Memory
pub mod MemoryLinks
pub mod Whole

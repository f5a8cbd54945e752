pub mod Calls
pub mod Holding
pub mod Images
pub mod Laws
pub mod Memory
pub mod MemoryDisk

pub mod Collecting
pub mod Failover
pub mod Newest
pub mod Reached
pub mod Settling

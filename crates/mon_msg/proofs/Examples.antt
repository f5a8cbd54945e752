-- Runs of a few monitors, and values.
pub mod Calm
pub mod Copied
pub mod Fields
pub mod Leases
pub mod Recovered
pub mod Values
pub mod World

pub mod AnyRuns
pub mod Keys
pub mod Listed
pub mod Records
pub mod Shorts
pub mod Stores
pub mod Weights

mod Again
mod Digests
mod Found
pub mod Walking

pub mod Going
pub mod Setting
mod Soonest

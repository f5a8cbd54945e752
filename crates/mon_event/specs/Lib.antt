pub mod Events
pub mod Roles
pub mod State

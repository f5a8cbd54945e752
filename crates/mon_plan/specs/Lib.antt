pub mod Inputs
pub mod Learned
pub mod Leaves
pub mod Plans
pub mod Seen

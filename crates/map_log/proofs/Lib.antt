pub mod Lengths
pub mod Laws
pub mod Again

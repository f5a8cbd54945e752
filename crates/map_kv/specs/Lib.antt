pub mod Map
pub mod Text
pub mod Kept
pub mod Decode
pub mod Made

pub mod Text
pub mod Map
pub mod Decode
pub mod Made

pub mod Decision
pub mod Decode
pub mod Fields
pub mod Keys
pub mod Map
pub mod Puts
pub mod EncodedOp
pub mod Text

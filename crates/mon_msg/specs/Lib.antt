pub use Rattle.mon_wire.specs.Message
pub mod Fold
pub mod Joined
pub mod Protocol
pub mod Puts

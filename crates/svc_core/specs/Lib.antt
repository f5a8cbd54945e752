pub mod Cache
pub mod Drafts
pub mod Kinds
pub mod Onward
pub mod Outline
pub mod Room
pub mod Scan

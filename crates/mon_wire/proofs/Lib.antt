pub mod WriteLoops
pub mod PartLengths
pub mod BodyLengths

pub mod ChunkLaws
pub mod Fallible
pub mod GivenLaws
pub mod RowLaws
pub mod SharedLaws
pub mod TakenLaws

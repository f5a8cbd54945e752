-- What learning values leaves as it was, from the crate that walks the table.
pub use Rattle.table_walk.proofs.Learning.{Same, learns, LearnedOne, learns_one}

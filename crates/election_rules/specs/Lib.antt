pub mod Form
pub mod Ranking
pub mod Table

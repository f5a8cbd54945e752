pub mod FormLaws
pub mod MergeLemmas
pub mod RankingLaws
pub mod TotalLemmas

pub mod Planned
pub mod ProposalLaws
pub mod ValueLaws
pub mod CommandLaws
pub mod HandedOnLaws

pub mod AckLaws
pub mod CallLaws
pub mod Known
pub mod PingLaws
pub mod ProposalLaws
pub mod VictoryLaws

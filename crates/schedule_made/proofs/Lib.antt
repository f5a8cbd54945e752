pub mod DrawLaws
pub mod EventLaws
pub mod ListLaws
pub mod MadeLaws
pub mod Steps

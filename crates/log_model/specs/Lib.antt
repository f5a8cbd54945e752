pub mod LogOfValues
pub mod Windows

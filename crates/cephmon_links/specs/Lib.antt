pub mod Devices
pub mod Lives

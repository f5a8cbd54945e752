pub mod Ascii
pub mod Fields
pub mod Formats
pub mod Forms
pub mod ItemsLoop
pub mod LittleEndian
pub mod Ordered

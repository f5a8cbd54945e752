pub mod Completing
pub mod Ends
pub mod Importing
pub mod Opening
pub mod Reading
pub mod Texts

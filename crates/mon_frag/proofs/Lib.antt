pub mod Bytes
pub mod Lists
pub mod ReadBack
pub mod Standing
pub mod Wholes

pub mod Datagrams
pub mod Watching

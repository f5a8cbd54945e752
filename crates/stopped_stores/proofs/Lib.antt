pub mod Completing
mod WasRead
mod Works

pub mod Answers
pub mod Causes
pub mod Epochs
pub mod Fates
pub mod Followers
pub mod History
pub mod Marked
pub mod Whose

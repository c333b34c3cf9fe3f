pub mod Words
pub mod Calls
pub mod Replies
pub mod Rows
pub mod Tellings

pub mod Boards
pub mod Adjacent
pub mod Given
pub mod Reading
pub mod TwoBytes

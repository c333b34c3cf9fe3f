pub mod Boards
pub mod Lines
pub mod Places
pub mod Readings

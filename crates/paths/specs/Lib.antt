pub mod Ways
pub mod Grounds
pub mod Search

pub mod Flags
pub mod Helped

pub mod Bits
pub mod Members
pub mod Counting
pub mod Ranks
pub mod Entries
pub mod Rows
pub mod Sums

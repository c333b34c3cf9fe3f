pub mod Forest
pub mod Stones
pub mod Moves
pub mod Meaning
pub mod Lent

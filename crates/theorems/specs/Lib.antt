pub mod Forcing
pub mod Pairs
pub mod Rhombi
pub mod Search
pub mod Shorter
pub mod Settled
pub mod Worked

pub mod Played
pub mod Holds
pub mod Laws

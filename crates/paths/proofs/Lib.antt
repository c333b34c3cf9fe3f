pub mod TwoBytes
pub mod Trees
pub mod Crossings
pub mod Fronts
pub mod Sources
pub mod Grounds
pub mod Walks

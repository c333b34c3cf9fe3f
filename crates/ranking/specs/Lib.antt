pub mod Sets
pub mod Positions
pub mod Table
pub mod Triangle

pub mod Lines
pub mod Served
pub mod Exchanged
pub mod Tables
pub mod Leading
pub mod Drawn
pub mod Printed
pub mod Timed

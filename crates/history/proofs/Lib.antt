pub mod Filling
pub mod Keeping
pub mod Serving
pub mod Turns
pub mod Taking
pub mod Telling

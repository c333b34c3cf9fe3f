pub mod Rooms
pub mod Keeping
pub mod Asking
pub mod Showing
pub mod Running
pub mod Promising
pub mod Forcing

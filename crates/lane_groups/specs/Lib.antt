pub mod Deeds
pub mod Places
pub mod Lanes
pub mod Passing
pub mod Finding
pub mod Running
pub mod Making
pub mod Turns

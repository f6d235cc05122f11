pub mod Marks
pub mod Items
pub mod Looks
pub mod Duties
pub mod Crews
pub mod Doing
pub mod Running
pub mod Closing

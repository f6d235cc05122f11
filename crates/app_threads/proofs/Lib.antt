pub mod Marking
pub mod Legal
pub mod Rising
pub mod Starting
pub mod Working
pub mod Joining
pub mod Looking

pub mod Work
pub mod Last
pub mod Told
pub mod Ends

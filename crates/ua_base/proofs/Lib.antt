pub mod Causes
pub mod Honest
pub mod Links
pub mod Parts
pub mod Outputs
pub mod Told

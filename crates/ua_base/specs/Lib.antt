pub mod Cause
pub mod Fates
pub mod Files
pub mod Output
pub mod Journal
pub mod Links
pub mod Net

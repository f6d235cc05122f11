pub mod Small
pub mod Opened
pub mod Going
pub mod Renewed

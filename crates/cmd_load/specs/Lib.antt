pub mod Numbers
pub mod Newest
pub mod Loads

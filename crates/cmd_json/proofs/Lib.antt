pub mod Matching
pub mod Owned
pub mod Kept
pub mod Jsoned
pub mod Tapped

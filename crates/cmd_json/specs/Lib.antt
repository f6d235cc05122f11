pub mod Playing
pub mod Owned
pub mod Jsons
pub mod Matched

pub mod Matching
pub mod Reading
pub mod Parts
pub mod Readers
pub mod Texts
pub mod Witness

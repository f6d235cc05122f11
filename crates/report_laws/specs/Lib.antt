pub mod Alike
pub mod Numbers
pub mod ReaderNames
pub mod Reported

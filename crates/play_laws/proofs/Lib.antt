pub mod Calls
pub mod Nothings
pub mod SmallText
pub mod SmallRun
pub mod Reporting

pub mod Conditions
pub mod FirstRun
pub mod Lines
pub mod Reports
pub mod Told
pub mod Words

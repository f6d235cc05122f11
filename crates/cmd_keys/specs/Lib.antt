pub mod Words
pub mod Answers
pub mod Opening
pub mod Trials
pub mod Texts
pub mod Ends

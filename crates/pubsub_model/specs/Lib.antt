pub mod Goods
pub mod History
pub mod Frames
pub mod Cadence
pub mod Records
pub mod Answers
pub mod WhyWords

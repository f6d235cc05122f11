pub mod Services
pub mod Answers
pub mod Pulled
pub mod Spelling
pub mod Reading
pub mod Laws
pub mod FaultTexts

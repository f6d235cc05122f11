pub mod Components
pub mod Halves
pub mod Listed
pub mod States
pub mod Changes
pub mod Names

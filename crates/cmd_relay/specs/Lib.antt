pub mod Sources
pub mod Texts
pub mod Links
pub mod Relaying
pub mod Ends
pub mod Telling
pub mod Numbers
pub mod Seen

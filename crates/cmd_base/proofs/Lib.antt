pub mod Pieces
pub mod Told
pub mod ToldChecks
pub mod Ended
pub mod ToldSessions
pub mod Ends

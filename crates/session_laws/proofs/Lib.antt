pub mod Closing
pub mod SmallSessions
pub mod HeldRows
pub mod Versions

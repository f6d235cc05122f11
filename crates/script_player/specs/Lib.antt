pub mod Sizes
pub mod Openings
pub mod Playing
pub mod Plays
pub mod Passing
pub mod Player

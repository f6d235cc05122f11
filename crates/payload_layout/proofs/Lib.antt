pub mod Again
pub mod Counted
pub mod Filled
pub mod Greedy
pub mod Laid
pub mod Packs
pub mod Pieces

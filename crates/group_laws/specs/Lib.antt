pub mod Matching
pub mod TurnOpened
pub mod TurnPieces
pub mod TurnReading
pub mod TurnItems
pub mod TurnDelivered
pub mod Ticking
pub mod Witness

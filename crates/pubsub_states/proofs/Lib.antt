pub mod Families
pub mod Places
pub mod Positions
pub mod Few
pub mod StateLaws
pub mod ChangeLaws
pub mod NameLaws
pub mod NamesInOrder

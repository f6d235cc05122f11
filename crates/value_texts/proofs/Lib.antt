pub mod AsciiTexts
pub mod Candidates
pub mod Decimals
pub mod OfKinds
pub mod Spellings
pub mod TextLaws

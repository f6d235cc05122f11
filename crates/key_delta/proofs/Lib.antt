pub mod FieldWords
pub mod Differences
pub mod ClearLaws
pub mod FrontLaws
pub mod SameFields

pub mod Results
pub mod Spelled
pub mod Bytes
pub mod FieldLaws
pub mod OneValue

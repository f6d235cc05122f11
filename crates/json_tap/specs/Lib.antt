pub mod Transcoding
pub mod Reading
pub mod Keeping
pub mod Made
pub mod Parts
pub mod Taps

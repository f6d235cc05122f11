pub mod Copies
pub mod Finding
pub mod Judging
pub mod Moments
pub mod Rising
pub mod Told

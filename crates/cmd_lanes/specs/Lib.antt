pub mod Scripts
pub mod Sends
pub mod Texts
pub mod Alike
pub mod Runs
pub mod Courses
pub mod Standing

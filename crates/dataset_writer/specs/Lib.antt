pub mod Kinds
pub mod Turns
pub mod Sends
pub mod Standing
pub mod Props

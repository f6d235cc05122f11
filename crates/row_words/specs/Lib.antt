pub mod Digits
pub mod Words
pub mod Belonging
pub mod Setting
pub mod Patches
pub mod Shapes
pub mod Props

pub mod Field
pub mod Cipher
pub mod Blocks
pub mod Keyed
pub mod InPlanes
pub mod RoundKeys
pub mod Circuit

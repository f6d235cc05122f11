pub mod Sets
pub mod Listed
pub mod Named
pub mod Lines
pub mod Sent

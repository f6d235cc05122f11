pub mod Lines
pub mod Gateways

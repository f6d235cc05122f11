pub mod OneLine
pub mod Lines
pub mod Gateways
pub mod Small

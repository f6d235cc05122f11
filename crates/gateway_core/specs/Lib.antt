pub mod Lived
pub mod Sources
pub mod Holding
pub mod Standing
pub mod Living

pub mod Taking
pub mod Small
pub mod Reports

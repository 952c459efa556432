pub mod Meets
pub mod Reports

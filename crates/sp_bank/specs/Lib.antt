pub mod Banking
pub mod Places
pub mod Row
pub mod Search
pub mod Separation
pub mod Texts

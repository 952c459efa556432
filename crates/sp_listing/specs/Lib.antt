pub mod Laws
pub mod Lines
pub mod Readers
pub mod Reading
pub mod Refusal
pub mod Standing
pub mod Text
pub mod Texts

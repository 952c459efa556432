pub mod Draws
pub mod Generated
pub mod Input
pub mod Text
pub mod Worked

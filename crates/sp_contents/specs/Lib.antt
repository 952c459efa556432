pub mod Found
pub mod Held
pub mod Inside
pub mod Laws
pub mod Steady
pub mod Trees

pub mod Free
pub mod Uses
pub mod Places
pub mod Simple
pub mod Ends
pub mod Loops
pub mod Bodies
pub mod Programs

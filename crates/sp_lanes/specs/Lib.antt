pub mod Bodies
pub mod Combined
pub mod Examples
pub mod Joined
pub mod Order
pub mod Shared
pub mod Unrolled
pub mod Within

pub mod Arranged
pub mod Bodies
pub mod Entries
pub mod Stages
pub mod Words

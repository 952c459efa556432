pub mod Growing
pub mod Running
pub mod Words
pub mod OnLemmas

pub mod BodyLemmas
pub mod CombineLemmas
pub mod EntryLemmas
pub mod JoinLemmas
pub mod NodeLemmas
pub mod OrderLemmas
pub mod TreeLemmas

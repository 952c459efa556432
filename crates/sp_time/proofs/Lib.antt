pub mod BeatLemmas
pub mod Contents
pub mod CopyLemmas
pub mod ListLemmas
pub mod OuterOrder
pub mod StageRules
pub mod Whole

pub mod PlansSound
pub mod RunsWhole
pub mod RunsNarrow

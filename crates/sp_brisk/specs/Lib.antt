pub mod RunsBrisk
pub mod RunsLaws
pub mod ChoiceLaws

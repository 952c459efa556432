pub mod PlansLaws
pub mod RunsLaws

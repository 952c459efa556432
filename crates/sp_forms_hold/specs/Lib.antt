pub mod RunsLaws
pub mod RunsStanding
pub mod HoldLaws
pub mod GroupsAtForms
pub mod GroupsLaws

pub mod PortsLaws
pub mod PlansLaws
pub mod InsideExamples
pub mod InsideLaws
pub mod OwnLaws
pub mod ChosenLaws

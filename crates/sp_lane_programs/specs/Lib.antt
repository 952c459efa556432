pub mod ProgramsLaws
pub mod LanesLaws
pub mod TimedLaws
pub mod Timed

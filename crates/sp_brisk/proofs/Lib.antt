pub mod RunsSlots
pub mod RunsWhole
pub mod ChoiceChosen
pub mod ChoiceRanks

mod SymbolsKept
mod SymbolsLeaving
mod SymbolsRuns
pub mod HoldLevels
pub mod HoldMeeting
pub mod HoldRising
pub mod HoldOuters
pub mod HoldSites
pub mod HoldElements
pub mod HoldValues
pub mod HoldOnes
pub mod HoldPairs
pub mod HoldJudged
pub mod HoldWhole

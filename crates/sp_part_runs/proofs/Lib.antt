pub mod ActsAgreeing
pub mod ActsIndices
pub mod ActsListed
mod EntriesGroups
pub mod BodiesActing
pub mod BodiesIssuing
mod CountedTelling
mod ControlBranching
mod ControlSteps
mod ControlTurning
pub mod SequencesCycles
pub mod SequencesJoining
pub mod SequencesMembers
pub mod SequencesPlacing
pub mod SequencesSlots
pub mod SequencesTimed
pub mod BeatsBeating
pub mod BeatsCounting
pub mod BeatsHolding
pub mod BeatsTimed
pub mod BeatsWhole
mod WordsGoing
mod WordsNumbers
mod WordsCarried
mod StepsStepping

pub mod ScalarPicked
pub mod ScalarAnswering
pub mod ScalarFitting
pub mod ScalarFirst
pub mod FifoFitting
pub mod ArrayOver
pub mod ArrayZipping
pub mod ArrayWires
pub mod ArrayShapes
pub mod ArrayFitting
pub mod ArrayCollecting
pub mod ArrayPushing
pub mod ArrayOneWord
pub mod ArrayTouched
mod ArrayQueues
mod ArraySharing
pub mod ArrayPlanned

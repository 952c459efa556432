mod ControlPlaces
pub mod ControlStarting
pub mod ControlTrees
mod ControlWorking
mod BodiesBuilding
mod BodiesFinding
mod BodiesLanes
mod BodiesScoping
mod BodiesTaking
mod BodiesTurning

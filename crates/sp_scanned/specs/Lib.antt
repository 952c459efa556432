pub mod From
pub mod Laws

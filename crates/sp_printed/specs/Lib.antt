pub mod Trees
pub mod LoopTrees
pub mod StatementTrees
pub mod Laws

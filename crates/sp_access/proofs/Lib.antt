pub mod Agreeing
pub mod Chains

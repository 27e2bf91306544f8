pub mod Conflicting
pub mod Starts
pub mod Agreeing
pub mod Fresh
pub mod Kept
pub mod Chains
pub mod Exact

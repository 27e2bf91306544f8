pub mod Digits
pub mod Lowering
pub mod Sharing
pub mod Tallies

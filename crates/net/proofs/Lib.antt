pub mod Counts
pub mod Decoded
pub mod Searches
pub mod Ways

pub mod Tables
pub mod Sums

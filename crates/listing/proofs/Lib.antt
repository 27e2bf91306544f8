pub mod Drawn
pub mod Scanned
pub mod Ordered
pub mod Listed
pub mod Tabled
pub mod Moving
pub mod Agreeing
pub mod Exact

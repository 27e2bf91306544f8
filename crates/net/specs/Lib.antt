pub mod Refusals
pub mod Words
pub mod Marks
pub mod Walks
pub mod Visits
pub mod Sums
pub mod Answers

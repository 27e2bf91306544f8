pub mod Numbers
pub mod States

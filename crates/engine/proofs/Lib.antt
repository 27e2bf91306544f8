pub mod Walking
pub mod Short
pub mod Greatest
pub mod Fronts
pub mod Tops
pub mod Scans
pub mod Several
pub mod Theorems

pub mod Numbering
pub mod Fitting
pub mod Lawful
pub mod Feeding
pub mod Folding

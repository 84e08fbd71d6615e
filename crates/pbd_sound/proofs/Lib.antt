pub mod Where
pub mod Checks
pub mod Telling
pub mod Momenta
pub mod Sounding

pub mod Shaping
pub mod Rubbing
pub mod Valid
pub mod Way

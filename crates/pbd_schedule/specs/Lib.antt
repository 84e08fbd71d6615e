pub mod Legal
pub mod Mixed
pub mod Drawn
pub mod Notes
pub mod Stages
pub mod Mixing

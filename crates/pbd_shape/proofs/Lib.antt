pub mod Moves
pub mod Ways
pub mod Continuing
pub mod Steps
pub mod Still

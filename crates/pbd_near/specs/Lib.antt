pub mod Moves
pub mod Columns

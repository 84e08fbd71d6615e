pub mod Appending
pub mod Causes
pub mod Memory
pub mod Pieces
pub mod Standard

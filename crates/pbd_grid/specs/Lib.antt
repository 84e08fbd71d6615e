pub mod Near
pub mod Blocks
pub mod Ready
pub mod Crowds
pub mod Looks

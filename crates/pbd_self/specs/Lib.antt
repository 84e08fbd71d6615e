pub mod Touching
pub mod Apart
pub mod Ready

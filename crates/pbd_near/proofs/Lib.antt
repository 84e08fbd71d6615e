pub mod Multiplying
pub mod Mending
pub mod Taking
pub mod Rows

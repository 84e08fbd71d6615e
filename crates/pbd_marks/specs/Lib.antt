pub mod Marked
pub mod Script
pub mod Keeping

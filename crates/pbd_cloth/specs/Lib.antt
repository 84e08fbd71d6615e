pub mod Counting
pub mod Slots
pub mod States
pub mod Reading

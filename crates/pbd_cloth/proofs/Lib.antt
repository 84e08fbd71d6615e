pub mod Cutting
pub mod First
pub mod Resuming
pub mod Slotting
pub mod Writing

pub mod Texts
mod Leading
pub mod Running
mod Paying
pub mod Recorded
mod Comparing
mod Replays
mod Summing

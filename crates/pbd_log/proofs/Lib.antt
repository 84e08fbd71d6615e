mod CommandRows
pub mod Numbers
pub mod Fields
pub mod Entries
pub mod Heads
pub mod Bodies
pub mod Logs
pub mod Faults
pub mod Kept
pub mod Skipping
pub mod Answers

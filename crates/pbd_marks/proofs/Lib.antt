mod Rows
pub mod KeepingLemmas
pub mod MarkedLaws

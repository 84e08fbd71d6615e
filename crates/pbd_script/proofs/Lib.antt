pub mod AsciiLemmas
pub mod CommandLemmas
mod FormLemmas
pub mod LineLemmas
pub mod NumberLemmas

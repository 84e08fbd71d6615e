pub mod Printing
pub mod Recording
pub mod Replaying
pub mod Naming
pub mod Lending

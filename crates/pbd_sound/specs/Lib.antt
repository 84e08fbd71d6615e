pub mod Described
pub mod Soundness
pub mod Tests
pub mod Numbers
pub mod Laws

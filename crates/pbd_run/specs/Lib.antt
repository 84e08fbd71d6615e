pub mod Calls
pub mod Forms
pub mod Prelude
pub mod Reading
pub mod Serving

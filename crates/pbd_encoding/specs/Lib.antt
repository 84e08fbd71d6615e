pub mod Encoding
pub mod Scene
pub mod Feeding
pub mod Described
pub mod Views
pub mod Form
pub mod Laws

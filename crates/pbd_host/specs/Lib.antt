pub mod Tagged
pub mod Hosted

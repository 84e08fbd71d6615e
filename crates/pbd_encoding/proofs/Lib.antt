mod Rows
pub mod Axes
pub mod Lengths
pub mod Standing
pub mod Reading
pub mod Sections
pub mod Scenes
pub mod Telling
pub mod Back
pub mod Forming
pub mod Bytes
pub mod Going
pub mod Texts
pub mod Ranges
pub mod Shapes
pub mod Fitting
pub mod Fixed

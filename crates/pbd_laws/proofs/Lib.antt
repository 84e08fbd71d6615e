pub mod AddingSteps
pub mod Slots
pub mod GoingBack
pub mod Edits
pub mod EitherOrder
pub mod HeldStay
pub mod GoneStay
pub mod SceneStays
pub mod Rounded
pub mod LeftOutside
pub mod OneBond
pub mod Counting
pub mod LogCommands
mod Rows

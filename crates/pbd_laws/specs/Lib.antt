pub mod Prelude
pub mod Machine
pub mod Ring
pub mod Targets
pub mod Scenes
pub mod Solids
pub mod Bonding
pub mod Costs

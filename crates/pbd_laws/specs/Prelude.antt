-- The words of worlds and commands that most laws name. Declares nothing.
pub use Rattle.pbd_world.specs.declared.command.Command.{Command}
pub use Rattle.pbd_world.specs.declared.command.Command.TheVariants.{Step}
pub use Rattle.pbd_world.specs.declared.parts.Parts.{Parts}
pub use Rattle.pbd_world.specs.Meaning.{after, reply}
pub use Rattle.pbd_world.specs.Particles.{particle_at}
pub use Rattle.pbd_world.specs.Session.{last_world}
pub use Rattle.pbd_world.specs.Valid.{is_valid}
pub use Rattle.pbd_world.specs.World.{World, opened, IsSound}

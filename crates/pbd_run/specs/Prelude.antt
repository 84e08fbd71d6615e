-- The words of other crates that the clauses of several files here name.
pub use Rattle.pbd_io.specs.Causes.{HasCause}
pub use Rattle.pbd_io.specs.Pieces.{WritesPiece}
pub use Rattle.pbd_world.specs.World.{opened}

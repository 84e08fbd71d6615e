-- The words of other crates that the clauses of several files here name.
pub use Rattle.std.specs.Str.{IsUtf8}
pub use Rattle.toml.specs.Parse.{parse_document}
pub use Rattle.pbd_io.specs.Pieces.{WritesPiece}
pub use Rattle.pbd_world.specs.World.{opened}
pub use Rattle.pbd_obj.specs.Arrays.{IsArraysFault}
pub use Rattle.pbd_cloth.specs.Slots.{AreSlots}

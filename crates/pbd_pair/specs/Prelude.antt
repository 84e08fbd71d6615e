-- Words of other crates that clauses of this crate name, passed on from one place. Declares nothing.
pub use Rattle.pbd_num.specs.Rows.{vector_of}
pub use Rattle.pbd_num.specs.Vectors.{minus, opposite, plus, Within}
pub use Rattle.pbd_world.specs.Bonds.{class_of}
pub use Rattle.pbd_world.specs.Ledger.{added, ledger_of, HaveRoom}
pub use Rattle.pbd_store.specs.Blocks.{blocks_of}
pub use Rattle.pbd_store.specs.Moving.{fixed_parts, motion_of, AreInside, Weigh}
pub use Rattle.pbd_store.specs.Pairs.{moves_in, row_in}

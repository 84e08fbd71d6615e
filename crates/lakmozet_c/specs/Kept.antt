-- What a handle owns.
use Rattle.std.specs.Prelude.{Bool, true, false}
use Rattle.std.specs.declared.option.Option.{Option}
use Rattle.std.specs.declared.option.Option.TheVariants.{None, Some}
use base.Fml.{Fml, ftrue, ffalse}
use denote.RawPtr.{Ptr}
use Rattle.std.specs.contracts.impls.GlobalAllocator.TheImpl.{ghosts}
use Rattle.std_alloc.specs.Box.Ownership.{box_owns}
use Rattle.pbd_cloth.specs.Slots.{Slotted}
use Rattle.pbd_cloth.specs.contracts.cloth.Cloth.{the_row}

-- an open handle has a box of the cloth at its address, and a closed one has nothing
abbrev pub kept : Bool → Ptr → Option Slotted → Fml
kept true p (Some cloth) = box_owns (ghosts.dealloc_token (record { memory = record { seal = tt } })) the_row p cloth
kept true p None = ffalse
kept false p (Some cloth) = ffalse
kept false p None = ftrue

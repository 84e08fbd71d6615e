use Rattle.std.proofs.Common.{sym, ap, subst, length, arith}
use Rattle.std.proofs.lemmas.List.{length-map}
use Rattle.pbd_grid.specs.Blocks.{Below, cube_of}
use Rattle.pbd_grid.proofs.Looking.{cube_read, cube_below}
use Rattle.pbd_grid.proofs.lookup.Crowd.wanted.Goals as goal

pub bounds-self-j-2 : goal.bounds-self-j-2
bounds-self-j-2 g c = omega (
  arith,
  ap length c.requires.laid.cubes_are,
  length-map c.args.self.now.places.now (cube_of c.args.self.now.cells.side),
  c.if-j-self.false,
)

pub is_in-requires : goal.is_in-requires
is_in-requires g c =
    subst (Below 1073741825) (sym (cube_read c.args.self.now.cells.side c.args.self.now.places.now c.args.self.now.cubes.now c.args.j
    (record { x = 0; y = 0; z = 0 }) c.requires.laid.cubes_are c.if-j-self.false))
    (cube_below c.args.self.now.cells.side c.args.self.now.places.now c.requires.laid.inside c.requires.laid.low c.args.j c.if-j-self.false)

use Rattle.std.proofs.Common.{arith, ap, length}
use Rattle.pbd_colour.specs.Pairs.{Coloured}
use Rattle.pbd_colour.proofs.KeptLemmas.{numbers_few}
use Rattle.pbd_colour.proofs.colouring.Colouring.copy_from.Goals as goal

pub copy_all-requires : goal.copy_all-requires
copy_all-requires c = omega (
  arith,
  ap length c.as_slice-5.ensures,
  numbers_few c.other.invariant.coloured,
  ap (λ (s : Coloured). length s.pairs) c.other.view_is,
  ap length c.requires,
  ap (λ (s : Coloured). length s.pairs) c.self.view_is,
  c.self.invariant.within,
  c.self.invariant.order_room,
)

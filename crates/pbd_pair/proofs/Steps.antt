-- A shift by the moves of a pair.
use Rattle.std.proofs.Common.{◌≡◌, ap}
use Rattle.pbd_num.specs.declared.Vec3.{Vec3}
use Rattle.pbd_num.specs.PairMove.{pair_moves}
use Rattle.pbd_world.specs.declared.bond.Bond.{Bond}
use Rattle.pbd_world.specs.declared.bond.End.{End}
use Rattle.pbd_world.specs.Bonds.{shift_of}
use Rattle.pbd_pair.specs.Bonds.{shift_by}

pub shift_of_moves : (p q : End) (b : Bond) (m : Vec3 × Vec3) → m ≡ pair_moves p.at q.at b.rest b.k p.weight q.weight
    → shift_by p q m.0 m.1 ≡ shift_of p q b
unfolding shift_of
shift_of_moves p q b m e = ap (λ (n : Vec3 × Vec3). shift_by p q n.0 n.1) e

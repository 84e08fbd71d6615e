use Rattle.std.proofs.Common.{refl, sym}
use Rattle.std.proofs.lemmas.Int.{to_z-of_z}
use Rattle.pbd_scene.proofs.Bounds.{within_limit}
use Rattle.pbd_scene.proofs.vectors.vector.Goals as goal

pub returns-then-is_inside : goal.returns-then-is_inside
returns-then-is_inside c =
    let fits = c.ranges.limit in
    let inside = simp to_z-of_z at c.if-is_inside.ensures in
    record {
      value = rw (← c.in-Some.ensures, ← inside) refl;
      within = within_limit c.args.limit c.in-Some.v c.requires.low c.requires.high (sym inside);
    }

pub returns-else-is_inside : goal.returns-else-is_inside
returns-else-is_inside c =
    let fits = c.ranges.limit in
    let outside = simp to_z-of_z at c.if-is_inside.ensures in
    record {
      value = rw (c.broken-else-is_inside.ensures, ← c.in-Some.ensures, ← outside) refl;
      within = rw c.broken-else-is_inside.ensures tt;
    }

pub returns-in-None : goal.returns-in-None
returns-in-None c = record { value = rw (c.broken.ensures, ← c.in-None.ensures) refl; within = rw c.broken.ensures tt }

use Rattle.std.proofs.Common.{◌∙◌, w64, FitsSigned}
use Rattle.std.proofs.lemmas.Int.{to_z-of_z}
use Rattle.pbd_store.proofs.Axes.{loss_is, way_part_size}
use Rattle.pbd_store.proofs.flight.loss_of.Goals as goal

pub returns : goal.returns
returns c =
    let way = c.ranges.way in
    let damping = c.ranges.damping in
    let p : FitsSigned w64 c.part_of_1024.result = record { sfits = c.part_of_1024.type_inv } in
    let part = simp to_z-of_z at c.part_of_1024.ensures in
    record {
      value = λ flies at before e. simp to_z-of_z (part ∙ loss_is flies c.args.damping at before c.args.way e);
      size = simp to_z-of_z (rw part (way_part_size c.args.way c.args.damping c.requires.way c.requires.damping));
    }

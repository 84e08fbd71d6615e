use Rattle.std.proofs.lemmas.Int.{to_z-of_z}
use Rattle.pbd_scene.proofs.Bounds.{limit_fits, length_short}
use Rattle.pbd_scene.proofs.values.Entry.required_length.Goals as goal

pub returns : goal.returns
returns c =
    let limit = c.args.limit.now in
    let wide = limit_fits limit.units limit.high in
    let most = simp to_z-of_z at c.required_integer.ensures.high in
    record {
      value = simp to_z-of_z at c.required_integer.ensures.value;
      size = length_short limit.units c.required_integer.result limit.high c.required_integer.ensures.low most;
    }

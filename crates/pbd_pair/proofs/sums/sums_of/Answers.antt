use Rattle.std.proofs.Common.{◌<◌, length, pos, get_or, arith, ap, ◌∙◌, Bool, w32, FitsSigned}
use Rattle.std.specs.Prelude.{not}
use Rattle.std.proofs.lemmas.Int.{to_z-of_z}
use Rattle.pbd_num.specs.Rows.{vector_of}
use Rattle.pbd_num.specs.Vectors.{plus}
use Rattle.pbd_store.specs.Pairs.{row_in}
use Rattle.pbd_pair.specs.Chunks.{moved_if}
use Rattle.pbd_pair.proofs.Chunks.{first_fits, second_fits}
use Rattle.pbd_pair.proofs.Summing.{summed_more}
use Rattle.pbd_pair.proofs.sums.sums_of.Goals as goal

pub with_rows_if-own-requires-clause-back : goal.with_rows_if-own-requires-clause-back
with_rows_if-own-requires-clause-back c = c.requires.back c.loop-j.j (omega arith)

pub with_rows_if-own-requires-clause-forth : goal.with_rows_if-own-requires-clause-forth
with_rows_if-own-requires-clause-forth c = c.requires.forth c.loop-j.j (omega arith)

pub loop-j-preserved : goal.loop-j-preserved
loop-j-preserved c =
    let j = c.loop-j.j in
    let laid = c.args.found.now.laid in
    let p : j < length c.args.found.now.chunk.numbers.now = omega arith in
    let first : FitsSigned w32 (get_or laid.first_weight.now j (pos 0)) = first_fits c.requires.sized j p in
    let second : FitsSigned w32 (get_or laid.second_weight.now j (pos 0)) = second_fits c.requires.sized j p in
    let held = simp to_z-of_z at c.has_held-held.ensures in
    let back = row_in c.args.back.now j in
    let forth = row_in c.args.forth.now j in
    let short = c.requires.back j p in
    let short_too = c.requires.forth j p in
    record {
      pins = summed_more c.with_rows_if-pins.result short short_too (c.with_rows_if-pins.ensures
          ∙ ap (λ (b : Bool). plus (vector_of c.loop-j.pins) (moved_if b back forth)) held) c.loop-j.invariant.pins;
      own = summed_more c.with_rows_if-own.result short short_too (c.with_rows_if-own.ensures
          ∙ ap (λ (b : Bool). plus (vector_of c.loop-j.own) (moved_if (not b) back forth)) held) c.loop-j.invariant.own;
    }

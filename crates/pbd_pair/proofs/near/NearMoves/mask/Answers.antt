use Rattle.std.proofs.Common.{◌≡◌, ℕ, ℤ, ◌<◌, ◌+◌, ◌*◌, ◌^◌, List, length, refl, ap, sym, ◌∙◌, add-one, arith, rules, subst, to_z, of_z}
use Rattle.std.proofs.Common.{w32, FitsSigned}
use Rattle.std.proofs.lemmas.Int.{to_z-of_z}
use Rattle.pbd_num.specs.declared.Vec3.{Vec3}
use Rattle.pbd_num.specs.declared.row.Row.{Row}
use Rattle.pbd_num.specs.Rows.{vector_of}
use Rattle.pbd_num.specs.Vectors.{Within, plus, opposite}
use Rattle.pbd_num.proofs.Ranges.{wider}
use Rattle.pbd_store.specs.Pairs.{row_in}
use Rattle.pbd_pair.specs.Moves.{moved_below}
use Rattle.pbd_pair.specs.Laid.{number_in}
use Rattle.pbd_pair.specs.Chunks.{kept_by}
use Rattle.pbd_pair.proofs.Chunks.{first_fits, second_fits}
use Rattle.pbd_pair.proofs.Filling.{filled_none, filled_more}
use Rattle.pbd_pair.proofs.Pinning.{both_within, minus_turned, moved_same}
use Rattle.pbd_pair.proofs.Settled.{kept_moves, kept_short}
use Rattle.pbd_pair.proofs.near.NearMoves.mask.Goals as goal

pub loop-j-init : goal.loop-j-init
loop-j-init c = record {
  same = refl;
  back = filled_none (search rules);
  forth = filled_none (search rules);
  sum = refl;
  size = record { x = omega arith; y = omega arith; z = omega arith };
}

pub with_rows-pins-requires-clause-sum : goal.with_rows-pins-requires-clause-sum
with_rows-pins-requires-clause-sum c = wider _ (c.loop-j.j * 2 ^ 23) (2 ^ 30) (omega (arith, c.requires.few)) c.loop-j.invariant.size

-- what an end keeps of a row, by the word of its weight
kept_told : {w : ℤ} {rows moves : List Row} (j : ℕ) {kept : Row} → FitsSigned w32 w
    → kept ≡ kept_by (to_z w32 (of_z w32 w)) (row_in rows j) → rows ≡ moves → kept ≡ kept_by w (row_in moves j)
kept_told {w} {rows} {moves} j fits is same =
    is ∙ (λ i. kept_by (to_z-of_z w32 w fits i) (row_in (same i) j))

pub with_rows-pins-requires-clause-back : goal.with_rows-pins-requires-clause-back
with_rows-pins-requires-clause-back c =
    let j = c.loop-j.j in
    let is = kept_told j (first_fits c.requires.sized j (omega arith)) c.kept-back.ensures c.loop-j.invariant.same in
    kept_short (number_in c.args.found.now.laid.first_weight.now j) (row_in c.args.self.now.moves j) is (c.requires.short j (omega arith))

pub with_rows-pins-requires-clause-forth : goal.with_rows-pins-requires-clause-forth
with_rows-pins-requires-clause-forth c =
    let j = c.loop-j.j in
    let is = kept_told j (second_fits c.requires.sized j (omega arith)) c.kept-forth.ensures c.loop-j.invariant.same in
    kept_short (number_in c.args.found.now.laid.second_weight.now j) (row_in c.args.self.now.moves j) is (c.requires.short j (omega arith))

pub loop-j-preserved : goal.loop-j-preserved
loop-j-preserved c =
    let inv = c.loop-j.invariant in
    let j = c.loop-j.j in
    let p : j < length c.args.found.now.chunk.numbers.now = omega arith in
    let room : j < 128 = omega (arith, c.requires.few) in
    let laid = c.args.found.now.laid in
    let moves = c.args.self.now.moves in
    let back = kept_told j (first_fits c.requires.sized j p) c.kept-back.ensures inv.same in
    let forth = kept_told j (second_fits c.requires.sized j p) c.kept-forth.ensures inv.same in
    let back_size = kept_short (number_in laid.first_weight.now j) (row_in moves j) back (c.requires.short j p) in
    let forth_size = kept_short (number_in laid.second_weight.now j) (row_in moves j) forth (c.requires.short j p) in
    record {
      same = inv.same;
      back = filled_more c.kept-back.result room back inv.back;
      forth = filled_more c.kept-forth.result room forth inv.forth;
      sum = c.with_rows-pins.ensures ∙ ap (plus (vector_of c.loop-j.pins))
          (minus_turned (vector_of c.kept-forth.result) (vector_of c.kept-back.result))
          ∙ (λ i. plus (inv.sum i) (plus (opposite (vector_of (back i))) (vector_of (forth i))))
          ∙ ap (moved_below (kept_moves laid.first_weight.now laid.second_weight.now moves)) (sym (add-one j));
      size = subst (λ (v : Vec3). Within ((j + 1) * 2 ^ 23) v) (sym c.with_rows-pins.ensures)
          (wider _ (j * 2 ^ 23 + 2 ^ 23) ((j + 1) * 2 ^ 23)
          (omega arith) (both_within _ (j * 2 ^ 23) inv.size back_size forth_size));
    }

pub returns-clause-masked : goal.returns-clause-masked
returns-clause-masked c = record {
  back_long = omega (arith, c.loop-j.invariant.back.whole, c.requires.few);
  forth_long = omega (arith, c.loop-j.invariant.forth.whole, c.requires.few);
  back = λ j p. c.loop-j.invariant.back.below j (omega arith);
  forth = λ j p. c.loop-j.invariant.forth.below j (omega arith);
}

pub returns-clause-sum : goal.returns-clause-sum
returns-clause-sum c =
    let inv = c.loop-j.invariant in
    let whole : c.loop-j.j ≡ length c.args.found.now.chunk.numbers.now = omega arith in
    c.vector.ensures ∙ inv.sum ∙ ap (moved_below (kept_moves c.args.found.now.laid.first_weight.now c.args.found.now.laid.second_weight.now
    c.args.self.now.moves)) whole
    ∙ moved_same _ _ (length c.args.found.now.chunk.numbers.now)
    (λ k p. λ i. plus (opposite (vector_of (sym (inv.back.below k (omega arith)) i))) (vector_of (sym (inv.forth.below k
    (omega arith)) i)))

pub returns-clause-size : goal.returns-clause-size
returns-clause-size c = subst (λ (v : Vec3). Within ((length c.args.found.now.chunk.numbers.now) * 2 ^ 23) v) (sym c.vector.ensures)
    (wider _ (c.loop-j.j * 2 ^ 23)
    ((length c.args.found.now.chunk.numbers.now) * 2 ^ 23) (omega arith) c.loop-j.invariant.size)

use Rattle.std.proofs.Common.{◌≡◌, arith, ap, ◌∙◌, length, w64}
use Rattle.std.proofs.lemmas.Int.{to_z-of_z}
use Rattle.std.proofs.lemmas.List.{length-map}
use Rattle.pbd_num.specs.Rows.{vector_of}
use Rattle.pbd_num.specs.Vectors.{minus, plus}
use Rattle.pbd_store.specs.declared.rows.Place.{Place}
use Rattle.pbd_store.specs.InRows.{place_in_row, places_in}
use Rattle.pbd_store.specs.Listed.{place_at}
use Rattle.pbd_store.specs.Pairs.{opposites_in, ways_in, row_in}
use Rattle.pbd_store.specs.Reaching.{CoversEnds}
use Rattle.pbd_store.proofs.Parting.{pairs_in_rows, pulled_more, first_in, second_in, second_near, stepped_within}
use Rattle.pbd_store.proofs.pulling.pull_rows.Goals as goal
use Rattle.pbd_num.proofs.VectorSizes.{opposite_within}

pub plus-other-requires-clause-place : goal.plus-other-requires-clause-place
plus-other-requires-clause-place c = second_in c.args.pairs c.loop-j.j c.loop-j.invariant.pulled (omega arith)
    (pairs_in_rows c.args.rows.now c.requires.pairs) c.requires.apart _ c.put_row.ensures.places c.row_in-in-loop-j.ensures
    (c.requires.second c.loop-j.j (omega arith))

pub plus-other-requires-clause-way : goal.plus-other-requires-clause-way
plus-other-requires-clause-way c = c.requires.can.forth.each c.loop-j.j (omega arith)

pub put_row-requires-in-loop-j-clause-some : goal.put_row-requires-in-loop-j-clause-some
put_row-requires-in-loop-j-clause-some c = omega (
  arith,
  second_near c.args.pairs c.loop-j.j c.loop-j.invariant.pulled (omega arith)
      (pairs_in_rows c.args.rows.now c.requires.pairs) c.requires.apart _ c.put_row.ensures.places,
  length-map c.put_row.new.rows (λ (p : Place). place_in_row p),
)

pub with-requires-clause-place : goal.with-requires-clause-place
with-requires-clause-place c =
    let place = first_in c.args.pairs c.loop-j.j c.loop-j.invariant.pulled (omega arith)
    (pairs_in_rows c.args.rows.now c.requires.pairs) c.requires.apart c.row_in.ensures (c.requires.first c.loop-j.j (omega arith)) in
    stepped_within place (opposite_within _ _ (c.requires.can.back.each c.loop-j.j (omega arith)))
    (ap (λ (r : Place). place_in_row r) c.minus-one.ensures)

pub with-reach-requires-clause-place : goal.with-reach-requires-clause-place
with-reach-requires-clause-place c =
    let place = second_in c.args.pairs c.loop-j.j c.loop-j.invariant.pulled (omega arith)
    (pairs_in_rows c.args.rows.now c.requires.pairs) c.requires.apart _ c.put_row.ensures.places c.row_in-in-loop-j.ensures
    (c.requires.second c.loop-j.j (omega arith)) in
    stepped_within place (c.requires.can.forth.each c.loop-j.j (omega arith)) (ap (λ (r : Place). place_in_row r) c.plus-other.ensures)

pub loop-j-preserved : goal.loop-j-preserved
loop-j-preserved c =
    let j = c.loop-j.j in
    record {
      pulled = pulled_more c.args.pairs j c.loop-j.invariant.pulled (omega arith) (pairs_in_rows c.args.rows.now c.requires.pairs)
          c.requires.apart (place_in_row c.minus-one.result) c.put_row.ensures.places
          (place_in_row c.plus-other.result) (places_in c.put_row-in-loop-j.new.rows) c.with.result c.with-reach.result
          c.put_row-in-loop-j.ensures.places
          (ap (λ (r : Place). place_in_row r) c.minus-one.ensures
          ∙ (λ t. minus (place_in_row (c.row_in.ensures t)) (vector_of (row_in c.args.moves.back.now j))))
          (ap (λ (r : Place). place_in_row r) c.plus-other.ensures
          ∙ (λ t. plus (place_in_row (c.row_in-in-loop-j.ensures t)) (ways_in c.args.moves.forth.now j)))
          c.with.ensures.kept c.with.ensures.own c.with-reach.ensures.kept c.with-reach.ensures.own;
      flat = c.put_row-in-loop-j.ensures.flat;
    }

pub returns-clause-covered : goal.returns-clause-covered
returns-clause-covered c =
    let all : c.loop-j.j ≡ length c.args.pairs.first.now = omega arith in
    coe 0 1 (t. CoversEnds (all t) c.args.pairs.first.now c.args.pairs.second.now (opposites_in c.args.moves.back.now)
    (ways_in c.args.moves.forth.now) c.loop-j.reach (to_z-of_z w64 c.args.limit c.ranges.limit t) (place_at (places_in c.args.rows.now)))
    c.loop-j.invariant.pulled.covered

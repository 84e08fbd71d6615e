use Rattle.std.proofs.Common.{arith, refl}
use Rattle.pbd_num.specs.Rows.{vector_of}
use Rattle.pbd_pair.specs.Bonds.{bond_of}
use Rattle.pbd_store.specs.Pairs.{row_in}
use Rattle.pbd_pair.specs.Laid.{number_in}
use Rattle.pbd_pair.proofs.NearBonds.{near_moves}
use Rattle.pbd_pair.proofs.Reaching.{nth}
use Rattle.pbd_pair.proofs.near.NearMoves.try_short.Goals as goal

pub returns : goal.returns
returns c = λ right.
    let found = c.args.found.now in
    let laid = found.laid in
    record {
      long = omega (arith, c.try_parts.ensures.long, c.requires.few);
      each = λ j p. near_moves (vector_of (row_in found.ways.now j)) (number_in laid.first_weight.now j) (number_in laid.second_weight.now j)
          (nth (bond_of found.chunk.bonds) found.chunk.numbers.now j) (row_in c.try_parts.new.self.moves j) (number_in laid.rest.now j)
          (number_in laid.factor.now j) _ (c.requires.columns.sized.first_low j p) (c.requires.columns.sized.second_low j p) (c.requires.columns.rest j p)
          (c.requires.columns.factor j p) refl (c.try_parts.ensures.flags right j p) (c.try_parts.ensures.pulled right j p);
    }

pub try_parts-requires-clause-low : goal.try_parts-requires-clause-low
try_parts-requires-clause-low c = λ j p. (c.requires.columns.factor j p).low

pub try_parts-requires-clause-high : goal.try_parts-requires-clause-high
try_parts-requires-clause-high c = λ j p. (c.requires.columns.factor j p).high

pub least_of-requires-clause-low : goal.least_of-requires-clause-low
least_of-requires-clause-low c = λ j p. (c.requires.columns.factor j (omega (arith, c.requires.columns.factor_long, p))).low

pub least_of-requires-clause-high : goal.least_of-requires-clause-high
least_of-requires-clause-high c = λ j p. (c.requires.columns.factor j (omega (arith, c.requires.columns.factor_long, p))).high

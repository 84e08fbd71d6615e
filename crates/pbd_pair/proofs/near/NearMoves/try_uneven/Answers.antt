use Rattle.std.proofs.Common.{◌≡◌, ℕ, ◌<◌, ◌≤◌, ℤ, pos, neg_ℤ, int_lt, false, ◌≤ℤ◌, w32, FitsSigned, length, replicate, arith, refl, subst, sym}
use Rattle.std.proofs.lemmas.List.{get_or-replicate}
use Rattle.std.proofs.lemmas.Int.{ints, to_z-of_z}
use Rattle.pbd_num.specs.Rows.{vector_of}
use Rattle.pbd_near.specs.Moves.{IsPulled}
use Rattle.pbd_pair.specs.Bonds.{bond_of}
use Rattle.pbd_store.specs.Pairs.{row_in}
use Rattle.pbd_pair.specs.Laid.{number_in}
use Rattle.pbd_pair.proofs.Chunks.{below_both}
use Rattle.pbd_pair.proofs.SharedMoves.{shared_moves}
use Rattle.pbd_pair.proofs.Reaching.{nth}
use Rattle.pbd_pair.proofs.near.NearMoves.try_uneven.Goals as goal

not_below : (a : ℤ) → int_lt a (pos 0) ≡ false → pos 0 ≤ℤ a
not_below a e = grind (arith, ints, e)

factor_of_each : (j n : ℕ) → j < n → n ≤ 128 → number_in (replicate 128 (pos 512)) j ≡ pos 512
factor_of_each j n p few = get_or-replicate 128 j (pos 512) (pos 0) (omega (arith, p, few))

pub returns : goal.returns
returns c = λ right.
    let found = c.args.found.now in
    let numbers = found.chunk.numbers.now in
    let laid = found.laid in
    let shared = c.share.ensures right in
    let fits : FitsSigned w32 c.least_of.result = record { sfits = c.least_of.type_inv } in
    let least = not_below c.least_of.result (simp to_z-of_z at c.if-least_of-lt0.false) in
    record {
      back_long = omega (arith, shared.back_long, c.requires.few);
      forth_long = omega (arith, shared.forth_long, c.requires.few);
      each = λ j p.
          let q : j < length laid.first_weight.now = omega (arith, p, c.requires.columns.first_long) in
          let r : j < length laid.stiffness.now = omega (arith, p, c.requires.stiff.stiffness_long) in
          shared_moves (vector_of (row_in found.ways.now j)) (number_in laid.first_weight.now j) (number_in laid.second_weight.now j)
          (nth (bond_of found.chunk.bonds) numbers j) (row_in c.try_parts.new.self.moves j) (row_in c.share.new.back j)
          (row_in c.share.new.forth j) (number_in laid.rest.now j) (number_in laid.stiffness.now j) _ (c.requires.columns.rest j p)
          (c.requires.stiff.stiffness j p) (below_both _ _ _ least (c.least_of.ensures j r)) refl
          (subst (λ (z : ℤ). IsPulled (vector_of (row_in found.ways.now j)) (number_in laid.rest.now j) z
          (nth (bond_of found.chunk.bonds) numbers j).contact (vector_of (row_in c.try_parts.new.self.moves j)))
          (factor_of_each j (length numbers) p c.requires.few) (c.try_parts.ensures.pulled c.if-not-try_parts.false j p))
          (shared.back j q) (shared.forth j q);
    }

pub try_parts-requires-clause-low : goal.try_parts-requires-clause-low
try_parts-requires-clause-low c = λ j p.
    subst (λ (z : ℤ). neg_ℤ (pos 1) ≤ℤ z) (sym (factor_of_each j (length c.args.found.now.chunk.numbers.now) p c.requires.few)) (omega (arith, ints))

pub try_parts-requires-clause-high : goal.try_parts-requires-clause-high
try_parts-requires-clause-high c = λ j p.
    subst (λ (z : ℤ). z ≤ℤ pos 512) (sym (factor_of_each j (length c.args.found.now.chunk.numbers.now) p c.requires.few)) (omega (arith, ints))

use Rattle.std.proofs.Common.{◌≡◌, ℕ, ℤ, pos, get_or}
use Rattle.pbd_pair.specs.Bonds.{bond_of}
use Rattle.pbd_pair.specs.Laid.{factor_of, number_in, portion_of, short_rest, stiffness_of}
use Rattle.pbd_pair.proofs.Filling.{Filled}
use Rattle.pbd_pair.proofs.chunk.Columns.lay.Given as goal

abbrev pub invariant-loop-j : goal.invariant-loop-j
invariant-loop-j l = record {
  first : l.self.first ≡ l.initial.self.first;
  second : l.self.second ≡ l.initial.self.second;
  rest : Filled (pos 0) (λ (i : ℕ) (z : ℤ). z ≡ short_rest (bond_of l.chunk.bonds (get_or l.chunk.numbers.now i 0)).rest) l.j l.self.rest;
  factor : Filled (pos 0) (λ (i : ℕ) (z : ℤ). z ≡ factor_of (bond_of l.chunk.bonds (get_or l.chunk.numbers.now i 0))
      (number_in l.between.first_weight i) (number_in l.between.second_weight i)) l.j l.self.factor;
  stiffness : Filled (pos 0) (λ (i : ℕ) (z : ℤ). z ≡ stiffness_of (bond_of l.chunk.bonds (get_or l.chunk.numbers.now i 0))
      (number_in l.between.first_weight i) (number_in l.between.second_weight i)) l.j l.self.stiffness;
  portion : Filled (pos 0) (λ (i : ℕ) (z : ℤ). z ≡ portion_of (bond_of l.chunk.bonds (get_or l.chunk.numbers.now i 0))
      (number_in l.between.first_weight i) (number_in l.between.second_weight i)) l.j l.self.portion;
}

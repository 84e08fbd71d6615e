use Rattle.std.proofs.Common.{◌≡◌, ◌∙◌, ◌<◌, ℕ, length, pos, get_or, ap, arith, refl, subst, sym, inl, inr, w32, FitsSigned}
use Rattle.std.proofs.lemmas.List.{length-set}
use Rattle.std.proofs.lemmas.Int.{to_z-of_z}
use Rattle.pbd_world.specs.declared.bond.Bond.{Bond}
use Rattle.pbd_store.specs.Gathering.{index_at}
use Rattle.pbd_pair.specs.Bonds.{bond_of}
use Rattle.pbd_pair.specs.Laid.{laid_at, laid_bond, lists_in, AreEven, Lists}
use Rattle.pbd_pair.proofs.Laying.{even_put, laid_number, row_kept, row_put}
use Rattle.pbd_pair.proofs.laid.BondColumns.lay.Goals as goal
use Rattle.pbd_num.proofs.Below.{split_below}

pub loop-i-init : goal.loop-i-init
loop-i-init c = record { even = c.requires.even; rows = refl; below = λ k p. absurd (omega (arith, p)) }

pub returns-clause-laid : goal.returns-clause-laid
returns-clause-laid c = record {
  even = c.loop-i.invariant.even;
  long = omega (arith, c.loop-i.invariant.rows, c.requires.room);
  each = λ j p. c.loop-i.invariant.below j (omega arith);
}

pub returns-clause-room : goal.returns-clause-room
returns-clause-room c = c.loop-i.invariant.rows

pub loop-i-preserved : goal.loop-i-preserved
loop-i-preserved c =
    let inv = c.loop-i.invariant in
    let i = c.loop-i.i in
    let ls = lists_in c.loop-i.self in
    let x = c.laid_of.result in
    let room : i < length c.loop-i.self.first.items = omega (arith, inv.rows, c.requires.room) in
    let weights = c.args.weights.now in
    let f1 : FitsSigned w32 c.from-first.result = record { sfits = c.from-first.type_inv } in
    let f2 : FitsSigned w32 c.from-second.result = record { sfits = c.from-second.type_inv } in
    let first = c.from-first.ensures ∙ ap (λ (b : Bond). pos (index_at weights b.a)) c.get-bond.ensures in
    let second = c.from-second.ensures ∙ ap (λ (b : Bond). pos (index_at weights b.b)) c.get-bond.ensures in
    let told = simp to_z-of_z at c.laid_of.ensures in
    let is = told ∙ (λ t. laid_bond (c.get-bond.ensures t) (first t) (second t)) in
    record {
      even = subst (λ (xs : Lists). AreEven xs) (sym c.put.ensures) (even_put ls inv.even i x);
      rows = ap (λ (xs : Lists). length xs.first) c.put.ensures ∙ length-set ls.first i x.first ∙ inv.rows;
      below = λ k p. elim (split_below k i p) [
        | inl b ↦ ap (λ (xs : Lists). laid_at xs k) c.put.ensures ∙ row_kept ls i k x (λ e. absurd (omega (arith, b, e))) ∙ inv.below k b
        | inr e ↦ subst (λ (n : ℕ). laid_at (lists_in c.put.new.self) n ≡ laid_number (bond_of c.args.bonds) (index_at weights)
            (get_or c.args.order.now n 0)) (sym e) (ap (λ (xs : Lists). laid_at xs i) c.put.ensures ∙ row_put ls inv.even i x room ∙ is)
      ];
    }

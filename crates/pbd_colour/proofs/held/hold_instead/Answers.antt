use Rattle.std.proofs.Common.{◌∙◌, ◌≤◌, ◌*◌, ℕ, length, sym, subst, refl, arith}
use Rattle.pbd_colour.specs.Pairs.{InRange}
use Rattle.pbd_colour.proofs.held.hold_instead.Goals as goal

pub hold_all-requires-clause-pairs : goal.hold_all-requires-clause-pairs
hold_all-requires-clause-pairs c = subst (λ (n : ℕ). InRange n c.args.pairs.now)
    (sym (c.take_all_out.ensures c.args.pairs.now).count) c.requires.pairs

pub hold_all-requires-clause-room : goal.hold_all-requires-clause-room
hold_all-requires-clause-room c = subst (λ (n : ℕ). 2 * length c.args.pairs.now ≤ n)
    (sym (c.take_all_out.ensures c.args.pairs.now).items) c.requires.room

pub hold_all-requires-clause-empty : goal.hold_all-requires-clause-empty
hold_all-requires-clause-empty c = let e = c.take_all_out.ensures c.args.pairs.now in
    record { items = refl; count = refl; holds = λ p x l. e.holds p x (omega (arith, l, e.count)) }

pub returns : goal.returns
returns c = let e = c.take_all_out.ensures c.args.pairs.now in let h = c.hold_all.ensures in
    record { items = h.items ∙ e.items; count = h.count ∙ e.count; holds = λ p x l. h.holds p x (omega (arith, l, e.count)) }

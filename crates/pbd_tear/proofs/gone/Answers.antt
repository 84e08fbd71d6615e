use Rattle.std.proofs.Common.{sym, refl, subst, arith, ℕ, List, length}
use Rattle.pbd_tear.specs.Tearing.{AscendTo, gone_numbers}
use Rattle.pbd_tear.proofs.Numbers.{passed_none, listed_more, is_gone, gone_all, list_is, gone_ascend}
use Rattle.pbd_tear.proofs.gone.Goals as goal

pub loop-i-init : goal.loop-i-init
loop-i-init c = rw c.clear.ensures (record { so_far = passed_none is_gone c.args.links.now; few = omega arith; room = refl })

pub loop-i-preserved : goal.loop-i-preserved
loop-i-preserved c = listed_more is_gone c.args.links.now c.loop-i.i _ _ _ c.loop-i.out c.push_if.new.out c.loop-i-test.true refl
    c.push_if.ensures c.loop-i.invariant

pub returns-clause-numbers : goal.returns-clause-numbers
returns-clause-numbers c = list_is c.loop-i.out c.args.out.now (gone_numbers c.args.links.now)
    (gone_all c.args.links.now c.loop-i.i c.loop-i.out.entries c.loop-i-test.false c.loop-i.invariant.so_far) c.loop-i.invariant.room

pub returns-clause-ascending : goal.returns-clause-ascending
returns-clause-ascending c =
    let whole = gone_all c.args.links.now c.loop-i.i c.loop-i.out.entries c.loop-i-test.false c.loop-i.invariant.so_far in
    subst (λ (xs : List ℕ). AscendTo (length c.args.links.now) xs) (sym whole) (gone_ascend c.args.links.now)

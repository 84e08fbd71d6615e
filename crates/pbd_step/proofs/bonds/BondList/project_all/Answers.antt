use Rattle.std.proofs.Common.{◌≡◌, ◌+◌, ◌*◌, ◌^◌, ◌++◌, ◌<◌, ◌≤◌, ℕ, List, length, length-append, arith, refl, sym, ap, subst, ◌∙◌}
use Rattle.std.proofs.lemmas.Result.{err_from_is_err_and}
use Rattle.pbd_world.specs.Bonds.{projected}
use Rattle.pbd_world.specs.Colours.{order}
use Rattle.pbd_world.proofs.CountingOn.{order_length}
use Rattle.pbd_world.proofs.WorkLemmas.{bonds_are}
use Rattle.pbd_store.specs.Moving.{motion_of}
use Rattle.pbd_colour.specs.Pairs.{batch_of}
use Rattle.pbd_pair.specs.Bonds.{bond_of}
use Rattle.pbd_pair.specs.Laid.{AreOfBatch}
use Rattle.pbd_pair.proofs.LaidParts.{back_part, front_part}
use Rattle.pbd_step.proofs.Costing.{batch_paid}
use Rattle.pbd_step.proofs.InOrder.{SoFar, HaveColumns, left_at, first_left, next_left, none_left, same_bonds, still_rows, batch_goes}
use Rattle.pbd_step.proofs.InOrder.{none_so_far, more_so_far, whole_so_far, all_projected, one_leaves}
use Rattle.pbd_step.proofs.bonds.BondList.project_all.Goals.{After-batch-numbers, After-with_columns-bonds}
use Rattle.pbd_step.proofs.bonds.BondList.project_all.Goals as goal

-- the numbers behind those of the batch
abbrev behind : (g : _) (c : After-batch-numbers g) → List ℕ
behind g c = left_at c.args.self.now.colours.now.pairs c.args.self.now.colours.now.live (c.loop-k.k + 1)

-- a batch is left
within : (g : _) (c : After-batch-numbers g)
    → c.loop-k.k < 63 + length (batch_of c.args.self.now.colours.now.pairs c.args.self.now.colours.now.live 63)
within g c = rw (sym c.serial-serial.ensures.value) (omega arith)

-- what is left of the bonds, those of the batch first
parts : (g : _) (c : After-batch-numbers g) → left_at c.args.self.now.colours.now.pairs c.args.self.now.colours.now.live c.loop-k.k
    ≡ c.batch-numbers.result.now ++ behind g c
parts g c = rw c.batch-numbers.ensures.value
    (next_left c.args.self.now.colours.now.pairs c.args.self.now.colours.now.live c.loop-k.k (within g c))

rows : (g : _) (c : After-batch-numbers g)
    → AreOfBatch (bond_of c.args.self.now.bonds) (c.batch-numbers.result.now ++ behind g c) c.loop-k.store.particles c.loop-k.rest
rows g c = subst (λ (ns : List ℕ). AreOfBatch (bond_of c.args.self.now.bonds) ns c.loop-k.store.particles c.loop-k.rest) (parts g c)
    c.loop-k.invariant.laid

columns : (g : _) (c : After-with_columns-bonds g)
    → HaveColumns c.args.self.now.bonds c.with_columns-bonds.result c.split_at.result.0
columns g c = record {
  same = c.with_columns-bonds.ensures.bonds;
  count = c.with_columns-bonds.ensures.count;
  laid = c.with_columns-bonds.ensures.laid;
}

pub batch-numbers-requires : goal.batch-numbers-requires
batch-numbers-requires g c = rw (sym c.serial-serial.ensures.value) (omega arith)

pub split_at-requires-clause-even : goal.split_at-requires-clause-even
split_at-requires-clause-even g c = c.loop-k.invariant.laid.laid.even

pub split_at-requires-clause-fits : goal.split_at-requires-clause-fits
split_at-requires-clause-fits g c =
    let at = (goal.at.split_at-requires-clause-fits g c).After-batch-numbers in
    omega (arith, (rows g at).exact, length-append c.batch-numbers.result.now (behind g at))

pub project-requires : goal.project-requires
project-requires g c =
    let inv = c.loop-k.invariant in
    let at = (goal.at.project-requires g c).After-batch-numbers in
    let has = columns g (goal.at.project-requires g c).After-with_columns-bonds in
    let numbers = c.batch-numbers.result.now in
    let pairs = c.args.self.now.colours.now.pairs in
    let live = c.args.self.now.colours.now.live in
    let front = front_part (bond_of c.args.self.now.bonds) c.loop-k.store.particles numbers (behind g at) c.loop-k.rest (rows g at)
    c.split_at.result.0 c.split_at.ensures.front in
    let few : 2 ^ 119 + length (order pairs live) * 2 ^ 32 ≤ 2 ^ 120 = omega (arith, order_length pairs live, c.requires.can.few) in
    let can = batch_goes c.loop-k.store c.loop-k.totals c.requires.can inv.limit inv.so_far few numbers c.batch-numbers.ensures.live
    c.batch-numbers.ensures.apart has front in
    (omega arith, (c.requires.lanes_low, (c.requires.lanes_high, (can.batch, (can.columns, (can.inside, (can.weights, can.room)))))))

pub returns-in_err-project-clause-done : goal.returns-in_err-project-clause-done
returns-in_err-project-clause-done g c =
    let p = err_from_is_err_and c.from_residual.result c.from_residual.ensures.1 in
    let inv = c.loop-k.invariant in
    let at = (goal.at.returns-in_err-project-clause-done g c).After-batch-numbers in
    let same = sym (same_bonds (columns g (goal.at.returns-in_err-project-clause-done g c).After-with_columns-bonds)) in
    let numbers = c.batch-numbers.result.now in
    let now = motion_of c.loop-k.store c.loop-k.totals in
    rw (p.1, p.2) (one_leaves c.loop-k.store c.loop-k.totals inv.so_far inv.limit inv.copies numbers (behind g at) (parts g at)
    ((λ i. projected c.loop-k.store.limit (same i) numbers now) ∙ c.in_err-project.ensures.outcome)
    c.project.ensures.limit c.project.ensures.copies c.project.ensures.fixed)

pub returns-in_err-project-clause-cost : goal.returns-in_err-project-clause-cost
returns-in_err-project-clause-cost g c =
    let inv = c.loop-k.invariant in
    let there = within g (goal.at.returns-in_err-project-clause-cost g c).After-batch-numbers in
    let paid = batch_paid c.args.self.now.colours.now.pairs c.args.self.now.colours.now.live c.loop-k.k there
    c.batch-numbers.ensures.value inv.width in
    omega (arith, inv.cost, c.project.ensures.cost, paid)

pub loop-k-init : goal.loop-k-init
loop-k-init g c =
    let pairs = c.args.self.now.colours.now.pairs in
    let live = c.args.self.now.colours.now.live in
    let bond = bond_of c.args.self.now.bonds in
    let all = sym (first_left pairs live) in
    let before = g.P.Projector.count c.args.projector.now in
    let start = motion_of c.args.store.now c.args.totals.now in
    record {
      so_far = subst (λ (ns : List ℕ). SoFar c.args.store.now.limit bond (order pairs live) ns start start before before) all
          (none_so_far c.args.store.now.limit bond (order pairs live) start before c.requires.can.movable.inside c.counts.ensures);
      laid = subst (λ (ns : List ℕ). AreOfBatch bond ns c.args.store.now.particles c.args.self.now.laid) all c.requires.can.rows;
      limit = refl;
      copies = refl;
      width = refl;
      cost = omega (arith, bonds_are (g.P.Projector.width c.args.projector.now) pairs live);
    }

pub loop-k-preserved : goal.loop-k-preserved
loop-k-preserved g c =
    let inv = c.loop-k.invariant in
    let at = (goal.at.loop-k-preserved g c).After-batch-numbers in
    let same = sym (same_bonds (columns g (goal.at.loop-k-preserved g c).After-with_columns-bonds)) in
    let numbers = c.batch-numbers.result.now in
    let now = motion_of c.loop-k.store c.loop-k.totals in
    let told = c.project.ensures in
    let paid = batch_paid c.args.self.now.colours.now.pairs c.args.self.now.colours.now.live c.loop-k.k (within g at)
    c.batch-numbers.ensures.value inv.width in
    record {
      so_far = more_so_far numbers (behind g at) (parts g at) inv.limit inv.so_far (motion_of c.project.new.store c.project.new.totals) _
          ((λ i. projected c.loop-k.store.limit (same i) numbers now) ∙ c.in_ok-project.ensures.outcome) told.fixed
          c.in_ok-project.ensures.inside c.in_ok-project.ensures.room told.handed;
      laid = still_rows (bond_of c.args.self.now.bonds) (behind g at) c.split_at.result.1 told.fixed (back_part
          (bond_of c.args.self.now.bonds) c.loop-k.store.particles numbers (behind g at) c.loop-k.rest (rows g at) c.split_at.result.1
          c.split_at.ensures.back);
      limit = told.limit ∙ inv.limit;
      copies = told.copies ∙ inv.copies;
      width = told.width ∙ inv.width;
      cost = omega (arith, inv.cost, told.cost, paid);
    }

-- a colour without live pairs
pub loop-k-preserved-then-are_none : goal.loop-k-preserved-then-are_none
loop-k-preserved-then-are_none g c =
    let inv = c.loop-k.invariant in
    let at = (goal.at.loop-k-preserved-then-are_none g c).After-batch-numbers in
    let pairs = c.args.self.now.colours.now.pairs in
    let live = c.args.self.now.colours.now.live in
    let bond = bond_of c.args.self.now.bonds in
    let past : left_at pairs live c.loop-k.k ≡ behind g at = parts g at
    ∙ ap (λ (ns : List ℕ). ns ++ behind g at) (c.are_none.ensures c.if-are_none.true) in
    let paid = batch_paid pairs live c.loop-k.k (within g at) c.batch-numbers.ensures.value inv.width in
    record {
      so_far = subst (λ (ns : List ℕ). SoFar c.args.store.now.limit bond (order pairs live) ns
          (motion_of c.args.store.now c.args.totals.now) (motion_of c.loop-k.store c.loop-k.totals)
          (g.P.Projector.count c.args.projector.now) (g.P.Projector.count c.loop-k.projector)) past inv.so_far;
      laid = subst (λ (ns : List ℕ). AreOfBatch bond ns c.loop-k.store.particles c.loop-k.rest) past inv.laid;
      limit = inv.limit;
      copies = inv.copies;
      width = inv.width;
      cost = omega (arith, inv.cost, paid);
    }

-- nothing is left
pub returns-clause-done : goal.returns-clause-done
returns-clause-done g c =
    let inv = c.loop-k.invariant in
    let pairs = c.args.self.now.colours.now.pairs in
    let live = c.args.self.now.colours.now.live in
    let none = none_left pairs live c.loop-k.k (rw (sym c.serial-serial.ensures.value) (omega arith)) in
    all_projected inv.so_far inv.limit inv.copies (2 ^ 60) (omega (arith, order_length pairs live, c.requires.can.few)) none

pub returns-clause-handed : goal.returns-clause-handed
returns-clause-handed g c = (whole_so_far c.loop-k.invariant.so_far
    (none_left c.args.self.now.colours.now.pairs c.args.self.now.colours.now.live c.loop-k.k
    (rw (sym c.serial-serial.ensures.value) (omega arith)))).count

pub returns-clause-cost : goal.returns-clause-cost
returns-clause-cost g c = omega (arith, c.loop-k.invariant.cost)

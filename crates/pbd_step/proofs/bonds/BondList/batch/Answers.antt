use Rattle.std.proofs.Common.{◌∙◌, ◌+◌, ◌-◌, ◌<◌, ◌≤◌, List, ℕ, length, slice_range, sym, subst, arith}
use Rattle.pbd_colour.specs.Batch.{AreApart, AreLive}
use Rattle.pbd_colour.specs.Pairs.{batch_of}
use Rattle.pbd_step.proofs.InOrder.{nth_parallel, nth_serial, one_live, one_apart, one_piece}
use Rattle.pbd_step.proofs.bonds.BondList.batch.Goals.{After-serial}
use Rattle.pbd_step.proofs.bonds.BondList.batch.Goals as goal

pub returns-then-k-lt63-clause-value : goal.returns-then-k-lt63-clause-value
returns-then-k-lt63-clause-value c = c.batch.ensures.value
    ∙ sym (nth_parallel c.args.self.now.colours.now.pairs c.args.self.now.colours.now.live c.args.k c.if-k-lt63.true)

-- the serial pair is there
there : (c : After-serial) → c.args.k - 63 < length c.serial.result.now
there c = rw c.serial.ensures.value (omega (arith, c.requires, c.if-k-lt63.false))

pub returns-clause-value : goal.returns-clause-value
returns-clause-value c =
    let pairs = c.args.self.now.colours.now.pairs in
    let live = c.args.self.now.colours.now.live in
    let lt : c.args.k - 63 < length (batch_of pairs live 63) = omega (arith, c.requires, c.if-k-lt63.false) in
    let high : 63 ≤ c.args.k = omega (arith, c.if-k-lt63.false) in
    (λ i. slice_range (c.serial.ensures.value i) (c.args.k - 63) ((c.args.k - 63) + 1)) ∙ one_piece (batch_of pairs live 63) (c.args.k - 63) lt
    ∙ sym (nth_serial pairs live c.args.k high)

pub returns-clause-live : goal.returns-clause-live
returns-clause-live c =
    let pairs = c.args.self.now.colours.now.pairs in
    let live = c.args.self.now.colours.now.live in
    let lt = there (goal.at.returns-clause-live c).After-serial in
    subst (λ (ns : List ℕ). AreLive pairs live ns) (sym (one_piece c.serial.result.now (c.args.k - 63) lt))
    (one_live pairs live c.serial.result.now (c.args.k - 63) c.serial.ensures.live lt)

pub returns-clause-apart : goal.returns-clause-apart
returns-clause-apart c =
    let pairs = c.args.self.now.colours.now.pairs in
    let lt = there (goal.at.returns-clause-apart c).After-serial in
    subst (λ (ns : List ℕ). AreApart pairs ns) (sym (one_piece c.serial.result.now (c.args.k - 63) lt))
    (one_apart pairs _)

use Rattle.std.proofs.Common.{◌≡◌, ◌∙◌, ap, arith, map, replicate, ℕ, None, Option}
use Rattle.pbd_chain.specs.Told.{told}
use Rattle.pbd_chain.proofs.Codes.{told_zeros}
use Rattle.pbd_chain.proofs.targets.Targets.open.Goals as goal

pub returns : goal.returns
returns c = let e : c.loop.counter ≡ c.args.n = omega (arith, c.loop.auto.counter-end, c.loop-test.false) in
    ap (map told) c.loop.invariant ∙ told_zeros c.loop.counter ∙ ap (λ (n : ℕ). replicate {A = Option ℕ} n None) e

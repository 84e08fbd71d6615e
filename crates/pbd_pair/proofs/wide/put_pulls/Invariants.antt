use Rattle.std.proofs.Common.{ℕ, get_or}
use Rattle.pbd_num.specs.declared.tried.Pull.{Pull}
use Rattle.pbd_pair.specs.Bonds.{bond_of}
use Rattle.pbd_pair.specs.Chunks.{no_pull, IsPull}
use Rattle.pbd_pair.proofs.Filling.{Filled}
use Rattle.pbd_pair.proofs.wide.put_pulls.Given as goal

abbrev pub invariant-loop-j : goal.invariant-loop-j
invariant-loop-j l = Filled no_pull (λ (i : ℕ) (d : Pull). IsPull (bond_of l.chunk.bonds (get_or l.chunk.numbers.now i 0)) d) l.j l.pulls

-- Lending the solver of a session.
use Rattle.std.specs.Borrow.{Lends, Fml, RattleType, MutBor}
use denote.Param.{value_of}
use Rattle.pbd_pair.specs.declared.projector.Projector.{Ghosts}
use Rattle.pbd_world.specs.World.{World}
use Rattle.pbd_step.specs.Solving.{Solved}
use Rattle.pbd_step.specs.contracts.solver.Solver as solver
use Rattle.pbd_session.specs.contracts.session.Session as session

-- once the loan r ends, the session's world is that of the solver that r shows last
abbrev pub LendsSolver : (L P : RattleType) → (p : Ghosts P.Denot (value_of L)) → MutBor World → MutBor (Solved P.Denot) → Fml
LendsSolver L P p s r = Lends (session.the_row L P p) (solver.the_row L P p) s r (λ solver. solver.world)

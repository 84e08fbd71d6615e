-- Momentum, and its balance with the ledger.
use Rattle.std.specs.Prelude.{◌≡◌, List, map, filter, fold}
use Rattle.pbd_world.specs.declared.parts.Particle.{Particle}
use Rattle.pbd_world.specs.Ledger.{Sum, Ledger, zero_sum, sum_plus, both_sums, all_totals}
use Rattle.pbd_world.specs.Particles.{velocity, is_free}

-- the sum of the velocities of the particles that are not held
abbrev pub momentum : List Particle → Sum
momentum ps = fold sum_plus zero_sum (map velocity (filter is_free ps))

-- the momentum is the opening momentum and the six totals together
abbrev pub IsBalanced : Sum → Ledger → List Particle → Type 0
IsBalanced opening totals ps = momentum ps ≡ both_sums opening (all_totals totals)
